-- Where a token stands among the places of a pattern: facts, for proofs of several crates.
use Rattle.std.specs.Prelude.{◌≡◌, ℕ, ◌+◌, List, [], ◌∷◌, ◌++◌, length, Bool, true, false, ◌&&◌, ◌||◌, if◌then◌else◌, refl}
use Rattle.std.proofs.Common.{sym, ap, ◌∙◌}
use Rattle.std.proofs.lemmas.List.Folds.{list_any-append}
use Rattle.noise_names.specs.declared.token.Role.{Role}
use Rattle.noise_names.specs.declared.token.Role.TheVariants.{Initiator, Responder}
use Rattle.noise_names.specs.declared.token.Token.{Token}
use Rattle.noise_names.specs.Tokens.{other, same_role, same_token}
use Rattle.noise_names.specs.Plan.{Place, Plan, is_one_way, message_places, payload, place, places_of, pre_of, token_places, transport, transport_places}
use Rattle.noise_names.specs.Validity.{is_among, is_at}
use Rattle.noise_names.specs.Tests.{and-false, or-false}
use Rattle.noise_keys.specs.KeyTokens.{has_token}

shared : (s a b : Bool) → (a && s) || (s && b) ≡ s && (a || b)
shared true true b = refl
shared true false b = refl
shared false true b = refl
shared false false b = refl

among-append : (role : Role) (t : Token) (xs ys : List Place) → is_among role t (xs ++ ys) ≡ is_among role t xs || is_among role t ys
among-append role t xs ys = list_any-append (λ (at : Place). is_at t at.step && same_role at.party role) xs ys

among-front : (role : Role) (t : Token) (xs ys : List Place) → is_among role t ys ≡ false → is_among role t (xs ++ ys) ≡ is_among role t xs
among-front role t xs ys e =
    among-append role t xs ys ∙ ap (λ (b : Bool). is_among role t xs || b) e ∙ or-false (is_among role t xs)

-- among the tokens of one party
pub matches-token_places : (party role : Role) (t : Token) (m i : ℕ) (ts : List Token)
    → is_among role t (token_places party m i ts) ≡ same_role party role && has_token t ts
matches-token_places party role t m i [] = sym (and-false (same_role party role))
matches-token_places party role t m i (u ∷ ts) =
    ap (λ (b : Bool). (same_token u t && same_role party role) || b) (matches-token_places party role t m (i + 1) ts)
    ∙ shared (same_role party role) (same_token u t) (has_token t ts)

-- among messages
pub matches-message_places : (party role : Role) (t : Token) (n : ℕ) (ts : List Token) (ms : List (List Token))
    → is_among role t (message_places party n (ts ∷ ms)) ≡ (same_role party role && has_token t ts) || is_among role t (message_places (other party) (n + 1) ms)
matches-message_places party role t n ts ms =
    among-append role t (token_places party n 0 ts) (place party payload n (length ts) ∷ message_places (other party) (n + 1) ms)
    ∙ ap (λ (b : Bool). b || is_among role t (message_places (other party) (n + 1) ms)) (matches-token_places party role t n 0 ts)

of-pre : (p : Plan) (role : Role) (t : Token)
    → (same_role Initiator role && has_token t p.initiator) || (same_role Responder role && has_token t p.responder) ≡ has_token t (pre_of role p)
of-pre p Initiator t = or-false (has_token t p.initiator)
of-pre p Responder t = refl

-- in a pre-message
matches-pre : (p : Plan) (role : Role) (t : Token)
    → is_among role t (token_places Initiator 0 0 p.initiator ++ token_places Responder 0 0 p.responder) ≡ has_token t (pre_of role p)
matches-pre p role t =
    among-append role t (token_places Initiator 0 0 p.initiator) (token_places Responder 0 0 p.responder)
    ∙ ap (λ (b : Bool). b || is_among role t (token_places Responder 0 0 p.responder)) (matches-token_places Initiator role t 0 0 p.initiator)
    ∙ ap (λ (b : Bool). (same_role Initiator role && has_token t p.initiator) || b) (matches-token_places Responder role t 0 0 p.responder)
    ∙ of-pre p role t

-- in a pre-message or one of these messages
pub matches-first : (p : Plan) (role : Role) (t : Token) (ms : List (List Token))
    → is_among role t (token_places Initiator 0 0 p.initiator ++ token_places Responder 0 0 p.responder ++ message_places Initiator 1 ms)
    ≡ has_token t (pre_of role p) || is_among role t (message_places Initiator 1 ms)
matches-first p role t ms =
    among-append role t (token_places Initiator 0 0 p.initiator ++ token_places Responder 0 0 p.responder) (message_places Initiator 1 ms)
    ∙ ap (λ (b : Bool). b || is_among role t (message_places Initiator 1 ms)) (matches-pre p role t)

-- the transport has none
none-later : (role : Role) (t : Token) (n : ℕ) (one_way : Bool)
    → is_among role t (place Initiator transport n 0 ∷ (if one_way then [] else place Responder transport n 1 ∷ [])) ≡ false
none-later role t n true = refl
none-later role t n false = refl

-- in a pre-message or a message
pub matches-places_of : (p : Plan) (role : Role) (t : Token)
    → is_among role t (places_of p) ≡ has_token t (pre_of role p) || is_among role t (message_places Initiator 1 p.messages)
matches-places_of p role t =
    among-front role t
    (token_places Initiator 0 0 p.initiator ++ token_places Responder 0 0 p.responder ++ message_places Initiator 1 p.messages)
    (transport_places p) (none-later role t (length p.messages + 1) (is_one_way p))
    ∙ matches-first p role t p.messages

-- a walk that finds none before the messages
pub found-after : (role : Role) (t : Token) (pre tokens : List Token) (found all : Bool) (ms : List (List Token)) → tokens ≡ pre
    → found ≡ has_token t tokens → found ≡ false
    → all ≡ has_token t pre || is_among role t (message_places Initiator 1 ms) → is_among role t (message_places Initiator 1 ms) ≡ all
found-after role t pre tokens found all ms e h none is =
    sym (is ∙ ap (λ (b : Bool). b || is_among role t (message_places Initiator 1 ms)) (sym (ap (has_token t) e) ∙ sym h ∙ none))
