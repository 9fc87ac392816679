-- What validity says of a place and of a token, for proofs of other crates too.
use Rattle.std.proofs.Common.{◌≡◌, ℕ, ◌+◌, List, [], ◌∷◌, ◌++◌, refl, ap, ◌∙◌, append_assoc, arith, length}
use Rattle.std.specs.Prelude.{Bool, true, false}
use Rattle.noise_names.specs.declared.token.Role.{Role}
use Rattle.noise_names.specs.declared.token.Role.TheVariants.{Initiator, Responder}
use Rattle.noise_names.specs.declared.token.Token.{Token}
use Rattle.noise_names.specs.Tokens.{turn_from, other}
use Rattle.noise_names.specs.Plan.{Plan, Place, does, payload, place, place_after, token_places, message_places, transport_places, places_of, places_before}
use Rattle.noise_names.specs.Validity.{keys_match, key_is_first, dh_is_first, comes_with, encrypts, dh_is_fresh, psk_is_fresh, unless_satisfied, broken_rules}
use Rattle.noise_names.specs.Validity.{IsValid, KeepsRules, TokensKeepRules}
use Rattle.noise_names.specs.Facts.{message_places-append}

no_rules : (rules others : List ℕ) → rules ++ others ≡ [] → (rules ≡ []) × (others ≡ [])
no_rules [] others h = (refl, h)
no_rules (r ∷ rs) others h = absurd (cc)

satisfied_of : (n : ℕ) (kept : Bool) → unless_satisfied n kept ≡ [] → kept ≡ true
satisfied_of n true h = refl
satisfied_of n false h = absurd (cc)

-- the five rules at a place that breaks none
pub keeps_rules : (earlier : List Place) (p : Place) → broken_rules earlier p ≡ [] → KeepsRules earlier p
keeps_rules earlier p h =
    by_tests (keys_match earlier p.step) (key_is_first earlier p.party p.step) (dh_is_first earlier p.step)
    (comes_with (encrypts p.step) (dh_is_fresh earlier p.party))
    (comes_with (encrypts p.step) (psk_is_fresh earlier p.party)) refl refl refl refl refl h where
      by_tests : (a b c d e : Bool) → keys_match earlier p.step ≡ a → key_is_first earlier p.party p.step ≡ b
          → dh_is_first earlier p.step ≡ c
          → comes_with (encrypts p.step) (dh_is_fresh earlier p.party) ≡ d
          → comes_with (encrypts p.step) (psk_is_fresh earlier p.party) ≡ e
          → (((unless_satisfied 1 a ++ unless_satisfied 2 b) ++ unless_satisfied 3 c) ++ unless_satisfied 4 d)
          ++ unless_satisfied 5 e ≡ []
          → KeepsRules earlier p
      by_tests a b c d e ka kb kc kd ke h =
          let two : List ℕ = unless_satisfied 1 a ++ unless_satisfied 2 b in
          let three : List ℕ = two ++ unless_satisfied 3 c in
          let four : List ℕ = three ++ unless_satisfied 4 d in
          let fifth : (four ≡ []) × (unless_satisfied 5 e ≡ []) = no_rules four (unless_satisfied 5 e) h in
          let fourth : (three ≡ []) × (unless_satisfied 4 d ≡ []) = no_rules three (unless_satisfied 4 d) fifth.0 in
          let third : (two ≡ []) × (unless_satisfied 3 c ≡ []) = no_rules two (unless_satisfied 3 c) fourth.0 in
          let second : (unless_satisfied 1 a ≡ []) × (unless_satisfied 2 b ≡ []) =
          no_rules (unless_satisfied 1 a) (unless_satisfied 2 b) third.0 in
          record {
            keys = ka ∙ satisfied_of 1 a second.0;
            key = kb ∙ satisfied_of 2 b second.1;
            dh = kc ∙ satisfied_of 3 c third.1;
            fresh_dh = kd ∙ satisfied_of 4 d fourth.1;
            fresh_psk = ke ∙ satisfied_of 5 e fifth.1;
          }

token_places-append : (party : Role) (n i : ℕ) (front rest : List Token)
    → token_places party n i (front ++ rest)
    ≡ token_places party n i front ++ token_places party n (i + length front) rest
token_places-append party n i [] rest = ap (λ (k : ℕ). token_places party n k rest) (omega arith)
token_places-append party n i (t ∷ front) rest =
    let count : (i + 1) + length front ≡ i + length (t ∷ front) = omega arith in
    ap (λ (ps : List Place). place party (does t) n i ∷ ps)
    (token_places-append party n (i + 1) front rest
    ∙ ap (λ (k : ℕ). token_places party n (i + 1) front ++ token_places party n k rest) count)

-- the list of places, cut at a token
places-split : (plan : Plan) (before : List (List Token)) (front : List Token) (token : Token) (back : List Token)
    (after : List (List Token)) → plan.messages ≡ before ++ (front ++ token ∷ back) ∷ after →
    (later : List Place)
    × (places_of plan ≡ places_before plan before front ++ place_after before front token ∷ later)
places-split plan before front token back after split =
    let party : Role = turn_from Initiator (length before) in
    let n : ℕ = length before + 1 in
    let message : List Token = front ++ token ∷ back in
    let pre : List Place = token_places Initiator 0 0 plan.initiator ++ token_places Responder 0 0 plan.responder in
    let first : List Place = message_places Initiator 1 before in
    let here : List Place = token_places party n 0 front in
    let at : Place = place party (does token) n (length front) in
    let rest : List Place = token_places party n (length front + 1) back in
    let end : List Place = place party payload n (length message) ∷ message_places (other party) (n + 1) after in
    let cut : message_places Initiator 1 plan.messages ≡ first ++ (token_places party n 0 message ++ end) =
    ap (λ (ms : List (List Token)). message_places Initiator 1 ms) split
    ∙ message_places-append Initiator 1 before (message ∷ after)
    ∙ ap (λ (k : ℕ). first ++ message_places party k (message ∷ after)) (omega arith) in
    let tokens : token_places party n 0 message ≡ here ++ at ∷ rest =
    token_places-append party n 0 front (token ∷ back)
    ∙ ap (λ (k : ℕ). here ++ token_places party n k (token ∷ back)) (omega arith) in (
      rest ++ (end ++ transport_places plan),
      ap (λ (ps : List Place). (pre ++ ps) ++ transport_places plan)
          (cut ∙ ap (λ (ps : List Place). first ++ (ps ++ end)) tokens)
          ∙ regroup pre first here at rest end (transport_places plan),
    )
  where
    regroup : (a b c : List Place) (p : Place) (d e f : List Place)
        → (a ++ (b ++ ((c ++ p ∷ d) ++ e))) ++ f ≡ ((a ++ b) ++ c) ++ p ∷ (d ++ (e ++ f))
    regroup a b c p d e f = simp append_assoc

-- each token of a valid pattern keeps them
pub tokens-keep-rules : (plan : Plan) → IsValid plan → TokensKeepRules plan
tokens-keep-rules plan valid before front token back after split =
    let h = places-split plan before front token back after split in
    keeps_rules (places_before plan before front) (place_after before front token) (valid _ _ h.0 h.1)
