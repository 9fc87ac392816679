-- A party has each key of its own that one of its tokens sends.
use Rattle.std.proofs.Common.{rules, ◌≡◌, ℕ, zero, suc, ◌+◌, List, [], ◌∷◌, refl, ap, ◌∙◌}
use Rattle.std.specs.Prelude.{Bool, true, false, is_some}
use Rattle.noise_handshake.proofs.Common.{◌||◌, ◌&&◌, IsTrue, Option, list_all, list_any-append, Role, Initiator, Token, E, S, Ee, Es, Se, Ss, other, same_role, turn_from, Plan, token_places, message_places, places_of, is_among, Own, Ephemeral, Static, has_before, has_token, tokens_at, has_own, or_right, or_left, same_role-self}
use Rattle.noise_names.specs.declared.token.Token.TheVariants.{Psk}
use Rattle.noise_keys.specs.TokenPlaces.{matches-places_of}

or-both : (a b c d : Bool) → (a ≡ true → c ≡ true) → (b ≡ true → d ≡ true) → (a || b) ≡ true → (c || d) ≡ true
or-both true b c d f g e = or_left c d (f refl)
or-both false b c d f g e = or_right c d (g e)

and-both : (a b : Bool) → a ≡ true → IsTrue b → IsTrue (a && b)
and-both true b e h = h
and-both false b e h = cc

by_self : (b : Bool) (party : Role) → b ≡ true → (b && same_role party party) ≡ true
by_self true party e = same_role-self party
by_self false party e = cc

-- a token of a message stands among its places, among those of the messages, and among all
matches-tokens : (party : Role) (t : Token) (m i : ℕ) (ts : List Token) → has_token t ts ≡ true → is_among party t (token_places party m i ts) ≡ true
matches-tokens party t m i [] e = cc
matches-tokens party t m i (u ∷ ts) e = search (or-both, by_self, (matches-tokens party t m (i + 1) ts))

matches-messages : (party : Role) (t : Token) (k : ℕ) (ms : List (List Token)) (n : ℕ) → has_token t (tokens_at ms n) ≡ true
    → is_among (turn_from party n) t (message_places party k ms) ≡ true
matches-messages party t k [] n e = cc
matches-messages party t k (ts ∷ ms) zero e = search (rules, list_any-append, matches-tokens)
matches-messages party t k (ts ∷ ms) (suc n) e = search (list_any-append, or_right, (matches-messages (other party) t (k + 1) ms n e))

pub matches-place : (p : Plan) (t : Token) (n : ℕ) → has_token t (tokens_at p.messages n) ≡ true → is_among (turn_from Initiator n) t (places_of p) ≡ true
matches-place p t n e = search (rules, list_any-append, matches-messages)

-- so does one of a party's pre-message
pub before-matches : (p : Plan) (party : Role) (t : Token) → has_before p party t ≡ true → is_among party t (places_of p) ≡ true
before-matches p party t e = matches-places_of p party t ∙ ap (λ (b : Bool). b || is_among party t (message_places Initiator 1 p.messages)) e

module _ (own : Own → Option (List ℕ)) where
  all-own : (ts : List Token) → (has_token E ts ≡ true → is_some (own Ephemeral) ≡ true) → (has_token S ts ≡ true → is_some (own Static) ≡ true)
      → IsTrue (list_all (has_own own) ts)
  all-own [] e s = refl
  all-own (E ∷ ts) e s = and-both (is_some (own Ephemeral)) (list_all (has_own own) ts) (e refl) (all-own ts (λ h. e refl) s)
  all-own (S ∷ ts) e s = and-both (is_some (own Static)) (list_all (has_own own) ts) (s refl) (all-own ts e (λ h. s refl))
  all-own (Ee ∷ ts) e s = all-own ts e s
  all-own (Es ∷ ts) e s = all-own ts e s
  all-own (Se ∷ ts) e s = all-own ts e s
  all-own (Ss ∷ ts) e s = all-own ts e s
  all-own (Psk ∷ ts) e s = all-own ts e s

  -- the keys that the pattern asks of a party are enough for each message of its own
  pub owned : (p : Plan) (role : Role) (n : ℕ) → turn_from Initiator n ≡ role
      → (is_among role E (places_of p) ≡ true → is_some (own Ephemeral) ≡ true) → (is_among role S (places_of p) ≡ true → is_some (own Static) ≡ true)
      → IsTrue (list_all (has_own own) (tokens_at p.messages n))
  owned p role n turn e s = search (rules, all-own, matches-place)
