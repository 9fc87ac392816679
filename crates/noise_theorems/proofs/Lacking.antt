-- The token at which a party lacks a DH result is a DH.
use Rattle.std.proofs.Common.{◌≡◌, ℕ, zero, suc, ◌<◌, List, [], ◌∷◌, length, take, slice_get, Some, Bool, true, false, refl, arith}
use Rattle.std.specs.Prelude.{◌||◌}
use Rattle.noise_names.specs.declared.token.Token.{Token}
use Rattle.noise_names.specs.declared.token.Token.TheVariants.{E, S, Ee, Es, Se, Ss, Psk}
use Rattle.noise_names.specs.Tokens.{same_token}
use Rattle.noise_keys.specs.declared.keys.Own.{Own}
use Rattle.noise_keys.specs.declared.keys.Own.TheVariants.{Ephemeral, Static}
use Rattle.noise_keys.specs.KeyTokens.{has_token, token_of}
use Rattle.noise_handshake.specs.declared.remote.Remote.{Remote}
use Rattle.noise_handshake.specs.Counterparts.{is_dh}
use Rattle.noise_handshake.specs.Party.{first_psk, psks_after, tokens_now}
use Rattle.noise_handshake.specs.Writing.{Writer, writer, Given}
use Rattle.noise_theorems.specs.Lacking.{LacksAtDh}

abbrev HasKeys : Writer → List Token → Type 0
HasKeys w ts = (x : Own) → has_token (token_of x) ts ≡ true → (key : List ℕ) × (w.own x ≡ Some key) × (length key ≡ 32)

abbrev IsDhAt : List Token → ℕ → Type 0
IsDhAt ts k = (t : Token) × (slice_get ts k ≡ Some t) × (is_dh t ≡ true)

or-later : (b c : Bool) → c ≡ true → (b || c) ≡ true
or-later true c e = refl
or-later false c e = e

-- the first token, where nothing is given for it
first-lacks : (w : Writer) (known : Remote) (psks : List (List ℕ)) (t : Token) (ts : List Token) → HasKeys w (t ∷ ts)
    → ((xs : List (List ℕ)) → Given w known psks (t ∷ []) xs → ⊥) → IsDhAt (t ∷ ts) 0
first-lacks w known psks E ts keys none = let k = keys Ephemeral refl in absurd (none (k.0 ∷ []) ((k.1, k.2), tt))
first-lacks w known psks S ts keys none = let k = keys Static refl in absurd (none (k.0 ∷ []) ((k.1, k.2), tt))
first-lacks w known psks Psk ts keys none = absurd (none (first_psk psks ∷ []) (refl, tt))
first-lacks w known psks Ee ts keys none = (Ee, refl, refl)
first-lacks w known psks Es ts keys none = (Es, refl, refl)
first-lacks w known psks Se ts keys none = (Se, refl, refl)
first-lacks w known psks Ss ts keys none = (Ss, refl, refl)

is-dh-at : (w : Writer) (known : Remote) (psks : List (List ℕ)) (ts : List Token) (k : ℕ) (before : List (List ℕ)) → HasKeys w ts → k < length ts
    → Given w known psks (take k ts) before → ((xs : List (List ℕ)) → Given w known psks (take (suc k) ts) xs → ⊥) → IsDhAt ts k
is-dh-at w known psks [] k before keys within given none = absurd (omega arith)
is-dh-at w known psks (t ∷ ts) zero before keys within given none = first-lacks w known psks t ts keys none
is-dh-at w known psks (t ∷ ts) (suc k) [] keys within given none = absurd given
is-dh-at w known psks (t ∷ ts) (suc k) (y ∷ ys) keys within given none =
    is-dh-at w known (psks_after psks t) ts k ys (λ x e. keys x (or-later (same_token t (token_of x)) (has_token (token_of x) ts) e)) (omega (arith, within))
    given.1 (λ xs h. none (y ∷ xs) (given.0, h))

pub lacks-at-dh : LacksAtDh
lacks-at-dh v place keys l =
    is-dh-at (writer v) v.remote v.psks (tokens_now v) place l.lacks.before keys l.lacks.within l.lacks.given l.lacks.none
