-- A handshake that has fewer psks than its pattern has psk tokens to come (Noise, 9): the others are handed in when
-- their tokens come.
use Rattle.std.specs.Prelude.{◌≡◌, ℕ, suc, ◌<◌, List, ◌∷◌, ◌++◌, length, take, drop, count_by, max, Option}
use Rattle.noise_names.specs.declared.token.Role.{Role}
use Rattle.noise_names.specs.declared.token.Token.{Token}
use Rattle.noise_names.specs.declared.token.Token.TheVariants.{Psk}
use Rattle.noise_names.specs.Plan.{Plan}
use Rattle.noise_names.specs.Tokens.{is_psk}
use Rattle.noise_keys.specs.declared.keys.Own.{Own}
use Rattle.noise_keys.specs.declared.faults.SetupFault.{SetupFault}
use Rattle.noise_handshake.specs.declared.remote.Remote.{Remote}
use Rattle.noise_handshake.specs.HandshakeValue.{HandshakeValue}
use Rattle.noise_handshake.specs.Matching.{party_of}
use Rattle.noise_handshake.specs.Parts.{IsWholeValue}
use Rattle.noise_handshake.specs.Party.{Party, tokens_at}
use Rattle.noise_handshake.specs.Setup.{psks_of, setup_fault}
use Rattle.noise_keys.specs.Keys.{KeyPairs}

-- the handshake with these psks after those that were handed in
abbrev pub with_later : {K : Type 0} → HandshakeValue K → List (List ℕ) → HandshakeValue K
with_later h later = record h { psks = h.psks ++ later }

-- Token k is a psk token, the first after n others.
pub record IsPskAfter (ts : List Token) (n k : ℕ) : Type 0 where
  pub within : k < length ts
  pub tokens : ts ≡ take k ts ++ Psk ∷ drop (suc k) ts
  pub count : count_by is_psk (take k ts) ≡ n

-- Token k of the next message is its first psk token without a psk.
abbrev pub LacksPskAt : {K : Type 0} → HandshakeValue K → ℕ → Type 0
LacksPskAt h k = IsPskAfter (tokens_at h.pattern.messages h.passed) (length h.psks) k

-- what is wrong with a setup that may have fewer psks than the pattern has psk tokens
abbrev pub late_fault : Plan → Role → (Own → Option (List ℕ)) → Remote → ℕ → Option SetupFault
late_fault p role own remote psks =
    setup_fault p role own remote (max psks (psks_of p.messages))

-- A handshake may hold this and the missing psks.
abbrev pub IsLateWhole : {K : Type 0} → (K → KeyPairs) → HandshakeValue K → Type 0
IsLateWhole pairs h = (later : List (List ℕ)) × IsWholeValue pairs (with_later h later)

-- the party of a handshake with these psks after those that were handed in
abbrev pub party_with : {K : Type 0} → (K → KeyPairs) → List (List ℕ) → HandshakeValue K → Party
party_with pairs later h = party_of pairs (with_later h later)
