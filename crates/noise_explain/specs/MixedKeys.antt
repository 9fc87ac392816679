-- What is mixed into the keys at a place of a pattern (Noise, 5.3), and which private keys are enough for that.
use Rattle.std.specs.Prelude.{ℕ, zero, suc, Bool, true, false, not, ◌&&◌, ◌||◌, List, [], fold, slice_get, take, unwrap_or}
use Rattle.noise_names.specs.declared.token.Token.{Token}
use Rattle.noise_names.specs.declared.token.Token.TheVariants.{E, S, Ee, Es, Se, Ss, Psk}
use Rattle.noise_names.specs.Plan.{Plan}
use Rattle.noise_explain.specs.declared.mixed.Keys.{Keys}
use Rattle.noise_explain.specs.declared.mixed.Mixed.{Mixed}
use Rattle.noise_explain.specs.declared.mixed.Psks.{Psks}
use Rattle.noise_explain.specs.declared.mixed.Psks.TheVariants as psks

abbrev pub nothing : Mixed
nothing = record { ee = false; es = false; se = false; ss = false; psks = psks.None }

abbrev pub one_more : Psks → Psks
one_more psks.None = psks.One
one_more _ = psks.More

-- with one more token
abbrev pub add_token : Mixed → Token → Mixed
add_token m E = m
add_token m S = m
add_token m Ee = record m { ee = true }
add_token m Es = record m { es = true }
add_token m Se = record m { se = true }
add_token m Ss = record m { ss = true }
add_token m Psk = record m { psks = one_more m.psks }

-- the tokens of the message after k others
abbrev pub tokens_after : Plan → ℕ → List Token
tokens_after p k = unwrap_or (slice_get p.messages k) []

-- what the first k messages mix in
abbrev pub mixed_after : Plan → ℕ → Mixed
mixed_after p zero = nothing
mixed_after p (suc k) = fold add_token (mixed_after p k) (tokens_after p k)

-- what is mixed in before token i of the message after k others
abbrev pub mixed_before : Plan → ℕ → ℕ → Mixed
mixed_before p k i = fold add_token (mixed_after p k) (take i (tokens_after p k))

-- whether these private keys are enough for every DH, which needs one of its two
abbrev pub are_enough : Mixed → Keys → Bool
are_enough m keys =
    (not m.ee || keys.initiator_e || keys.responder_e)
    && (not m.es || keys.initiator_e || keys.responder_s)
    && (not m.se || keys.initiator_s || keys.responder_e)
    && (not m.ss || keys.initiator_s || keys.responder_s)

-- the same, and none of them can be left out
abbrev pub are_least : Mixed → Keys → Bool
are_least m keys =
    are_enough m keys
    && not (keys.initiator_e && are_enough m (record keys { initiator_e = false }))
    && not (keys.initiator_s && are_enough m (record keys { initiator_s = false }))
    && not (keys.responder_e && are_enough m (record keys { responder_e = false }))
    && not (keys.responder_s && are_enough m (record keys { responder_s = false }))
