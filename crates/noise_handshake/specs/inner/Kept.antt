-- What the fields of a handshake hold.
use Rattle.std.specs.Prelude.{◌≡◌, ◌≤◌, length, drop}
use Rattle.noise_names.specs.Plan.{has_psk}
use Rattle.noise_names.specs.Validity.{IsValid}
use Rattle.noise_names.specs.Limits.{IsPattern}
use Rattle.noise_keys.specs.Keys.{KeyPairs}
use Rattle.noise_handshake.specs.declared.handshake.Handshake.TheInside.{Inside}
use Rattle.noise_handshake.specs.HandshakeValue.{HandshakeValue}
use Rattle.noise_handshake.specs.inner.Known.{KnowsRemote}
use Rattle.noise_handshake.specs.inner.Layout.{LaysNext}
use Rattle.noise_handshake.specs.inner.Sound.{IsSound}

-- the handshake as contracts see it
abbrev pub held_in : {K : Type 0} → Inside K → HandshakeValue K
held_in a = record {
  pattern = a.pattern;
  role = a.means.role;
  keys = a.means.keys;
  remote = a.remote;
  psks = drop a.used a.psks.items;
  passed = a.passed;
  ended = a.ended;
  state = a.state;
}

-- What holds of them between two calls.
abbrev pub IsKept : {K : Type 0} → (K → KeyPairs) → Inside K → Type 0
IsKept pairs a = (a.means.has_psks ≡ has_psk a.pattern) × (a.used ≤ length a.psks.items)
    × IsSound pairs (held_in a) × KnowsRemote (held_in a) × LaysNext a.pattern a.passed a.next × IsValid a.pattern
    × IsPattern a.pattern
