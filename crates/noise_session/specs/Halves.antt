-- The two directions of a transport, each by itself: that of the messages that a party seals, and that of those that it
-- opens (Noise 5.1 and 7.4).
use Rattle.std.specs.Prelude.{ℕ, ◌+◌, ◌==◌, nat_lt, List, Bool, ◌&&◌, Option, Some, None, if◌then◌else◌}
use Rattle.noise_names.specs.declared.token.Role.{Role}
use Rattle.noise_names.specs.declared.token.Role.TheVariants.{Initiator, Responder}
use Rattle.noise_names.specs.Tokens.{same_role}
use Rattle.noise_session.specs.declared.faults.SendFault.{SendFault}
use Rattle.noise_session.specs.declared.faults.SendFault.TheVariants as send
use Rattle.noise_session.specs.declared.faults.OpenFault.{OpenFault}
use Rattle.noise_session.specs.declared.faults.OpenFault.TheVariants as unopened
use Rattle.noise_session.specs.Transport.{last_nonce}

-- one direction of a party's transport as contracts see it
pub record HalfValue : Type 0 where
  pub role : Role  -- of the party
  pub one_way : Bool
  pub interval : ℕ
  pub key : Option (List ℕ)
  pub nonce : ℕ

-- In a one-way session the responder writes nothing, and nothing comes to the initiator (7.4).
abbrev pub writes_nothing : HalfValue → Bool
writes_nothing h = h.one_way && same_role h.role Responder

abbrev pub hears_nothing : HalfValue → Bool
hears_nothing h = h.one_way && same_role h.role Initiator

-- why a payload of this length isn't sealed now: the first of these
abbrev pub sender_fault : HalfValue → ℕ → Option SendFault
sender_fault h payload =
    if writes_nothing h then Some send.OneWay
    else if nat_lt 65535 (payload + 16) then Some send.TooLong
    else if h.nonce == last_nonce then Some send.Exhausted
    else None

-- why no message is opened now, whatever it is: the first of these
abbrev pub receiver_fault : HalfValue → Option OpenFault
receiver_fault h =
    if hears_nothing h then Some unopened.OneWay
    else if h.nonce == last_nonce then Some unopened.Exhausted
    else None
