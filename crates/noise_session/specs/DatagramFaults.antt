-- What holds of a datagram that has no fault beside its tag.
use Rattle.std.proofs.Common.{◌≡◌, Bool, true, false, List, length, Option, Some, None, ℕ, refl}
use Rattle.std.specs.Prelude.{◌&&◌, ◌==◌, nat_lt, if◌then◌else◌}
use Rattle.noise_names.specs.declared.token.Role.TheVariants.{Initiator}
use Rattle.noise_names.specs.Tokens.{same_role}
use Rattle.noise_session.specs.declared.datagram_fault.DatagramFault.{DatagramFault}
use Rattle.noise_session.specs.declared.datagram_fault.DatagramFault.TheVariants as fault
use Rattle.noise_session.specs.Transport.{last_nonce}
use Rattle.noise_session.specs.Windows.{is_accepted, is_old, window_fault}
use Rattle.noise_session.specs.Datagrams.{DatagramState, nonce_named, datagram_fault}

-- where no fault is found, the first isn't there, and none after it
pub no-fault : {X : Type 0} (b : Bool) (x : X) (rest : Option X) → (if b then Some x else rest) ≡ None
    → (b ≡ false) × (rest ≡ None)
no-fault true x rest e = cc
no-fault false x rest e = (refl, e)

-- The half that opens it hears something, and its nonce is neither old nor accepted before.
pub record HasNoFault (v : DatagramState) (bytes : List ℕ) : Type 0 where
  pub heard : (v.one_way && same_role v.role Initiator) ≡ false
  pub young : is_old v.width v.accepted (nonce_named bytes) ≡ false
  pub fresh : is_accepted v.accepted (nonce_named bytes) ≡ false

pub fault-free : (v : DatagramState) (bytes : List ℕ) → datagram_fault v bytes ≡ None → HasNoFault v bytes
fault-free v bytes e =
    let n = nonce_named bytes in
    let window = window_fault v.width v.accepted n in
    let reserved : Option DatagramFault = if n == last_nonce then Some fault.Reserved else window in
    let long : Option DatagramFault = if nat_lt 65543 (length bytes) then Some fault.TooLong else reserved in
    let short : Option DatagramFault = if nat_lt (length bytes) 24 then Some fault.Short else long in
    let a = no-fault (v.one_way && same_role v.role Initiator) fault.OneWay short e in
    let b = no-fault (nat_lt (length bytes) 24) fault.Short long a.1 in
    let c = no-fault (nat_lt 65543 (length bytes)) fault.TooLong reserved b.1 in
    let d = no-fault (n == last_nonce) fault.Reserved window c.1 in
    let seen : Option DatagramFault = if is_accepted v.accepted n then Some fault.Repeated else None in
    let f = no-fault (is_old v.width v.accepted n) fault.Old seen d.1 in
    record { heard = a.0; young = f.0; fresh = (no-fault (is_accepted v.accepted n) fault.Repeated None f.1).0 }
