-- What is noted of what happens to the datagrams of two parties.
use Rattle.std.specs.Prelude.{ℕ, List}
use Rattle.noise_session.specs.declared.faults.SendFault.{SendFault}
use Rattle.noise_session.specs.declared.datagram_fault.DatagramFault.{DatagramFault}

pub data DatagramNote : Type 0 where
  Sealed : ℕ → List ℕ → DatagramNote  -- the datagram's number, and the datagram
  SealFault : SendFault → DatagramNote
  Payload : List ℕ → DatagramNote
  Rejected : DatagramFault → DatagramNote
  Missing : ℕ → DatagramNote  -- no datagram of this number was sealed
