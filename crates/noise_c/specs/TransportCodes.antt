-- The numbers of the faults of transports, datagrams, streams and cipher states.
use Rattle.std.specs.Prelude.{ℕ, Option, Some, None}
use Rattle.noise_state.specs.declared.cipher.CipherFault.{CipherFault}
use Rattle.noise_state.specs.declared.cipher.CipherFault.TheVariants as cipher
use Rattle.noise_channel.specs.declared.fault.StreamFault.{StreamFault}
use Rattle.noise_channel.specs.declared.fault.StreamFault.TheVariants as unwritten
use Rattle.noise_session.specs.declared.faults.SendFault.{SendFault}
use Rattle.noise_session.specs.declared.faults.SendFault.TheVariants as unsealed
use Rattle.noise_session.specs.declared.faults.OpenFault.{OpenFault}
use Rattle.noise_session.specs.declared.faults.OpenFault.TheVariants as unopened
use Rattle.noise_session.specs.declared.datagram_fault.DatagramFault.{DatagramFault}
use Rattle.noise_session.specs.declared.datagram_fault.DatagramFault.TheVariants as declined

-- 14 for the faults that only a session has: no sealing here has them
abbrev pub seal_code : SendFault → ℕ
seal_code unsealed.TooLong = 11
seal_code unsealed.Exhausted = 17
seal_code unsealed.OneWay = 22
seal_code _ = 14

-- 0 where there is no fault
abbrev pub sealing_code : Option SendFault → ℕ
sealing_code None = 0
sealing_code (Some fault) = seal_code fault

abbrev pub open_code : OpenFault → ℕ
open_code unopened.Short = 15
open_code unopened.Tag = 16
open_code unopened.Exhausted = 17
open_code unopened.OneWay = 22

abbrev pub datagram_code : DatagramFault → ℕ
datagram_code declined.TooLong = 11
datagram_code declined.Short = 15
datagram_code declined.Tag = 16
datagram_code declined.OneWay = 22
datagram_code declined.Reserved = 26
datagram_code declined.Old = 27
datagram_code declined.Repeated = 28

abbrev pub cipher_code : CipherFault → ℕ
cipher_code cipher.TooLong = 11
cipher_code cipher.Short = 15
cipher_code cipher.Tag = 16
cipher_code cipher.Exhausted = 17

abbrev pub stream_code : StreamFault → ℕ
stream_code unwritten.OneWay = 22
stream_code unwritten.Exhausted = 17
stream_code unwritten.Ended = 43
