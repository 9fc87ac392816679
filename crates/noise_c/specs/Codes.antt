-- The numbers of the faults. No number is used twice.
use Rattle.std.specs.Prelude.{ℕ}
use Rattle.noise_names.specs.declared.faults.TextFaultKind.{TextFaultKind}
use Rattle.noise_names.specs.declared.faults.TextFaultKind.TheVariants as text
use Rattle.noise_handshake.specs.declared.faults.Cause.{Cause}
use Rattle.noise_handshake.specs.declared.faults.Cause.TheVariants.{Short, Tag, Agreement}
use Rattle.noise_handshake.specs.declared.faults.ReadFault.{ReadFault}
use Rattle.noise_handshake.specs.declared.faults.ReadFault.TheVariants as read
use Rattle.noise_keys.specs.declared.faults.SetupFault.{SetupFault}
use Rattle.noise_keys.specs.declared.faults.SetupFault.TheVariants.{EphemeralMissing, StaticMissing, RemoteMissing, RemoteUnexpected, PskCount}
use Rattle.noise_handshake.specs.declared.faults.WriteFault.{WriteFault}
use Rattle.noise_handshake.specs.declared.faults.WriteFault.TheVariants as write

abbrev pub setup_code : SetupFault → ℕ
setup_code EphemeralMissing = 4
setup_code StaticMissing = 5
setup_code RemoteMissing = 6
setup_code RemoteUnexpected = 7
setup_code PskCount = 8

abbrev pub cause_code : Cause → ℕ
cause_code Agreement = 14
cause_code Short = 15
cause_code Tag = 16

abbrev pub read_code : ReadFault → ℕ
read_code read.NotYourTurn = 10
read_code read.Done = 12
read_code read.Ended = 13
read_code (read.Refused token cause) = cause_code cause

abbrev pub write_code : WriteFault → ℕ
write_code write.NotYourTurn = 10
write_code write.TooLong = 11
write_code write.Done = 12
write_code write.Ended = 13
write_code (write.Agreement token) = 14

abbrev pub text_code : TextFaultKind → ℕ
text_code text.Heading = 30
text_code text.Arrow = 31
text_code text.Token = 32
text_code text.PreMessage = 33
text_code text.Turn = 34
text_code text.PskPlace = 35
text_code text.NameTaken = 36
text_code text.Limit = 37
text_code text.Ending = 38
