-- The exit status of each fault, and which fault of a command a vector file's is.
use Rattle.std.specs.Prelude.{ℕ}
use Rattle.noise_lines.specs.declared.faults.Fault.{Fault}
use Rattle.noise_vectors.specs.declared.faults.VectorFault.{VectorFault}
use Rattle.noise_vectors.specs.declared.faults.VectorFault.TheVariants as vector
use Rattle.noise_lines.specs.declared.faults.Fault.TheVariants.{Rule, Place, Setup, Unmet, Name, UnknownPattern, Text, Line, TooLong, Unreadable, Unwritable, Memory}

-- 1 for a pattern or ends that can't be made, or lines that aren't as expected; 2 for what a name or a file says; 3 for
-- what is outside the program
abbrev pub status_of : Fault → ℕ
status_of (Rule fault) = 1
status_of (Place fault) = 1
status_of (Setup role fault) = 1
status_of (Unmet number) = 1
status_of (Name fault) = 2
status_of UnknownPattern = 2
status_of (Text fault) = 2
status_of (Line number kind) = 2
status_of TooLong = 2
status_of Unreadable = 3
status_of Unwritable = 3
status_of Memory = 3

-- a line that isn't as it has to be, or no memory
abbrev pub of_vector : VectorFault → Fault
of_vector (vector.Line number kind) = Line number kind
of_vector vector.Memory = Memory
