-- The equations that are tried: the tables are those of `equation_tables.rt`.
use Rattle.std.specs.Prelude.{List, ◌++◌, map}
use Rattle.std.specs.List.{flat_map}
use Rattle.noise_compare.specs.declared.equation_tables.TheConstants.{FORMED_OF_BYTES, FORMED_OF_CHAINING_KEY, FORMED_OF_HASH, FORMED_OF_KEY, FORMS, OF_BYTES, OF_CHAINING_KEY, OF_HASH, OF_KEY, ON_BYTES, ON_HASH, ON_KEYS, OTHER_ON_BYTES, OTHER_ON_HASH, OTHER_ON_KEYS}
use Rattle.noise_compare.specs.declared.equation.Value.{Value}
use Rattle.noise_compare.specs.declared.equation.Value.TheVariants.{Bytes, Hash, ChainingKey, Key}
use Rattle.noise_compare.specs.declared.equation.Source.{Source}
use Rattle.noise_compare.specs.declared.equation.Form.{Form}
use Rattle.noise_compare.specs.declared.equation.Form.TheVariants as form
use Rattle.noise_compare.specs.declared.equation.Input.{Input}
use Rattle.noise_compare.specs.declared.equation.Operation.{Operation}
use Rattle.noise_compare.specs.declared.equation.Equation.{Equation}

-- ---- the equations of a value

-- what its operations take
unfoldable pub sources : Value → List Source
sources Bytes = OF_BYTES
sources Hash = OF_HASH
sources ChainingKey = OF_CHAINING_KEY
sources Key = OF_KEY

-- what they take in other forms too
unfoldable pub formed_sources : Value → List Source
formed_sources Bytes = FORMED_OF_BYTES
formed_sources Hash = FORMED_OF_HASH
formed_sources ChainingKey = FORMED_OF_CHAINING_KEY
formed_sources Key = FORMED_OF_KEY

-- the operations that take it in each form, and those that take it as it is
unfoldable pub operations : Value → List Operation
operations Bytes = ON_BYTES
operations Hash = ON_HASH
operations other = ON_KEYS

unfoldable pub other_operations : Value → List Operation
other_operations Bytes = OTHER_ON_BYTES
other_operations Hash = OTHER_ON_HASH
other_operations other = OTHER_ON_KEYS

abbrev pub formed_by : Source → Form → Input
formed_by s f = record { form = f; source = s }

abbrev pub plain_input : Source → Input
plain_input s = formed_by s form.Plain

abbrev pub plain_inputs : Value → List Input
plain_inputs value = map plain_input (sources value)

abbrev pub formed : Source → List Input
formed s = map (formed_by s) FORMS

abbrev pub inputs : Value → List Input
inputs value = plain_inputs value ++ flat_map formed (formed_sources value)

abbrev pub paired : Value → Operation → Input → Equation
paired v o i = record { value = v; operation = o; input = i }

abbrev pub pairs : Value → List Operation → List Input → List Equation
pairs value os is = flat_map (λ o. map (paired value o) is) os

-- either the operation is another, or the form of what it takes
unfoldable pub equations : Value → List Equation
equations value = pairs value (operations value) (inputs value)
    ++ pairs value (other_operations value) (plain_inputs value)
