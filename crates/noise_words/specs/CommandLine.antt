-- The command line, as `clap` sees it, and the command that its matches state.
use Rattle.std.specs.Prelude.{List, [], ◌∷◌, ◌++◌, Option, Some, None, Bool, true, false, map, codes, find, option_map, option_and_then, string_bytes, if◌then◌else◌}
use Rattle.std.specs.List.{list_any}
use Rattle.std.specs.Str.{bytes_eq}
use Rattle.noise_words.specs.declared.help.Subcommand.{Subcommand}
use Rattle.noise_words.specs.declared.orders.Chosen.{Chosen}
use Rattle.noise_words.specs.declared.orders.Chosen.TheVariants as chosen
use Rattle.noise_words.specs.declared.orders.Order.{Order}
use Rattle.noise_words.specs.declared.orders.Compared.{Compared}
use Rattle.noise_words.specs.declared.orders.Documented.{Documented}
use Rattle.noise_words.specs.declared.orders.Documented.TheVariants as documented
use Rattle.noise_words.specs.declared.orders.Explained.{Explained}
use Rattle.noise_words.specs.declared.orders.Filled.{Filled}
use Rattle.noise_words.specs.declared.orders.Order.TheVariants.{Command, Compare, Document, Explain, Fill, Test}
use Rattle.noise_words.specs.declared.orders.Tested.{Tested}
use Rattle.noise_words.specs.declared.orders.Traced.{Traced}
use Rattle.noise_words.specs.declared.orders.TracedPart.{TracedPart}
use Rattle.noise_words.specs.declared.orders.TracedPart.TheVariants.{Handshake, Transport}
use Rattle.noise_words.specs.declared.orders.TracedRole.{TracedRole}
use Rattle.noise_words.specs.declared.orders.TracedRole.TheVariants.{Initiator, Responder}
use Rattle.clap.specs.declared.builder.action.ArgAction.TheVariants.{SetTrue}
use Rattle.clap.specs.Lexer.{usize_max}
use Rattle.clap.specs.Walk.{Row, Rule, Text, all_of, first_of}
use Rattle.clap.specs.Kinds.{Kinds}
use Rattle.clap.specs.Simple.{App, Shape, new_rule, new_shape, subcommand_of}
use Rattle.clap.specs.Faults.{fault_of}

-- an option, which may be left out: its name, and the values that it may have
abbrev pub Choice : Type 0
Choice = Text × List Text

-- The values that a command wants, by these names: none, one, two beside these flags, one and a second that may be left
-- out, at least one beside these flags, or one beside these options and flags.
pub data Wants : Type 0 where
  Nothing : Wants
  One : Text → Wants
  Several : Text → List Text → Wants
  Two : Text → Text → List Text → Wants
  OneOrTwo : Text → Text → Wants
  OneWith : Text → List Choice → List Text → Wants

-- the flag of `test`
abbrev pub traces_flag : Text
traces_flag = codes "trace"

abbrev pub test : Text × Wants
test = (codes "test", Several (codes "FILE") (traces_flag ∷ []))

-- the flag of `explain`
abbrev pub fix_flag : Text
fix_flag = codes "fix"

abbrev pub explain : Text × Wants
explain = (codes "explain", Several (codes "FILE") (fix_flag ∷ []))

-- the options and the flag of `trace`
abbrev pub part_choice : Choice
part_choice = (codes "only", codes "handshake" ∷ codes "transport" ∷ [])

abbrev pub role_choice : Choice
role_choice = (codes "role", codes "initiator" ∷ codes "responder" ∷ [])

abbrev pub heading_flag : Text
heading_flag = codes "heading"

abbrev pub trace : Text × Wants
trace = (codes "trace", OneWith (codes "FILE") (part_choice ∷ role_choice ∷ []) (heading_flag ∷ []))

abbrev pub template : Text × Wants
template = (codes "template", OneOrTwo (codes "NAME|FILE") (codes "KEYS"))

-- the flag of the commands that write a document of JSON
abbrev pub json_flag : Text
json_flag = codes "json"

-- the flag of `compare`
abbrev pub all_flag : Text
all_flag = codes "all"

abbrev pub compare : Text × Wants
compare = (codes "compare", Two (codes "LOG") (codes "FILE") (all_flag ∷ json_flag ∷ []))

-- the commands, each with the values that it wants
abbrev pub commands : List (Text × Wants)
commands =
    (codes "list", Nothing)
    ∷ (codes "show", One (codes "NAME"))
    ∷ (codes "check", One (codes "FILE"))
    ∷ explain
    ∷ template
    ∷ (codes "talk", One (codes "FILE"))
    ∷ (codes "replay", One (codes "FILE"))
    ∷ (codes "convert", One (codes "FILE"))
    ∷ test
    ∷ trace
    ∷ compare
    ∷ []

-- a value that has to be there
abbrev pub required_rule : Text → Rule
required_rule value = record (new_rule value) { required = true }

-- values, of which one has to be there
abbrev pub several : Text → Rule
several value =
    record (required_rule value) { range = Some (record { start_inclusive = 1; end_inclusive = usize_max }) }

-- an option with one value
abbrev pub optional : Choice → Rule
optional choice = record (new_rule choice.0) { long = Some choice.0; value_names = 1 }

-- an option without a value
abbrev pub flag : Text → Rule
flag name = record (new_rule name) { long = Some name; action = Some SetTrue }

abbrev pub rules_for : Wants → List Rule
rules_for Nothing = []
rules_for (One value) = required_rule value ∷ []
rules_for (Two first second flags) = required_rule first ∷ required_rule second ∷ map flag flags
rules_for (OneOrTwo first second) = required_rule first ∷ new_rule second ∷ []
rules_for (Several value flags) = several value ∷ map flag flags
rules_for (OneWith value choices flags) = required_rule value ∷ (map optional choices ++ map flag flags)

abbrev pub subcommand : Text × Wants → Shape
subcommand (name, wants) = record (new_shape name) { rules = rules_for wants }

-- the values that a subcommand has, by its description, without its flags and options
abbrev pub wanted_by : Subcommand → Wants
wanted_by sub = if sub.several then Several sub.value.now [] else One sub.value.now

-- the whole command
abbrev pub noise : App
noise = record {
  top = record (new_shape (codes "noise")) { is_leaf = false; has_version = true; subcommand_required = true };
  subs = map subcommand commands;
}

-- What an order names, as texts: a command, its values, and for each of its options the value, if it is given. The
-- value of a flag is `true`.
abbrev pub Named : Type 0
Named = Text × List Text × List (Option Text)

abbrev pub part_text : TracedPart → Text
part_text Handshake = codes "handshake"
part_text Transport = codes "transport"

abbrev pub role_text : TracedRole → Text
role_text Initiator = codes "initiator"
role_text Responder = codes "responder"

abbrev pub flag_text : Bool → Option Text
flag_text true = Some (codes "true")
flag_text false = None

abbrev pub named_trace : Traced → Named
named_trace traced = (
  codes "trace",
  string_bytes traced.file ∷ [],
  option_map part_text traced.only ∷ option_map role_text traced.role ∷ flag_text traced.heading ∷ [],
)

abbrev pub words_of : Chosen → Named
words_of chosen.List = (codes "list", [], [])
words_of (chosen.Show name) = (codes "show", string_bytes name ∷ [], [])
words_of (chosen.Check file) = (codes "check", string_bytes file ∷ [], [])
words_of (chosen.Template word) = (codes "template", string_bytes word ∷ [], [])
words_of (chosen.Talk file) = (codes "talk", string_bytes file ∷ [], [])
words_of (chosen.Replay file) = (codes "replay", string_bytes file ∷ [], [])
words_of (chosen.Convert file) = (codes "convert", string_bytes file ∷ [], [])
words_of (chosen.Trace traced) = named_trace traced

abbrev pub named_test : Tested → Named
named_test tested = (codes "test", map string_bytes tested.files.items, flag_text tested.traces ∷ [])

abbrev pub named_explain : Explained → Named
named_explain explained = (codes "explain", map string_bytes explained.files.items, flag_text explained.fixes ∷ [])

-- `compare`, with or without a document
abbrev pub named_compare : Bool → Compared → Named
named_compare json compared = (
  codes "compare",
  string_bytes compared.log ∷ string_bytes compared.file ∷ [],
  flag_text compared.all ∷ flag_text json ∷ [],
)

abbrev pub named_document : Documented → Named
named_document (documented.Compare compared) = named_compare true compared

abbrev pub named_fill : Filled → Named
named_fill filled = (codes "template", string_bytes filled.pattern ∷ string_bytes filled.keys ∷ [], [])

abbrev pub order_of : Order → Named
order_of (Command c) = words_of c
order_of (Test tested) = named_test tested
order_of (Explain explained) = named_explain explained
order_of (Compare compared) = named_compare false compared
order_of (Document asked) = named_document asked
order_of (Fill filled) = named_fill filled

-- what is chosen of these values, where it is left out or is one of them
abbrev pub chosen_of : List Text → Option Text → Option (Option Text)
chosen_of names None = Some None
chosen_of names (Some text) = if list_any (λ name. bytes_eq name text) names then Some (Some text) else None

-- what the matches have for an option, where that is right
abbrev pub choice_in : List Row → Choice → Option (Option Text)
choice_in rows choice = chosen_of choice.1 (first_of choice.0 rows)

-- what the matches have for each of several options, where all of that is right
abbrev pub choices_in : List Row → List Choice → Option (List (Option Text))
choices_in rows [] = Some []
choices_in rows (choice ∷ rest) =
    option_and_then (λ first. option_map (λ more. first ∷ more) (choices_in rows rest)) (choice_in rows choice)

-- what the matches have for a flag
abbrev pub flag_of : Option Text → Option Text
flag_of None = None
flag_of (Some text) = if bytes_eq (codes "true") text then Some (codes "true") else None

abbrev pub flag_in : List Row → Text → Option Text
flag_in rows name = flag_of (first_of name rows)

-- a value, and a second one where it is given
abbrev pub with_second : Text → Option Text → List Text
with_second first None = first ∷ []
with_second first (Some second) = first ∷ second ∷ []

-- the order for a command, where its matches have the values that it wants
abbrev pub order_with : List Row → Text × Wants → Option Named
order_with rows (name, Nothing) = Some (name, [], [])
order_with rows (name, One value) = option_map (λ text. (name, text ∷ [], [])) (first_of value rows)
order_with rows (name, Two first second flags) = option_and_then
    (λ one. option_map (λ two. (name, one ∷ two ∷ [], map (flag_in rows) flags)) (first_of second rows))
    (first_of first rows)
order_with rows (name, OneOrTwo first second) =
    option_map (λ one. (name, with_second one (first_of second rows), [])) (first_of first rows)
order_with rows (name, Several value flags) =
    option_map (λ texts. (name, texts, map (flag_in rows) flags)) (all_of value rows)
order_with rows (name, OneWith value choices flags) =
    option_and_then
    (λ chosen. option_map (λ text. (name, text ∷ [], chosen ++ map (flag_in rows) flags)) (first_of value rows))
    (choices_in rows choices)

-- the order that a subcommand with these matches is
abbrev pub stated_by : Text → List Row → Option Named
stated_by name rows = option_and_then (order_with rows) (find (λ command. bytes_eq command.0 name) commands)

abbrev pub stated_in : Option (Text × List Row) → Option Named
stated_in None = None
stated_in (Some p) = stated_by p.0 p.1

abbrev pub asked_without : Kinds → Option Named → Option Named
asked_without [] order = order
asked_without (k ∷ ks) order = None

-- the order that these words are; none where `clap` finds a fault, or an option has a value that it may not have
abbrev pub asked : List Text → Option Named
asked words = asked_without (fault_of noise words) (stated_in (subcommand_of noise words))
