-- From a parse's matches to the order that they state.
use Rattle.std.proofs.Common.{◌≡◌, ◌∙◌, ap, ap₂, sym, refl, codes, List, [], ◌∷◌, Option, Some, None, option_map}
use Rattle.std.specs.Prelude.{Box, Bool, true, false}
use Rattle.std.specs.Str.{bytes_eq}
use Rattle.std.proofs.lemmas.Slice.Eq.{bytes_eq-Decides}
use Rattle.std.specs.Box.{box_value}
use Rattle.clap.specs.Walk.{Row, Text, rows_of}
use Rattle.clap.proofs.WalkLemmas.{first_value-rows}
use Rattle.clap.specs.Kinds.{IsAmong, Kinds}
use Rattle.clap.specs.declared.error.kind.ErrorKind.{ErrorKind}
use Rattle.clap.specs.Matches.{first_value, found_of, subcommand_name_of}
use Rattle.clap.specs.Simple.{subcommand_rows, subcommand_rows_of, subcommand_of}
use Rattle.clap.specs.Faults.{fault_of}
use Rattle.clap.specs.declared.parser.matches.ArgMatches.{ArgMatches}
use Rattle.clap.specs.declared.parser.matches.SubCommand.{SubCommand}
use Rattle.clap.specs.declared.parser.matches.ArgMatches.TheViews.{out-ArgMatches, out-SubCommand}
use Rattle.noise_words.specs.CommandLine.{Choice, Named, asked, asked_without, choice_in, chosen_of, flag_in, flag_of, noise, stated_by, stated_in}

-- the name that a parse found is that of its rows
name_of-rows : {Z : Type 0} (o : Option (Box SubCommand Z))
    → option_map (λ b. (out-SubCommand (box_value b)).name.now) o ≡ option_map (λ p. p.0) (subcommand_rows o)
name_of-rows None = refl
name_of-rows (Some b) = refl

pub subcommand_name_of-rows : (m : ArgMatches) → subcommand_name_of m ≡ option_map (λ p. p.0) (subcommand_rows_of m)
subcommand_name_of-rows m = name_of-rows (out-ArgMatches m).subcommand

-- the order of the rows of a subcommand with this name
pub stated_in-found : (o : Option (Text × List Row)) (name : Text) (rows : List Row) → Some name ≡ option_map (λ p. p.0) o
    → Some rows ≡ option_map (λ p. p.1) o → stated_in o ≡ stated_by name rows
stated_in-found None name rows e f = cc e
stated_in-found (Some (n, r)) name rows e f =
    let same_name : n ≡ name = cc in
    let same_rows : r ≡ rows = cc in
    ap₂ stated_by same_name same_rows

-- where no fault is found, the order is the one that the matches state
pub asked-stated : (words : List Text) → fault_of noise words ≡ [] → asked words ≡ stated_in (subcommand_of noise words)
asked-stated words e = ap (λ (kinds : Kinds). asked_without kinds (stated_in (subcommand_of noise words))) e

-- a kind is among those of no empty list
pub asked_without-among : (k : ErrorKind) (kinds : Kinds) (o : Option Named) → IsAmong k kinds → asked_without kinds o ≡ None
asked_without-among k [] o h = absurd h
asked_without-among k (x ∷ xs) o h = refl

-- a text is not equal to another one
pub differs : (x name : Text) → (name ≡ x → ⊥) → bytes_eq x name ≡ false
differs x name other = at (bytes_eq x name) refl where
  at : (b : Bool) → bytes_eq x name ≡ b → bytes_eq x name ≡ false
  at true same = absurd (other (sym ((bytes_eq-Decides x name).0 same)))
  at false e = e

-- no other name states an order
pub stated_by-unknown : (name : Text) (rows : List Row) → (name ≡ codes "list" → ⊥) → (name ≡ codes "show" → ⊥) → (name ≡ codes "check" → ⊥)
    → (name ≡ codes "template" → ⊥) → (name ≡ codes "talk" → ⊥) → (name ≡ codes "replay" → ⊥) → (name ≡ codes "convert" → ⊥) → (name ≡ codes "test" → ⊥) → (name ≡ codes "trace" → ⊥)
    → (name ≡ codes "explain" → ⊥) → (name ≡ codes "compare" → ⊥) → stated_by name rows ≡ None
stated_by-unknown name rows list show check template talk replay convert test trace explain compare =
    let no_list = differs (codes "list") name list in
    let no_show = differs (codes "show") name show in
    let no_check = differs (codes "check") name check in
    let no_template = differs (codes "template") name template in
    let no_talk = differs (codes "talk") name talk in
    let no_replay = differs (codes "replay") name replay in
    let no_convert = differs (codes "convert") name convert in
    let no_test = differs (codes "test") name test in
    let no_trace = differs (codes "trace") name trace in
    let no_explain = differs (codes "explain") name explain in
    let no_compare = differs (codes "compare") name compare in
    rw (no_list, no_show, no_check, no_explain, no_template, no_talk, no_replay, no_convert, no_test, no_trace, no_compare) refl

-- what the matches have for an option, by what a parse found for it
pub choice_in-found : (m : ArgMatches) (choice : Choice) (o : Option Text) → o ≡ first_value (found_of m) choice.0
    → chosen_of choice.1 o ≡ choice_in (rows_of (found_of m)) choice
choice_in-found m choice o e = ap (chosen_of choice.1) (e ∙ first_value-rows (found_of m) choice.0)

-- what the matches have for a flag, by what a parse found for it
pub flag_in-found : (m : ArgMatches) (name : Text) (o : Option Text) → o ≡ first_value (found_of m) name
    → flag_of o ≡ flag_in (rows_of (found_of m)) name
flag_in-found m name o e = ap flag_of (e ∙ first_value-rows (found_of m) name)

-- another text than `true` is not that of a flag that is given
pub flag_of-other : (text : Text) → (text ≡ codes "true" → ⊥) → None ≡ flag_of (Some text)
flag_of-other text other =
    let no = differs (codes "true") text other in
    rw no refl

-- another text than these two is no value of an option
pub chosen_of-other : (a b text : Text) → (text ≡ a → ⊥) → (text ≡ b → ⊥) → None ≡ chosen_of (a ∷ b ∷ []) (Some text)
chosen_of-other a b text not_a not_b =
    let no_a = differs a text not_a in
    let no_b = differs b text not_b in
    rw (no_a, no_b) refl
