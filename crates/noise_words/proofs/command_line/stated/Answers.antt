use Rattle.std.proofs.Common.{rules, ◌≡◌, ◌∙◌, ap, sym, Some, None, map, string_bytes, inl, inr, subst}
use Rattle.clap.specs.Values.{kind_of}
use Rattle.clap.specs.Kinds.{IsAmong, Kinds}
use Rattle.clap.specs.Simple.{App, is_simple, subcommand_of, subcommand_rows_of}
use Rattle.clap.specs.Faults.{fault_of, is_simple_and_free}
use Rattle.noise_words.specs.CommandLine.{noise, order_of, stated_in}
use Rattle.noise_words.proofs.CommandLineLemmas.{asked-stated, asked_without-among}
use Rattle.noise_words.proofs.command_line.stated.Goals as goal

pub returns-in-Some-clause-ok : goal.returns-in-Some-clause-ok
returns-in-Some-clause-ok c =
    let texts = map string_bytes c.args.words.now in
    let noise_is = c.requires.right in
    let exact = c.in-Ok.ensures.ok.2 (ap is_simple noise_is) in
    let free = sym (ap (λ (app : App). fault_of app texts) noise_is) ∙ c.in-Ok.ensures.kinds (ap is_simple_and_free noise_is) in
    let order_is : stated_in (subcommand_rows_of c.in-Ok.matches) ≡ Some (order_of c.in-Some.order) = search rules in
    asked-stated texts free ∙ ap stated_in (sym (ap (λ (app : App). subcommand_of app texts) noise_is) ∙ sym exact.1) ∙ order_is

pub returns-in-Ok-clause-line : goal.returns-in-Ok-clause-line
returns-in-Ok-clause-line c =
    let texts = map string_bytes c.args.words.now in
    let noise_is = c.requires.right in
    let exact = c.in-Ok.ensures.ok.2 (ap is_simple noise_is) in
    let free = sym (ap (λ (app : App). fault_of app texts) noise_is) ∙ c.in-Ok.ensures.kinds (ap is_simple_and_free noise_is) in
    let order_is : stated_in (subcommand_rows_of c.in-Ok.matches) ≡ None = search rules in
    inr (asked-stated texts free ∙ ap stated_in (sym (ap (λ (app : App). subcommand_of app texts) noise_is) ∙ sym exact.1) ∙ order_is)

pub returns-clause-line : goal.returns-clause-line
returns-clause-line c =
    let texts = map string_bytes c.args.words.now in
    let noise_is = c.requires.right in
    elim (c.in-Err.ensures.kinds (ap is_simple_and_free noise_is)) [
      | inl memory ↦ inl (c.line_fault.ensures.0 memory)
      | inr kind ↦
          inr (asked_without-among (kind_of c.in-Err.error) (fault_of noise texts)
          (stated_in (subcommand_of noise texts))
          (subst (λ (kinds : Kinds). IsAmong (kind_of c.in-Err.error) kinds) (ap (λ (app : App). fault_of app texts) noise_is) kind))
    ]
