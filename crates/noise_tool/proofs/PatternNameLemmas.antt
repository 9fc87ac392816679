-- Which words name a pattern.
use Rattle.std.proofs.Common.{◌≡◌, ◌∙◌, sym, subst, ℕ, List, Option, Some, None, Result, Ok, Err}
use Rattle.std.specs.Prelude.{Vec, IfOk, is_some, true}
use Rattle.noise_tool.proofs.Common.{Global, Fault, Plan}
use Rattle.noise_lines.specs.Named.{IsNamed, IsUnnamed}
use Rattle.noise_lines.specs.Output.{NamesPattern, show_text}
use Rattle.noise_names.specs.Fundamental.{fundamental_of}
use Rattle.noise_names.specs.Names.{Names, Section}
use Rattle.noise_names.specs.Placing.{none-beyond}
use Rattle.noise_names.specs.Limits.{first_beyond}
use Rattle.noise_names.specs.declared.faults.NameFault.{NameFault}
use Rattle.noise_tool.specs.PatternNames.{NamesFundamental, StandsFor}
use Rattle.noise_words.specs.declared.orders.Chosen.TheVariants as order
use Rattle.noise_lines.specs.declared.faults.Fault.TheVariants as fault

pub fundamental-is : (bytes : List ℕ) (s : Section) (found : Option Plan) → Names bytes s → found ≡ fundamental_of s.base → is_some found ≡ true
    → NamesFundamental bytes
fundamental-is bytes s None names e there = absurd (cc there)
fundamental-is bytes s (Some plain) names e there = record { name = s; names = names; plain = plain; known = sym e }

-- a name that is of no pattern is of none
unnamed-not : (s : Section) (why : Fault) → IsUnnamed s why → (p : Plan) → IsNamed s p → ⊥
unnamed-not s fault.UnknownPattern e p named = let bad = sym e ∙ named.known in cc bad
unnamed-not s (fault.Place f) (plain, known, beyond) p named =
    let both = sym known ∙ named.known in
    let same : plain ≡ named.plain = cc both in
    none-beyond named.plain s.places p f.place named.placed (subst (λ (z : Plan). first_beyond z s.places ≡ Some f.place) same beyond)
unnamed-not s _ h p named = h

pub none-named : (bytes : List ℕ) (r : Result Section NameFault) (s : Section) (why : Fault) → r ≡ Ok s → ((n : Section) → Names bytes n → r ≡ Ok n)
    → IsUnnamed s why → (p : Plan) → NamesPattern bytes p → ⊥
none-named bytes r s why is every unnamed p (n, names, named) =
    let both = sym is ∙ every n names in
    let same : n ≡ s = cc both in
    unnamed-not s why unnamed p (subst (λ (z : Section). IsNamed z p) same named)

pub shown-word : (r : Result (Vec ℕ Global) Fault) (word bytes : List ℕ) → StandsFor word bytes
    → IfOk r (λ text. (p : Plan) × NamesPattern bytes p × (text.items ≡ show_text p))
    → IfOk r (λ text. (b : List ℕ) × StandsFor word b × (p : Plan) × NamesPattern b p × (text.items ≡ show_text p))
shown-word (Ok text) word bytes stands h = (bytes, stands, h.0, h.1, h.2)
shown-word (Err why) word bytes stands h = tt
