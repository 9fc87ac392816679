use Rattle.std.proofs.Common.{◌≢◌, List, length, ◌∙◌, sym, subst, ap, arith}
use Rattle.noise_trace.proofs.Common.{Party, after_own, Follows, Step, EndState, opening_in, Message}
use Rattle.noise_trace.proofs.Unopened.{unopened}
use Rattle.noise_trace.proofs.end_trace.EndTrace.wrote.Goals as goal

pub returns-clause-handshake : goal.returns-clause-handshake
returns-clause-handshake g c v xs payload f w =
    let next : Party = after_own v.party xs payload in
    let view : EndState = record v { party = next } in
    let more : v.party.passed ≢ length v.party.pattern.messages = λ all. let less = w.speaks.more in omega arith in
    let reported = c.written-steps.ensures v.party xs payload f.party w in
    let shown = c.passed.ensures.shown next reported.1 in (
      shown ∙ ap (λ (steps : List Step). Message steps (opening_in next)) reported.0,
      record {
        party = subst (λ x. Follows g.K.Keys.pairs x next) (sym c.passed.ensures.value) reported.1;
        interval = c.passed.ensures.interval ∙ f.interval;
        directions = c.passed.ensures.opened view reported.1 (f.directions ∙ unopened v more) (f.first more).0 (f.first more).1;
        first = λ later. f.first more;
      },
    )
