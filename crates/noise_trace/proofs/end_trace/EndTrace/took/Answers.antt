use Rattle.std.proofs.Common.{◌≢◌, List, [], length, ◌∙◌, sym, subst, ap, arith}
use Rattle.noise_trace.proofs.Common.{Party, after_message, Follows, Step, EndState, opening_in, Message}
use Rattle.noise_trace.proofs.Unopened.{unopened}
use Rattle.noise_trace.proofs.end_trace.EndTrace.took.Goals as goal

pub returns-clause-handshake : goal.returns-clause-handshake
returns-clause-handshake g c v xs payload f a =
    let next : Party = after_message v.party xs payload in
    let view : EndState = record v { party = next; partial = [] } in
    let more : v.party.passed ≢ length v.party.pattern.messages = λ all. let less = a.listens.more in omega arith in
    let reported = c.accepted-steps.ensures v.party xs payload f.party a in
    let shown = c.passed.ensures.shown next reported.1 in (
      shown ∙ ap (λ (steps : List Step). Message steps (opening_in next)) reported.0,
      record {
        party = subst (λ x. Follows g.K.Keys.pairs x next) (sym c.passed.ensures.value) reported.1;
        interval = c.passed.ensures.interval ∙ f.interval;
        directions = c.passed.ensures.opened view reported.1 (f.directions ∙ unopened v more) (f.first more).0 (f.first more).1;
        first = λ later. f.first more;
      },
    )
