use Rattle.std.proofs.Common.{rules, ◌≡◌, map, None}
use Rattle.std.specs.Prelude.{true}
use Rattle.noise_names.specs.Plan.{Plan}
use Rattle.noise_vectors.specs.VectorFile.{say_of}
use Rattle.noise_duel.specs.Acts.{roles_and_payloads}
use Rattle.noise_theorems.specs.FittingMessages.{messages_fit_from}
use Rattle.noise_theorems.specs.Setup.{fault_of}
use Rattle.noise_transcript.proofs.Fitting.{fit-file, xor_starts}
use Rattle.noise_transcript.proofs.tests.fits.Goals as goal

pub returns : goal.returns
returns g c =
    let p : Plan = c.pattern_of-pattern.result in
    let a = c.xor_keys-initiator.result in
    let b = c.xor_keys-responder.result in
    let lines = c.expect-lines.result.items in
    let said : c.args.file.events.items ≡ map say_of lines = search rules in
    let fit : messages_fit_from p 0 (roles_and_payloads lines) ≡ true = search rules in
    let ran = rw c.expect.ensures at c.run_events-made.ensures.reports in
    let right = ran.0 in
    let none : fault_of p (xor_starts p c.args.file.prologue.items c.args.file.psks.items a b) ≡ None = search rules in record {
      fits = (
        p,
        roles_and_payloads lines,
        fit-file c.args.file p a b lines c.requires.right c.requires.allowed c.xor_keys-initiator.ensures c.xor_keys-responder.ensures
            c.pattern_of-pattern.ensures.named c.pattern_of-pattern.ensures.pattern c.pattern_of-pattern.ensures.valid said fit none,
      );
    }
