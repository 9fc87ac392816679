use Rattle.std.proofs.Common.{ap, ◌∙◌, ◌-◌, arith, rules, take, drop, length}
use Rattle.noise_session.proofs.Common.{frame}
use Rattle.noise_session.proofs.Places.{framed, rest-after}
use Rattle.noise_session.proofs.Splitting.{seals-copied}
use Rattle.noise_session.proofs.sender.Sender.seal_frame.Goals as goal

pub returns : goal.returns
returns c =
    let s = seals-copied _ _ c.args.payload.now c.copy_from_slice.new.self (take (length c.args.out.now - 2) (drop 2 c.args.out.now)) _ _ c.copy_from_slice.ensures.after c.seal_due-len.ensures.seals in
    let message = framed c.seal_due-len.result c.frame_message.result c.args.out.now c.seal_due-len.new.buffer c.frame_message.new.out (omega arith)
    c.frame_message.ensures.frame in
    record {
      seals = record {
        fault = search rules;
        below = search rules;
        len = search rules;
        rest = rest-after 2 c.seal_due-len.result c.frame_message.result c.args.out.now c.seal_due-len.new.buffer c.frame_message.new.out (omega arith)
            (omega arith) c.frame_message.ensures.beyond s.rest;
        counted = search rules;
        unchanged = search rules;
        sealed = message ∙ ap frame s.sealed;
        renewed = search rules;
        seals = λ v p. (message ∙ ap frame (s.seals v p).0, (s.seals v p).1);
      };
    }
