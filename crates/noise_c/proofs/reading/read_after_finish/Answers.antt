use Rattle.std.proofs.Common.{ℕ, inl, inr, subst}
use Rattle.noise_session.specs.TransportValue.{transport_of}
use Rattle.noise_c.proofs.Common.{with_dh_results}
use Rattle.noise_c.specs.Finishing.{Finishes}
use Rattle.noise_c.proofs.Finished.{finishes-once}
use Rattle.noise_c.proofs.Received.{all-read, handed-or}
use Rattle.noise_channel.specs.Reading.StreamReceiverState.{Listens}
use Rattle.noise_c.specs.StreamStructs.{stream_receiver_from_c}
use Rattle.noise_c.proofs.reading.read_after_finish.Goals as goal

pub returns-clause-reads : goal.returns-clause-reads
returns-clause-reads c done =
    let i = c.args.interval in
    let made = c.noise_finish_stream.ensures.made c.if-noise_finish_stream-ne-OK.false in
    all-read c.args.handshake.now i c.args.came.now c.args.out.now.items c.read_stream_to_end.new.out.items
    (stream_receiver_from_c c.read_stream_to_end.new.stream) c.read_stream_to_end.result
    (λ p v keeps. c.read_stream_to_end.ensures.reads (transport_of v i) (Listens 0) (made.reader p v keeps))

pub returns-clause-responder : goal.returns-clause-responder
returns-clause-responder c p a b ps qs v w handed_in h keeps =
    let i = c.args.interval in
    let made = c.noise_finish_stream.ensures.made c.if-noise_finish_stream-ne-OK.false in
    handed-or (transport_of v i) c.args.came.now c.args.out.now.items c.read_stream_to_end.new.out.items c.read_stream_to_end.result
    (elim (c.finished_agree.ensures p a b ps qs v w i h) [
      | inl whole ↦ inl (c.read_stream_to_end.ensures.front (transport_of v i) (transport_of w i) whole.0 (made.reader p (with_dh_results w handed_in) keeps))
      | inr forged ↦ inr forged
    ])

pub returns-clause-initiator : goal.returns-clause-initiator
returns-clause-initiator c p a b ps qs v w handed_in h keeps =
    let i = c.args.interval in
    let made = c.noise_finish_stream.ensures.made c.if-noise_finish_stream-ne-OK.false in
    handed-or (transport_of w i) c.args.came.now c.args.out.now.items c.read_stream_to_end.new.out.items c.read_stream_to_end.result
    (elim (c.finished_agree.ensures p a b ps qs v w i h) [
      | inl whole ↦ inl (c.read_stream_to_end.ensures.front (transport_of w i) (transport_of v i) whole.1 (made.reader p (with_dh_results v handed_in) keeps))
      | inr forged ↦ inr forged
    ])

pub returns-clause-unfinished : goal.returns-clause-unfinished
returns-clause-unfinished c none =
    absurd (none (subst (λ (n : ℕ). Finishes c.args.handshake.now n) c.if-noise_finish_stream-ne-OK.false c.noise_finish_stream.ensures.uses.code_is))

pub returns-then-noise_finish_stream-ne-OK-clause-reads : goal.returns-then-noise_finish_stream-ne-OK-clause-reads
returns-then-noise_finish_stream-ne-OK-clause-reads c done =
    absurd (finishes-once c.args.handshake.now c.noise_finish_stream.result done c.noise_finish_stream.ensures.uses.code_is
    c.if-noise_finish_stream-ne-OK.true)

pub returns-clause-all : goal.returns-clause-all
returns-clause-all c done p u v keeps same =
    let i = c.args.interval in
    let made = c.noise_finish_stream.ensures.made c.if-noise_finish_stream-ne-OK.false in
    c.read_stream_to_end.ensures.all v (transport_of u i) same (made.reader p u keeps)

pub returns-then-noise_finish_stream-ne-OK-clause-all : goal.returns-then-noise_finish_stream-ne-OK-clause-all
returns-then-noise_finish_stream-ne-OK-clause-all c done p u v keeps same =
    absurd (finishes-once c.args.handshake.now c.noise_finish_stream.result done c.noise_finish_stream.ensures.uses.code_is
    c.if-noise_finish_stream-ne-OK.true)

pub returns-clause-uses : goal.returns-clause-uses
returns-clause-uses c = (c.noise_finish_stream.result, c.noise_finish_stream.ensures.uses)

pub returns-then-noise_finish_stream-ne-OK-clause-uses : goal.returns-then-noise_finish_stream-ne-OK-clause-uses
returns-then-noise_finish_stream-ne-OK-clause-uses c = (c.noise_finish_stream.result, c.noise_finish_stream.ensures.uses)
