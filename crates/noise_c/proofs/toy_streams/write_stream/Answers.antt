use Rattle.std.proofs.Common.{◌≡◌, ◌≤◌, ℕ, ◌+◌, ◌-◌, ◌++◌, List, length, length-drop, take, ap, sym, subst, ◌∙◌, arith}
use borrow.Rule.Slice.PartMut.{mid_of, put_mid}
use Rattle.noise_session.specs.TransportValue.{transport_of}
use Rattle.noise_channel.specs.Writing.StreamSenderState.{Speaks}
use Rattle.noise_c.specs.declared.structs.NoiseStreamResult.{NoiseStreamResult}
use Rattle.noise_c.specs.FinishedPrograms.{IsStreamOf}
use Rattle.noise_c.proofs.Received.{part-long, part-of}
use Rattle.noise_channel.specs.Halves.{end_fault}
use Rattle.noise_c.specs.StreamStructs.{is_stream_sender, stream_sender_from_c, writing_code}
use Rattle.noise_c.proofs.Streaming.{joined-front, room-left, stream-of}
use Rattle.noise_c.proofs.toy_streams.write_stream.Goals as goal

pub returns : goal.returns
returns c =
    let i = c.args.interval in
    let text = c.args.text.now in
    let w = c.noise_stream_write in
    let e = c.noise_stream_end in
    let at : ℕ = w.new.results.len in
    let out : List ℕ = w.new.out in
    let made = c.noise_finish_stream.ensures.made c.if-noise_finish_stream-ne-OK.false in
    let within : at ≤ length out = omega arith in
    let len : e.new.results.len ≡ 18 = ap (λ (r : NoiseStreamResult). r.len) (e.ensures.place c.if-noise_stream_end-ne-OK.false) in
    let long : length e.new.out ≡ length (mid_of at (length out - at) out) = e.auto.out in
    let found : 18 ≤ length (mid_of at (length out - at) out) =
    room-left (is_stream_sender w.new.stream) (length (mid_of at (length out - at) out)) (writing_code (end_fault (stream_sender_from_c w.new.stream)))
    (sym c.if-noise_stream_end-ne-OK.false ∙ e.ensures.code_is) in
    let rest = ap length (part-of at out e.new.out within long) ∙ length-drop at out in
    let whole = part-long at out e.new.out within long in
    let bytes : take (at + e.new.results.len) (put_mid at (length out - at) out e.new.out) ≡ take at out ++ take 18 e.new.out =
    ap (λ (n : ℕ). take (at + n) (put_mid at (length out - at) out e.new.out)) len ∙ joined-front at 18 out e.new.out within long in (
      omega (arith, whole, rest, len, found),
      λ p v keeps.
          let first = w.ensures.writes c.if-noise_stream_write-ne-OK.false (transport_of v i) (Speaks 0) (made.writer p v keeps) in
          let last = e.ensures.ends c.if-noise_stream_end-ne-OK.false (transport_of v i) first.0 first.2 in
          subst (λ (z : List ℕ). IsStreamOf (transport_of v i) text z) (sym bytes)
          (stream-of (transport_of v i) text first.0 last.0 w.new.results.used (take at out) (take 18 e.new.out) first.1 last.1 c.if-results-text.false),
    )
