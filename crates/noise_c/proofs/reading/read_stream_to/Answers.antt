use Rattle.std.proofs.Common.{◌≡◌, ◌∙◌, ℕ, ◌-◌, List, length, drop, arith, ap, subst, sym, refl, length-drop}
use Rattle.std.proofs.lemmas.List.{drop-drop}
use Rattle.noise_channel.specs.Receiving.{ReadsOnce, ReadsTo}
use Rattle.noise_c.specs.StreamStructs.{stream_receiver_from_c}
use Rattle.noise_c.proofs.Received.{part-after, part-long, part-of}
use Rattle.noise_c.proofs.reading.read_stream_to.Goals as goal

pub frames-init : goal.frames-init
frames-init c = record {
  known = c.requires.known;
  within = omega arith;
  long = refl;
  rest = refl;
  room = omega (arith, c.in_ok-reserve.ensures.ok);
  reads =
      λ v s matches. c.calls_join.ensures.begins v s c.args.came.now c.args.out.now.items c.reserve.new.self.items
      (stream_receiver_from_c c.args.stream.now) matches c.reserve.ensures.items;
}

pub returns-then-used-eq0-clause-reads : goal.returns-then-used-eq0-clause-reads
returns-then-used-eq0-clause-reads c v s matches =
    let inv = c.frames.invariant in
    let call = c.read_frame_to-used in
    let at : ℕ = c.frames.at in
    let came : List ℕ = c.frames.came in
    let whole = part-long at came call.new.buffer inv.within call.auto.buffer in
    let part = part-of at came call.new.buffer inv.within call.auto.buffer ∙ inv.rest in
    let place : at ≡ length c.args.came.now - (length came - at) = let h = inv.within in let k = inv.long in omega arith in
    let left = ap (λ (n : ℕ). length c.args.came.now - (n - at)) whole in
    subst (λ (k : ℕ). ReadsTo v s c.args.came.now k c.args.out.now.items call.new.out.items (stream_receiver_from_c call.new.stream)) (place ∙ sym left)
    (c.calls_join.ensures.ends v s c.args.came.now at call.result c.args.out.now.items c.frames.out.items call.new.out.items
    (stream_receiver_from_c c.frames.stream) (stream_receiver_from_c call.new.stream) c.if-used-eq0.true (inv.reads v s matches)
    (λ t h. subst (λ (b : List ℕ). ReadsOnce v t b call.result c.frames.out.items call.new.out.items (stream_receiver_from_c call.new.stream)) part
    (call.ensures.reads v t h)))

pub frames-preserved : goal.frames-preserved
frames-preserved c =
    let inv = c.frames.invariant in
    let call = c.read_frame_to-used in
    let at : ℕ = c.frames.at in
    let used : ℕ = call.result in
    let came : List ℕ = c.frames.came in
    let whole = part-long at came call.new.buffer inv.within call.auto.buffer in
    let old = part-of at came call.new.buffer inv.within call.auto.buffer in
    let part = old ∙ inv.rest in
    let after = part-after at came call.new.buffer inv.within call.auto.buffer in
    let count = ap length old ∙ length-drop at came in
    record {
      known = call.ensures.known;
      within = omega (arith, whole, count, call.ensures.used, inv.within);
      long = whole ∙ inv.long;
      rest =
          sym (drop-drop used at _) ∙ ap (drop used) after ∙ call.ensures.rest ∙ ap (drop used) part ∙ drop-drop used at c.args.came.now;
      room = omega (arith, whole, count, call.ensures.room, inv.within);
      reads = λ v s matches. c.calls_join.ensures.more v s c.args.came.now at used c.args.out.now.items c.frames.out.items call.new.out.items
          (stream_receiver_from_c c.frames.stream) (stream_receiver_from_c call.new.stream) (inv.reads v s matches)
          (λ t h. subst (λ (b : List ℕ). ReadsOnce v t b used c.frames.out.items call.new.out.items (stream_receiver_from_c call.new.stream)) part
          (call.ensures.reads v t h));
    }
