use Rattle.std.proofs.Common.{◌≤◌, ◌+◌, ◌++◌, ◌∙◌, Bool, true, false, ℕ, List, length, take, refl, ap, sym, subst, min, arith}
use Rattle.std.specs.Prelude.{if◌then◌else◌, ◌==◌}
use Rattle.noise_c.proofs.Sides.{whole}
use Rattle.noise_c.specs.StreamSteps.{WritesStream}
use Rattle.noise_c.specs.StreamStructs.{frame_of}
use Rattle.noise_c.specs.declared.two_streams.Stream.{Stream}
use Rattle.noise_c.proofs.two_streams.write.Goals.{then-noise_stream_write-eq-OK+in_ok-extend_from_slice+in_ok-extend_from_slice-2, else-noise_stream_write-eq-OK}
use Rattle.noise_c.proofs.two_streams.write.Goals as goal

-- a part of a payload and 18 bytes are room enough for its frame
frame-room : (k : ℕ) → frame_of k ≤ min k 65519 + 18
frame-room k = by (k == 0) where
  by : (b : Bool) → (if b then 0 else min k 65519 + 18) ≤ min k 65519 + 18
  by true = omega arith
  by false = omega arith

pub returns : goal.returns
returns c =
    let w = c.noise_stream_write in
    let n : ℕ = w.new.results.len in
    let text : List ℕ = c.args.payload.now in
    let old : Stream = c.args.stream.now in
    let room : frame_of (length text) ≤ length c.deref_mut.result.now =
    omega (arith, frame-room (length text), c.deref_mut.ensures.len, c.in_ok-out.ensures.len, c.min.ensures) in
    elim c.if-noise_stream_write-eq-OK.branch [
      | then-noise_stream_write-eq-OK+in_ok-extend_from_slice+in_ok-extend_from_slice-2 t ↦
          subst (λ (z : Stream). WritesStream text old z) (sym t.stream-is) (record {
            results = _;
            next = w.new.results;
            out = c.deref_mut.result.now;
            after = w.new.out;
            code = w.result;
            room = room;
            call = w.ensures;
            logged = λ ok. (
              t.in_ok-extend_from_slice.ensures.items ∙ ap (λ (z : List ℕ). old.put.items ++ take n z) (t.deref.ensures.value ∙ whole c.in_ok-out.out.len w.new.out _ (omega (arith, w.auto.out, c.deref_mut.ensures.len))),
              t.in_ok-extend_from_slice-2.ensures.items,
            );
            unlogged = λ bad. absurd (omega (arith, bad, t.if-noise_stream_write-eq-OK.true));
            others = refl;
          })
      | else-noise_stream_write-eq-OK t ↦
          subst (λ (z : Stream). WritesStream text old z) (sym t.stream-is) (record {
            results = _;
            next = w.new.results;
            out = c.deref_mut.result.now;
            after = w.new.out;
            code = w.result;
            room = room;
            call = w.ensures;
            logged = λ ok. absurd (t.if-noise_stream_write-eq-OK.false ok);
            unlogged = λ bad. (refl, refl);
            others = refl;
          })
    ]
