use Rattle.std.proofs.Common.{◌≡◌, ◌≤◌, ◌+◌, ◌-◌, ◌*◌, ◌/◌, ◌++◌, ℕ, List, length, take, drop, refl, ap, ◌∙◌, arith, length-append, length-take-le, length-drop, [], ◌∷◌}
use Rattle.noise_aead.proofs.Common.{ChaCha, byte_from, length-xored, xored}
use Rattle.noise_aead.proofs.Blocks.{byte_from-later}
use Rattle.noise_aead.proofs.Masking.{xored_more, all_done}
use borrow.Rule.Slice.PartMut.{put_mid}
use Rattle.noise_aead.proofs.keystream.apply.Goals as goal

-- The generator and the text after blocks a to b.
moved : (g h after : ChaCha) (a b n : ℕ) → h ≡ record g { word_pos = g.word_pos + 16 * a } → after ≡ record h { word_pos = h.word_pos + n }
    → 16 * a + n ≡ 16 * b → after ≡ record g { word_pos = g.word_pos + 16 * b }
moved g h after a b n at is e =
    let place : g.word_pos + 16 * a + n ≡ g.word_pos + 16 * b = omega arith in
    is ∙ ap (λ (x : ChaCha). record x { word_pos = x.word_pos + n }) at ∙ ap (λ (p : ℕ). record g { word_pos = p }) place

blocks_done : (g h : ChaCha) (text done new : List ℕ) (a n e : ℕ) → h ≡ record g { word_pos = g.word_pos + 16 * a } → 64 * a + n ≡ e → e ≤ length text
    → done ≡ xored (byte_from g) 0 (take (64 * a) text) ++ drop (64 * a) text → new ≡ xored (byte_from h) 0 (take n (drop (64 * a) done))
    → put_mid (64 * a) n done new ≡ xored (byte_from g) 0 (take e text) ++ drop e text
blocks_done g h text done new a n e at end fits before is =
    xored_more (byte_from g) (byte_from h) text done new (64 * a) n e end fits (λ k. byte_from-later g h a k at) before is

pub loop-i-preserved : goal.loop-i-preserved
loop-i-preserved c =
    let g : ChaCha = c.args.words.now in
    let a : ℕ = c.min-first.result + 4 * c.loop-i.i in
    let b : ℕ = c.min-first.result + 4 * (c.loop-i.i + 1) in
    record {
      place = moved g c.loop-i.words c.apply_four.new.words a b 64 c.loop-i.invariant.place c.apply_four.ensures.words (omega arith);
      text = blocks_done g c.loop-i.words c.args.text.now c.loop-i.text c.apply_four.new.text a (64 * a + 256 - 64 * a) (64 * b)
          c.loop-i.invariant.place (omega arith) (omega arith) c.loop-i.invariant.text c.apply_four.ensures.text;
    }

-- The generator and the text after the whole blocks.
record Done (g words : ChaCha) (text done : List ℕ) : Type 0 where
  pub place : words ≡ record g { word_pos = g.word_pos + 16 * (length text / 64) }
  pub bytes : done ≡ xored (byte_from g) 0 (take (64 * (length text / 64)) text) ++ drop (64 * (length text / 64)) text
  pub same : length done ≡ length text

last_blocks : (g words after : ChaCha) (text before new : List ℕ) (f i : ℕ) → f ≤ length text / 64 → i ≡ (length text / 64 - f) / 4
    → words ≡ record g { word_pos = g.word_pos + 16 * (f + 4 * i) }
    → before ≡ xored (byte_from g) 0 (take (64 * (f + 4 * i)) text) ++ drop (64 * (f + 4 * i)) text
    → (let a : ℕ = f + 4 * ((length text / 64 - f) / 4) in let n : ℕ = 64 * (length text / 64) - 64 * a in
    new ≡ xored (byte_from words) 0 (take n (drop (64 * a) before))
    → after ≡ record words { word_pos = words.word_pos + 16 * (length (take n (drop (64 * a) before)) / 64) }
    → Done g after text (put_mid (64 * a) n before new))
last_blocks g words after text before new f i within last held had text_after words_after =
    let w : ℕ = length text / 64 in
    let a : ℕ = f + 4 * ((w - f) / 4) in
    let n : ℕ = 64 * w - 64 * a in
    let place : words ≡ record g { word_pos = g.word_pos + 16 * a } = rw last at held in
    let first : before ≡ xored (byte_from g) 0 (take (64 * a) text) ++ drop (64 * a) text = rw last at had in
    let same : length before ≡ length text =
    omega (
      arith,
      ap length first,
      length-append (xored (byte_from g) 0 (take (64 * a) text)) (drop (64 * a) text),
      length-xored (byte_from g) 0 (take (64 * a) text),
      length-take-le (64 * a) text (omega arith),
      length-drop (64 * a) text,
    ) in
    let count : length (take n (drop (64 * a) before)) ≡ n =
    length-take-le n (drop (64 * a) before) (omega (arith, length-drop (64 * a) before)) in
    let now : put_mid (64 * a) n before new ≡ xored (byte_from g) 0 (take (64 * w) text) ++ drop (64 * w) text =
    blocks_done g words text before new a n (64 * w) place (omega arith) (omega arith) first text_after in
    record {
      place = moved g words after a w (16 * (length (take n (drop (64 * a) before)) / 64)) place words_after (omega (arith, count));
      bytes = now;
      same = omega (
        arith,
        ap length now,
        length-append (xored (byte_from g) 0 (take (64 * w) text)) (drop (64 * w) text),
        length-xored (byte_from g) 0 (take (64 * w) text),
        length-take-le (64 * w) text (omega arith),
        length-drop (64 * w) text,
      );
    }

rest_done : (g words : ChaCha) (text done new : List ℕ) → Done g words text done
    → (let w : ℕ = length text / 64 in let n : ℕ = length done - 64 * w in
    new ≡ xored (byte_from words) 0 (take n (drop (64 * w) done)) → put_mid (64 * w) n done new ≡ xored (byte_from g) 0 text)
rest_done g words text done new d is =
    let w : ℕ = length text / 64 in
    all_done (byte_from g) text _ (length text) refl
    (blocks_done g words text done new w (length done - 64 * w) (length text) d.place (omega (arith, d.same)) (omega arith) d.bytes is)

pub returns-then-not-is_empty : goal.returns-then-not-is_empty
returns-then-not-is_empty c = record {
  text =
      rest_done c.args.words.now c.apply_blocks-2.new.words c.args.text.now _ c.apply_front.new.text
      (last_blocks c.args.words.now c.loop-i.words c.apply_blocks-2.new.words c.args.text.now c.loop-i.text c.apply_blocks-2.new.text c.min-first.result c.loop-i.i
      (omega arith) (omega arith) c.loop-i.invariant.place c.loop-i.invariant.text c.apply_blocks-2.ensures.text c.apply_blocks-2.ensures.words)
      c.apply_front.ensures.text;
}

nothing : (f : ℕ → ℕ) (bytes : List ℕ) → length bytes ≡ 0 → bytes ≡ xored f 0 bytes
nothing f [] e = refl
nothing f (b ∷ bytes) e = absurd (omega arith)

pub returns-else-not-is_empty : goal.returns-else-not-is_empty
returns-else-not-is_empty c = record {
  text =
      rest_done c.args.words.now c.apply_blocks-2.new.words c.args.text.now _ _
      (last_blocks c.args.words.now c.loop-i.words c.apply_blocks-2.new.words c.args.text.now c.loop-i.text c.apply_blocks-2.new.text c.min-first.result c.loop-i.i
      (omega arith) (omega arith) c.loop-i.invariant.place c.loop-i.invariant.text c.apply_blocks-2.ensures.text c.apply_blocks-2.ensures.words)
      (nothing (byte_from c.apply_blocks-2.new.words) _ (grind (arith, c.is_empty.ensures, c.if-not-is_empty.false)));
}
