use Rattle.std.proofs.Common.{ap, sym, refl, ◌∙◌}
use Rattle.noise_aead.proofs.Common.{false≢true, keystream_xor, sealed, sealed-parts, sealed-masked}
use Rattle.noise_aead.proofs.Beginning.{at-block, tag-first, text-next}
use Rattle.noise_aead.proofs.decryption.open_in_place.Goals as goal

pub apply-requires-clause-beginning : goal.apply-requires-clause-beginning
apply-requires-clause-beginning c =
    at-block c.args.key.now c.args.nonce.now c.generator-words.result c.half_block-one_time_key.new.words (c.generator-words.ensures.place 0 refl)
    c.half_block-one_time_key.ensures.words

pub returns-else-is_same-clause-accepts : goal.returns-else-is_same-clause-accepts
returns-else-is_same-clause-accepts c =
    let a = c.args in
    let expected = tag-first a.key.now a.nonce.now a.ad.now a.buf.now c.half_block-one_time_key.result c.tag-expected.result c.generator-words.result
    (c.generator-words.ensures.place 0 refl) c.half_block-one_time_key.ensures.bytes c.tag-expected.ensures in (
      λ e. absurd (false≢true e),
      λ (text, e). sym c.if-is_same.false
          ∙ c.is_same.ensures.1 (expected ∙ sym (sealed-parts a.key.now a.nonce.now a.ad.now text a.buf.now a.tag.now c.told-tag e).1),
    )

pub returns-then-is_same-clause-accepts : goal.returns-then-is_same-clause-accepts
returns-then-is_same-clause-accepts c =
    let a = c.args in
    let expected = tag-first a.key.now a.nonce.now a.ad.now a.buf.now c.half_block-one_time_key.result c.tag-expected.result c.generator-words.result
    (c.generator-words.ensures.place 0 refl) c.half_block-one_time_key.ensures.bytes c.tag-expected.ensures in (
      λ _. (
        keystream_xor a.key.now a.nonce.now a.buf.now,
        sealed-masked a.key.now a.nonce.now a.ad.now a.buf.now a.tag.now (sym (c.is_same.ensures.0 c.if-is_same.true) ∙ expected),
      ),
      λ _. refl,
    )

pub returns-then-is_same-clause-ok : goal.returns-then-is_same-clause-ok
returns-then-is_same-clause-ok c =
    let a = c.args in
    let at = c.generator-words.ensures.place 0 refl in
    let expected = tag-first a.key.now a.nonce.now a.ad.now a.buf.now c.half_block-one_time_key.result c.tag-expected.result c.generator-words.result
    at c.half_block-one_time_key.ensures.bytes c.tag-expected.ensures in
    let text = text-next a.key.now a.nonce.now a.buf.now c.apply.new.text c.generator-words.result c.half_block-one_time_key.new.words
    at c.half_block-one_time_key.ensures.words c.apply.ensures.text in
    sealed-masked a.key.now a.nonce.now a.ad.now a.buf.now a.tag.now (sym (c.is_same.ensures.0 c.if-is_same.true) ∙ expected)
    ∙ ap (sealed a.key.now a.nonce.now a.ad.now) (sym text)
