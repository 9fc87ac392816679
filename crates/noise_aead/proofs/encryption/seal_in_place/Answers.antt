use Rattle.std.proofs.Common.{List, ℕ, ◌++◌, refl, ap, ◌∙◌}
use Rattle.noise_aead.proofs.Common.{seal_tag}
use Rattle.noise_aead.proofs.Beginning.{at-block, tag-first, text-next}
use Rattle.noise_aead.proofs.encryption.seal_in_place.Goals as goal

pub apply-requires-clause-beginning : goal.apply-requires-clause-beginning
apply-requires-clause-beginning c =
    at-block c.args.key.now c.args.nonce.now c.generator-words.result c.half_block-one_time_key.new.words (c.generator-words.ensures.place 0 refl)
    c.half_block-one_time_key.ensures.words

pub returns : goal.returns
returns c =
    let a = c.args in
    let text : List ℕ = c.apply.new.text in
    let at = c.generator-words.ensures.place 0 refl in
    let ciphertext = text-next a.key.now a.nonce.now a.buf.now text c.generator-words.result c.half_block-one_time_key.new.words
    at c.half_block-one_time_key.ensures.words c.apply.ensures.text in
    let tag = tag-first a.key.now a.nonce.now a.ad.now text c.half_block-one_time_key.result c.tag.result c.generator-words.result
    at c.half_block-one_time_key.ensures.bytes c.tag.ensures in
    record {
      sealed = ap (λ (t : List ℕ). text ++ t) tag ∙ ap (λ (x : List ℕ). x ++ seal_tag a.key.now a.nonce.now a.ad.now x) ciphertext;
    }
