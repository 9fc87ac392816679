use Rattle.std.proofs.Common.{◌≡◌, ℕ, ◌+◌, [], ◌∷◌, refl, ap, sym, ◌∙◌, arith, add-zero}
use Rattle.noise_aead.proofs.Common.{w32, to_le_bytes, flat_map, ChaCha, word_at}
use Rattle.noise_aead.specs.Sealing.{bytes_from}
use Rattle.noise_aead.proofs.Blocks.{words_cut, next, sixteen_words}
use Rattle.noise_aead.proofs.keystream.block.Goals as goal

pub returns-clause-bytes : goal.returns-clause-bytes
unfolding bytes_from
returns-clause-bytes c =
    let h : ChaCha = c.args.words.now in
    let start : h ≡ record h { word_pos = h.word_pos + 0 } = ap (λ (p : ℕ). record h { word_pos = p }) (sym (add-zero h.word_pos)) in
    let s0 = next h h c.next_word-w0.new.self 0 c.next_word-w0.result start c.next_word-w0.ensures (omega arith) in
    let s1 = next h c.next_word-w0.new.self c.next_word-w1.new.self 1 c.next_word-w1.result s0.1 c.next_word-w1.ensures (omega arith) in
    let s2 = next h c.next_word-w1.new.self c.next_word-w2.new.self 2 c.next_word-w2.result s1.1 c.next_word-w2.ensures (omega arith) in
    let s3 = next h c.next_word-w2.new.self c.next_word-w3.new.self 3 c.next_word-w3.result s2.1 c.next_word-w3.ensures (omega arith) in
    let s4 = next h c.next_word-w3.new.self c.next_word-w4.new.self 4 c.next_word-w4.result s3.1 c.next_word-w4.ensures (omega arith) in
    let s5 = next h c.next_word-w4.new.self c.next_word-w5.new.self 5 c.next_word-w5.result s4.1 c.next_word-w5.ensures (omega arith) in
    let s6 = next h c.next_word-w5.new.self c.next_word-w6.new.self 6 c.next_word-w6.result s5.1 c.next_word-w6.ensures (omega arith) in
    let s7 = next h c.next_word-w6.new.self c.next_word-w7.new.self 7 c.next_word-w7.result s6.1 c.next_word-w7.ensures (omega arith) in
    let s8 = next h c.next_word-w7.new.self c.next_word-w8.new.self 8 c.next_word-w8.result s7.1 c.next_word-w8.ensures (omega arith) in
    let s9 = next h c.next_word-w8.new.self c.next_word-w9.new.self 9 c.next_word-w9.result s8.1 c.next_word-w9.ensures (omega arith) in
    let s10 = next h c.next_word-w9.new.self c.next_word-w10.new.self 10 c.next_word-w10.result s9.1 c.next_word-w10.ensures (omega arith) in
    let s11 = next h c.next_word-w10.new.self c.next_word-w11.new.self 11 c.next_word-w11.result s10.1 c.next_word-w11.ensures (omega arith) in
    let s12 = next h c.next_word-w11.new.self c.next_word-w12.new.self 12 c.next_word-w12.result s11.1 c.next_word-w12.ensures (omega arith) in
    let s13 = next h c.next_word-w12.new.self c.next_word-w13.new.self 13 c.next_word-w13.result s12.1 c.next_word-w13.ensures (omega arith) in
    let s14 = next h c.next_word-w13.new.self c.next_word-w14.new.self 14 c.next_word-w14.result s13.1 c.next_word-w14.ensures (omega arith) in
    let s15 = next h c.next_word-w14.new.self c.next_word-w15.new.self 15 c.next_word-w15.result s14.1 c.next_word-w15.ensures (omega arith) in
    let cut : c.bytes_of.result ≡ flat_map (to_le_bytes w32) (
    c.next_word-w0.result ∷ c.next_word-w1.result ∷ c.next_word-w2.result ∷ c.next_word-w3.result ∷
    c.next_word-w4.result ∷ c.next_word-w5.result ∷ c.next_word-w6.result ∷ c.next_word-w7.result ∷
    c.next_word-w8.result ∷ c.next_word-w9.result ∷ c.next_word-w10.result ∷ c.next_word-w11.result ∷
    c.next_word-w12.result ∷ c.next_word-w13.result ∷ c.next_word-w14.result ∷ c.next_word-w15.result ∷ []) =
    c.bytes_of.ensures ∙ words_cut (
    c.next_word-w0.result ∷ c.next_word-w1.result ∷ c.next_word-w2.result ∷ c.next_word-w3.result ∷
    c.next_word-w4.result ∷ c.next_word-w5.result ∷ c.next_word-w6.result ∷ c.next_word-w7.result ∷
    c.next_word-w8.result ∷ c.next_word-w9.result ∷ c.next_word-w10.result ∷ c.next_word-w11.result ∷
    c.next_word-w12.result ∷ c.next_word-w13.result ∷ c.next_word-w14.result ∷ c.next_word-w15.result ∷ []) ((
      c.next_word-w0.type_inv,
      (
        c.next_word-w1.type_inv,
        (
          c.next_word-w2.type_inv,
          (
            c.next_word-w3.type_inv,
            (
              c.next_word-w4.type_inv,
              (
                c.next_word-w5.type_inv,
                (
                  c.next_word-w6.type_inv,
                  (
                    c.next_word-w7.type_inv,
                    (
                      c.next_word-w8.type_inv,
                      (
                        c.next_word-w9.type_inv,
                        (
                          c.next_word-w10.type_inv,
                          (
                            c.next_word-w11.type_inv,
                            (c.next_word-w12.type_inv, (c.next_word-w13.type_inv, (c.next_word-w14.type_inv, (c.next_word-w15.type_inv, tt {0})))),
                          ),
                        ),
                      ),
                    ),
                  ),
                ),
              ),
            ),
          ),
        ),
      ),
    )) 64 refl in
    cut
    ∙ rw (s0.0, s1.0, s2.0, s3.0, s4.0, s5.0, s6.0, s7.0, s8.0, s9.0, s10.0, s11.0, s12.0, s13.0, s14.0, s15.0)
    (sixteen_words (word_at 10 h.key h.stream) h.word_pos)
