-- The names that most of these proofs cite, passed on from one place. Declares nothing.
pub use Rattle.rand_chacha.specs.ChaCha.{ChaCha, key_of, next_word, word_at}
pub use Rattle.std.proofs.lemmas.Bool.{cases_lt, eq-eqb, eqb-true, false≢true}
pub use Rattle.std.proofs.lemmas.List.{drop_at, ext_get_or, take-replicate, take_at}
pub use Rattle.std.specs.Int.{byte_at, byte_worth, from_le_bytes, sum_through, to_le_bytes, w128, w32, w64}
pub use Rattle.std.specs.List.{flat_map, range_with_len}
pub use Rattle.std.specs.Prelude.{bit_xor}
pub use Rattle.std.specs.Simd.Lanes.{Each1, digits_l, number_l, zip2}
pub use Rattle.noise_poly.specs.Poly.{number, tag_of}
pub use Rattle.noise_aead.specs.Sealed.{length-masked, length-sealed, length-xored, sealed-masked, sealed-parts, sealed-same, tag_of-seal}
pub use Rattle.noise_aead.specs.Sealing.{authenticated, byte_from, generator_at, keystream_xor, nonce_of, padding, seal_tag, sealed, stream_byte, stream_bytes, xored}
