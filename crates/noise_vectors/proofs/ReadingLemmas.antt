-- The lines that a vector file begins with have no line feed (10) within.
use Rattle.std.proofs.Common.{arith, ◌≡◌, ◌<◌, ◌^◌, ◌==◌, not, Bool, true, false, true≢false, refl, subst, lit<, ℕ, List, ◌++◌, codes}
use Rattle.std.specs.Prelude.{decimal}
use Rattle.std.specs.Bool.{nat_eq}
use Rattle.noise_vectors.proofs.Common.{starts_with, eqb-true, IsSection, Section, is_section_byte, name_bytes, section_bytes, suffix, section_bytes-all, hex_of, IsShort, line_then, psk_words, IsKey, lacks}
use Rattle.noise_vectors.proofs.LackLemmas.{all_weaker, lacks-append, lacks-encode_lower, lacks-hex_of}
use Rattle.noise_vectors.proofs.WordLemmas.{lacks-decimal}

pub no_line_feed : (b : ℕ) → is_section_byte b ≡ true → not (b == 10) ≡ true
no_line_feed b h = at (b == 10) refl where
  at : (test : Bool) → (b == 10) ≡ test → not test ≡ true
  at true e = let bad : is_section_byte 10 ≡ true = subst (λ (n : ℕ). is_section_byte n ≡ true) (eqb-true b 10 e) h in absurd (cc)
  at false e = refl

pub protocol-plain : (name : Section) → IsSection name → lacks 10 (codes "protocol " ++ name_bytes name) ≡ true
protocol-plain name h =
    let section = section_bytes name.base name.places in
    lacks-append 10 section suffix (all_weaker is_section_byte (λ b. not (b == 10)) section no_line_feed (section_bytes-all name h)) refl

pub prologue-plain : (bytes : List ℕ) → IsShort bytes → lacks 10 (codes "prologue " ++ hex_of bytes) ≡ true
prologue-plain bytes h = lacks-hex_of 10 bytes (omega arith) h.1

pub interval-plain : (interval : ℕ) → interval < 2 ^ 64 → lacks 10 (codes "interval " ++ decimal interval) ≡ true
interval-plain interval h = lacks-decimal 10 interval (lit< tt) h

pub psk-plain : (psk : List ℕ) → IsKey psk → lacks 10 (psk_words psk) ≡ true
psk-plain psk h = lacks-encode_lower 10 psk (omega arith) h.1

pub psk-stands : (psk rest : List ℕ) → ¬ (starts_with nat_eq (line_then (psk_words psk) rest) (codes "psk ") ≡ false)
psk-stands psk rest h = true≢false h
