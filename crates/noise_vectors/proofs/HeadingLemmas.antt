-- The heading of a name, with which the text of a pattern begins.
use Rattle.std.proofs.Common.{rules, arith, ◌≡◌, ◌∙◌, ◌==◌, ◌↔◌, ◌&&◌, ap, sym, not, true, false, Bool, ℕ, List, ◌∷◌, ◌++◌, codes, drop, []}
use Rattle.std.specs.Bool.{nat_eq}
use Rattle.noise_vectors.proofs.Common.{bytes_eq, starts_with, Decides-eqb, nat_tests, append_assoc, append_cancel_right, starts_is, Initiator, section_bytes-all, IsPattern, IsSection, Section, is_section_byte, prefix, section_bytes, suffix, Plan, message_lines, pre_lines, heading_of, line_then, lacks, HasHeading}
use Rattle.noise_names.specs.Text.{text_of as pattern_text}
use Rattle.noise_vectors.proofs.BlockLemmas.{heading-plain}
use Rattle.noise_vectors.proofs.LackLemmas.{all_weaker}
use Rattle.noise_vectors.proofs.PartyLemmas.{after-front}
use Rattle.noise_vectors.proofs.UniqueWords.{name-one, parted-one}

not_underscore : (b : ℕ) → is_section_byte b ≡ true → not (b == 95) ≡ true
not_underscore b h = grind (arith, nat_tests)

-- no byte of a pattern section is that which stands before it and after it in a name
pub section-plain : (name : Section) → IsSection name → lacks 95 (section_bytes name.base name.places) ≡ true
section-plain name h =
    all_weaker is_section_byte (λ b. not (b == 95)) (section_bytes name.base name.places) not_underscore (section_bytes-all name h)

abbrev pub own_name : Plan → Section
own_name p = record { base = p.base; places = p.places }

-- the text of a pattern begins with the heading of no other name
pub heading-one : (p : Plan) (name : Section) (text : List ℕ) → IsPattern p → IsSection name → text ≡ pattern_text p → (rest : List ℕ)
    → text ≡ line_then (heading_of name) rest → own_name p ≡ name
heading-one p name text h k e rest begun =
    let own = own_name p in
    let right : IsSection own = record { base = h.base; places = h.places } in
    let pre = pre_lines p.initiator p.responder in
    let messages = message_lines Initiator p.messages in
    let whole : pattern_text p ≡ heading_of own ++ 10 ∷ (pre ++ messages) =
    append_assoc (heading_of own ++ 10 ∷ []) pre messages ∙ append_assoc (heading_of own) (10 ∷ []) (pre ++ messages) in
    let parts = parted-one 10 (heading_of own) (heading_of name) (pre ++ messages) rest (heading-plain own right) (heading-plain name k)
    (sym whole ∙ sym e ∙ begun) in
    let sections : section_bytes p.base p.places ≡ section_bytes name.base name.places =
    append_cancel_right (section_bytes p.base p.places) (section_bytes name.base name.places) (codes ":") parts.0 in
    name-one own name right k (ap (λ (s : List ℕ). prefix ++ s ++ suffix) sections)

-- it is the section, a colon and a line feed
pub heading-parts : (name : Section) (text rest : List ℕ) → text ≡ line_then (heading_of name) rest
    → text ≡ section_bytes name.base name.places ++ (codes ":\n" ++ rest)
heading-parts name text rest e = e ∙ append_assoc (section_bytes name.base name.places) (codes ":") (10 ∷ rest)

-- a text that begins with the section begins with the heading where a colon and a line feed follow
pub heading-test : (name : Section) (text after : List ℕ) (test : Bool) → text ≡ section_bytes name.base name.places ++ after
    → test ≡ starts_with nat_eq after (codes ":\n") → (test ≡ true) ↔ HasHeading name text
heading-test name text after test split value =
    let section = section_bytes name.base name.places in
    let is = starts_is Decides-eqb after (codes ":\n") test value in (
      λ yes. (
        drop 2 after,
        split ∙ ap (λ (t : List ℕ). section ++ t) (is.0 yes) ∙ sym (append_assoc section (codes ":") (10 ∷ drop 2 after)),
      ),
      λ begun. is.1 begun.0 (after-front _ _ _ split (heading-parts name text begun.0 begun.1)),
    )

-- a test that two names are one says so where they are
pub other-name : (a b : Section) (test : Bool) → test ≡ bytes_eq a.base b.base && bytes_eq a.places b.places → test ≡ false → ¬ (a ≡ b)
other-name a b test is differ e = search rules
