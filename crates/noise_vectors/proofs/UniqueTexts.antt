-- No text is that of two vector files that say different things.
use Rattle.std.proofs.Common.{rules, ◌≡◌, ◌∙◌, ap, sym, refl, subst, false, ◌==◌, ℕ, List, ◌∷◌, ◌++◌, codes, get_or, Option, Some, None, []}
use Rattle.std.specs.Prelude.{decimal, Vec}
use Rattle.std.specs.Global.{Global}
use Rattle.noise_vectors.proofs.Common.{IfSome, All, decimal_injective, append_cancel_left, All-head, All-tail, Role, Initiator, Responder, IsPattern, Section, name_bytes, Plan, Spells, width_of, IsInner, hex_of, VectorTextsAreUnique, version_datagrams, expected_of, held_datagrams, version_number, AreKeys, IsDatagramEvent, IsOwn, IsVectorFile, IsVersion, block_text, datagram_event_words, datagrams_text, expect_words, header_words, is_second, key_words, line_then, lines_of, party_text, role_word, file_text, version_text, window_words, is_answer_line, FileKeys, Xor, FileDatagrams, VectorFile, Version, One, Two}
use Rattle.noise_names.specs.Text.{text_of as pattern_text}
use Rattle.noise_vectors.specs.declared.file_keys.FileKeys.TheVariants.{Table}
use Rattle.noise_vectors.proofs.AdditionLemmas.{expected-after, version-after, window_words-line}
use Rattle.noise_vectors.proofs.BlockLemmas.{block-lines, lined-pattern}
use Rattle.noise_vectors.proofs.PartLemmas.{header-lacks}
use Rattle.noise_vectors.proofs.PartyLemmas.{after_of, lacks-party, no-answer, party_text-line, words_of}
use Rattle.noise_vectors.proofs.ReadingLemmas.{interval-plain, prologue-plain, protocol-plain}
use Rattle.noise_vectors.proofs.UniqueLines.{dh-results-one, datagrams-one, events-one, expected-one, keys-one, psks-one}
use Rattle.noise_vectors.proofs.UniqueWords.{first-byte, hex-one, name-one, numbers-apart, parted-one, window-one}
use Rattle.noise_vectors.proofs.VectorLemmas.{after_block, after_header, after_initiator, after_interval, after_prologue, after_protocol, after_psks, after_responder, initiator-ends, psks-end, responder-ends}
use Rattle.noise_vectors.specs.Block as Blocks

-- ---- the pattern that a file spells

-- lines before `end` are those of one list
inner-one : (xs ys : List (List ℕ)) (u v : List ℕ) → All IsInner xs → All IsInner ys
    → lines_of Blocks.itself xs (line_then (codes "end") u) ≡ lines_of Blocks.itself ys (line_then (codes "end") v) → (xs ≡ ys) × (u ≡ v)
inner-one [] [] u v h k e = (refl, (parted-one 10 (codes "end") (codes "end") u v refl refl e).1)
inner-one [] (y ∷ ys) u v h k e =
    let good = All-head IsInner y ys k in
    absurd (good.1 (sym (parted-one 10 (codes "end") y u (lines_of Blocks.itself ys (line_then (codes "end") v)) refl good.0 e).0))
inner-one (x ∷ xs) [] u v h k e =
    let good = All-head IsInner x xs h in
    absurd (good.1 (parted-one 10 x (codes "end") (lines_of Blocks.itself xs (line_then (codes "end") u)) v good.0 refl e).0)
inner-one (x ∷ xs) (y ∷ ys) u v h k e =
    let good = All-head IsInner x xs h in
    let also = All-head IsInner y ys k in
    let parts = parted-one 10 x y (lines_of Blocks.itself xs (line_then (codes "end") u)) (lines_of Blocks.itself ys (line_then (codes "end") v)) good.0 also.0 e in
    let more = inner-one xs ys u v (All-tail IsInner x xs h) (All-tail IsInner y ys k) parts.1 in
    (cc (parts.0, more.0), more.1)

-- no text spells two patterns
abbrev PatternsOnce : Type 0
PatternsOnce = (text : List ℕ) (p q : Plan) → Spells text p → Spells text q → p ≡ q

patterns-one : PatternsOnce → (p q : Plan) (u v : List ℕ) → IsPattern p → IsPattern q
    → pattern_text p ++ line_then (codes "end") u ≡ pattern_text q ++ line_then (codes "end") v → (p ≡ q) × (u ≡ v)
patterns-one once p q u v h k e =
    let lp = lined-pattern p h in
    let lq = lined-pattern q k in
    let whole = sym (block-lines p h u (pattern_text p ++ line_then (codes "end") u) refl) ∙ e
    ∙ block-lines q k v (pattern_text q ++ line_then (codes "end") v) refl in
    let parts = inner-one lp.before lq.before u v lp.inner lq.inner whole in
    let same : pattern_text p ≡ pattern_text q =
    lp.lines_are ∙ ap (λ (xs : List (List ℕ)). lines_of Blocks.itself xs []) parts.0 ∙ sym lq.lines_are in
    (once (pattern_text p) p q (record { is_pattern = h; spelled = refl }) (record { is_pattern = k; spelled = same }), parts.1)

-- what follows the pattern is one, whatever it is
pub blocks-after : (name : Section) (a b : Option Plan) (u v : List ℕ) → IsOwn name a → IsOwn name b → block_text a u ≡ block_text b v → u ≡ v
blocks-after name None None u v h k e = e
blocks-after name None (Some q) u v h k e = absurd (cc (h.0.1 (k.0.0 refl)))
blocks-after name (Some p) None u v h k e = absurd (cc (k.0.1 (h.0.0 refl)))
blocks-after name (Some p) (Some q) u v h k e =
    let lp = lined-pattern p h.1.0 in
    let lq = lined-pattern q k.1.0 in
    let whole = sym (block-lines p h.1.0 u (pattern_text p ++ line_then (codes "end") u) refl) ∙ e
    ∙ block-lines q k.1.0 v (pattern_text q ++ line_then (codes "end") v) refl in
    (inner-one lp.before lq.before u v lp.inner lq.inner whole).1

-- of one name, both files spell a pattern, or none does
blocks-one : PatternsOnce → (name : Section) (a b : Option Plan) (u v : List ℕ) → IsOwn name a → IsOwn name b → block_text a u ≡ block_text b v
    → (a ≡ b) × (u ≡ v)
blocks-one once name None None u v h k e = (refl, e)
blocks-one once name None (Some q) u v h k e = absurd (cc (h.0.1 (k.0.0 refl)))
blocks-one once name (Some p) None u v h k e = absurd (cc (k.0.1 (h.0.0 refl)))
blocks-one once name (Some p) (Some q) u v h k e = search (rules, patterns-one)

-- ---- parties

pub first-apart : (x y : List ℕ) → x ≡ y → (get_or x 0 0 == get_or y 0 0) ≡ false → ⊥
first-apart x y e differ = numbers-apart (get_or x 0 0) (get_or y 0 0) (first-byte x y e) differ

-- of the same words both are keys of one kind, and what follows the answers is one
keys-after : (a b : FileKeys) (u v : List ℕ) → AreKeys a → AreKeys b → is_answer_line a u ≡ false → is_answer_line b v ≡ false
    → words_of a ≡ words_of b → after_of a u ≡ after_of b v → (a ≡ b) × (u ≡ v)
keys-after (Xor a) (Xor b) u v h k hu hv e after =
    let parts = keys-one a.e a.s b.e b.s h.0 h.1 k.0 k.1 (append_cancel_left (codes "xor ") (key_words a.e a.s) (key_words b.e b.s) e) in
    (ap (λ (x : _). Xor (record a { e = x })) parts.0 ∙ ap (λ (x : _). Xor (record b { s = x })) parts.1, after)
keys-after (Table a) (Table b) u v h k hu hv e after =
    let parts = keys-one a.e a.s b.e b.s h.0 h.1 k.0 k.1 (append_cancel_left (codes "table ") (key_words a.e a.s) (key_words b.e b.s) e) in
    let answers = dh-results-one a.entries b.entries u v h.3 k.3 hu hv after in (
      ap (λ (x : _). Table (record a { e = x })) parts.0 ∙ ap (λ (x : _). Table (record a { e = b.e; s = x })) parts.1
          ∙ ap (λ (x : _). Table (record b { entries = x })) answers.0,
      answers.1,
    )
keys-after a b u v h k hu hv e after = absurd (first-apart (words_of a) (words_of b) e refl)

-- the words and the answers of one party's text
pub party-parts : (role : Role) (a b : FileKeys) (u v : List ℕ) → AreKeys a → AreKeys b → party_text role a u ≡ party_text role b v
    → (words_of a ≡ words_of b) × (after_of a u ≡ after_of b v)
party-parts role a b u v h k e =
    let lines = sym (party_text-line role a u) ∙ e ∙ party_text-line role b v in
    let parts = parted-one 10 (role_word role ++ 32 ∷ words_of a) (role_word role ++ 32 ∷ words_of b) (after_of a u) (after_of b v)
    (lacks-party role a h) (lacks-party role b k) lines in
    let front = append_cancel_left (role_word role) (32 ∷ words_of a) (32 ∷ words_of b) parts.0 in
    (cc (front), parts.1)

pub party-one : (role : Role) (a b : FileKeys) (u v : List ℕ) → AreKeys a → AreKeys b → is_answer_line a u ≡ false → is_answer_line b v ≡ false
    → party_text role a u ≡ party_text role b v → (a ≡ b) × (u ≡ v)
party-one role a b u v h k hu hv e = search (rules, party-parts, keys-after)

-- ---- versions

header-one : (a b : Version) → header_words (is_second a) ≡ header_words (is_second b) → version_number a ≡ version_number b
header-one One One e = refl
header-one (Two a) (Two b) e = refl
header-one a b e = absurd (numbers-apart _ _ (ap (λ (t : List ℕ). get_or t 7 0) e) refl)

-- the datagrams and the lines that are expected
over-one : (a b : Option FileDatagrams) (xs ys : List (Vec ℕ Global)) → IfSome a (λ over. All IsDatagramEvent over.events.items)
    → IfSome b (λ over. All IsDatagramEvent over.events.items)
    → datagrams_text a (lines_of expect_words xs []) ≡ datagrams_text b (lines_of expect_words ys [])
    → (held_datagrams a ≡ held_datagrams b) × (lines_of expect_words xs [] ≡ lines_of expect_words ys [])
over-one None None xs ys h k e = (refl, e)
over-one None (Some b) (x ∷ xs) ys h k e = search first-apart
over-one (Some a) None xs (y ∷ ys) h k e = search first-apart
over-one (Some a) (Some b) xs ys h k e =
    let u = lines_of expect_words xs [] in
    let v = lines_of expect_words ys [] in
    let parts = parted-one 10 (window_words a.window) (window_words b.window) (lines_of datagram_event_words a.events.items u)
    (lines_of datagram_event_words b.events.items v) (window_words-line a.window) (window_words-line b.window) e in
    let window = window-one a.window b.window
    (append_cancel_left (codes "datagrams ") (decimal (width_of a.window)) (decimal (width_of b.window)) parts.0) in
    let events = datagrams-one a.events.items b.events.items u v h k (expected-after xs) (expected-after ys) parts.1 in
    (cc (window, events.0), events.1)
over-one _ _ _ _ h k e = absurd (cc (e))

version-one : (a b : Version) → IsVersion a → IsVersion b → version_number a ≡ version_number b → version_text a ≡ version_text b
    → (version_datagrams a ≡ version_datagrams b) × (expected_of a ≡ expected_of b)
version-one One One h k n e = (refl, refl)
version-one (Two a) (Two b) h k n e =
    let over = over-one a.datagrams b.datagrams a.expected.items b.expected.items h.0 k.0 e in
    (over.0, expected-one a.expected.items b.expected.items h.1 k.1 over.1)
version-one a b h k n e = absurd (numbers-apart (version_number a) (version_number b) n refl)

-- ---- whole files

-- the first lines
record Heads (f g : VectorFile) : Type 0 where
  number : version_number f.version ≡ version_number g.version
  protocol : f.protocol ≡ g.protocol
  block : f.block ≡ g.block
  after : after_block f ≡ after_block g

heads-one : PatternsOnce → (f g : VectorFile) → IsVectorFile f → IsVectorFile g → file_text f ≡ file_text g → Heads f g
heads-one once f g h k e =
    let header = parted-one 10 (header_words (is_second f.version)) (header_words (is_second g.version)) (after_header f) (after_header g) (header-lacks (is_second f.version))
    (header-lacks (is_second g.version)) e in
    let names = parted-one 10 (codes "protocol " ++ name_bytes f.protocol) (codes "protocol " ++ name_bytes g.protocol) (after_protocol f)
    (after_protocol g) (protocol-plain f.protocol h.protocol) (protocol-plain g.protocol k.protocol) header.1 in
    let protocol = name-one f.protocol g.protocol h.protocol k.protocol
    (append_cancel_left (codes "protocol ") (name_bytes f.protocol) (name_bytes g.protocol) names.0) in
    let own : IsOwn f.protocol g.block = subst (λ (n : Section). IsOwn n g.block) (sym protocol) k.own in
    let blocks = blocks-one once f.protocol f.block g.block (after_block f) (after_block g) h.own own names.1 in
    record {
      number = header-one f.version g.version header.0;
      protocol = protocol;
      block = blocks.0;
      after = blocks.1;
    }

-- the lines between those and the parties
record Middles (f g : VectorFile) : Type 0 where
  prologue : f.prologue.items ≡ g.prologue.items
  interval : f.interval ≡ g.interval
  psks : f.psks.items ≡ g.psks.items
  after : after_psks f ≡ after_psks g

middles-one : (f g : VectorFile) → IsVectorFile f → IsVectorFile g → after_block f ≡ after_block g → Middles f g
middles-one f g h k e =
    let first = parted-one 10 (codes "prologue " ++ hex_of f.prologue.items) (codes "prologue " ++ hex_of g.prologue.items) (after_prologue f)
    (after_prologue g) (prologue-plain f.prologue.items h.prologue) (prologue-plain g.prologue.items k.prologue) e in
    let prologue = hex-one f.prologue.items g.prologue.items h.prologue.1 k.prologue.1
    (append_cancel_left (codes "prologue ") (hex_of f.prologue.items) (hex_of g.prologue.items) first.0) in
    let second = parted-one 10 (codes "interval " ++ decimal f.interval) (codes "interval " ++ decimal g.interval) (after_interval f)
    (after_interval g) (interval-plain f.interval h.interval) (interval-plain g.interval k.interval) first.1 in
    let interval = decimal_injective f.interval g.interval h.interval k.interval
    (append_cancel_left (codes "interval ") (decimal f.interval) (decimal g.interval) second.0) in
    let psks = psks-one f.psks.items g.psks.items (after_psks f) (after_psks g) h.psks.1 k.psks.1
    (psks-end f) (psks-end g) second.1 in
    record { prologue = prologue; interval = interval; psks = psks.0; after = psks.1 }

pub texts-one : PatternsOnce → VectorTextsAreUnique
texts-one once f g h k e =
    let heads = heads-one once f g h k e in
    let middles = middles-one f g h k heads.after in
    let initiators = party-one Initiator f.initiator g.initiator (after_initiator f) (after_initiator g) h.initiator k.initiator
    (no-answer f.initiator (after_initiator f) (initiator-ends f)) (no-answer g.initiator (after_initiator g) (initiator-ends g)) middles.after in
    let responders = party-one Responder f.responder g.responder (after_responder f) (after_responder g) h.responder k.responder
    (no-answer f.responder (after_responder f) (responder-ends f)) (no-answer g.responder (after_responder g) (responder-ends g)) initiators.1 in
    let events = events-one f.events.items g.events.items (version_text f.version) (version_text g.version) h.events k.events
    (version-after f.version) (version-after g.version) responders.1 in
    let versions = version-one f.version g.version h.version k.version heads.number events.2 in
    record {
      protocol = heads.protocol;
      block = heads.block;
      prologue = middles.prologue;
      interval = middles.interval;
      psks = middles.psks;
      initiator = initiators.0;
      responder = responders.0;
      events = events.0;
      cuts = events.1;
      version = heads.number;
      datagrams = versions.0;
      expected = versions.1;
    }
