-- Files that begin with the lines before the one that is reported, and that none goes on with it, as far as the interval.
use Rattle.noise_vectors.proofs.Common.{IsSome, false≢true, append_assoc, append_cancel_left, All-nil, IsSection, Section, name_bytes, Plan, hex_of, IsHeaderLine, IsIntervalLine, IsPrologueLine, IsProtocolLine, ReportsBlock, ReportsLine, expected_of, line_feeds, IsCutFile, IsOpenBlock, IsReported, up_to_interval, up_to_prologue, up_to_protocol, ArePsks, IsAllowedFile, IsOwn, IsShort, IsVectorFile, block_text, header_words, is_second, line_then, file_text, version_text, IsKey, VectorFault, Line, Memory, FileKeys, Xor, AllowedEvents, VersionOne, VectorFile, Version, One, Two}
use denote.RawPtr.{null_ptr}
use Rattle.std.proofs.Common.{rules, arith, ◌≡◌, ◌⊎◌, ◌∙◌, ◌+◌, ◌<◌, ◌≤◌, ◌^◌, inl, inr, ap, sym, refl, subst, lit<, false, true, Bool, ℕ, List, ◌∷◌, ◌++◌, codes, length, Option, Some, None, Vec, vec_len, []}
use Rattle.std.specs.Prelude.{decimal}
use Rattle.std.specs.Global.{Global}
use Rattle.noise_names.specs.Fundamental.{fundamental_of, fundamentals}
use Rattle.noise_names.specs.Text.{text_of as pattern_text}
use Rattle.noise_vectors.proofs.AdditionLemmas.{no-second}
use Rattle.noise_vectors.proofs.BlockLemmas.{no-block}
use Rattle.noise_vectors.proofs.FrontLemmas.{cut-before, cut-within, ended-interval, ended-line, ended-prologue, front-block, front-both, front-interval, front-line, front-prologue, front-protocol, reported-line}
use Rattle.noise_vectors.proofs.PartLemmas.{header-lacks}
use Rattle.noise_vectors.proofs.ReadingLemmas.{interval-plain, prologue-plain, protocol-plain}
use Rattle.noise_vectors.proofs.ReportedLemmas.{feeds-line}
use Rattle.noise_vectors.proofs.UniqueTexts.{blocks-after}
use Rattle.noise_vectors.proofs.UniqueWords.{name-one, parted-one}
use Rattle.noise_vectors.proofs.VectorLemmas.{after_block, after_header, after_interval, after_prologue, after_protocol}
use Rattle.noise_vectors.specs.declared.faults.LineKind.TheVariants as kinds

-- ---- a file that goes on in the shortest way

-- a Vec of these
abbrev pub vec_of : {X : Type 0} → Global → (xs : List X) → length xs < 2 ^ 63 → Vec X Global
vec_of alloc xs h = record { ptr = null_ptr; len = length xs; cap = length xs; alloc = alloc; items = xs; ok = (refl, omega arith); small = h }

abbrev pub empty : {X : Type 0} → Global → Vec X Global
empty alloc = vec_of alloc [] (lit< tt)

-- it is no longer than a prologue
empty-short : 0 ≤ 65535
empty-short = omega arith

abbrev version_of : Global → Bool → Version
version_of alloc true = Two (record { datagrams = None; expected = empty alloc })
version_of alloc false = One

abbrev no_keys : FileKeys
no_keys = Xor (record { e = None; s = None })

abbrev pub sample : (alloc : Global) → Bool → Section → Option Plan → (prologue : Vec ℕ Global) → vec_len prologue ≤ 65535 → ℕ → List (List ℕ) → VectorFile
sample alloc second name block prologue short interval psks = record {
  protocol = name;
  block = block;
  prologue = prologue;
  interval = interval;
  psks = record { items = psks };
  initiator = no_keys;
  responder = no_keys;
  events = empty alloc;
  version = version_of alloc second;
  short = short;
}

pub version_of-second : (alloc : Global) (second : Bool) → is_second (version_of alloc second) ≡ second
version_of-second alloc true = refl
version_of-second alloc false = refl

pub version_of-bare : (alloc : Global) (second : Bool) → version_text (version_of alloc second) ≡ []
version_of-bare alloc true = refl
version_of-bare alloc false = refl

pub version_of-quiet : (alloc : Global) (second : Bool) → expected_of (version_of alloc second) ≡ []
version_of-quiet alloc true = refl
version_of-quiet alloc false = refl

pub sample-right : (alloc : Global) (second : Bool) (name : Section) (block : Option Plan) (prologue : Vec ℕ Global) (short : vec_len prologue ≤ 65535)
    (interval : ℕ) (psks : List (List ℕ)) → IsSection name → IsOwn name block → IsShort prologue.items → interval < 2 ^ 64 → ArePsks psks
    → IsVectorFile (sample alloc second name block prologue short interval psks)
sample-right alloc second name block prologue short interval psks h own few small are = search rules

pub sample-allowed : (alloc : Global) (allowed : AllowedEvents) (second : Bool) (name : Section) (block : Option Plan) (prologue : Vec ℕ Global)
    (short : vec_len prologue ≤ 65535) (interval : ℕ) (psks : List (List ℕ)) → (allowed ≡ VersionOne → second ≡ false)
    → IsAllowedFile allowed (sample alloc second name block prologue short interval psks)
sample-allowed alloc allowed second name block prologue short interval psks one = search rules

none-short : IsShort []
none-short = (omega arith, All-nil (λ (b : ℕ). b < 256))

none-psks : ArePsks []
none-psks = (omega arith, All-nil IsKey)

-- with nothing but a name and its pattern
abbrev plain : Global → Bool → Section → Option Plan → VectorFile
plain alloc second name block = sample alloc second name block (empty alloc) empty-short 0 []

plain-right : (alloc : Global) (second : Bool) (name : Section) (block : Option Plan) → IsSection name → IsOwn name block
    → IsVectorFile (plain alloc second name block)
plain-right alloc second name block h own = search (sample-right, none-short, lit<, none-psks)

plain-allowed : (alloc : Global) (allowed : AllowedEvents) (second : Bool) (name : Section) (block : Option Plan)
    → (allowed ≡ VersionOne → second ≡ false) → IsAllowedFile allowed (plain alloc second name block)
plain-allowed alloc allowed second name block one = sample-allowed alloc allowed second name block (empty alloc) empty-short 0 [] one

-- the first interactive pattern
abbrev nn : Section
nn = record { base = codes "NN"; places = [] }

nn-section : IsSection nn
nn-section = record { base = refl; places = refl }

nn-own : IsOwn nn None
unfolding fundamental_of fundamentals
nn-own = ((λ h. absurd (false≢true h), λ e. subst (λ (o : Option Plan). IsSome o) e refl), tt)

-- ---- the header

pub reported-of : (allowed : AllowedEvents) (text : List ℕ) (fault other : VectorFault) → fault ≡ other → IsReported allowed text other → IsReported allowed text fault
reported-of allowed text fault other e h = subst (IsReported allowed text) (sym e) h

pub next-number : (text : List ℕ) (total : ℕ) → total ≡ line_feeds text → total + 1 ≡ line_feeds text + 1
next-number text total all = ap (λ (n : ℕ). n + 1) all

pub header-reported : (alloc : Global) (allowed : AllowedEvents) (text left : List ℕ) (total : ℕ) (fault : VectorFault) → text ≡ left
    → total ≡ line_feeds text → ReportsLine (IsHeaderLine allowed) left total kinds.Header fault → IsReported allowed text fault
header-reported alloc allowed text left total fault e all (inl is) = reported-of allowed text fault Memory is tt
header-reported alloc allowed text left total fault e all (inr (inl (is, inl none))) =
    let file = plain alloc false nn None in
    reported-of allowed text fault (Line (total + 1) kinds.Ending) is (inl (cut-before allowed text left (total + 1) file (λ rest. rest)
    118 (codes "ector 1" ++ 10 ∷ after_header file) (plain-right alloc false nn None nn-section nn-own) (plain-allowed alloc allowed false nn None (λ _. refl))
    (λ rest. refl) e none refl (inl refl) (next-number text total all)))
header-reported alloc allowed text left total fault e all (inr (inl (is, inr (second, one, words)))) =
    let file = plain alloc second nn None in
    reported-of allowed text fault (Line (total + 1) kinds.Ending) is (inl (cut-within allowed text left (total + 1) file (λ rest. rest)
    (line_then (header_words second)) (after_header file) (plain-right alloc second nn None nn-section nn-own) (plain-allowed alloc allowed second nn None one)
    (λ rest. refl) (front-line (header_words second)) e (ap (λ (t : List ℕ). t ++ codes "\n") words)
    (ap (λ (s : Bool). line_then (header_words s) (after_header file)) (version_of-second alloc second)) (next-number text total all)))
header-reported alloc allowed text left total fault e all (inr (inr (it, bad))) =
    let file = plain alloc false nn None in
    reported-of allowed text fault (Line it.number kinds.Header) it.fault_is (reported-line allowed text left total kinds.Header fault (λ file rest. rest) file
    (file_text file) (plain-right alloc false nn None nn-section nn-own) (plain-allowed alloc allowed false nn None (λ _. refl)) (λ rest. refl) refl e all it
    (λ other rest h allow same.
    let parts = parted-one 10 (header_words (is_second other.version)) it.reported (after_header other) rest (header-lacks (is_second other.version)) it.is_first.0 same in
    bad (is_second other.version, no-second allowed other.version allow.1, sym parts.0)))

-- ---- the protocol

-- the header of a file is the one that was read
after-header : (second : Bool) (other : VectorFile) (rest : List ℕ) → file_text other ≡ line_then (header_words second) rest → after_header other ≡ rest
after-header true other rest e = search rules
after-header false other rest e = search rules

-- the text ends within the line of a name
protocol-cut : (alloc : Global) (allowed : AllowedEvents) (text left : List ℕ) (second : Bool) (number : ℕ) (name : Section) (known : Option Plan)
    → fundamental_of name.base ≡ known → text ≡ line_then (header_words second) left → (allowed ≡ VersionOne → second ≡ false) → IsSection name
    → left ≡ codes "protocol " ++ name_bytes name → number ≡ line_feeds text + 1 → IsCutFile allowed text number ⊎ IsOpenBlock allowed text number
protocol-cut alloc allowed text left second number name None is e one h words n =
    inr (record {
      whole = text ++ codes "\n";
      whole_is = inr refl;
      it = record {
        second = second;
        is_allowed = one;
        name = name;
        is_section = h;
        unknown = is;
        left = [];
        text_is = ap (λ (t : List ℕ). t ++ codes "\n") e ∙ append_assoc (header_words second) (10 ∷ left) (codes "\n")
            ∙ ap (λ (t : List ℕ). line_then (header_words second) (t ++ codes "\n")) words;
      };
      open_ = no-block [] refl (λ e. cc e);
      counted = n;
    })
protocol-cut alloc allowed text left second number name (Some pattern) is e one h words n =
    let own : IsOwn name None = ((λ some. absurd (false≢true some), λ none. subst (λ (o : Option Plan). IsSome o) (sym is ∙ none) refl), tt) in
    let file = plain alloc second name None in
    let here = codes "protocol " ++ name_bytes name in
    inl (cut-within allowed text left number file (line_then (header_words second)) (line_then here) (after_protocol file) (plain-right alloc second name None h own)
    (plain-allowed alloc allowed second name None one) (front-line (header_words second)) (front-line here) e (ap (λ (t : List ℕ). t ++ codes "\n") words)
    (ap (λ (s : Bool). line_then (header_words s) (after_header file)) (version_of-second alloc second)) n)

pub protocol-reported : (alloc : Global) (allowed : AllowedEvents) (text left : List ℕ) (second : Bool) (total : ℕ) (fault : VectorFault)
    → text ≡ line_then (header_words second) left → (allowed ≡ VersionOne → second ≡ false) → total ≡ line_feeds text
    → ReportsLine IsProtocolLine left total kinds.Protocol fault → IsReported allowed text fault
protocol-reported alloc allowed text left second total fault e one all (inl is) = reported-of allowed text fault Memory is tt
protocol-reported alloc allowed text left second total fault e one all (inr (inl (is, inl none))) =
    let file = plain alloc second nn None in
    reported-of allowed text fault (Line (total + 1) kinds.Ending) is (inl (cut-before allowed text left (total + 1) file (line_then (header_words second))
    112 ((codes "rotocol " ++ name_bytes nn) ++ 10 ∷ after_protocol file) (plain-right alloc second nn None nn-section nn-own)
    (plain-allowed alloc allowed second nn None one) (front-line (header_words second)) e none
    (ap (λ (s : Bool). line_then (header_words s) (after_header file)) (version_of-second alloc second))
    (ended-line (header_words second) [] (inl refl)) (next-number text total all)))
protocol-reported alloc allowed text left second total fault e one all (inr (inl (is, inr (name, h, words)))) =
    reported-of allowed text fault (Line (total + 1) kinds.Ending) is
    (protocol-cut alloc allowed text left second (total + 1) name (fundamental_of name.base) refl e one h words (next-number text total all))
protocol-reported alloc allowed text left second total fault e one all (inr (inr (it, bad))) =
    let file = plain alloc second nn None in
    reported-of allowed text fault (Line it.number kinds.Protocol) it.fault_is (reported-line allowed text left total kinds.Protocol fault up_to_protocol file
    (after_header file) (plain-right alloc second nn None nn-section nn-own) (plain-allowed alloc allowed second nn None one) (front-protocol file) refl
    (e ∙ ap (λ (s : Bool). line_then (header_words s) left) (sym (version_of-second alloc second))) all it
    (λ other rest h allow same.
    let parts = parted-one 10 (codes "protocol " ++ name_bytes other.protocol) it.reported (after_protocol other) rest
    (protocol-plain other.protocol h.protocol) it.is_first.0 (after-header (is_second file.version) other (line_then it.reported rest) same) in
    bad (other.protocol, h.protocol, sym parts.0)))

-- ---- the prologue

-- the lines before the prologue are those that were read
pub after-block : (second : Bool) (name : Section) (block : Option Plan) (other : VectorFile) (rest : List ℕ) → IsVectorFile other → IsSection name
    → IsOwn name block → file_text other ≡ line_then (header_words second) (line_then (codes "protocol " ++ name_bytes name) (block_text block rest))
    → after_block other ≡ rest
after-block second name block other rest h k own e =
    let header = after-header second other (line_then (codes "protocol " ++ name_bytes name) (block_text block rest)) e in
    let parts = parted-one 10 (codes "protocol " ++ name_bytes other.protocol) (codes "protocol " ++ name_bytes name) (after_protocol other)
    (block_text block rest) (protocol-plain other.protocol h.protocol) (protocol-plain name k) header in
    let same = name-one other.protocol name h.protocol k
    (append_cancel_left (codes "protocol ") (name_bytes other.protocol) (name_bytes name) parts.0) in
    blocks-after name other.block block (after_block other) rest (subst (λ (n : Section). IsOwn n other.block) same h.own) own parts.1

-- the lines of a sample as far as its prologue
prologue-text : (alloc : Global) (second : Bool) (file : VectorFile) (text left : List ℕ) → is_second file.version ≡ second
    → text ≡ line_then (header_words second) (line_then (codes "protocol " ++ name_bytes file.protocol) (block_text file.block left))
    → text ≡ up_to_prologue file left
prologue-text alloc second file text left same e = search

pub prologue-reported : (alloc : Global) (allowed : AllowedEvents) (text left : List ℕ) (second : Bool) (name : Section) (block : Option Plan) (total : ℕ)
    (fault : VectorFault) → text ≡ line_then (header_words second) (line_then (codes "protocol " ++ name_bytes name) (block_text block left))
    → (allowed ≡ VersionOne → second ≡ false) → IsSection name → IsOwn name block → total ≡ line_feeds text
    → ReportsLine IsPrologueLine left total kinds.Prologue fault → IsReported allowed text fault
prologue-reported alloc allowed text left second name block total fault e one h own all (inl is) = reported-of allowed text fault Memory is tt
prologue-reported alloc allowed text left second name block total fault e one h own all (inr (inl (is, inl none))) =
    let file = plain alloc second name block in
    reported-of allowed text fault (Line (total + 1) kinds.Ending) is (inl (cut-before allowed text left (total + 1) file (up_to_prologue file)
    112 ((codes "rologue " ++ hex_of []) ++ 10 ∷ after_prologue file) (plain-right alloc second name block h own)
    (plain-allowed alloc allowed second name block one) (front-prologue file)
    (prologue-text alloc second file text left (version_of-second alloc second) e) none refl (ended-prologue file [] (inl refl)) (next-number text total all)))
prologue-reported alloc allowed text left second name block total fault e one h own all (inr (inl (is, inr (bytes, few, words)))) =
    let small : length bytes < 2 ^ 63 = omega (arith, few.0) in
    let file = sample alloc second name block (vec_of alloc bytes small) few.0 0 [] in
    let here = codes "prologue " ++ hex_of bytes in
    reported-of allowed text fault (Line (total + 1) kinds.Ending) is (inl (cut-within allowed text left (total + 1) file (up_to_prologue file)
    (line_then here) (after_prologue file) (sample-right alloc second name block (vec_of alloc bytes small) few.0 0 [] h own few (lit< tt) none-psks)
    (sample-allowed alloc allowed second name block (vec_of alloc bytes small) few.0 0 [] one) (front-prologue file) (front-line here)
    (prologue-text alloc second file text left (version_of-second alloc second) e) (ap (λ (t : List ℕ). t ++ codes "\n") words) refl
    (next-number text total all)))
prologue-reported alloc allowed text left second name block total fault e one h own all (inr (inr (it, bad))) =
    let file = plain alloc second name block in
    reported-of allowed text fault (Line it.number kinds.Prologue) it.fault_is (reported-line allowed text left total kinds.Prologue fault up_to_prologue file
    (after_block file) (plain-right alloc second name block h own) (plain-allowed alloc allowed second name block one) (front-prologue file) refl
    (prologue-text alloc second file text left (version_of-second alloc second) e) all it
    (λ other rest k allow same.
    let after = after-block (is_second file.version) name block other (line_then it.reported rest) k h own same in
    let parts = parted-one 10 (codes "prologue " ++ hex_of other.prologue.items) it.reported (after_prologue other) rest
    (prologue-plain other.prologue.items k.prologue) it.is_first.0 after in
    bad (other.prologue.items, k.prologue, sym parts.0)))

-- ---- the interval

pub interval-reported : (alloc : Global) (allowed : AllowedEvents) (text left : List ℕ) (second : Bool) (name : Section) (block : Option Plan)
    (prologue : Vec ℕ Global) (short : vec_len prologue ≤ 65535) (total : ℕ) (fault : VectorFault)
    → text ≡ line_then (header_words second) (line_then (codes "protocol " ++ name_bytes name)
    (block_text block (line_then (codes "prologue " ++ hex_of prologue.items) left)))
    → (allowed ≡ VersionOne → second ≡ false) → IsSection name → IsOwn name block → IsShort prologue.items
    → total ≡ line_feeds text → ReportsLine IsIntervalLine left total kinds.Interval fault → IsReported allowed text fault
interval-reported alloc allowed text left second name block prologue short total fault e one h own few all (inl is) = reported-of allowed text fault Memory is tt
interval-reported alloc allowed text left second name block prologue short total fault e one h own few all (inr (inl (is, inl none))) =
    let file = sample alloc second name block prologue short 0 [] in
    reported-of allowed text fault (Line (total + 1) kinds.Ending) is (inl (cut-before allowed text left (total + 1) file (up_to_interval file)
    105 ((codes "nterval " ++ decimal 0) ++ 10 ∷ after_interval file)
    (sample-right alloc second name block prologue short 0 [] h own few (lit< tt) none-psks)
    (sample-allowed alloc allowed second name block prologue short 0 [] one) (front-interval file)
    (prologue-text alloc second file text (line_then (codes "prologue " ++ hex_of prologue.items) left) (version_of-second alloc second) e) none refl
    (ended-interval file [] (inl refl)) (next-number text total all)))
interval-reported alloc allowed text left second name block prologue short total fault e one h own few all (inr (inl (is, inr (interval, small, words)))) =
    let file = sample alloc second name block prologue short interval [] in
    let here = codes "prologue " ++ hex_of prologue.items in
    let there = codes "interval " ++ decimal interval in
    reported-of allowed text fault (Line (total + 1) kinds.Ending) is (inl (cut-within allowed text left (total + 1) file (up_to_interval file)
    (line_then there) (after_interval file) (sample-right alloc second name block prologue short interval [] h own few small none-psks)
    (sample-allowed alloc allowed second name block prologue short interval [] one) (front-interval file) (front-line there)
    (prologue-text alloc second file text (line_then here left) (version_of-second alloc second) e) (ap (λ (t : List ℕ). t ++ codes "\n") words) refl
    (next-number text total all)))
interval-reported alloc allowed text left second name block prologue short total fault e one h own few all (inr (inr (it, bad))) =
    let file = sample alloc second name block prologue short 0 [] in
    let here = codes "prologue " ++ hex_of prologue.items in
    reported-of allowed text fault (Line it.number kinds.Interval) it.fault_is (reported-line allowed text left total kinds.Interval fault up_to_interval file
    (after_prologue file) (sample-right alloc second name block prologue short 0 [] h own few (lit< tt) none-psks)
    (sample-allowed alloc allowed second name block prologue short 0 [] one) (front-interval file) refl
    (prologue-text alloc second file text (line_then here left) (version_of-second alloc second) e) all it
    (λ other rest k allow same.
    let after = after-block (is_second file.version) name block other (line_then here (line_then it.reported rest)) k h own same in
    let parts = parted-one 10 (codes "prologue " ++ hex_of other.prologue.items) here (after_prologue other) (line_then it.reported rest)
    (prologue-plain other.prologue.items k.prologue) (prologue-plain prologue.items few) after in
    let next = parted-one 10 (codes "interval " ++ decimal other.interval) it.reported (after_interval other) rest
    (interval-plain other.interval k.interval) it.is_first.0 parts.1 in
    bad (other.interval, k.interval, sym next.0)))

-- ---- the pattern

-- a fault of the block comes of a name whose pattern a file spells
pub block-reported : (alloc : Global) (allowed : AllowedEvents) (text left : List ℕ) (second : Bool) (name : Section) (total : ℕ) (fault : VectorFault)
    → text ≡ line_then (header_words second) (line_then (codes "protocol " ++ name_bytes name) left)
    → (allowed ≡ VersionOne → second ≡ false) → IsSection name → fundamental_of name.base ≡ None → total ≡ line_feeds text
    → ReportsBlock name left total fault → IsReported allowed text fault
block-reported alloc allowed text left second name total fault e one h unknown all (inl reports) =
    reported-of allowed text fault (Line (total + 1) kinds.Ending) reports.0 (inr (record {
      whole = text;
      whole_is = inl refl;
      it = record { second = second; is_allowed = one; name = name; is_section = h; unknown = unknown; left = left; text_is = e };
      open_ = reports.1;
      counted = next-number text total all;
    }))
block-reported alloc allowed text left second name total fault e one h unknown all (inr (inl it)) =
    let own : IsOwn name (Some it.pattern) = ((λ some. unknown, λ none. refl), (it.right, it.named)) in
    let file = plain alloc second name (Some it.pattern) in
    let here = codes "protocol " ++ name_bytes name in
    let front = front-both (line_then (header_words second)) (line_then here) (front-line (header_words second)) (front-line here) in
    reported-of allowed text fault (Line (total + 1) kinds.Ending) it.fault_is (inl (cut-within allowed text left (total + 1) file
    (λ rest. line_then (header_words second) (line_then here rest)) (block_text (Some it.pattern)) (after_block file)
    (plain-right alloc second name (Some it.pattern) h own) (plain-allowed alloc allowed second name (Some it.pattern) one) front
    (front-block (Some it.pattern)) e
    (ap (λ (t : List ℕ). t ++ codes "\n") it.text_is ∙ append_assoc (pattern_text it.pattern) (codes "end") (codes "\n"))
    (ap (λ (s : Bool). line_then (header_words s) (after_header file)) (version_of-second alloc second)) (next-number text total all)))
block-reported alloc allowed text left second name total fault e one h unknown all (inr (inr it)) =
    let whole = ap line_feeds e in
    let header = feeds-line (header_words second) (line_then (codes "protocol " ++ name_bytes name) left) (header-lacks second) in
    let protocol = feeds-line (codes "protocol " ++ name_bytes name) left (protocol-plain name h) in
    reported-of allowed text fault (Line it.number kinds.Pattern) it.fault_is (record {
      it = record { second = second; is_allowed = one; name = name; is_section = h; unknown = unknown; left = left; text_is = e };
      block = it.block;
      place = it.place;
      wrong = it.wrong;
      counted = omega (arith, it.counted, all, whole, header, protocol);
    })
