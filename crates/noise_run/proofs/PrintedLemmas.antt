-- The lines of a run, as they are made and written.
use Rattle.std.proofs.Common.{rules, ◌≡◌, ◌∙◌, ap, ap₂, sym, refl, ℕ, ◌+◌, ◌<◌, ◌≤◌, Vec, List, [], ◌∷◌, ◌++◌, Some, length, get_or, map, take, add-one, append_assoc}
use Rattle.std.specs.Prelude.{slice_get}
use Rattle.std.proofs.Math.Seq.{take-suc}
use Rattle.std.proofs.lemmas.Option.{slice_get_read, slice_get_within, get_or_from_slice_get}
use Rattle.noise_run.proofs.Common.{Global, take_all, All-push, All-same, Role, Entry, note_of, notes_of, Sides, bytes_of, IsExpected, AreExpected, note_line}
use Rattle.noise_duel.specs.declared.datagram_report.DatagramEntry.{DatagramEntry}
use Rattle.noise_duel.specs.DatagramReports.{datagram_note_of, datagram_notes_of}
use Rattle.noise_run.specs.PrintedDatagrams.{datagram_line}

-- ---- lists of lines

pub bytes-push : (lines : List (Vec ℕ Global)) (v : Vec ℕ Global) → bytes_of (lines ++ v ∷ []) ≡ bytes_of lines ++ v.items ∷ []
bytes-push [] v = refl
bytes-push (l ∷ ls) v = ap (λ (t : List (List ℕ)). l.items ∷ t) (bytes-push ls v)

mapped-push : {X : Type 0} (f : X → List ℕ) (xs : List X) (x : X) → map f (xs ++ x ∷ []) ≡ map f xs ++ f x ∷ []
mapped-push f [] x = refl
mapped-push f (y ∷ ys) x = ap (λ (t : List (List ℕ)). f y ∷ t) (mapped-push f ys x)

-- the lines of one element more
mapped-more : {X : Type 0} (f : X → List ℕ) (xs : List X) (i : ℕ) (x : X) → slice_get xs i ≡ Some x
    → map f (take i xs) ++ f x ∷ [] ≡ map f (take (i + 1) xs)
mapped-more {X = X} f xs i x found =
    sym (mapped-push f (take i xs) x)
    ∙ ap (λ (e : X). map f (take i xs ++ e ∷ [])) (sym (get_or_from_slice_get xs i x x found))
    ∙ ap (λ (ys : List X). map f ys) (sym (take-suc xs i x (slice_get_within xs i x found)))
    ∙ ap (λ (k : ℕ). map f (take k xs)) (sym (add-one i))

-- the element at a place that a loop has come to
at-place : {X : Type 0} (xs items : List X) (i : ℕ) (x : X) → items ≡ xs → i < length items → x ≡ get_or items i x → slice_get xs i ≡ Some x
at-place xs items i x same less is =
    let found : slice_get items i ≡ Some x = slice_get_read items (length items) i x refl less is in
    rw (← same) found

-- the line of one element more is pushed
pub line-pushed : {X : Type 0} (f : X → List ℕ) (before : List (List ℕ)) (lines after : List (Vec ℕ Global)) (v : Vec ℕ Global) (xs items : List X)
    (i : ℕ) (x : X) → items ≡ xs → i < length items → x ≡ get_or items i x → v.items ≡ f x → bytes_of lines ≡ before ++ map f (take i xs)
    → after ≡ lines ++ v ∷ [] → bytes_of after ≡ before ++ map f (take (i + 1) xs)
line-pushed f before lines after v xs items i x same less is text inv pushed =
    ap bytes_of pushed ∙ bytes-push lines v
    ∙ ap₂ (λ (a : List (List ℕ)) (t : List ℕ). a ++ t ∷ []) inv text
    ∙ append_assoc before (map f (take i xs)) (f x ∷ [])
    ∙ ap (λ (t : List (List ℕ)). before ++ t) (mapped-more f xs i x (at-place xs items i x same less is))

-- all are
pub lines-done : {X : Type 0} (f : X → List ℕ) (before bytes : List (List ℕ)) (xs items : List X) (i : ℕ) → items ≡ xs → length items ≤ i
    → bytes ≡ before ++ map f (take i xs) → bytes ≡ before ++ map f xs
lines-done {X = X} f before bytes xs items i same all inv =
    let past : length xs ≤ i = rw (← same) all in
    inv ∙ ap (λ (ys : List X). before ++ map f ys) (take_all i xs past)

abbrev is_line : Vec ℕ Global → Type 0
is_line words = IsExpected words.items

-- one line more that a file may expect
pub expected-push : (lines after : List (Vec ℕ Global)) (v : Vec ℕ Global) → after ≡ lines ++ v ∷ [] → IsExpected v.items → AreExpected lines
    → AreExpected after
expected-push lines after v pushed here h =
    All-same is_line after (lines ++ v ∷ []) pushed (All-push is_line lines v h here)

-- two lines more
pub two-pushed : (lines one two : List (Vec ℕ Global)) (v w : Vec ℕ Global) (first second : List ℕ) → one ≡ lines ++ v ∷ [] → two ≡ one ++ w ∷ []
    → v.items ≡ first → w.items ≡ second → bytes_of two ≡ bytes_of lines ++ first ∷ second ∷ []
two-pushed lines one two v w first second a b is also = search (rules, bytes-push, append_assoc)

-- ---- the lines of a report

-- the line of an entry
abbrev pub entry_line_of : Sides → Role × Entry → List ℕ
entry_line_of d e = note_line d (e.0, note_of e.1)

pub entries-lines : (d : Sides) (entries : List (Role × Entry)) → map (entry_line_of d) entries ≡ map (note_line d) (notes_of entries)
entries-lines d [] = refl
entries-lines d (e ∷ es) = ap (λ (t : List (List ℕ)). entry_line_of d e ∷ t) (entries-lines d es)

abbrev pub datagram_line_of : Role × DatagramEntry → List ℕ
datagram_line_of e = datagram_line (e.0, datagram_note_of e.1)

pub datagram_entries-lines : (entries : List (Role × DatagramEntry)) → map datagram_line_of entries ≡ map datagram_line (datagram_notes_of entries)
datagram_entries-lines [] = refl
datagram_entries-lines (e ∷ es) = ap (λ (t : List (List ℕ)). datagram_line_of e ∷ t) (datagram_entries-lines es)
