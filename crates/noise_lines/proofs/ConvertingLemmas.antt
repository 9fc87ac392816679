-- The text of a version 1 file, as one of version 2.
use Rattle.std.proofs.Common.{◌≡◌, ◌∙◌, ap, sym, refl, ℕ, ◌+◌, ◌≤◌, Vec, List, [], ◌∷◌, ◌++◌, Option, Some, None, codes, length, take, append_assoc, decimal}
use Rattle.std.specs.Global.{Global}
use Rattle.noise_lines.proofs.Common.{flat_map, take_all, bytes_of, hex_of}
use Rattle.noise_names.specs.declared.token.Role.{Role}
use Rattle.noise_names.specs.declared.token.Role.TheVariants.{Initiator, Responder}
use Rattle.noise_names.specs.Names.{name_bytes}
use Rattle.noise_names.specs.Plan.{Plan}
use Rattle.noise_vectors.specs.VectorText.{answer_words, block_text, event_words, expect_line, header_words, is_second, line_then, lines_of, party_text, key_words, psk_words, role_word, text_body, file_text, version_text}
use Rattle.noise_vectors.specs.declared.file_keys.FileKeys.{FileKeys}
use Rattle.noise_vectors.specs.declared.file_keys.FileKeys.TheVariants.{Xor, Table}
use Rattle.noise_vectors.specs.declared.vector.VectorFile.{VectorFile}
use Rattle.noise_vectors.specs.declared.vector.Version.{Version}
use Rattle.noise_vectors.specs.declared.vector.Version.TheVariants.{One}
use Rattle.noise_lines.specs.Converted.{converted_text}
use Rattle.noise_names.specs.Text as PatternText

-- ---- what follows the lines of a text

line-after : (t a b : List ℕ) → line_then t (a ++ b) ≡ line_then t a ++ b
line-after t a b = sym (append_assoc t (10 ∷ a) b)

lines-after : {A : Type 0} (words : A → List ℕ) (xs : List A) (a b : List ℕ) → lines_of words xs (a ++ b) ≡ lines_of words xs a ++ b
lines-after words [] a b = refl
lines-after words (x ∷ xs) a b = ap (line_then (words x)) (lines-after words xs a b) ∙ line-after (words x) (lines_of words xs a) b

party-after : (role : Role) (keys : FileKeys) (a b : List ℕ) → party_text role keys (a ++ b) ≡ party_text role keys a ++ b
party-after role (Xor keys) a b = line-after (role_word role ++ (codes " xor " ++ key_words keys.e keys.s)) a b
party-after role (Table keys) a b =
    let first : List ℕ = role_word role ++ (codes " table " ++ key_words keys.e keys.s) in
    ap (λ (t : List ℕ). line_then first t) (lines-after answer_words keys.entries a b) ∙ line-after first (lines_of answer_words keys.entries a) b

block-after : (block : Option Plan) (a b : List ℕ) → block_text block (a ++ b) ≡ block_text block a ++ b
block-after None a b = refl
block-after (Some p) a b =
    ap (λ (t : List ℕ). PatternText.text_of p ++ t) (line-after (codes "end") a b) ∙ sym (append_assoc (PatternText.text_of p) (line_then (codes "end") a) b)

pub body-after : (file : VectorFile) (rest : List ℕ) → text_body file rest ≡ text_body file [] ++ rest
body-after file rest =
    let events = lines-after event_words file.events.items [] rest in
    let responder = ap (party_text Responder file.responder) events ∙ party-after Responder file.responder (lines_of event_words file.events.items []) rest in
    let initiator = ap (party_text Initiator file.initiator) responder ∙ party-after Initiator file.initiator _ rest in
    let psks = ap (lines_of psk_words file.psks.items) initiator ∙ lines-after psk_words file.psks.items _ rest in
    let interval = ap (line_then (codes "interval " ++ decimal file.interval)) psks ∙ line-after (codes "interval " ++ decimal file.interval) _ rest in
    let prologue = ap (line_then (codes "prologue " ++ hex_of file.prologue.items)) interval ∙ line-after (codes "prologue " ++ hex_of file.prologue.items) _ rest in
    let block = ap (block_text file.block) prologue ∙ block-after file.block _ rest in
    ap (line_then (codes "protocol " ++ name_bytes file.protocol)) block ∙ line-after (codes "protocol " ++ name_bytes file.protocol) _ rest

first-text : (file : VectorFile) → file.version ≡ One → file_text file ≡ line_then (codes "vector 1") (text_body file [])
first-text file one = ap (λ (v : Version). line_then (header_words (is_second v)) (text_body file (version_text v))) one

same-after : (a b : List ℕ) → line_then (codes "vector 1") a ≡ line_then (codes "vector 1") b → a ≡ b
same-after a b e = cc e

-- the converted text, by what follows the header of version 1
pub converted-is : (file : VectorFile) (lines : List (List ℕ)) (text beyond converted : List ℕ) → file.version ≡ One → text ≡ file_text file
    → text ≡ line_then (codes "vector 1") beyond → converted ≡ line_then (codes "vector 2") beyond ++ lines_of expect_line lines []
    → converted ≡ converted_text file lines
converted-is file lines text beyond converted one spelled begun is =
    let same : beyond ≡ text_body file [] = same-after beyond (text_body file []) (sym begun ∙ spelled ∙ first-text file one) in
    is ∙ ap (λ (t : List ℕ). line_then (codes "vector 2") t ++ lines_of expect_line lines []) same
    ∙ sym (line-after (codes "vector 2") (text_body file []) (lines_of expect_line lines []))
    ∙ ap (line_then (codes "vector 2")) (sym (body-after file (lines_of expect_line lines [])))

-- ---- the lines of what is expected

abbrev pub expectation : Vec ℕ Global → List ℕ
expectation l = line_then (expect_line l.items) []

pub expectations-text : (lines : List (Vec ℕ Global)) → flat_map expectation lines ≡ lines_of expect_line (bytes_of lines) []
expectations-text [] = refl
expectations-text (l ∷ ls) =
    ap (λ (t : List ℕ). expectation l ++ t) (expectations-text ls) ∙ append_assoc (expect_line l.items) (10 ∷ []) (lines_of expect_line (bytes_of ls) [])

pub expectations-done : (lines items : List (Vec ℕ Global)) (i : ℕ) (before now : List ℕ) → items ≡ lines → length items ≤ i
    → now ≡ before ++ flat_map expectation (take i lines) → now ≡ before ++ lines_of expect_line (bytes_of lines) []
expectations-done lines items i before now same all inv =
    let past : length lines ≤ i = rw (← same) all in
    inv ∙ ap (λ (ls : List (Vec ℕ Global)). before ++ flat_map expectation ls) (take_all i lines past)
    ∙ ap (λ (t : List ℕ). before ++ t) (expectations-text lines)
