-- What a file gives, line by line.
use Rattle.std.proofs.Common.{◌≡◌, ◌∙◌, sym, ap, ap₂, add-one, subst, ◌<◌, ◌≤◌, ℕ, ◌+◌, List, [], ◌∷◌, ◌++◌, length, map, take, drop, get_or, arith, Bor}
use Rattle.std.specs.Prelude.{true, false}
use Rattle.std.proofs.lemmas.List.{get_or-map, length-map, length-take-le, take-append-drop, take_more}
use Rattle.std.proofs.Math.Seq.{drop-cons}
use Rattle.std.proofs.lemmas.List.Elements.{All-append, All-cons, All-nil}
use Rattle.noise_vectors.specs.HexWord.{IsHexWord, hex_of}
use Rattle.noise_vectors.proofs.HexWordLemmas.{bytes_of-word}
use Rattle.noise_vectors.proofs.UniqueWords.{hex-one}
use Rattle.noise_explain.specs.KeyLines.{AreLines, IsNoValue, IsRead, IsWrong, IsWrongFile, gives, lines_in, none, passed, pattern_places, plain_line}
use Rattle.noise_explain.specs.Values.{AreRight, IsRight, IsValueOf, fits}
use Rattle.noise_names.specs.Plan.{Plan}
use Rattle.noise_explain.specs.declared.values.Given.{Given}
use Rattle.noise_explain.specs.declared.key_lines.LineFault.{LineFault}
use Rattle.noise_explain.specs.declared.key_lines.Reading.{Reading}
use Rattle.noise_explain.specs.declared.key_lines.Reading.TheVariants.{Nothing, Value, Wrong}
use Rattle.noise_explain.specs.declared.values.Place.{Place}

-- ---- values

-- what is no word of bytes is no value
pub no-word : (place : Place) (word : List ℕ) → ¬ IsHexWord word → IsNoValue place word
no-word place word h value fit e = h (value, fit.1, e)

-- a word has one value
pub no-other : (place : Place) (word value : List ℕ) → word ≡ hex_of value → IsHexWord word → fits place value ≡ false → IsNoValue place word
no-other place word value e h unfit other fit f =
    let same : value ≡ other = hex-one value other (bytes_of-word word value e h) fit.1 (sym e ∙ f) in
    let fitting : fits place value ≡ true = subst (λ (bytes : List ℕ). fits place bytes ≡ true) (sym same) fit.0 in
    let bad : true ≡ false = sym fitting ∙ unfit in
    cc

pub its-value : (place : Place) (word value : List ℕ) → word ≡ hex_of value → IsHexWord word → fits place value ≡ true → IsValueOf place value
its-value place word value e h fitting = (fitting, bytes_of-word word value e h)

-- ---- lines

-- what lines give are values
pub lines-right : (places : List Place) (texts : List (List ℕ)) (given : List Given) → AreLines places texts given → AreRight given
lines-right places _ _ none = All-nil IsRight
lines-right places _ _ (passed texts given line h said) = lines-right places texts given h
lines-right places _ _ (gives texts given line one h is new) =
    All-append IsRight given (one ∷ []) (lines-right places texts given h) (All-cons IsRight one [] is.right (All-nil IsRight))

abbrev texts_of : List (Bor (List ℕ)) → List (List ℕ)
texts_of lines = map (λ line. line.now) lines

at-line : (lines : List (Bor (List ℕ))) (i : ℕ) (line : Bor (List ℕ)) → i < length lines → line ≡ get_or lines i line → get_or (texts_of lines) i line.now ≡ line.now
at-line lines i line within is = get_or-map (λ (l : Bor (List ℕ)). l.now) lines i line line.now within ∙ ap (λ (l : Bor (List ℕ)). l.now) (sym is)

inside : (lines : List (Bor (List ℕ))) (i : ℕ) → i < length lines → i < length (texts_of lines)
inside lines i within = subst (λ (n : ℕ). i < n) (sym (length-map lines (λ (l : Bor (List ℕ)). l.now))) within

-- one line more
one-more : (lines : List (Bor (List ℕ))) (i : ℕ) (line : Bor (List ℕ)) → i < length lines → line ≡ get_or lines i line
    → take (i + 1) (texts_of lines) ≡ take i (texts_of lines) ++ line.now ∷ []
one-more lines i line within is =
    take_more (texts_of lines) i line.now (inside lines i within)
    ∙ ap (λ (text : List ℕ). take i (texts_of lines) ++ text ∷ []) (at-line lines i line within is)

-- the lines before a line, and those after it
parted : (lines : List (Bor (List ℕ))) (i : ℕ) (line : Bor (List ℕ)) → i < length lines → line ≡ get_or lines i line
    → texts_of lines ≡ take i (texts_of lines) ++ line.now ∷ drop (i + 1) (texts_of lines)
parted lines i line within is =
    sym (take-append-drop i (texts_of lines))
    ∙ ap (λ (rest : List (List ℕ)). take i (texts_of lines) ++ rest)
    (drop-cons (texts_of lines) i line.now (inside lines i within)
    ∙ ap₂ (λ (text : List ℕ) (n : ℕ). text ∷ drop n (texts_of lines)) (at-line lines i line within is) (sym (add-one i)))

-- a line that says nothing
pub after-nothing : (places : List Place) (lines : List (Bor (List ℕ))) (i : ℕ) (line : Bor (List ℕ)) (given : List Given) (read : Reading) → i < length lines
    → line ≡ get_or lines i line → AreLines places (take i (texts_of lines)) given → IsRead places given line.now read → read ≡ Nothing
    → AreLines places (take (i + 1) (texts_of lines)) given
after-nothing places lines i line given read within is h r nothing =
    subst (λ (ts : List (List ℕ)). AreLines places ts given) (sym (one-more lines i line within is))
    (passed (take i (texts_of lines)) given line.now h (subst (λ (z : Reading). IsRead places given line.now z) nothing r))

-- a line that gives a value
pub after-value : (places : List Place) (lines : List (Bor (List ℕ))) (i : ℕ) (line : Bor (List ℕ)) (given : List Given) (read : Reading) (one : Given)
    (more : List Given) → i < length lines → line ≡ get_or lines i line → AreLines places (take i (texts_of lines)) given
    → IsRead places given line.now read → read ≡ Value one → more ≡ given ++ one ∷ [] → AreLines places (take (i + 1) (texts_of lines)) more
after-value places lines i line given read one more within is h r value pushed =
    let found : IsRead places given line.now (Value one) = subst (λ (z : Reading). IsRead places given line.now z) value r in
    subst (λ (gs : List Given). AreLines places (take (i + 1) (texts_of lines)) gs) (sym pushed)
    (subst (λ (ts : List (List ℕ)). AreLines places ts (given ++ one ∷ [])) (sym (one-more lines i line within is))
    (gives (take i (texts_of lines)) given line.now one h found.0 found.1))

-- a wrong line
pub wrong-file : (p : Plan) (text : List ℕ) (places : List Place) (lines : List (Bor (List ℕ))) (i : ℕ) (line : Bor (List ℕ)) (given : List Given)
    (read : Reading) (why : LineFault) → places ≡ pattern_places p → texts_of lines ≡ lines_in text → i < length lines → line ≡ get_or lines i line
    → AreLines places (take i (texts_of lines)) given → IsRead places given line.now read → read ≡ Wrong why → IsWrongFile p text (i + 1) why
wrong-file p text places lines i line given read why same split within is h r wrong =
    let found : IsRead places given line.now (Wrong why) = subst (λ (z : Reading). IsRead places given line.now z) wrong r in
    let few : i ≤ length (texts_of lines) = omega (arith, inside lines i within) in
    record {
      before = take i (texts_of lines);
      line = line.now;
      after = drop (i + 1) (texts_of lines);
      lines = sym split ∙ parted lines i line within is;
      number_is = ap (λ (n : ℕ). n + 1) (sym (length-take-le i (texts_of lines) few));
      given = given;
      right = subst (λ (ps : List Place). AreLines ps (take i (texts_of lines)) given) same h;
      said = found.0;
      wrong = subst (λ (ps : List Place). IsWrong ps given (plain_line line.now) why) same found.1;
    }
