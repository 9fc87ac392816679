-- What the logged values of a step show.
use Rattle.std.specs.Prelude.{ℕ, ◌+◌, ◌-◌, ◌==◌, ◌&&◌, Bool, not, List, [], ◌∷◌, ◌++◌, Option, Some, None, codes, count_by, decimal, drop, fold, if◌then◌else◌, length, nat_le, nat_lt, take}
use Rattle.std.specs.List.{take_while}
use Rattle.noise_compare.specs.Holding.{found_equations, is_value_right, logged_value}
use Rattle.noise_compare.specs.Report.{ended, joined}
use Rattle.noise_compare.specs.declared.state.Kind.{Kind}
use Rattle.noise_compare.specs.declared.state.Kind.TheVariants as kind
use Rattle.noise_compare.specs.declared.state.Situation.{Situation}
use Rattle.noise_compare.specs.declared.state.Logged.{Logged}
use Rattle.noise_compare.specs.declared.equation.Value.{Value}
use Rattle.noise_compare.specs.declared.equation.Value.TheVariants as value
use Rattle.noise_compare.specs.declared.equation.Source.{Source}
use Rattle.noise_compare.specs.declared.equation.Source.TheVariants.{Nothing, Zeros, Hash, ChainingKey, Key, RightHash, RightChainingKey, RightKey, Name, Taken, RightBytes, LoggedBytes, LoggedHash, LoggedChainingKey}
use Rattle.noise_compare.specs.declared.equation.Form.{Form}
use Rattle.noise_compare.specs.declared.equation.Form.TheVariants.{Plain, Reversed, Digested, HexDigits, Doubled, WithoutFirst, WithoutLast, WithoutTag, ZeroInFront, ZeroBehind, LineFeedBehind, TagBehind, LengthByte, BigLength2, LittleLength2, BigLength4, LittleLength4, BigLength8, LittleLength8, TypeInFront, HalfZeroed}
use Rattle.noise_compare.specs.declared.equation.Expansion.{Expansion}
use Rattle.noise_compare.specs.declared.equation.Expansion.TheVariants.{Standard, FromZero, Digits, BigCounter, LittleCounter, CounterInFront, NoCounter, Unchained, Exchanged}
use Rattle.noise_compare.specs.declared.equation.Output.{Output}
use Rattle.noise_compare.specs.declared.equation.Output.TheVariants.{First, Second, Third}
use Rattle.noise_compare.specs.declared.equation.Derivation.{Derivation}
use Rattle.noise_compare.specs.declared.equation.Derivation.TheVariants.{DigestFirst, KeysHashed, NameAsInfo, ExpandAlone}
use Rattle.noise_compare.specs.declared.equation.RekeyNonce.{RekeyNonce}
use Rattle.noise_compare.specs.declared.equation.RekeyNonce.TheVariants as nonce
use Rattle.noise_compare.specs.declared.equation.Operation.{Operation}
use Rattle.noise_compare.specs.declared.equation.Operation.TheVariants.{Same, Digest, DigestAfter, DigestBefore, MixedTwice, MixedFirst, MixedOutput, Code, CodeUnder, Expanded, ExpandedBy, Derived, Sealed, SealedAlone, SealedWith, SealedUnder, Renewed, RenewedWith, ButTag}
use Rattle.noise_compare.specs.declared.equation.Equation.{Equation}

-- ---- the words of an equation

unfoldable pub value_word : Value → List ℕ
value_word value.Bytes = codes "bytes"
value_word value.Hash = codes "h"
value_word value.ChainingKey = codes "ck"
value_word value.Key = codes "k"

unfoldable pub taken_word : Kind → List ℕ
taken_word kind.Name = codes "name"
taken_word kind.Prologue = codes "prologue"
taken_word kind.Data = codes "public key"
taken_word kind.Ephemeral = codes "e"
taken_word kind.Agreement = codes "DH result"
taken_word kind.Secret = codes "psk"
taken_word kind.Text = codes "text"
taken_word other = codes "nothing"

unfoldable pub source_word : Kind → Source → List ℕ
source_word k Nothing = codes "nothing"
source_word k Zeros = codes "32 zeros"
source_word k Hash = codes "h"
source_word k ChainingKey = codes "ck"
source_word k Key = codes "k"
source_word k RightHash = codes "right h"
source_word k RightChainingKey = codes "right ck"
source_word k RightKey = codes "right k"
source_word k Name = codes "name"
source_word k Taken = taken_word k
source_word k RightBytes = codes "right bytes"
source_word k LoggedBytes = codes "your bytes"
source_word k LoggedHash = codes "your h"
source_word k LoggedChainingKey = codes "your ck"

-- what stands before and after it in a form
unfoldable pub form_words : Form → List ℕ × List ℕ
form_words Plain = ([], [])
form_words Reversed = (codes "reversed(", codes ")")
form_words Digested = (codes "SHA256(", codes ")")
form_words HexDigits = (codes "hex digits(", codes ")")
form_words Doubled = (codes "twice(", codes ")")
form_words WithoutFirst = ([], codes " without its first byte")
form_words WithoutLast = ([], codes " without its last byte")
form_words WithoutTag = ([], codes " without its last 16 bytes")
form_words ZeroInFront = (codes "a zero byte + ", [])
form_words ZeroBehind = ([], codes " + a zero byte")
form_words LineFeedBehind = ([], codes " + a line feed")
form_words TagBehind = ([], codes " + 16 zero bytes")
form_words LengthByte = (codes "1-byte length + ", [])
form_words BigLength2 = (codes "2-byte big-endian length + ", [])
form_words LittleLength2 = (codes "2-byte little-endian length + ", [])
form_words BigLength4 = (codes "4-byte big-endian length + ", [])
form_words LittleLength4 = (codes "4-byte little-endian length + ", [])
form_words BigLength8 = (codes "8-byte big-endian length + ", [])
form_words LittleLength8 = (codes "8-byte little-endian length + ", [])
form_words TypeInFront = (codes "a byte 05 + ", [])
form_words HalfZeroed = (codes "the first 16 bytes of ", codes " + 16 zero bytes")

unfoldable pub expansion_word : Expansion → List ℕ
expansion_word Standard = []
expansion_word FromZero = codes " counted from 0"
expansion_word Digits = codes " counted by ASCII digits"
expansion_word BigCounter = codes " with a big-endian counter of 4 bytes"
expansion_word LittleCounter = codes " with a little-endian counter of 4 bytes"
expansion_word CounterInFront = codes " with the counter in front"
expansion_word NoCounter = codes " without a counter"
expansion_word Unchained = codes " without the output before"
expansion_word Exchanged = codes " with key and text of its last HMACs exchanged"

unfoldable pub derivation_word : Derivation → List ℕ
derivation_word DigestFirst = codes " with SHA256 for its first HMAC"
derivation_word KeysHashed = codes " whose HMAC hashes each key"
derivation_word NameAsInfo = codes " with the name as info"
derivation_word ExpandAlone = []

unfoldable pub digit : Output → List ℕ
digit First = codes "1"
digit Second = codes "2"
digit Third = codes "3"

unfoldable pub nonce_word : RekeyNonce → List ℕ
nonce_word nonce.Standard = codes "2^64 - 1"
nonce_word nonce.Signed = codes "2^63 - 1"
nonce_word nonce.Short = codes "2^32 - 1"
nonce_word nonce.Zero = codes "0"

abbrev pub three : List ℕ → List ℕ → List ℕ → List (List ℕ)
three a b c = a ∷ b ∷ c ∷ []

abbrev pub four : List ℕ → List ℕ → List ℕ → List ℕ → List (List ℕ)
four a b c d = a ∷ b ∷ c ∷ d ∷ []

-- What stands before the input of an operation, and after it. A source that the operation takes besides stands on one
-- side of it.
unfoldable pub front_words : Kind → Operation → List (List ℕ)
front_words k Same = three [] [] []
front_words k ButTag = three [] [] []
front_words k Digest = three (codes "SHA256(") [] []
front_words k (DigestBefore s) = three (codes "SHA256(") [] []
front_words k (DigestAfter s) = three (codes "SHA256(") (source_word k s) (codes " + ")
front_words k MixedTwice = three (codes "MixHash, twice, of ") [] []
front_words k MixedFirst = three (codes "MixHash of what is right, after MixHash of ") [] []
front_words k (MixedOutput o) = three (codes "SHA256(h + output ") (digit o) (codes " of HKDF(ck, ")
front_words k (Code s) = three (codes "HMAC(") (source_word k s) (codes ", ")
front_words k (CodeUnder s) = three (codes "HMAC(") [] []
front_words k (Expanded s e o) = three (codes "HKDF(") (source_word k s) (codes ", ")
front_words k (ExpandedBy s o) = three (codes "HKDF(") [] []
front_words k (Derived ExpandAlone o) = three (codes "HKDF-Expand(") (codes "ck") (codes ", ")
front_words k (Derived d o) = three (codes "HKDF(") (codes "ck") (codes ", ")
front_words k Sealed = three (codes "AEAD(k, n, h, ") [] []
front_words k SealedAlone = three (codes "AEAD(k, n, nothing, ") [] []
front_words k SealedWith = three (codes "AEAD(k, n, ") [] []
front_words k SealedUnder = three (codes "AEAD(") [] []
front_words k (Renewed n) = three (codes "the first 32 bytes of AEAD(k, ") (nonce_word n) (codes ", nothing, ")
front_words k RenewedWith = three (codes "the first 32 bytes of AEAD(k, 2^64 - 1, ") [] []

unfoldable pub back_words : Kind → Operation → List (List ℕ)
back_words k Same = four [] [] [] []
back_words k MixedTwice = four [] [] [] []
back_words k MixedFirst = four [] [] [] []
back_words k (DigestBefore s) = four (codes " + ") (source_word k s) (codes ")") []
back_words k (CodeUnder s) = four (codes ", ") (source_word k s) (codes ")") []
back_words k (MixedOutput o) = four (codes "))") [] [] []
back_words k (Expanded s e o) = four (codes ")") (expansion_word e) (codes ", output ") (digit o)
back_words k (ExpandedBy s o) = four (codes ", ") (source_word k s) (codes "), output ") (digit o)
back_words k (Derived d o) = four (codes ")") (derivation_word d) (codes ", output ") (digit o)
back_words k SealedWith = four (codes ", text)") [] [] []
back_words k SealedUnder = four (codes ", n, h, text)") [] [] []
back_words k RenewedWith = four (codes ", 32 zeros)") [] [] []
back_words k ButTag = four (codes " but for the last 16 bytes") [] [] []
back_words k other = four (codes ")") [] [] []

unfoldable pub equation_text : Kind → Equation → List ℕ
equation_text k e = ((joined (value_word e.value ∷ codes " = " ∷ []) ++ joined (front_words k e.operation))
    ++ joined (three (form_words e.input.form).0 (source_word k e.input.source) (form_words e.input.form).1))
    ++ joined (back_words k e.operation)

-- ---- the line of a value

-- the shorter of a text and that of an equation, and the first of them where they have the same length
abbrev pub shorter : Kind → List ℕ → Equation → List ℕ
shorter k best e = if nat_lt (length (equation_text k e)) (length best) then equation_text k e else best

-- the first of the shortest texts of some equations
abbrev pub shortest : Kind → Equation → List Equation → List ℕ
shortest k first more = fold (shorter k) (equation_text k first) more

-- how many characters in front are printable
abbrev pub is_printable : ℕ → Bool
is_printable b = nat_le 32 b && nat_le b 126

abbrev pub printable : List ℕ → ℕ
printable bytes = length (take_while is_printable bytes)

-- 8 printable characters and more, and zeros
abbrev pub is_words : List ℕ → Bool
is_words bytes = nat_le 8 (printable bytes) && (count_by (λ b. not (b == 0)) (drop (printable bytes) bytes) == 0)

unfoldable pub printable_head : Value → List ℕ
printable_head v = joined (codes "    " ∷ value_word v ∷ codes " is the text " ∷ [])

unfoldable pub printable_text : Value → List ℕ → List ℕ
printable_text v characters = printable_head v ++ (characters ++ 10 ∷ [])

unfoldable pub unfound_text : Value → List ℕ → List ℕ
unfound_text v bytes = if is_words bytes then printable_text v (take (printable bytes) bytes)
    else joined (codes "    " ∷ value_word v ∷ ended (codes ": no equation that is tried holds") ∷ [])

-- the shortest of these equations, and how many they are
unfoldable pub found_text : Kind → Equation → List Equation → List ℕ
found_text k first more = if length more == 0
    then joined (codes "    " ∷ shortest k first more ∷ (10 ∷ []) ∷ [])
    else joined (codes "    " ∷ shortest k first more ∷ codes ", the shortest of " ∷ decimal (length more + 1)
    ∷ ended (codes " equations that hold") ∷ [])

abbrev pub differing_text : Value → Kind → List ℕ → List Equation → List ℕ
differing_text v k bytes [] = unfound_text v bytes
differing_text v k bytes (first ∷ more) = found_text k first more

unfoldable pub right_line : Value → List ℕ
right_line v = joined (codes "    " ∷ value_word v ∷ ended (codes " is right") ∷ [])

-- that the value is right, or the shortest equation of those that hold, and how many do
abbrev pub logged_line : Value → Situation → Logged → List ℕ → List ℕ
logged_line v at logged bytes = if is_value_right v at logged then right_line v
    else differing_text v at.kind bytes (found_equations v at logged)

abbrev pub logged_text : Value → Situation → Logged → Option (List ℕ) → List ℕ
logged_text v at logged None = []
logged_text v at logged (Some bytes) = logged_line v at logged bytes

-- that line, where the value is logged
unfoldable pub value_line : Value → Situation → Logged → List ℕ
value_line v at logged = logged_text v at logged (logged_value v logged)

-- how far a logged nonce is from the right one
abbrev pub apart : List ℕ → ℕ → List ℕ
apart words by = joined (words ∷ decimal by ∷ (10 ∷ []) ∷ [])

unfoldable pub nonce_text : ℕ → ℕ → List ℕ
nonce_text right n = if n == right then []
    else (if n == 0 then ended (codes "    n = 0")
    else (if nat_lt right n then apart (codes "    n = right n + ") (n - right)
    else apart (codes "    n = right n - ") (right - n)))

abbrev pub nonce_text_of : ℕ → Option ℕ → List ℕ
nonce_text_of right None = []
nonce_text_of right (Some n) = nonce_text right n

-- a line for a nonce that is logged and isn't right
abbrev pub nonce_line : Situation → Logged → List ℕ
nonce_line at logged = nonce_text_of at.right.nonce logged.nonce

-- a line for each value that is logged, the nonce only where it differs
unfoldable pub shown_text : Situation → Logged → List ℕ
shown_text at logged = ended (codes "what they show, by the right values before this step:")
    ++ (value_line value.Bytes at logged ++ (value_line value.Hash at logged
    ++ (value_line value.ChainingKey at logged ++ (value_line value.Key at logged ++ nonce_line at logged))))
