-- Whether an equation holds of what was logged at a step.
use Rattle.std.specs.Prelude.{ℕ, ◌+◌, ◌-◌, ◌==◌, ◌&&◌, Bool, true, false, List, [], ◌∷◌, ◌++◌, Option, Some, None, drop, if◌then◌else◌, length, nat_le, replicate, reverse, take}
use Rattle.std.specs.Int.{w64, to_be_bytes, to_le_bytes}
use Rattle.std.specs.List.{filter}
use Rattle.std.specs.Str.{bytes_eq}
use Rattle.hex.specs.Hex.{encode_lower}
use Rattle.sha2.specs.Sha256.{sha256}
use Rattle.noise_aead.specs.Sealing.{nonce_of, sealed}
use Rattle.noise_kdf.specs.Hkdf.{hmac_of}
use Rattle.noise_compare.specs.Equations.{equations}
use Rattle.noise_compare.specs.States.{has, key_fits}
use Rattle.noise_compare.specs.Texts.{without_tag}
use Rattle.noise_compare.specs.Values.{is_text, items_of}
use Rattle.noise_compare.specs.declared.state.Kind.{Kind}
use Rattle.noise_compare.specs.declared.state.Kind.TheVariants as kind
use Rattle.noise_compare.specs.declared.state.Situation.{Situation}
use Rattle.noise_compare.specs.declared.state.Logged.{Logged}
use Rattle.noise_compare.specs.declared.equation.Value.{Value}
use Rattle.noise_compare.specs.declared.equation.Value.TheVariants as value
use Rattle.noise_compare.specs.declared.equation.Source.{Source}
use Rattle.noise_compare.specs.declared.equation.Source.TheVariants.{Nothing, Zeros, Hash, ChainingKey, Key, RightHash, RightChainingKey, RightKey, Name, Taken, RightBytes, LoggedBytes, LoggedHash, LoggedChainingKey}
use Rattle.noise_compare.specs.declared.equation.Form.{Form}
use Rattle.noise_compare.specs.declared.equation.Form.TheVariants.{Plain, Reversed, Digested, HexDigits, Doubled, WithoutFirst, WithoutLast, WithoutTag, ZeroInFront, ZeroBehind, LineFeedBehind, TagBehind, LengthByte, BigLength2, LittleLength2, BigLength4, LittleLength4, BigLength8, LittleLength8, TypeInFront, HalfZeroed}
use Rattle.noise_compare.specs.declared.equation.Expansion.{Expansion}
use Rattle.noise_compare.specs.declared.equation.Expansion.TheVariants.{Standard, FromZero, Digits, BigCounter, LittleCounter, CounterInFront, NoCounter, Unchained, Exchanged}
use Rattle.noise_compare.specs.declared.equation.Output.{Output}
use Rattle.noise_compare.specs.declared.equation.Output.TheVariants.{First, Second, Third}
use Rattle.noise_compare.specs.declared.equation.Derivation.{Derivation}
use Rattle.noise_compare.specs.declared.equation.Derivation.TheVariants.{DigestFirst, KeysHashed, NameAsInfo, ExpandAlone}
use Rattle.noise_compare.specs.declared.equation.RekeyNonce.{RekeyNonce}
use Rattle.noise_compare.specs.declared.equation.RekeyNonce.TheVariants as nonce
use Rattle.noise_compare.specs.declared.equation.Operation.{Operation}
use Rattle.noise_compare.specs.declared.equation.Operation.TheVariants.{Same, DigestAfter, DigestBefore, MixedTwice, MixedFirst, MixedOutput, Code, CodeUnder, Expanded, ExpandedBy, Derived, Sealed, SealedAlone, SealedWith, SealedUnder, Renewed, RenewedWith, ButTag}
use Rattle.noise_compare.specs.declared.equation.Equation.{Equation}

-- ---- what an operation takes

-- the step has a hash and a chaining key before it
unfoldable pub has_before : Kind → Bool
has_before kind.Name = false
has_before kind.Rekeyed = false
has_before kind.Transport = false
has_before other = true

-- it has others after it
unfoldable pub has_after : Kind → Bool
has_after kind.Opening = false
has_after kind.Rekeyed = false
has_after kind.Transport = false
has_after other = true

-- what the step takes: the name, the prologue, a public key, a DH result, a psk or a text
unfoldable pub taken : Kind → Situation → Option (List ℕ)
taken kind.Name at = Some at.name.now
taken kind.Prologue at = Some at.data.now
taken kind.Data at = Some at.data.now
taken kind.Ephemeral at = Some at.data.now
taken kind.Agreement at = Some at.secret
taken kind.Secret at = Some at.secret
taken kind.Text at = Some at.text.now
taken other at = None

-- it comes after the name
unfoldable pub is_after_name : Kind → Bool
is_after_name kind.Name = false
is_after_name other = true

-- the value of a source, if the step has it
unfoldable pub source_bytes : Source → Situation → Logged → Option (List ℕ)
source_bytes Nothing at logged = Some []
source_bytes Zeros at logged = Some (replicate 32 0)
source_bytes Hash at logged = if has_before at.kind then Some at.before.hash else None
source_bytes ChainingKey at logged = if has_before at.kind then Some at.before.chaining_key else None
source_bytes Key at logged = if is_after_name at.kind then at.before.key else None
source_bytes RightHash at logged = if has_after at.kind then Some at.right.hash else None
source_bytes RightChainingKey at logged = if has_after at.kind then Some at.right.chaining_key else None
source_bytes RightKey at logged = at.right.key
source_bytes Name at logged = if is_after_name at.kind then Some at.name.now else None
source_bytes Taken at logged = taken at.kind at
source_bytes RightBytes at logged = if is_text at.kind then Some at.bytes.now else None
source_bytes LoggedBytes at logged = items_of logged.bytes
source_bytes LoggedHash at logged = items_of logged.hash
source_bytes LoggedChainingKey at logged = items_of logged.chaining_key

-- bytes in a form: 05 is the type byte in front of Signal's public keys, and a key of 128 bits leaves 16 zeros
unfoldable pub in_form : Form → List ℕ → List ℕ
in_form Plain x = x
in_form Reversed x = reverse x
in_form Digested x = sha256 x
in_form HexDigits x = encode_lower x
in_form Doubled x = x ++ x
in_form WithoutFirst x = drop 1 x
in_form WithoutLast x = take (length x - 1) x
in_form WithoutTag x = without_tag x
in_form ZeroInFront x = 0 ∷ x
in_form ZeroBehind x = x ++ 0 ∷ []
in_form LineFeedBehind x = x ++ 10 ∷ []
in_form TagBehind x = x ++ replicate 16 0
in_form LengthByte x = take 1 (to_le_bytes w64 (length x)) ++ x
in_form BigLength2 x = drop 6 (to_be_bytes w64 (length x)) ++ x
in_form LittleLength2 x = take 2 (to_le_bytes w64 (length x)) ++ x
in_form BigLength4 x = drop 4 (to_be_bytes w64 (length x)) ++ x
in_form LittleLength4 x = take 4 (to_le_bytes w64 (length x)) ++ x
in_form BigLength8 x = to_be_bytes w64 (length x) ++ x
in_form LittleLength8 x = to_le_bytes w64 (length x) ++ x
in_form TypeInFront x = 5 ∷ x
in_form HalfZeroed x = take 16 x ++ replicate 16 0

-- ---- what an operation gives

-- HMAC under a key of any length (RFC 2104, 2)
abbrev pub code_of : List ℕ → List ℕ → List ℕ
code_of key text = hmac_of (if nat_le (length key) 64 then key else sha256 key) text

-- the output of HKDF with this counter, of the temporary key, an info and the output before it (4.3; RFC 5869, 2.3)
unfoldable pub block : Expansion → List ℕ → List ℕ → List ℕ → ℕ → List ℕ
block Standard temporary info before n = hmac_of temporary (before ++ (info ++ n ∷ []))
block FromZero temporary info before n = hmac_of temporary (before ++ (n - 1) ∷ [])
block Digits temporary info before n = hmac_of temporary (before ++ (n + 48) ∷ [])
block BigCounter temporary info before n = hmac_of temporary (before ++ 0 ∷ 0 ∷ 0 ∷ n ∷ [])
block LittleCounter temporary info before n = hmac_of temporary (before ++ n ∷ 0 ∷ 0 ∷ 0 ∷ [])
block CounterInFront temporary info before n = hmac_of temporary (n ∷ before)
block NoCounter temporary info before n = hmac_of temporary before
block Unchained temporary info before n = hmac_of temporary (n ∷ [])
block Exchanged temporary info before n = code_of (before ++ n ∷ []) temporary

abbrev pub first_block : Expansion → List ℕ → List ℕ → List ℕ
first_block e temporary info = block e temporary info [] 1

abbrev pub second_block : Expansion → List ℕ → List ℕ → List ℕ
second_block e temporary info = block e temporary info (first_block e temporary info) 2

unfoldable pub output_of : Expansion → List ℕ → List ℕ → Output → List ℕ
output_of e temporary info First = first_block e temporary info
output_of e temporary info Second = second_block e temporary info
output_of e temporary info Third = block e temporary info (second_block e temporary info) 3

-- the temporary key of HKDF in other ways: SHA256 for its HMAC; HMAC that hashes each key first, which RFC 2104 (2) does
-- with longer ones than a block; or no extraction (RFC 5869, 2.2)
unfoldable pub temporary_of : Derivation → List ℕ → List ℕ → List ℕ
temporary_of DigestFirst ck x = sha256 (ck ++ x)
temporary_of KeysHashed ck x = sha256 (hmac_of (sha256 ck) x)
temporary_of NameAsInfo ck x = hmac_of ck x
temporary_of ExpandAlone ck x = ck

-- what each output takes before its counter (RFC 5869, 2.3)
unfoldable pub info_of : Derivation → List ℕ → List ℕ → List ℕ
info_of NameAsInfo name x = name
info_of ExpandAlone name x = x
info_of other name x = []

-- the value is what a function gives of another, if there is that
abbrev pub is_made : Option (List ℕ) → (List ℕ → List ℕ) → List ℕ → Bool
is_made None f v = false
is_made (Some y) f v = bytes_eq v (f y)

-- a text that is encrypted (5.1), of at most 65535 bytes
abbrev pub sealed_if_short : Option (List ℕ) → List ℕ → List ℕ → List ℕ → Option (List ℕ)
sealed_if_short None nonce ad text = None
sealed_if_short (Some key) nonce ad text = if nat_le (length ad) 65535 && nat_le (length text) 65535
    then Some (sealed key nonce ad text) else None

abbrev pub is_sealed : Option (List ℕ) → List ℕ → List ℕ → List ℕ → List ℕ → Bool
is_sealed key nonce ad text v = is_made (sealed_if_short key nonce ad text) (λ sealed. sealed) v

-- Rekey's nonce is the greatest number of 64 bits (4.2); tried are those of signed numbers and of 32 bits, and 0, too
unfoldable pub rekey_number : RekeyNonce → ℕ
rekey_number nonce.Standard = 0xffff_ffff_ffff_ffff
rekey_number nonce.Signed = 0x7fff_ffff_ffff_ffff
rekey_number nonce.Short = 0xffff_ffff
rekey_number nonce.Zero = 0

-- the value is the first 32 bytes of a text that is encrypted with a nonce of Rekey
abbrev pub is_renewed : RekeyNonce → Option (List ℕ) → List ℕ → List ℕ → List ℕ → Bool
is_renewed number key ad text v =
    is_made (sealed_if_short key (nonce_of (rekey_number number)) ad text) (λ sealed. take 32 sealed) v

abbrev pub key_of : List ℕ → Option (List ℕ)
key_of x = if length x == 32 then Some x else None

-- both have the same length, and differ at most in their last 16 bytes
abbrev pub is_but_tag : List ℕ → List ℕ → Bool
is_but_tag x v = nat_le 16 (length v) && (length x == length v) && bytes_eq (without_tag x) (without_tag v)

-- what an operation takes besides its input
unfoldable pub other_source : Operation → Source
other_source (DigestAfter s) = s
other_source (DigestBefore s) = s
other_source (Code s) = s
other_source (CodeUnder s) = s
other_source (Expanded s e o) = s
other_source (ExpandedBy s o) = s
other_source MixedTwice = Hash
other_source MixedFirst = Hash
other_source (MixedOutput o) = Hash
other_source (Derived d o) = ChainingKey
other_source other = Nothing

-- the 32 bytes that it gives of that, and of its input
unfoldable pub digest_by : Operation → Situation → List ℕ → List ℕ → List ℕ
digest_by (DigestAfter s) at y x = sha256 (y ++ x)
digest_by (DigestBefore s) at y x = sha256 (x ++ y)
digest_by MixedTwice at y x = sha256 (sha256 (y ++ x) ++ x)
digest_by MixedFirst at y x = sha256 (sha256 (y ++ x) ++ at.data.now)
digest_by (MixedOutput o) at y x = sha256 (y ++ output_of Standard (code_of at.before.chaining_key x) [] o)
digest_by (Code s) at y x = code_of y x
digest_by (CodeUnder s) at y x = code_of x y
digest_by (Expanded s e o) at y x = output_of e (code_of y x) [] o
digest_by (ExpandedBy s o) at y x = output_of Standard (code_of x y) [] o
digest_by (Derived d o) at y x = output_of Standard (temporary_of d at.before.chaining_key x) (info_of d at.name.now x) o
digest_by other at y x = sha256 x

-- the operation gives this value of an input
unfoldable pub gives : Operation → Situation → Logged → List ℕ → List ℕ → Bool
gives Same at logged x v = bytes_eq v x
gives ButTag at logged x v = is_but_tag x v
gives Sealed at logged x v = is_sealed at.before.key (nonce_of at.before.nonce) at.before.hash x v
gives SealedAlone at logged x v = is_sealed at.before.key (nonce_of at.before.nonce) [] x v
gives SealedWith at logged x v = is_sealed at.before.key (nonce_of at.before.nonce) x at.text.now v
gives SealedUnder at logged x v = is_sealed (key_of x) (nonce_of at.before.nonce) at.before.hash at.text.now v
gives (Renewed n) at logged x v = is_renewed n at.before.key [] x v
gives RenewedWith at logged x v = is_renewed nonce.Standard at.before.key x (replicate 32 0) v
gives other at logged x v =
    is_made (source_bytes (other_source other) at logged) (λ y. digest_by other at y x) v

-- ---- equations

unfoldable pub logged_value : Value → Logged → Option (List ℕ)
logged_value value.Bytes logged = items_of logged.bytes
logged_value value.Hash logged = items_of logged.hash
logged_value value.ChainingKey logged = items_of logged.chaining_key
logged_value value.Key logged = items_of logged.key

-- An operation gives this value, if it was logged, of a source in a form, if the step has it. A source of more bytes than
-- a message has is not tried.
abbrev pub holds_of : Equation → Situation → Logged → Option (List ℕ) → Option (List ℕ) → Bool
holds_of e at logged (Some v) (Some x) = nat_le (length x) 65535 && gives e.operation at logged (in_form e.input.form x) v
holds_of e at logged value source = false

unfoldable pub holds : Equation → Situation → Logged → Bool
holds e at logged = holds_of e at logged (logged_value e.value logged) (source_bytes e.input.source at logged)

-- those of a value that hold, in their order
abbrev pub found_equations : Value → Situation → Logged → List Equation
found_equations v at logged = filter (λ e. holds e at logged) (equations v)

-- the value is right, or it isn't logged
unfoldable pub is_value_right : Value → Situation → Logged → Bool
is_value_right value.Bytes at logged = has logged.bytes at.bytes.now
is_value_right value.Hash at logged = has logged.hash at.right.hash
is_value_right value.ChainingKey at logged = has logged.chaining_key at.right.chaining_key
is_value_right value.Key at logged = key_fits logged.key at.right.key
