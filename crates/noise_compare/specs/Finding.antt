-- The mistakes that give what was logged.
use Rattle.std.specs.Prelude.{ℕ, Bool, true, false, not, ◌&&◌, ◌||◌, List, map}
use Rattle.std.specs.Borrow.{Bor}
use Rattle.std.specs.Str.{bytes_eq}
use Rattle.std.specs.List.{filter}
use Rattle.noise_compare.specs.Keys.{key_explains}
use Rattle.noise_compare.specs.Mixing.{hash_explains, name_explains}
use Rattle.noise_compare.specs.Secrets.{secret_explains}
use Rattle.noise_compare.specs.States.{fits}
use Rattle.noise_compare.specs.Texts.{text_explains}
use Rattle.noise_compare.specs.declared.state.Kind.{Kind}
use Rattle.noise_compare.specs.declared.state.Kind.TheVariants as kind
use Rattle.noise_compare.specs.declared.state.Situation.{Situation}
use Rattle.noise_compare.specs.declared.state.Logged.{Logged}
use Rattle.noise_compare.specs.declared.mistake.HashMistake.TheVariants as hash
use Rattle.noise_compare.specs.declared.mistake.SecretMistake.TheVariants as secret
use Rattle.noise_compare.specs.declared.mistake.TextMistake.TheVariants as text
use Rattle.noise_compare.specs.declared.mistake.Mistake.{Mistake}
use Rattle.noise_compare.specs.declared.mistake_tables.TheConstants.{AGREEMENT, DATA, EPHEMERAL, NAME, OPENING, PROLOGUE, PSK, REFUSAL, RENEWAL, TEXT, TRANSPORT}
use Rattle.noise_compare.specs.declared.mistake.Mistake.TheVariants.{Name, Hash, Secret, Text, Key}

-- the values that a party with the mistake has after the step are those that were logged
unfoldable pub explains : Mistake → Situation → Logged → Bool
explains (Name mistake) at logged = name_explains mistake at logged
explains (Hash mistake) at logged = hash_explains mistake at logged
explains (Secret mistake) at logged = secret_explains mistake at logged
explains (Text mistake) at logged = text_explains mistake at logged
explains (Key mistake) at logged = key_explains mistake at logged

-- ---- the mistakes that are tried at a step, in their order: the tables are those of `mistake_tables.rt`

-- a mistake, and what is said of it
abbrev pub Row : Type 0
Row = Mistake × List ℕ

abbrev pub said : Mistake × Bor (List ℕ) → Row
said row = (row.0, row.1.now)

unfoldable pub mistakes_of : Kind → List Row
mistakes_of kind.Name = map (λ row. (row.0, row.1.now)) NAME
mistakes_of kind.Prologue = map (λ row. (row.0, row.1.now)) PROLOGUE
mistakes_of kind.Data = map (λ row. (row.0, row.1.now)) DATA
mistakes_of kind.Ephemeral = map (λ row. (row.0, row.1.now)) EPHEMERAL
mistakes_of kind.Agreement = map (λ row. (row.0, row.1.now)) AGREEMENT
mistakes_of kind.Secret = map (λ row. (row.0, row.1.now)) PSK
mistakes_of kind.Text = map (λ row. (row.0, row.1.now)) TEXT
mistakes_of kind.Opening = map (λ row. (row.0, row.1.now)) OPENING
mistakes_of kind.Rekeyed = map (λ row. (row.0, row.1.now)) RENEWAL
mistakes_of kind.Transport = map (λ row. (row.0, row.1.now)) TRANSPORT

-- the log has no line for a step before this one: each step of a handshake changes the hash or the chaining key
abbrev pub lacks_steps : Situation → Bool
lacks_steps at = not (bytes_eq at.agreed.hash at.before.hash && bytes_eq at.agreed.chaining_key at.before.chaining_key)

-- steps are left out, or come later
unfoldable pub is_of_steps : Mistake → Bool
is_of_steps (Hash hash.StepsLeftOut) = true
is_of_steps (Secret secret.StepsLeftOut) = true
is_of_steps (Text text.StepsLeftOut) = true
is_of_steps mistake = false

-- those that are tried: that steps are left out only where the log lacks some
abbrev pub tried_mistakes : Situation → List Row
tried_mistakes at = filter (λ row. lacks_steps at || not (is_of_steps row.0)) (mistakes_of at.kind)

-- what was logged is right, as far as it was logged
abbrev pub is_right : Situation → Logged → Bool
is_right at logged = fits logged at.bytes.now at.right

-- the mistake gives what was logged, and that isn't right
abbrev pub gives : Mistake → Situation → Logged → Bool
gives mistake at logged = not (is_right at logged) && explains mistake at logged

-- those of them that give what was logged, in the same order: none where that is right
abbrev pub found_mistakes : Situation → Logged → List Row
found_mistakes at logged = filter (λ row. gives row.0 at logged) (tried_mistakes at)

-- ---- what a party that refuses right bytes may have wrong

unfoldable pub refusal_mistakes : List Row
refusal_mistakes = map (λ row. (row.0, row.1.now)) REFUSAL

-- those that don't give these values, so that a party with them refuses a right tag
abbrev pub refusing_mistakes : Situation → Logged → List Row
refusing_mistakes at logged = filter (λ row. not (explains row.0 at logged)) refusal_mistakes
