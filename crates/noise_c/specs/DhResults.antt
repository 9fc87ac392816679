-- A handshake whose DH results are handed in when they are asked for, beside one whose keys have them all (the table of
-- Noise 5.3).
use Rattle.std.specs.Prelude.{◌≡◌, ◌⊎◌, ◌≤◌, ℕ, suc, List, ◌∷◌, ◌++◌, Option, Some, None, count_by, length}
use Rattle.noise_names.specs.Validity.{IsValid}
use Rattle.noise_names.specs.declared.token.Token.{Token}
use Rattle.noise_names.specs.declared.token.Token.TheVariants.{E, S}
use Rattle.noise_keys.specs.declared.keys.Own.{Own}
use Rattle.noise_keys.specs.declared.keys.Own.TheVariants.{Ephemeral, Static}
use Rattle.noise_handshake.specs.declared.faults.Cause.{Cause}
use Rattle.noise_handshake.specs.declared.faults.Cause.TheVariants.{Agreement}
use Rattle.noise_handshake.specs.Counterparts.{is_dh}
use Rattle.noise_handshake.specs.Party.{Party, Accepts, Refuses, tokens_now}
use Rattle.noise_handshake.specs.Wanting.{WantsToRead, WantsToWrite}
use Rattle.noise_handshake.specs.Writing.{Writes}

-- the DH result of a key pair and a public key of the other party, where there is one
abbrev pub DhResults : Type 0
DhResults = Own → List ℕ → Option (List ℕ)

-- each of the first DH results is one of all
abbrev pub AreAmong : DhResults → DhResults → Type 0
AreAmong first all = (own : Own) (key x : List ℕ) → first own key ≡ Some x → all own key ≡ Some x

-- the party, with these DH results
abbrev pub with_dh_results : Party → DhResults → Party
with_dh_results v results = record v { agree = results }

-- this DH result is there and so are the earlier ones, and no others
pub record IsHandedIn (before after : DhResults) (own : Own) (key x : List ℕ) : Type 0 where
  pub there : after own key ≡ Some x
  pub stays : AreAmong before after
  pub only : (o : Own) (k y : List ℕ) → after o k ≡ Some y → (before o k ≡ Some y) ⊎ ((o ≡ own) × (k ≡ key) × (y ≡ x))

-- So many DH results are handed in, each when a message that comes lacks it, and each as the keys have it: with the
-- first to begin with, and with the last at the end.
pub data AskedToRead (v : Party) (all : DhResults) (message : List ℕ) : DhResults → ℕ → DhResults → Type 0 where
  ready : (first : DhResults) → AskedToRead v all message first 0 first
  asked : (first next last : DhResults) (own : Own) (key x : List ℕ) (n : ℕ)
      → WantsToRead (with_dh_results v first) message own key
      → all own key ≡ Some x → IsHandedIn first next own key x → AskedToRead v all message next n last
      → AskedToRead v all message first (suc n) last

-- The same where the party's own message lacks them.
pub data AskedToWrite (v : Party) (all : DhResults) : DhResults → ℕ → DhResults → Type 0 where
  ready : (first : DhResults) → AskedToWrite v all first 0 first
  asked : (first next last : DhResults) (own : Own) (key x : List ℕ) (n : ℕ)
      → WantsToWrite (with_dh_results v first) own key → all own key ≡ Some x
      → IsHandedIn first next own key x → AskedToWrite v all next n last
      → AskedToWrite v all first (suc n) last

-- With the first DH results a message is accepted, refused or written only as with all of them; `Agreement` is the one
-- refusal that further ones can mend.
pub record ActsAsAll (v : Party) (first all : DhResults) : Type 0 where
  pub accepts : (message payload : List ℕ) (xs : List (List ℕ)) → Accepts (with_dh_results v first) message xs payload
      → Accepts (with_dh_results v all) message xs payload
  pub refuses : (message : List ℕ) (token : ℕ) (cause : Cause) → (cause ≡ Agreement → ⊥)
      → Refuses (with_dh_results v first) message token cause
      → Refuses (with_dh_results v all) message token cause
  pub writes : (payload message : List ℕ) (xs : List (List ℕ)) → Writes (with_dh_results v first) payload xs message
      → Writes (with_dh_results v all) payload xs message

-- At a message of a valid pattern at most four DH results are asked for, one for each DH token, and with those it is
-- accepted, refused or written as with all.
abbrev pub FourSuffice : Type 0
FourSuffice = (v : Party) (first last all : DhResults) (message : List ℕ) (n : ℕ) → IsValid v.pattern
    → AreAmong first all → AskedToRead v all message first n last
    → (n ≤ count_by is_dh (tokens_now v)) × (n ≤ 4) × AreAmong last all

-- the public key that a token shows
abbrev pub Shows : (Own → Option (List ℕ)) → Token → Type 0
Shows own E = (key : List ℕ) × (own Ephemeral ≡ Some key) × (length key ≡ 32)
Shows own S = (key : List ℕ) × (own Static ≡ Some key) × (length key ≡ 32)
Shows own _ = Unit {0}

-- the party has the public keys that its message shows, as every handshake has
abbrev pub HasKeys : Party → Type 0
HasKeys v = (before later : List Token) (t : Token) → tokens_now v ≡ before ++ t ∷ later → Shows v.own t

abbrev pub FourSufficeToWrite : Type 0
FourSufficeToWrite = (v : Party) (first last all : DhResults) (n : ℕ) → IsValid v.pattern → HasKeys v
    → AreAmong first all → AskedToWrite v all first n last
    → (n ≤ count_by is_dh (tokens_now v)) × (n ≤ 4) × AreAmong last all

-- what is asked for isn't there
abbrev pub AskedIsLacking : Type 0
AskedIsLacking = (v : Party) (own : Own) (key : List ℕ)
    → ((message : List ℕ) → WantsToRead v message own key → v.agree own key ≡ None)
    × (HasKeys v → WantsToWrite v own key → v.agree own key ≡ None)

abbrev pub FirstActAsAll : Type 0
FirstActAsAll = (v : Party) (first all : DhResults) → AreAmong first all → ActsAsAll v first all
