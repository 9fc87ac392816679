-- What an explanation says of a key and of a message, in words.
use Rattle.std.specs.Prelude.{ℕ, Bool, true, false, ◌||◌, List, [], ◌∷◌, ◌++◌, codes, fold, if◌then◌else◌}
use Rattle.std.specs.List.{flat_map}
use Rattle.noise_names.specs.declared.token.Role.{Role}
use Rattle.noise_vectors.specs.VectorText.{role_word}
use Rattle.noise_explain.specs.MixedKeys.{are_least}
use Rattle.noise_explain.specs.declared.fact_words.TheConstants.{WAYS}
use Rattle.noise_explain.specs.declared.mixed.Mixed.{Mixed}
use Rattle.noise_explain.specs.declared.mixed.Psks.{Psks}
use Rattle.noise_explain.specs.declared.mixed.Psks.TheVariants as psks
use Rattle.noise_explain.specs.declared.parties.Part.{Part}
use Rattle.noise_explain.specs.declared.parties.Part.TheVariants as parts

abbrev pub Text : Type 0
Text = List ℕ

-- texts one after the other
abbrev pub joined : List Text → Text
joined texts = flat_map (λ t. t) texts

-- a list with one more word, where that is meant; the first text stands between two
abbrev pub add_word : Text → Bool → Text → Text → Text
add_word between false word list = list
add_word between true word [] = word
add_word between true word (b ∷ bs) = (b ∷ bs) ++ (between ++ word)

abbrev pub psks_word : Psks → Text
psks_word psks.None = []
psks_word psks.One = codes "psk"
psks_word psks.More = codes "psks"

abbrev pub has_psks : Psks → Bool
has_psks psks.None = false
has_psks _ = true

-- this text, where there are psks
abbrev pub if_psks : Text → Psks → Text
if_psks front psks.None = []
if_psks front _ = front

abbrev pub has_dh : Mixed → Bool
has_dh m = m.ee || m.es || m.se || m.ss

-- words of which each is meant or not
abbrev pub listed : Text → List (Bool × Text) → Text
listed between words = fold (λ list x. add_word between x.0 x.1 list) [] words

abbrev pub or_nothing : Text → Text
or_nothing [] = codes "nothing"
or_nothing (b ∷ bs) = b ∷ bs

-- ---- what is mixed in

abbrev pub dhs : Mixed → List (Bool × Text)
dhs m = (m.ee, codes "ee") ∷ (m.es, codes "es") ∷ (m.se, codes "se") ∷ (m.ss, codes "ss")
    ∷ (has_psks m.psks, psks_word m.psks) ∷ []

unfoldable pub mixed_words : Mixed → Text
mixed_words m = or_nothing (listed (codes ", ") (dhs m))

-- ---- which private keys are enough

-- the least sets that are enough, by name
unfoldable pub ways_words : Mixed → Text
ways_words m = fold (λ list w. add_word (codes ", or ") (are_least m w.0) w.1.now list) [] WAYS

unfoldable pub ways_text : Mixed → Text
ways_text m =
    joined (ways_words m ∷ if_psks (codes "; and in each case the ") m.psks ∷ psks_word m.psks ∷ codes "." ∷ [])

unfoldable pub own_text : Role → Text → Psks → Text
own_text party keys q = joined
    (codes " Whoever takes the " ∷ role_word party ∷ codes "'s part needs only " ∷ keys ∷ codes " of its own"
    ∷ if_psks (codes " and the ") q ∷ psks_word q ∷ codes "." ∷ [])

-- what somebody needs who takes a party's part and chooses its keys
unfoldable pub part_text : Role → Part → Psks → Text
part_text party parts.Neither q = []
part_text party parts.Ephemeral q = own_text party (codes "an e") q
part_text party parts.Static q = own_text party (codes "an s") q
part_text party parts.Both q = own_text party (codes "an e and an s") q

unfoldable pub without_dh : Psks → Text
without_dh psks.None = codes "No DH is mixed in: everybody can compute it."
without_dh psks.One = codes "Enough: the psk alone."
without_dh psks.More = codes "Enough: the psks alone."

-- which private keys are enough to compute a key, and what is for somebody who takes a party's part
unfoldable pub enough_text : Mixed → Role → Part → Text
enough_text m party part = if has_dh m
    then codes "Enough: " ++ ways_text m ++ part_text party part m.psks
    else without_dh m.psks

-- ---- a message

-- who can have written what has a tag, where no DH is left that needs another's key
unfoldable pub alone_text : Bool → Psks → Text
alone_text any_dh psks.None =
    if any_dh then codes "anyone, with an e of its own." else codes "anyone: everybody can compute the key."
alone_text any_dh psks.One = codes "whoever has the psk."
alone_text any_dh psks.More = codes "whoever has the psks."

-- The same in each case: `rest` are the DHs that the writer's own ephemeral key isn't enough for (what 7.7 asks of a
-- payload's source).
unfoldable pub writer_text : Mixed → Mixed → Text
writer_text m rest = if has_dh rest then codes "whoever has " ++ ways_text rest else alone_text (has_dh m) m.psks

-- whether a recording of what has a tag is accepted by this party: not if it has put in a fresh key (7.7)
unfoldable pub again_text : Role → Bool → Text
again_text party true = joined (codes "refused: the " ∷ role_word party ∷ codes "'s e is new each time." ∷ [])
again_text party false = joined (codes "accepted again: the " ∷ role_word party ∷ codes " puts in no e before." ∷ [])
