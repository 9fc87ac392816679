-- What the reader of a party's lines reports, and that of the datagrams.
use Rattle.std.proofs.Common.{rules, ◌≡◌, ◌∙◌, inl, inr, ap, true, ℕ, List, ◌∷◌, ◌++◌, codes, Option, []}
use Rattle.std.specs.Prelude.{nat_eq}
use Rattle.noise_vectors.proofs.Common.{IfSome, starts_with, append_assoc, Window, Role, ReportsAfter, ReportsDatagrams, ReportsParty, answer_lines, datagram_lines, AreKeys, key_words, line_then, party_text, role_word, window_words, IsKey, lacks, VectorFault, FileKeys, Xor, AllowedEvents, SayOnly, true_from_ne_false}
use Rattle.noise_vectors.specs.declared.file_keys.FileKeys.TheVariants.{Table}
use Rattle.noise_vectors.proofs.PartyLemmas.{after_of, lacks-party, party_text-line, words_of}
use Rattle.noise_vectors.proofs.UniqueWords.{parted-one}

-- the line of a party is that of its keys
pub party-words : (role : Role) (keys : FileKeys) (words after rest : List ℕ) → lacks 10 words ≡ true → AreKeys keys
    → line_then words after ≡ party_text role keys rest → words ≡ role_word role ++ 32 ∷ words_of keys
party-words role keys words after rest plain h e =
    (parted-one 10 words (role_word role ++ 32 ∷ words_of keys) after (after_of keys rest) plain (lacks-party role keys h)
    (e ∙ party_text-line role keys rest)).0

-- the line of a table, which the text's end cuts
pub table-cut : (role : Role) (e s : Option (List ℕ)) (from reported words : List ℕ) → from ≡ reported → reported ≡ role_word role ++ 32 ∷ words
    → words ≡ codes "table " ++ key_words e s
    → from ++ codes "\n" ≡ party_text role (Table (record { e = e; s = s; entries = [] })) []
table-cut role e s from reported words last text is = search rules

pub xor-cut : (role : Role) (e s : Option (List ℕ)) (from reported words : List ℕ) → from ≡ reported → reported ≡ role_word role ++ 32 ∷ words
    → words ≡ codes "xor " ++ key_words e s
    → from ++ codes "\n" ≡ party_text role (Xor (record { e = e; s = s })) []
xor-cut role e s from reported words last text is = search rules

pub table-line : (role : Role) (e s : Option (List ℕ)) (from reported words after : List ℕ) → from ≡ line_then reported after → reported ≡ role_word role ++ 32 ∷ words
    → words ≡ codes "table " ++ key_words e s → from ≡ line_then (role_word role ++ (codes " table " ++ key_words e s)) after
table-line role e s from reported words after first text is = search

-- what is reported of a table's answers is reported of the party
pub table-reported : (role : Role) (e s : Option (List ℕ)) (from after : List ℕ) (total : ℕ) (fault : VectorFault)
    → from ≡ line_then (role_word role ++ (codes " table " ++ key_words e s)) after → IfSome e IsKey → IfSome s IsKey
    → ReportsAfter answer_lines after total fault → ReportsParty role from total fault
table-reported role e s from after total fault text he hs (inl is) = inl is
table-reported role e s from after total fault text he hs (inr (inl (is, cut))) =
    let words = role_word role ++ (codes " table " ++ key_words e s) in
    inr (inl (
      is,
      inr (
        Table (record { e = e; s = s; entries = cut.done }),
        (he, hs, cut.few, cut.are),
        ap (λ (t : List ℕ). t ++ codes "\n") text ∙ append_assoc words (10 ∷ after) (codes "\n") ∙ ap (line_then words) cut.text_is,
      ),
    ))
table-reported role e s from after total fault text he hs (inr (inr w)) =
    inr (inr (inr (record {
      table = record { e = e; s = s; entries = w.done };
      are = (he, hs, w.few, w.are);
      left = w.left;
      text_is = text ∙ ap (line_then (role_word role ++ (codes " table " ++ key_words e s))) w.text_is;
      begun = true_from_ne_false (starts_with nat_eq w.left (codes "answer ")) w.stands;
      it = w.it;
      full = w.full;
    })))

-- what is reported of the events is reported of the datagrams
pub window-reported : (allowed : AllowedEvents) (window : Window) (from reported after : List ℕ) (total : ℕ) (fault : VectorFault)
    → from ≡ line_then reported after → reported ≡ window_words window → ¬ (allowed ≡ SayOnly) → ReportsAfter datagram_lines after total fault
    → ReportsDatagrams allowed from total fault
window-reported allowed window from reported after total fault first text other (inl is) = inl is
window-reported allowed window from reported after total fault first text other (inr (inl (is, cut))) =
    let whole : from ≡ line_then (window_words window) after = first ∙ ap (λ (t : List ℕ). line_then t after) text in
    inr (inl (
      is,
      record {
        window = window;
        is_allowed = other;
        events = cut.done;
        are = cut.are;
        few = cut.few;
        text_is = ap (λ (t : List ℕ). t ++ codes "\n") whole ∙ append_assoc (window_words window) (10 ∷ after) (codes "\n")
            ∙ ap (line_then (window_words window)) cut.text_is;
      },
    ))
window-reported allowed window from reported after total fault first text other (inr (inr w)) = search rules
