-- The rows of a pattern, which has those of its pre-messages, the line after them, and its messages.
use Rattle.std.proofs.Common.{rules, ◌≡◌, ◌≢◌, ℕ, Bool, true, false, List, [], ◌∷◌, ◌++◌, refl, ap, sym, ◌∙◌, append_assoc, append-nil}
use Rattle.noise_names.proofs.Common.{list_all, list_any, and_parts, list_all-append, Role, Initiator, Responder, Token, has_few_tokens, cons-same, line, message_lines, pre_line, pre_lines, token_line, other, dots}
use Rattle.noise_names.proofs.Rows.{Row, ending, is_row, lines_of, rows_same, tokens_of}

abbrev pub pre_row : Role → List Token → List Row
pre_row party [] = []
pre_row party (t ∷ ts) = tokens_of party (t ∷ ts) ∷ []

abbrev pub pre_rows : List Token → List Token → List Row
pre_rows [] [] = []
pre_rows initiator responder = pre_row Initiator initiator ++ pre_row Responder responder ++ ending ∷ []

abbrev pub message_rows : Role → List (List Token) → List Row
message_rows party [] = []
message_rows party (tokens ∷ more) = tokens_of party tokens ∷ message_rows (other party) more

pub lines_of-append : (xs ys : List Row) → lines_of (xs ++ ys) ≡ lines_of xs ++ lines_of ys
lines_of-append [] ys = refl
lines_of-append (x ∷ xs) ys = search (append_assoc, (lines_of-append xs ys))

pub lines_of-pre : (party : Role) (tokens : List Token) → lines_of (pre_row party tokens) ≡ pre_line party tokens
lines_of-pre party [] = refl
lines_of-pre party (t ∷ ts) = append-nil (token_line party (t ∷ ts))

lines_of-some : (i r : List Token)
    → lines_of (pre_row Initiator i ++ pre_row Responder r ++ ending ∷ []) ≡ pre_line Initiator i ++ pre_line Responder r ++ line dots
lines_of-some i r = search (lines_of-append, lines_of-pre)

pub lines_of-both : (i r : List Token) → lines_of (pre_rows i r) ≡ pre_lines i r
lines_of-both [] [] = refl
lines_of-both [] (t ∷ ts) = lines_of-some [] (t ∷ ts)
lines_of-both (t ∷ ts) r = lines_of-some (t ∷ ts) r

pub lines_of-messages : (party : Role) (ms : List (List Token)) → lines_of (message_rows party ms) ≡ message_lines party ms
lines_of-messages party [] = refl
lines_of-messages party (m ∷ ms) = ap (λ (text : List ℕ). token_line party m ++ text) (lines_of-messages (other party) ms)

-- they are right
all_rows-append : (xs ys : List Row) → list_all is_row xs ≡ true → list_all is_row ys ≡ true → list_all is_row (xs ++ ys) ≡ true
all_rows-append xs ys h k = list_all-append is_row xs ys ∙ rw (h, k) refl

all_rows-pre : (party : Role) (tokens : List Token) → list_all is_row (pre_row party tokens) ≡ true
all_rows-pre party [] = refl
all_rows-pre party (t ∷ ts) = refl

all_rows-both : (i r : List Token) → list_all is_row (pre_rows i r) ≡ true
all_rows-both [] [] = refl
all_rows-both [] (t ∷ ts) = refl
all_rows-both (t ∷ ts) [] = refl
all_rows-both (t ∷ ts) (u ∷ us) = refl

all_rows-messages : (party : Role) (ms : List (List Token)) → list_all has_few_tokens ms ≡ true → list_all is_row (message_rows party ms) ≡ true
all_rows-messages party [] h = refl
all_rows-messages party ([] ∷ ms) h = absurd (let bad : false ≡ true = h in cc)
all_rows-messages party ((t ∷ ts) ∷ ms) h =
    search ((all_rows-messages (other party) ms (and_parts (has_few_tokens (t ∷ ts)) (list_all has_few_tokens ms) h).1))

-- those of both pre-messages alone, and all
abbrev pub first_rows : List Token → List Token → List Row
first_rows i r = pre_row Initiator i ++ pre_row Responder r

abbrev pub all_rows : List Token → List Token → List (List Token) → List Row
all_rows i r ms = pre_rows i r ++ message_rows Initiator ms

pub first_lines : (i r : List Token) → lines_of (first_rows i r) ≡ pre_line Initiator i ++ pre_line Responder r
first_lines i r = lines_of-append (pre_row Initiator i) (pre_row Responder r) ∙ rw (lines_of-pre Initiator i, lines_of-pre Responder r) refl

pub all_lines : (i r : List Token) (ms : List (List Token)) → lines_of (all_rows i r ms) ≡ pre_lines i r ++ message_lines Initiator ms
all_lines i r ms = lines_of-append (pre_rows i r) (message_rows Initiator ms) ∙ rw (lines_of-both i r, lines_of-messages Initiator ms) refl

pub first_right : (i r : List Token) → list_all is_row (first_rows i r) ≡ true
first_right i r = all_rows-append (pre_row Initiator i) (pre_row Responder r) (all_rows-pre Initiator i) (all_rows-pre Responder r)

pub all_right : (i r : List Token) (ms : List (List Token)) → list_all has_few_tokens ms ≡ true → list_all is_row (all_rows i r ms) ≡ true
all_right i r ms h = all_rows-append (pre_rows i r) (message_rows Initiator ms) (all_rows-both i r) (all_rows-messages Initiator ms h)

-- ---- the line after the pre-messages

abbrev pub is_ending : Row → Bool
is_ending ending = true
is_ending (tokens_of party tokens) = false

any_messages : (party : Role) (ms : List (List Token)) → list_any is_ending (message_rows party ms) ≡ false
any_messages party [] = refl
any_messages party (m ∷ ms) = any_messages (other party) ms

-- it is a row of the pre-messages alone
pub ending_all : (i r : List Token) (ms : List (List Token)) → list_any is_ending (all_rows i r ms) ≡ list_any is_ending (pre_rows i r)
ending_all i r ms = search (rules, any_messages)

pub ending_some : (i r : List Token) → pre_lines i r ≢ [] → list_any is_ending (pre_rows i r) ≡ true
ending_some [] [] some = absurd (some refl)
ending_some [] (u ∷ us) some = refl
ending_some (t ∷ ts) [] some = refl
ending_some (t ∷ ts) (u ∷ us) some = refl

pub some_ending : (i r : List Token) → list_any is_ending (pre_rows i r) ≡ true → pre_lines i r ≢ []
some_ending [] [] e = absurd (cc)
some_ending [] (u ∷ us) e = λ f. absurd (cc)
some_ending (t ∷ ts) r e = λ f. absurd (cc)

-- ---- one pattern

some_responder : (t : Token) (ts : List Token) → pre_lines [] (t ∷ ts) ≢ []
some_responder t ts e = cc

some_initiator : (t : Token) (ts r : List Token) → pre_lines (t ∷ ts) r ≢ []
some_initiator t ts r e = cc

-- the pre-messages by their rows, and the rows after them, where both patterns have pre-messages or neither has
pub pre_same : (i r j s : List Token) (xs ys : List Row) → (pre_lines i r ≢ [] → pre_lines j s ≢ []) → (pre_lines j s ≢ [] → pre_lines i r ≢ [])
    → pre_rows i r ++ xs ≡ pre_rows j s ++ ys → (i ≡ j) × (r ≡ s) × (xs ≡ ys)
pre_same [] [] [] [] xs ys h k e = (refl, refl, e)
pre_same [] [] [] (v ∷ vs) xs ys h k e = absurd (k (some_responder v vs) refl)
pre_same [] [] (u ∷ us) s xs ys h k e = absurd (k (some_initiator u us s) refl)
pre_same [] (t ∷ ts) [] [] xs ys h k e = absurd (h (some_responder t ts) refl)
pre_same (t ∷ ts) r [] [] xs ys h k e = absurd (h (some_initiator t ts r) refl)
pre_same [] (t ∷ ts) [] (v ∷ vs) xs ys h k e = (refl, cc, cc)
pre_same [] (t ∷ ts) (u ∷ us) [] xs ys h k e = absurd (cc)
pre_same [] (t ∷ ts) (u ∷ us) (v ∷ vs) xs ys h k e = absurd (cc)
pre_same (t ∷ ts) [] [] (v ∷ vs) xs ys h k e = absurd (cc)
pre_same (t ∷ ts) (x ∷ r) [] (v ∷ vs) xs ys h k e = absurd (cc)
pre_same (t ∷ ts) [] (u ∷ us) [] xs ys h k e = (cc, refl, cc)
pre_same (t ∷ ts) [] (u ∷ us) (v ∷ vs) xs ys h k e = absurd (cc)
pre_same (t ∷ ts) (x ∷ r) (u ∷ us) [] xs ys h k e = absurd (cc)
pre_same (t ∷ ts) (x ∷ r) (u ∷ us) (v ∷ vs) xs ys h k e = (cc, cc, cc)

messages_same : (party : Role) (ms ks : List (List Token)) → message_rows party ms ≡ message_rows party ks → ms ≡ ks
messages_same party [] [] e = refl
messages_same party [] (k ∷ ks) e = absurd (cc)
messages_same party (m ∷ ms) [] e = absurd (cc)
messages_same party (m ∷ ms) (k ∷ ks) e =
    let first : m ≡ k = cc in
    let rest : message_rows (other party) ms ≡ message_rows (other party) ks = cc in
    cons-same first (messages_same (other party) ms ks rest)

-- two patterns with the same lines
pub lines_same : (i r j s : List Token) (ms ks : List (List Token)) → list_all has_few_tokens ms ≡ true → list_all has_few_tokens ks ≡ true
    → pre_lines i r ++ message_lines Initiator ms ≡ pre_lines j s ++ message_lines Initiator ks → (i ≡ j) × (r ≡ s) × (ms ≡ ks)
lines_same i r j s ms ks h k e =
    let rows : all_rows i r ms ≡ all_rows j s ks = search (rows_same, all_right, all_lines) in
    let endings : list_any is_ending (pre_rows i r) ≡ list_any is_ending (pre_rows j s) = search (rules, ending_all) in
    let same = pre_same i r j s (message_rows Initiator ms) (message_rows Initiator ks) (λ f. some_ending j s (sym endings ∙ ending_some i r f))
    (λ f. some_ending i r (endings ∙ ending_some j s f)) rows in
    (same.0, same.1, messages_same Initiator ms ks same.2)
