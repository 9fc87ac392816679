-- Lines that were judged right begin the text of a right pattern, and are its whole text where no psk place is beyond the messages.
use Rattle.std.proofs.Common.{rules, ◌≡◌, ◌≢◌, ◌⊎◌, ◌↔◌, inl, inr, ℕ, suc, zero, ◌+◌, ◌-◌, ◌≤◌, Bool, true, false, leb, List, [], ◌∷◌, ◌++◌, None, refl, ap, sym, ◌∙◌, subst, append_assoc, length, length-append, arith, replicate}
use Rattle.std.specs.Prelude.{IsTrue}
use Rattle.noise_names.proofs.Common.{IsFalse, list_all, list_any, length-replicate, list_all-append, Role, Initiator, Responder, Token, E, S, is_psk, other, turn_from, Plan, plan_of, are_places, rises, HavePsksAt, IsPattern, has_few_tokens, is_pre_message, with_psks_from, line, message_lines, pre_line, pre_lines, body_of, dots, AreRightLines, RightLines, right_lines, and_parts}
use Rattle.noise_names.specs.Fundamental.{fundamental_of, fundamentals}
use Rattle.noise_names.proofs.PskTokens.{few_psks, have_psks, length-psks}
use Rattle.noise_names.proofs.Reading.{within-eight}

-- ---- messages and then others

-- their lines
pub message_lines-append : (party : Role) (xs ys : List (List Token))
    → message_lines party (xs ++ ys) ≡ message_lines party xs ++ message_lines (turn_from party (length xs)) ys
message_lines-append party [] ys = refl
message_lines-append party (x ∷ xs) ys = search (rules, append_assoc, (message_lines-append (other party) xs ys))

-- their psk tokens
pub have_psks-append : (places : List ℕ) (n : ℕ) (xs ys : List (List Token)) → HavePsksAt places n xs → HavePsksAt places (n + length xs) ys
    → HavePsksAt places n (xs ++ ys)
have_psks-append places n [] ys h k = let e : n + 0 ≡ n = omega arith in subst (λ (m : ℕ). HavePsksAt places m ys) e k
have_psks-append places n (x ∷ xs) ys h k =
    let e : n + suc (length xs) ≡ (n + 1) + length xs = omega arith in
    (h.0, have_psks-append places (n + 1) xs ys h.1 (subst (λ (m : ℕ). HavePsksAt places m ys) e k))

-- ---- messages of one own token

plain_fill : (k : ℕ) → list_any (λ tokens. list_any is_psk tokens) (replicate k (E ∷ [])) ≡ false
plain_fill zero = refl
plain_fill (suc k) = plain_fill k

few_fill : (k : ℕ) → list_all has_few_tokens (replicate k (E ∷ [])) ≡ true
few_fill zero = refl
few_fill (suc k) = few_fill k

-- those that make eight with the given messages, with the psk tokens of the places
abbrev pub added : List ℕ → List (List Token) → List (List Token)
added places ms = with_psks_from places (length ms + 1) (replicate (8 - length ms) (E ∷ []))

abbrev pub filled : List ℕ → List (List Token) → List (List Token)
filled places ms = ms ++ added places ms

filled_psks : (places : List ℕ) (ms : List (List Token)) → HavePsksAt places 1 ms → HavePsksAt places 1 (filled places ms)
filled_psks places ms h =
    have_psks-append places 1 ms (added places ms) h (subst (λ (n : ℕ). HavePsksAt places n (added places ms)) (turned (length ms))
    (have_psks places (length ms + 1) (replicate (8 - length ms) (E ∷ [])) (plain_fill (8 - length ms))))
  where
    turned : (n : ℕ) → n + 1 ≡ 1 + n
    turned n = omega arith

filled_few : (places : List ℕ) (ms : List (List Token)) → list_all has_few_tokens ms ≡ true → list_all has_few_tokens (filled places ms) ≡ true
filled_few places ms h = search (rules, few_psks, plain_fill, few_fill, list_all-append)

filled_length : (places : List ℕ) (ms : List (List Token)) → length ms ≤ 8 → length (filled places ms) ≡ 8
filled_length places ms h =
    let more : length (added places ms) ≡ 8 - length ms = search (length-psks, length-replicate) in
    length-append ms (added places ms) ∙ sum (length ms) (length (added places ms)) h more
  where
    sum : (n k : ℕ) → n ≤ 8 → k ≡ 8 - n → n + k ≡ 8
    sum n k h e = omega arith

-- ---- right patterns of a base that no fundamental one has

abbrev own_base : List ℕ
own_base = 65 ∷ []

no_fundamental : fundamental_of own_base ≡ None
unfolding fundamental_of fundamentals
no_fundamental = refl

-- of the given messages
right_pattern : (places : List ℕ) (i r : List Token) (ms : List (List Token)) → are_places places ≡ true → is_pre_message i ≡ true → is_pre_message r ≡ true
    → 1 ≤ length ms → length ms ≤ 8 → list_all has_few_tokens ms ≡ true → HavePsksAt places 1 ms → list_all (λ n. leb n (length ms)) places ≡ true
    → IsPattern (plan_of own_base places i r ms)
right_pattern places i r ms rising pi pr low high sizes psks range = record {
  base = refl;
  places = rising;
  initiator = pi;
  responder = pr;
  count = within-eight (length ms) low high;
  sizes = sizes;
  psks = record { tokens = psks; in_range = range };
  known = rw no_fundamental tt;
}

-- of those and the added ones
filled_pattern : (places : List ℕ) (i r : List Token) (ms : List (List Token)) → are_places places ≡ true → is_pre_message i ≡ true → is_pre_message r ≡ true
    → length ms ≤ 8 → list_all has_few_tokens ms ≡ true → HavePsksAt places 1 ms → IsPattern (plan_of own_base places i r (filled places ms))
filled_pattern places i r ms rising pi pr high sizes psks =
    let eight : length (filled places ms) ≡ 8 = filled_length places ms high in
    let range : list_all (λ n. leb n 8) places ≡ true = (and_parts (rises places) (list_all (λ n. leb n 8) places) rising).1 in
    right_pattern places i r (filled places ms) rising pi pr (omega arith) (omega arith) (filled_few places ms sizes) (filled_psks places ms psks)
    (subst (λ (k : ℕ). list_all (λ n. leb n k) places ≡ true) (sym eight) range)

-- ---- lines that were judged right

-- a right pattern that begins with the lines
pub record IsExtended (places : List ℕ) (dotted : Bool) (s : RightLines) : Type 0 where
  pub p : Plan
  pub is_pattern : IsPattern p
  pub own_name : fundamental_of p.base ≡ None
  pub places_are : p.places ≡ places
  pub pre_messages : pre_lines p.initiator p.responder ≢ [] ↔ IsTrue dotted
  pub begun : (rest : List ℕ) × (body_of p ≡ right_lines s ++ rest)
  pub same : IsFalse s.ahead → (p.initiator ≡ s.initiator) × (p.responder ≡ s.responder)

-- a right pattern that has these lines and no others
pub record IsWhole (places : List ℕ) (dotted : Bool) (s : RightLines) : Type 0 where
  pub p : Plan
  pub is_pattern : IsPattern p
  pub own_name : fundamental_of p.base ≡ None
  pub places_are : p.places ≡ places
  pub pre_messages : pre_lines p.initiator p.responder ≢ [] ↔ IsTrue dotted
  pub initiator : p.initiator ≡ s.initiator
  pub responder : p.responder ≡ s.responder
  pub messages : p.messages ≡ s.messages
  pub body_is : body_of p ≡ right_lines s

abbrev passed : Bool → List Token → List Token → List (List Token) → RightLines
passed ahead i r ms = record { ahead = ahead; initiator = i; responder = r; messages = ms }

-- the second of two facts, where the first does not hold
other_case : {X : Type 0} → IsTrue false ⊎ X → X
other_case (inl e) = absurd (cc)
other_case (inr x) = x

-- the line after the pre-messages is behind: both pre-messages are known
after_dots : (places : List ℕ) (dotted : Bool) (i r : List Token) (ms : List (List Token)) → AreRightLines places dotted (passed false i r ms)
    → pre_lines i r ≢ [] ↔ IsTrue dotted
after_dots places dotted i r ms h = (λ some. h.form.1 (inr some), λ d. other_case (h.form.0 d))

extended_after : (places : List ℕ) (dotted : Bool) (i r : List Token) (ms : List (List Token)) → are_places places ≡ true
    → AreRightLines places dotted (passed false i r ms) → IsExtended places dotted (passed false i r ms)
extended_after places dotted i r ms rising h = record {
  p = plan_of own_base places i r (filled places ms);
  is_pattern = filled_pattern places i r ms rising h.initiator h.responder h.count h.sizes h.psks;
  own_name = no_fundamental;
  places_are = refl;
  pre_messages = after_dots places dotted i r ms h;
  begun = (
    message_lines (turn_from Initiator (length ms)) (added places ms),
    ap (λ (k : List ℕ). pre_lines i r ++ k) (message_lines-append Initiator ms (added places ms))
        ∙ sym (append_assoc (pre_lines i r) (message_lines Initiator ms) (message_lines (turn_from Initiator (length ms)) (added places ms))),
  );
  same = λ e. (refl, refl);
}

-- that line is ahead: the pattern of these pre-messages, which begins with the lines
extended_before : (places : List ℕ) (dotted : Bool) (i r i' r' : List Token) (ms : List (List Token)) → are_places places ≡ true
    → AreRightLines places dotted (passed true i r ms) → is_pre_message i' ≡ true → is_pre_message r' ≡ true → pre_lines i' r' ≢ []
    → (rest : List ℕ) × (pre_lines i' r' ≡ (pre_line Initiator i ++ pre_line Responder r) ++ rest)
    → IsExtended places dotted (passed true i r ms)
extended_before places dotted i r i' r' ms rising h pi pr some begun = record {
  p = plan_of own_base places i' r' (filled places ms);
  is_pattern = filled_pattern places i' r' ms rising pi pr h.count h.sizes h.psks;
  own_name = no_fundamental;
  places_are = refl;
  pre_messages = (λ n. h.form.1 (inl refl), λ d. some);
  begun = (
    begun.0 ++ message_lines Initiator (filled places ms),
    ap (λ (k : List ℕ). k ++ message_lines Initiator (filled places ms)) begun.1
        ∙ append_assoc (pre_line Initiator i ++ pre_line Responder r) begun.0 (message_lines Initiator (filled places ms)),
  );
  same = λ e. absurd (cc);
}

extended_at : (places : List ℕ) (dotted ahead : Bool) (i r : List Token) (ms : List (List Token)) → are_places places ≡ true
    → AreRightLines places dotted (passed ahead i r ms) → IsExtended places dotted (passed ahead i r ms)
extended_at places dotted false i r ms rising h = extended_after places dotted i r ms rising h
extended_at places dotted true [] [] ms rising h =
    extended_before places dotted [] [] [] (S ∷ []) ms rising h refl refl (λ e. absurd (cc)) (pre_lines [] (S ∷ []), refl)
extended_at places dotted true [] (u ∷ us) ms rising h =
    extended_before places dotted [] (u ∷ us) [] (u ∷ us) ms rising h refl h.responder (λ e. absurd (cc)) (line dots, refl)
extended_at places dotted true (t ∷ ts) r ms rising h =
    extended_before places dotted (t ∷ ts) r (t ∷ ts) r ms rising h h.initiator h.responder (λ e. absurd (cc)) (line dots, refl)

-- such lines begin the text of a right pattern
pub extended : (places : List ℕ) (dotted : Bool) (s : RightLines) → IsTrue (are_places places) → AreRightLines places dotted s → IsExtended places dotted s
extended places dotted s rising h = extended_at places dotted s.ahead s.initiator s.responder s.messages rising h

whole_at : (places : List ℕ) (dotted ahead : Bool) (i r : List Token) (ms : List (List Token)) → are_places places ≡ true
    → AreRightLines places dotted (passed ahead i r ms) → ahead ≡ false → 1 ≤ length ms → list_all (λ n. leb n (length ms)) places ≡ true
    → IsWhole places dotted (passed ahead i r ms)
whole_at places dotted true i r ms rising h behind low range = absurd (cc)
whole_at places dotted false i r ms rising h behind low range = record {
  p = plan_of own_base places i r ms;
  is_pattern = right_pattern places i r ms rising h.initiator h.responder low h.count h.sizes h.psks range;
  own_name = no_fundamental;
  places_are = refl;
  pre_messages = after_dots places dotted i r ms h;
  initiator = refl;
  responder = refl;
  messages = refl;
  body_is = refl;
}

some_length : (ms : List (List Token)) → ms ≢ [] → 1 ≤ length ms
some_length [] some = absurd (some refl)
some_length (m ∷ ms) some = omega arith

-- where no psk place is beyond their messages, they are those of a right pattern
pub whole : (places : List ℕ) (dotted : Bool) (s : RightLines) → IsTrue (are_places places) → AreRightLines places dotted s → IsFalse s.ahead → s.messages ≢ []
    → IsTrue (list_all (λ n. leb n (length s.messages)) places) → IsWhole places dotted s
whole places dotted s rising h behind some range =
    whole_at places dotted s.ahead s.initiator s.responder s.messages rising h behind (some_length s.messages some) range
