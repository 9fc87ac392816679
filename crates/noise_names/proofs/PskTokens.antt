-- A plain pattern with psk tokens: its limits, and that its psk tokens stand where its places say.
use Rattle.std.proofs.Common.{rules, ◌≡◌, ℕ, suc, zero, ◌+◌, ◌<◌, ◌≤◌, Bool, true, false, ◌&&◌, ◌||◌, not, cond, eqb, leb, ltb, List, [], ◌∷◌, ◌++◌, Some, None, refl, ap, sym, ◌∙◌, subst, append-nil, map, length, get_or, arith}
use Rattle.noise_names.proofs.Common.{find, MatchOption, ⊤, list_any, list_all, nat_tests, Token, Psk, is_psk, own_tokens, Plan, plain_of, has_psk, are_places, psk_if, with_psk_tokens, with_psks_from, HavePsksAt, HavePsks, Placed, has_few_tokens, IsPattern, and_from, and_parts, leb-true, or_right, or_parts, cons-same}
use Rattle.noise_names.specs.Fundamental.{fundamental_of}

pub own-append : (xs ys : List Token) → own_tokens (xs ++ ys) ≡ own_tokens xs ++ own_tokens ys
own-append [] ys = refl
own-append (x ∷ xs) ys = at (not (is_psk x)) (own-append xs ys) where
  at : (b : Bool) → own_tokens (xs ++ ys) ≡ own_tokens xs ++ own_tokens ys
      → cond b (x ∷ own_tokens (xs ++ ys)) (own_tokens (xs ++ ys)) ≡ cond b (x ∷ own_tokens xs) (own_tokens xs) ++ own_tokens ys
  at true e = ap (λ (ts : List Token). x ∷ ts) e
  at false e = e

own_psk_if : (n : ℕ) (places : List ℕ) → own_tokens (psk_if n places) ≡ []
own_psk_if n places = at (list_any (λ m. eqb m n) places) where
  at : (b : Bool) → own_tokens (cond b (Psk ∷ []) []) ≡ []
  at true = refl
  at false = refl

own_psk_front : (b : Bool) (places : List ℕ) → own_tokens (cond b (psk_if 0 places) []) ≡ []
own_psk_front true places = own_psk_if 0 places
own_psk_front false places = refl

-- the other tokens of a message with its psk tokens
own_tokens-with : (places : List ℕ) (n : ℕ) (own : List Token) → own_tokens own ≡ own → own_tokens (with_psk_tokens places n own) ≡ own
own_tokens-with places n own e = search (own-append, own_psk_front, own_psk_if, append-nil)

-- a message with no psk token
pub no_psk_own : (tokens : List Token) → list_any is_psk tokens ≡ false → own_tokens tokens ≡ tokens
no_psk_own [] h = refl
no_psk_own (t ∷ ts) h =
    let a : (is_psk t ≡ false) × (list_any is_psk ts ≡ false) = or_parts (is_psk t) (list_any is_psk ts) h in
    rw (a.0) (ap (λ (us : List Token). t ∷ us) (no_psk_own ts a.1))

abbrev any_psk : List (List Token) → Bool
any_psk messages = list_any (λ tokens. list_any is_psk tokens) messages

pub have_psks : (places : List ℕ) (n : ℕ) (messages : List (List Token)) → any_psk messages ≡ false → HavePsksAt places n (with_psks_from places n messages)
have_psks places n [] h = tt
have_psks places n (m ∷ ms) h =
    let a = or_parts (list_any is_psk m) (any_psk ms) h in
    (ap (λ (ts : List Token). with_psk_tokens places n ts) (sym (own_tokens-with places n m (no_psk_own m a.0))), have_psks places (n + 1) ms a.1)

own_of_psks : (places : List ℕ) (n : ℕ) (messages : List (List Token)) → any_psk messages ≡ false → map own_tokens (with_psks_from places n messages) ≡ messages
own_of_psks places n [] h = refl
own_of_psks places n (m ∷ ms) h =
    let a = or_parts (list_any is_psk m) (any_psk ms) h in
    cons-same (own_tokens-with places n m (no_psk_own m a.0)) (own_of_psks places (n + 1) ms a.1)

pub own_of_plain : (messages : List (List Token)) → any_psk messages ≡ false → map own_tokens messages ≡ messages
own_of_plain [] h = refl
own_of_plain (m ∷ ms) h =
    let a = or_parts (list_any is_psk m) (any_psk ms) h in
    cons-same (no_psk_own m a.0) (own_of_plain ms a.1)

pub length-psks : (places : List ℕ) (n : ℕ) (messages : List (List Token)) → length (with_psks_from places n messages) ≡ length messages
length-psks places n [] = refl
length-psks places n (m ∷ ms) = ap (λ (k : ℕ). suc k) (length-psks places (n + 1) ms)

pub few_psks : (places : List ℕ) (n : ℕ) (messages : List (List Token)) → any_psk messages ≡ false → list_all has_few_tokens messages ≡ true
    → list_all has_few_tokens (with_psks_from places n messages) ≡ true
few_psks places n [] h few = refl
few_psks places n (m ∷ ms) h few =
    let a = or_parts (list_any is_psk m) (any_psk ms) h in
    let b = and_parts (has_few_tokens m) (list_all has_few_tokens ms) few in
    let own : own_tokens (with_psk_tokens places n m) ≡ own_tokens m = own_tokens-with places n m (no_psk_own m a.0) ∙ sym (no_psk_own m a.0) in
    let here : has_few_tokens (with_psk_tokens places n m) ≡ true = ap (λ (ts : List Token). leb 1 (length ts) && leb (length ts) 8) own ∙ b.0 in
    and_from _ _ here (few_psks places (n + 1) ms a.1 b.1)

-- a message of a plain pattern has at most 8 tokens
pub few_plain : (messages : List (List Token)) (i : ℕ) → any_psk messages ≡ false → list_all has_few_tokens messages ≡ true → length (get_or messages i []) ≤ 8
few_plain [] i h few = omega arith
few_plain (m ∷ ms) zero h few = search (rules, no_psk_own)
few_plain (m ∷ ms) (suc i) h few =
    search ((few_plain ms i (or_parts (list_any is_psk m) (any_psk ms) h).1 (and_parts (has_few_tokens m) (list_all has_few_tokens ms) few).1))

pub few_messages : (messages : List (List Token)) → leb 1 (length messages) && leb (length messages) 8 ≡ true → length messages ≤ 8
few_messages messages h = leb-true (length messages) 8 (and_parts (leb 1 (length messages)) (leb (length messages) 8) h).1

-- no place is beyond the messages
in_range : (count : ℕ) (places : List ℕ) → find (λ n. ltb count n) places ≡ None → list_all (λ n. leb n count) places ≡ true
in_range count [] e = refl
in_range count (n ∷ ns) e = at (ltb count n) refl (in_range count ns) e where
  within : (m n : ℕ) → ltb m n ≡ false → leb n m ≡ true
  within m n t = grind (arith, nat_tests)

  at : (b : Bool) → ltb count n ≡ b → (find (λ k. ltb count k) ns ≡ None → list_all (λ k. leb k count) ns ≡ true)
      → cond b (Some n) (find (λ k. ltb count k) ns) ≡ None → leb n count && list_all (λ k. leb k count) ns ≡ true
  at true h more f = absurd (cc)
  at false h more f = rw (within count n h) (more f)

-- a pattern with a psk place has a psk token
any-snoc : (tokens : List Token) → list_any is_psk (tokens ++ Psk ∷ []) ≡ true
any-snoc [] = refl
any-snoc (t ∷ ts) = at (is_psk t) (any-snoc ts) where
  at : (b : Bool) → list_any is_psk (ts ++ Psk ∷ []) ≡ true → b || list_any is_psk (ts ++ Psk ∷ []) ≡ true
  at true e = refl
  at false e = e

shows : (places : List ℕ) (k d : ℕ) (messages : List (List Token)) → d < length messages → list_any (λ m. eqb m (k + d)) places ≡ true
    → HavePsksAt places k messages → any_psk messages ≡ true
shows places k d [] less there h = absurd (omega arith)
shows places k zero (m ∷ ms) less there h = search (rules, any-snoc)
shows places k (suc d) (m ∷ ms) less there h =
    let next : k + suc d ≡ (k + 1) + d = omega arith in
    let later : list_any (λ p. eqb p ((k + 1) + d)) places ≡ true = subst (λ (n : ℕ). list_any (λ p. eqb p n) places ≡ true) next there in
    or_right (list_any is_psk m) (any_psk ms) (shows places (k + 1) d ms (omega arith) later h.1)

pub plain_places : (places : List ℕ) (messages : List (List Token)) → any_psk messages ≡ false → HavePsks places messages → 1 ≤ length messages → places ≡ []
plain_places [] messages none h some = refl
plain_places (zero ∷ ns) [] none h some = absurd (omega arith)
plain_places (zero ∷ ns) (m ∷ ms) none h some = search rules
plain_places (suc n ∷ ns) messages none h some =
    let range : leb (suc n) (length messages) ≡ true = (and_parts (leb (suc n) (length messages)) (list_all (λ k. leb k (length messages)) ns) h.in_range).0 in
    let less : n < length messages = less_from_test n (length messages) range in
    let there : list_any (λ m. eqb m (1 + n)) (suc n ∷ ns) ≡ true = rw (same n) refl in
    absurd (let bad : true ≡ false = sym (shows (suc n ∷ ns) 1 n messages less there h.tokens) ∙ none in cc)
  where
    less_from_test : (n k : ℕ) → leb (suc n) k ≡ true → n < k
    less_from_test n k t = grind (arith, nat_tests)

    same : (n : ℕ) → eqb (suc n) (1 + n) ≡ true
    same n = grind (arith, nat_tests)

-- the plain pattern with its psk tokens
abbrev pub with_psks : Plan → List ℕ → Plan
with_psks plain places =
    record { base = plain.base; places = places; initiator = plain.initiator; responder = plain.responder; messages = with_psks_from places 1 plain.messages }

pub plain_of-with : (plain : Plan) (places : List ℕ) → has_psk plain ≡ false → IsPattern plain → plain_of (with_psks plain places) ≡ plain
plain_of-with plain places none limits = search (rules, own_of_psks, plain_places)

pub psks_placed : (plain : Plan) (places : List ℕ) → has_psk plain ≡ false → IsPattern plain → find (λ n. ltb (length plain.messages) n) places ≡ None
    → Placed plain places (with_psks plain places)
psks_placed plain places none limits range = record {
  without = plain_of-with plain places none limits;
  places_are = refl;
  psks = record {
    tokens = have_psks places 1 plain.messages none;
    in_range = rw (length-psks places 1 plain.messages) (in_range (length plain.messages) places range);
  };
}

pub psks_pattern : (plain : Plan) (places : List ℕ) → has_psk plain ≡ false → IsPattern plain → are_places places ≡ true
    → find (λ n. ltb (length plain.messages) n) places ≡ None → IsPattern (with_psks plain places)
psks_pattern plain places none limits rising range =
    let placed : Placed plain places (with_psks plain places) = psks_placed plain places none limits range in
    let same : plain_of plain ≡ plain_of (with_psks plain places) = search (own_of_plain, own_of_psks) in
    record {
      base = limits.base;
      places = rising;
      initiator = limits.initiator;
      responder = limits.responder;
      count = rw (length-psks places 1 plain.messages) limits.count;
      sizes = few_psks places 1 plain.messages none limits.sizes;
      psks = placed.psks;
      known = subst (λ (q : Plan). MatchOption (fundamental_of plain.base) ⊤ (λ f. q ≡ f)) same limits.known;
    }

-- one message more
pub psks-push : (places : List ℕ) (n : ℕ) (messages : List (List Token)) (m : List Token)
    → with_psks_from places n (messages ++ m ∷ []) ≡ with_psks_from places n messages ++ with_psk_tokens places (n + length messages) m ∷ []
psks-push places n [] m = let e : n ≡ n + 0 = omega arith in ap (λ (k : ℕ). with_psk_tokens places k m ∷ []) e
psks-push places n (x ∷ xs) m = search (rules, (psks-push places (n + 1) xs m))
