-- The fundamental patterns are within the limits, and each is found by its base.
use Rattle.std.proofs.Common.{rules, ◌≡◌, ℕ, ◌≤◌, ◌+◌, Bool, true, false, ◌&&◌, cond, List, [], ◌∷◌, ◌++◌, Option, Some, None, refl, map, ap, sym, subst, ◌∙◌, length, get_or, arith, append-nil, zero, suc}
use Rattle.std.specs.Prelude.{nat_eq}
use Rattle.noise_names.proofs.Common.{find, nat_le, MatchOption, ⊤, slice_get, bytes_eq, list_all, Token, own_tokens, Plan, plain_of, is_base, are_places, IsPattern, HavePsksAt, Placed, is_pre_message, has_few_tokens, IsValid, first_fault, and_parts, leb-true}
use Rattle.noise_names.specs.Fundamental.{fundamentals, fundamental_of}
use Rattle.noise_names.specs.Validity.{first_fault_from}
use Rattle.noise_names.proofs.Checking.{none_valid}

-- what is found has what all elements have
found_all : {X : Type 0} (test keeps : X → Bool) (xs : List X) (x : X) → find test xs ≡ Some x → list_all keeps xs ≡ true → keeps x ≡ true
found_all test keeps [] x e h = absurd (cc)
found_all {X = X} test keeps (y ∷ ys) x e h =
    at (and_parts (keeps y) (list_all keeps ys) h).0 (λ f. found_all test keeps ys x f (and_parts (keeps y) (list_all keeps ys) h).1) (test y) e where
      at : keeps y ≡ true → (find test ys ≡ Some x → keeps x ≡ true) → (b : Bool) → cond b (Some y) (find test ys) ≡ Some x → keeps x ≡ true
      at here more true f = let same : y ≡ x = cc in subst (λ (z : X). keeps z ≡ true) same here
      at here more false f = more f

pub found_map : {X Y : Type 0} (test : X → Bool) (f g : X → Y) (xs : List X) (x : X) → find test xs ≡ Some x → map f xs ≡ map g xs → f x ≡ g x
found_map test f g [] x e h = absurd (cc)
found_map {X = X} test f g (y ∷ ys) x e h =
    let here : f y ≡ g y = cc in
    let more : map f ys ≡ map g ys = cc in
    at here (λ k. found_map test f g ys x k more) (test y) e
  where
    at : f y ≡ g y → (find test ys ≡ Some x → f x ≡ g x) → (b : Bool) → cond b (Some y) (find test ys) ≡ Some x → f x ≡ g x
    at here more true k = let same : y ≡ x = cc in subst (λ (z : X). f z ≡ g z) same here
    at here more false k = more k

-- the limits that are tests, for a pattern with no psk places
abbrev is_within : Plan → Bool
is_within p =
    is_base p.base
    && (is_pre_message p.initiator
    && (is_pre_message p.responder
    && ((nat_le 1 (length p.messages) && nat_le (length p.messages) 8)
    && (list_all has_few_tokens p.messages
    && list_all (λ tokens. nat_le (length tokens) 10) p.messages))))

pub fundamentals_within : list_all is_within fundamentals ≡ true
unfolding fundamentals
fundamentals_within = refl

pub fundamentals_plain : map plain_of fundamentals ≡ map (λ p. p) fundamentals
unfolding fundamentals
fundamentals_plain = refl

pub fundamentals_known : map (λ p. fundamental_of p.base) fundamentals ≡ map (λ p. Some p) fundamentals
unfolding fundamentals fundamental_of
fundamentals_known = refl

pub fundamentals_faultless : map first_fault fundamentals ≡ map (λ p. None) fundamentals
unfolding fundamentals first_fault_from
fundamentals_faultless = refl

-- messages without psk tokens
pub plain_messages : (n : ℕ) (messages : List (List Token)) → map own_tokens messages ≡ messages → HavePsksAt [] n messages
plain_messages n [] h = tt
plain_messages n (m ∷ ms) h =
    let here : own_tokens m ≡ m = cc in
    let more : map own_tokens ms ≡ ms = cc in
    (at here (nat_eq n 1), plain_messages (n + 1) ms more)
  where
    at : own_tokens m ≡ m → (b : Bool) → m ≡ cond b [] [] ++ own_tokens m ++ []
    at here true = sym (append-nil (own_tokens m) ∙ here)
    at here false = sym (append-nil (own_tokens m) ∙ here)

-- one that is found by its base is a pattern
pub known_is_pattern : (base : List ℕ) (p : Plan) → fundamental_of base ≡ Some p → IsPattern p
unfolding fundamental_of
known_is_pattern base p found =
    let within : is_within p ≡ true = found_all (λ q. bytes_eq q.base base) is_within fundamentals p found fundamentals_within in
    let plain : plain_of p ≡ p = found_map (λ q. bytes_eq q.base base) plain_of (λ q. q) fundamentals p found fundamentals_plain in
    let known : fundamental_of p.base ≡ Some p =
    found_map (λ q. bytes_eq q.base base) (λ q. fundamental_of q.base) (λ q. Some q) fundamentals p found fundamentals_known in
    let no_places : [] ≡ p.places = ap (λ (q : Plan). q.places) plain in
    let a = and_parts (is_base p.base) _ within in
    let b = and_parts (is_pre_message p.initiator) _ a.1 in
    let c = and_parts (is_pre_message p.responder) _ b.1 in
    let d = and_parts (nat_le 1 (length p.messages) && nat_le (length p.messages) 8) _ c.1 in
    let e = and_parts (list_all has_few_tokens p.messages) _ d.1 in
    record {
      base = a.0;
      places = subst (λ (ns : List ℕ). are_places ns ≡ true) no_places refl;
      initiator = b.0;
      responder = c.0;
      count = d.0;
      sizes = e.0;
      psks = search (rules, plain_messages);
      known = subst (λ (o : Option Plan). MatchOption o ⊤ (λ f. plain_of p ≡ f)) (sym known) plain;
    }

-- one that is found by its base is valid
pub known_is_valid : (base : List ℕ) (p : Plan) → fundamental_of base ≡ Some p → IsValid p
unfolding fundamental_of
known_is_valid base p found =
    none_valid p (found_map (λ q. bytes_eq q.base base) first_fault (λ q. None) fundamentals p found fundamentals_faultless)

-- one that is found by its base is itself with no psk tokens added
pub known_is_placed : (base : List ℕ) (p : Plan) → fundamental_of base ≡ Some p → Placed p [] p
unfolding fundamental_of
known_is_placed base p found = search rules

-- its messages are short
pub known_is_short : (base : List ℕ) (p : Plan) (i : ℕ) → fundamental_of base ≡ Some p → length (get_or p.messages i []) ≤ 10
unfolding fundamental_of
known_is_short base p i found = search rules

pub known_is_few : (base : List ℕ) (p : Plan) → fundamental_of base ≡ Some p → length p.messages ≤ 8
known_is_few base p found =
    leb-true (length p.messages) 8 (and_parts (nat_le 1 (length p.messages)) (nat_le (length p.messages) 8) (known_is_pattern base p found).count).1

past : {X : Type 0} (xs : List X) (i : ℕ) → length xs ≤ i → slice_get xs i ≡ None
past [] i h = refl
past (y ∷ ys) zero h = absurd (omega arith)
past (y ∷ ys) (suc i) h = past ys i (omega arith)

-- there are fifteen
pub no_more_fundamentals : (i : ℕ) → 15 ≤ i → slice_get fundamentals i ≡ None
unfolding fundamentals
no_more_fundamentals i h = past fundamentals i h
