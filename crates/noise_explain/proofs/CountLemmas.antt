-- What one act more makes of the counts of a party.
use Rattle.std.proofs.Common.{◌≡◌, ◌∙◌, ◌+◌, ◌≤◌, ◌++◌, ◌∷◌, ℕ, Bool, false, List, [], ap, sym, take, drop, length, arith, length-drop, length-take, true}
use Rattle.std.specs.Prelude.{Option, Some, None, cond, if◌then◌else◌}
use Rattle.std.specs.List.{filter, filter_map}
use Rattle.std.proofs.lemmas.List.{append-nil, drop-append-le, take-append-le}
use Rattle.std.proofs.lemmas.List.Elements.{filter-append, filter_map-append}
use Rattle.std.proofs.lemmas.List.Sums.{count_by-le-length, length-filter, sum_by-append}
use Rattle.noise_names.specs.Tokens.{same_role}
use Rattle.noise_names.specs.declared.token.Role.{Role}
use Rattle.noise_explain.specs.RunCounts.{CountsParty, acts_by, count_of, passed_in, passes, same_act}
use Rattle.noise_explain.specs.declared.run_counts.Act.{Act}
use Rattle.noise_explain.specs.declared.run_counts.Act.TheVariants.{Wrote, Accepted, Dropped, Sealed, Opened, Rejected}
use Rattle.noise_explain.specs.declared.run_counts.PartyCounts.{PartyCounts}

-- how often an act is among these and one more
pub one-more : (act x : Act) (xs : List Act) → count_of act (xs ++ x ∷ []) ≡ count_of act xs + cond (same_act act x) 1 0
one-more act x xs = sum_by-append (λ a. cond (same_act act a) 1 0) xs (x ∷ []) ∙ omega arith

unpassed : (xs : List Act) (x : Act) → filter passes (x ∷ []) ≡ [] → passed_in (xs ++ x ∷ []) ≡ passed_in xs
unpassed xs x none = filter-append passes xs (x ∷ []) ∙ ap (λ (t : List Act). passed_in xs ++ t) none ∙ append-nil (passed_in xs)

passed-more : (xs : List Act) (x : Act) → filter passes (x ∷ []) ≡ x ∷ [] → passed_in (xs ++ x ∷ []) ≡ passed_in xs ++ x ∷ []
passed-more xs x one = filter-append passes xs (x ∷ []) ∙ ap (λ (t : List Act). passed_in xs ++ t) one

-- a message that was passed after the handshake
pub later-act : (n : ℕ) (xs : List Act) (x : Act) (c : PartyCounts) (s r : ℕ) → filter passes (x ∷ []) ≡ x ∷ [] → n ≤ c.passed
    → s ≡ c.sent + cond (same_act Wrote x) 1 0 → r ≡ c.received + cond (same_act Accepted x) 1 0
    → same_act Dropped x ≡ false → same_act Sealed x ≡ false → same_act Opened x ≡ false → same_act Rejected x ≡ false
    → CountsParty n xs c → CountsParty n (xs ++ x ∷ []) (record c { sent = s; received = r })
later-act n xs x c s r one over sent received dropped sealed opened rejected h =
    let before = passed_in xs in
    let long : n ≤ length before = omega (arith, over, h.passed, length-take n before) in
    let first : take n (passed_in (xs ++ x ∷ [])) ≡ take n before = ap (take n) (passed-more xs x one) ∙ take-append-le n before (x ∷ []) long in
    let last : drop n (passed_in (xs ++ x ∷ [])) ≡ drop n before ++ x ∷ [] = ap (drop n) (passed-more xs x one) ∙ drop-append-le n before (x ∷ []) long in
    let later : (act : Act) (k l : ℕ) → l ≡ k + cond (same_act act x) 1 0 → k ≡ count_of act (drop n before)
    → l ≡ count_of act (drop n (passed_in (xs ++ x ∷ []))) =
    λ act k l e f. e ∙ ap (λ (m : ℕ). m + cond (same_act act x) 1 0) f ∙ sym (one-more act x (drop n before)) ∙ ap (count_of act) (sym last) in
    let other : (act : Act) (k : ℕ) → same_act act x ≡ false → k ≡ count_of act xs → k ≡ count_of act (xs ++ x ∷ []) =
    λ act k no_act f. f ∙ sym (one-more act x xs ∙ ap (λ (b : Bool). count_of act xs + cond b 1 0) no_act ∙ omega arith) in
    record {
      passed = h.passed ∙ ap length (sym first);
      wrote = h.wrote ∙ ap (count_of Wrote) (sym first);
      accepted = h.accepted ∙ ap (count_of Accepted) (sym first);
      sent = later Wrote c.sent s sent h.sent;
      received = later Accepted c.received r received h.received;
      dropped = other Dropped c.dropped dropped h.dropped;
      sealed = other Sealed c.sealed sealed h.sealed;
      opened = other Opened c.opened opened h.opened;
      rejected = other Rejected c.rejected rejected h.rejected;
    }

-- how often a message is among those after the handshake is no more than all acts
pub few-later : (act : Act) (n : ℕ) (xs : List Act) → count_of act (drop n (passed_in xs)) ≤ length xs
few-later act n xs =
    omega (arith, count_by-le-length (same_act act) (drop n (passed_in xs)), length-drop n (passed_in xs), length-filter passes xs, count_by-le-length passes xs)

-- the acts of a party, after one more of a party
pub acts-more : (role by : Role) (act : Act) (xs : List (Role × Act)) → same_role by role ≡ true → acts_by role (xs ++ (by, act) ∷ []) ≡ acts_by role xs ++ act ∷ []
acts-more role by act xs same =
    filter_map-append (λ (a : Role × Act). if same_role a.0 role then Some a.1 else None) xs ((by, act) ∷ []) ∙ ap (λ (b : Bool). acts_by role xs ++ filter_map (λ (a : Bool). if a then Some act else None) (b ∷ [])) same

pub acts-same : (role by : Role) (act : Act) (xs : List (Role × Act)) → same_role by role ≡ false → acts_by role (xs ++ (by, act) ∷ []) ≡ acts_by role xs
acts-same role by act xs other =
    filter_map-append (λ (a : Role × Act). if same_role a.0 role then Some a.1 else None) xs ((by, act) ∷ []) ∙ ap (λ (b : Bool). acts_by role xs ++ filter_map (λ (a : Bool). if a then Some act else None) (b ∷ [])) other
    ∙ append-nil (acts_by role xs)

few-made : {X Y : Type 0} (h : X → Option Y) (xs : List X) → length (filter_map h xs) ≤ length xs
few-made h [] = omega arith
few-made h (x ∷ xs) = let more = few-made h xs in grind arith

pub few-acts : (role : Role) (xs : List (Role × Act)) → length (acts_by role xs) ≤ length xs
few-acts role xs = few-made (λ (a : Role × Act). if same_role a.0 role then Some a.1 else None) xs
