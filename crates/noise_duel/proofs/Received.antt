-- Bytes that come to an end piece by piece, and what is reported of them.
use Rattle.std.proofs.Common.{rules, ◌≡◌, ℕ, zero, suc, Bool, false, ◌==◌, IfSome, ◌+◌, ◌<◌, ◌≤◌, List, ◌∷◌, ◌++◌, length, drop, Option, Some, None, refl, ap, sym, subst, ◌∙◌, arith, append_assoc, append-nil, length-append, []}
use Rattle.noise_duel.proofs.Common.{Role, Own, IsPartial, StepValue, EndState, EndValue, EndMatches, progress_of, Takes, notes_of, step_of, Note, Left, left_note, held_note, noted_by, Side, SideReceives, is_idle, step_note, left_of, note_of_left, AreLeft, HasReceivedSome, HasStopped}
use Rattle.noise_session.specs.Steps.StepValue.{Ended, YourTurn, Silent}
use Rattle.noise_duel.specs.declared.entry.Entry.{Entry}
use Rattle.noise_duel.specs.declared.entry.Idle.{Idle}
use Rattle.noise_duel.specs.OneEnd.{HasReceived}
use Rattle.noise_duel.proofs.Linking.{receives-nothing, takes-taken, takes-none, is-idle}
use Rattle.noise_keys.specs.Keys.{KeyPairs}

noted_by-append : (role : Role) (ms ns : List Note) → noted_by role (ms ++ ns) ≡ noted_by role ms ++ noted_by role ns
noted_by-append role [] ns = refl
noted_by-append role (m ∷ ms) ns = ap (λ (xs : List (Role × Note)). (role, m) ∷ xs) (noted_by-append role ms ns)

-- one thing reported after another
pub reported-more : (role : Role) (before between after : List (Role × Entry)) (notes more : List Note) → notes_of between ≡ notes_of before ++ noted_by role notes
    → notes_of after ≡ notes_of between ++ noted_by role more → notes_of after ≡ notes_of before ++ noted_by role (notes ++ more)
reported-more role before between after notes more e f = search (rules, append_assoc, noted_by-append)

left-some : (step : StepValue) (n : ℕ) → 0 < n → left_note step n ≡ Left step n ∷ []
left-some step zero some = absurd (omega arith)
left-some step (suc n) some = refl

-- a list that is not empty
pub is-some : (b : Bool) (n : ℕ) → b ≡ (n == 0) → b ≡ false → 0 < n
is-some b zero e f = cc
is-some b (suc n) e f = omega arith

-- the index of the next piece, of which at most 8 are empty
pub index-on : (i n rest beyond bytes : ℕ) → (8 ≤ i → 0 < n) → beyond + n ≡ rest → i + rest ≤ 8 + bytes → rest ≤ bytes → i + 1 + beyond ≤ 8 + bytes
index-on i n rest beyond bytes late e f g = grind arith

-- at most so many are left
most-left : (step : StepValue) (n most : ℕ) → n ≤ most → IfSome (left_of step n) (λ l. l.1 ≤ most)
most-left Ended n most h = h
most-left YourTurn n most h = h
most-left Silent n most h = h
most-left _ n most h = tt

pub left_of-most : (step : StepValue) (left : Option (Idle × ℕ)) (n most : ℕ) → left ≡ left_of step n → n ≤ most → IfSome left (λ l. l.1 ≤ most)
left_of-most step left n most e h = subst (λ (o : Option (Idle × ℕ)). IfSome o (λ l. l.1 ≤ most)) (sym e) (most-left step n most h)

module _ {K : Type 0} (pairs : K → KeyPairs) where
  -- a take more
  pub received-more : (s : Side) (role : Role) (bytes rest left : List ℕ) (end then : EndValue K) (before between after : List (Role × Entry))
      (n : ℕ) (step : StepValue) (h : HasReceivedSome pairs s role bytes rest end before between) → left ≡ drop n rest
      → ((v : EndState) → EndMatches pairs end v → (next : EndState) × Takes v rest n step next × EndMatches pairs then next)
      → notes_of after ≡ notes_of between ++ noted_by role (step_note step)
      → HasReceivedSome pairs s role bytes left then before after
  received-more s role bytes rest left end then before between after n step h is takes reported =
      let w = takes h.next.state h.matches in
      let t = takes-taken h.next rest n step w.0 w.1 in
      record {
        next = t.after;
        notes = h.notes ++ step_note step;
        goes_on = search (rules, append_assoc);
        matches = subst (λ (v : EndState). EndMatches pairs then v) (sym t.state) w.2;
        frames = t.frames ∙ h.frames;
        reported = reported-more role before between after h.notes (step_note step) h.reported reported;
      }

  -- none is taken of the rest
  pub stopped-idle : (s : Side) (role : Role) (bytes rest : List ℕ) (end then : EndValue K) (before between : List (Role × Entry)) (n : ℕ) (step : StepValue)
      (left : Option (Idle × ℕ)) (h : HasReceivedSome pairs s role bytes rest end before between)
      → ((v : EndState) → EndMatches pairs end v → (next : EndState) × Takes v rest n step next × EndMatches pairs then next)
      → n ≡ 0 → 0 < length rest → IsPartial end.partial → left ≡ left_of step (length rest)
      → HasStopped pairs s role bytes left then before between
  stopped-idle s role bytes rest end then before between n step left h takes none some partial found =
      let w = takes h.next.state h.matches in
      let t = takes-none h.next.state w.0 rest n step w.1 none some (subst (λ (partial : List ℕ). IsPartial partial) h.matches.partial partial) in
      let i = is-idle (progress_of h.next.state) step t.0 in
      record {
        rest = rest;
        some = search rules;
        rest_is = search rules;
      }

  -- bytes of a piece more, with all after it
  abbrev received-after : (s : Side) (role : Role) (bytes rest piece left beyond : List ℕ) (end then : EndValue K) (before between after : List (Role × Entry))
      (h : HasReceivedSome pairs s role bytes rest end before between) → rest ≡ piece ++ beyond
      → HasReceivedSome pairs h.next role piece left then between after
      → HasReceivedSome pairs s role bytes (left ++ beyond) then before after
  received-after s role bytes rest piece left beyond end then before between after h is w = record {
    next = w.next;
    notes = h.notes ++ w.notes;
    goes_on = λ later more last r.
        let all : rest ++ later ≡ piece ++ (beyond ++ later) = ap (λ (xs : List ℕ). xs ++ later) is ∙ append_assoc piece beyond later in
        subst (λ (ns : List Note). SideReceives s (bytes ++ later) ns last) (sym (append_assoc h.notes w.notes more))
        (h.goes_on later (w.notes ++ more) last
        (subst (λ (xs : List ℕ). SideReceives h.next xs (w.notes ++ more) last) (sym all)
        (w.goes_on (beyond ++ later) more last (subst (λ (xs : List ℕ). SideReceives w.next xs more last) (append_assoc left beyond later) r))));
    matches = w.matches;
    frames = w.frames ∙ h.frames;
    reported = reported-more role before between after h.notes w.notes h.reported w.reported;
  }

  -- a whole piece more
  pub received-piece : (s : Side) (role : Role) (bytes rest piece beyond : List ℕ) (end then : EndValue K) (before between after : List (Role × Entry))
      (left : Option (Idle × ℕ)) (h : HasReceivedSome pairs s role bytes rest end before between) → rest ≡ piece ++ beyond → left ≡ None
      → ((t : Side) → EndMatches pairs end t.state → HasStopped pairs t role piece left then between after)
      → HasReceivedSome pairs s role bytes beyond then before after
  received-piece s role bytes rest piece beyond end then before between after left h is found stops =
      let w = stops h.next h.matches in
      let none : w.rest ≡ [] = subst (λ (l : Option (Idle × ℕ)). AreLeft w.some.next w.rest l) found w.rest_is in
      subst (λ (xs : List ℕ). HasReceivedSome pairs s role bytes (xs ++ beyond) then before after) none
      (received-after s role bytes rest piece w.rest beyond end then before between after h is w.some)

  -- a piece of which some are left, and with them all after it
  pub stopped-piece : (s : Side) (role : Role) (bytes rest piece beyond : List ℕ) (end then : EndValue K) (before between after : List (Role × Entry))
      (left : Option (Idle × ℕ)) (why : Idle) (n : ℕ) (h : HasReceivedSome pairs s role bytes rest end before between)
      → rest ≡ piece ++ beyond → left ≡ Some (why, n)
      → ((t : Side) → EndMatches pairs end t.state → HasStopped pairs t role piece left then between after)
      → HasStopped pairs s role bytes (Some (why, n + length beyond)) then before after
  stopped-piece s role bytes rest piece beyond end then before between after left why n h is found stops =
      let w = stops h.next h.matches in
      let some = subst (λ (l : Option (Idle × ℕ)). AreLeft w.some.next w.rest l) found w.rest_is in
      record {
        rest = w.rest ++ beyond;
        some = received-after s role bytes rest piece w.rest beyond end then before between after h is w.some;
        rest_is = (some.0, omega (arith, some.1), length-append w.rest beyond ∙ ap (λ (k : ℕ). k + length beyond) some.2);
      }

  -- what comes of all bytes, where they have ended or some are left
  left-received : (s : Side) (rest : List ℕ) (left : Option (Idle × ℕ)) → AreLeft s rest left → IsPartial s.state.partial
      → SideReceives s rest (note_of_left left) s
  left-received s rest None none partial = subst (λ (xs : List ℕ). SideReceives s xs [] s) (sym none) (receives-nothing s partial)
  left-received s rest (Some left) is partial =
      subst (λ (ns : List Note). SideReceives s rest ns s) (ap (left_note (step_of left.0)) is.2 ∙ left-some (step_of left.0) left.1 is.1)
      (is_idle s rest (step_of left.0) is.0)

  pub received-all : (s : Side) (role : Role) (bytes : List ℕ) (left : Option (Idle × ℕ)) (end : EndValue K) (count : ℕ)
      (before between reported after : List (Role × Entry))
      → HasStopped pairs s role bytes left end before between → IsPartial end.partial → count ≡ length end.partial
      → notes_of reported ≡ notes_of between ++ noted_by role (note_of_left left)
      → notes_of after ≡ notes_of reported ++ noted_by role (held_note count)
      → HasReceived pairs s role bytes end before after
  received-all s role bytes left end count before between reported after h partial is e f =
      let next = h.some.next in
      let notes = h.some.notes in
      let rest = left-received next h.rest left h.rest_is (subst (λ (partial : List ℕ). IsPartial partial) h.some.matches.partial partial) in
      let all : SideReceives s (bytes ++ []) (notes ++ note_of_left left) next = search rules in
      record {
        next = next;
        notes = notes ++ note_of_left left;
        receives = subst (λ (xs : List ℕ). SideReceives s xs (notes ++ note_of_left left) next) (append-nil bytes) all;
        matches = h.some.matches;
        frames = h.some.frames;
        reported = search (rules, reported-more);
      }
