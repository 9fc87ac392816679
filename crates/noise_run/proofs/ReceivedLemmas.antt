-- Bytes that come to an end, entry by entry.
use Rattle.std.proofs.Common.{rules, ◌≡◌, ◌∙◌, ◌+◌, ◌-◌, ◌≤◌, ◌⊎◌, inl, inr, refl, sym, ap, ap₂, subst, arith, ℕ, suc, List, [], ◌∷◌, ◌++◌, length, take, Vec, append_assoc, append-nil, length-append, Some}
use Rattle.noise_run.proofs.Common.{Global, take_at, Role, EndState, progress_of, frame, idle_step, StepValue, Judges, accepted, refused, opened, dropped, exhausted, Held, Left, Note, held_note, left_note, noted_by, SideReads, SideReceives, accepts_handshake, accepts_transport, refuses_message, Side, bytes_of, traces_of, IsOfNoFrame, ShowsEnd, blanks, came_traces, read_trace, Selection, TracedEnd}
use Rattle.noise_duel.specs.Notes.{Judged}
use Rattle.noise_duel.specs.Runs.SideReceives.{is_idle, waits, reads_frame}

abbrev Traces : Type 0
Traces = List (List (List ℕ))

-- of bytes that came this is to come, and after these notes all of the lines
pub record Reading (selection : Selection) (own role : Role) (reader : Side) (t : TracedEnd) (rest : List ℕ) (left : List (Role × Note)) (so_far whole : Traces)
    : Type 0 where
  pub s : Side
  pub bytes : List ℕ
  pub heard : List Note
  pub receives : SideReceives s bytes heard reader
  pub shows : ShowsEnd t s.state
  pub rest_is : rest ≡ s.state.partial ++ bytes
  pub left_is : left ≡ noted_by role (heard ++ held_note (length reader.state.partial))
  pub whole_is : so_far ++ came_traces selection own s reader bytes heard receives ≡ whole

-- all has come
pub record Finished (reader : Side) (t : TracedEnd) (rest : List ℕ) (left : List (Role × Note)) (so_far whole : Traces) : Type 0 where
  pub shows : ShowsEnd t reader.state
  pub rest_is : rest ≡ reader.state.partial
  pub left_is : left ≡ []
  pub whole_is : so_far ≡ whole

abbrev pub Remains : Selection → Role → Role → Side → TracedEnd → List ℕ → List (Role × Note) → Traces → Traces → Type 0
Remains selection own role reader t rest left so_far whole =
    Reading selection own role reader t rest left so_far whole ⊎ Finished reader t rest left so_far whole

-- what is shown doesn't depend on what is held
abbrev pub HoldsAny : TracedEnd → Type 0
HoldsAny t = (v : EndState) (bytes : List ℕ) → ShowsEnd t v → ShowsEnd t (record v { partial = bytes })

-- ---- after a message nothing is held

judged-empties : (v next : EndState) (message : List ℕ) (step : StepValue) → Judges v message step next → next.partial ≡ []
judged-empties v next message step (accepted _ _ payload xs accepts) = refl
judged-empties v next message step (refused _ _ token cause r) = refl
judged-empties v next message step (opened _ _ payload opens more spelled) = refl
judged-empties v next message step (dropped _ _ opens more none) = refl
judged-empties v next message step (exhausted _ _ opens none) = refl

read-empties : (s next : Side) (message : List ℕ) (step : StepValue) → SideReads s message step next → next.state.partial ≡ []
read-empties s next message step (accepts_handshake _ _ payload xs accepts) = refl
read-empties s next message step (accepts_transport _ _ payload opens more spelled) = refl
read-empties s next message step (refuses_message _ _ _ after gives judges) = judged-empties s.state after message step judges

-- ---- one entry more

pub first-note : (role other : Role) (n m : Note) (ns ms : List (Role × Note)) → (role, n) ∷ ns ≡ (other, m) ∷ ms → (n ≡ m) × (ns ≡ ms)
first-note role other n m ns ms e =
    (ap (λ (xs : List (Role × Note)). note-of n xs) e, ap rest-of e)
  where
    note-of : Note → List (Role × Note) → Note
    note-of d [] = d
    note-of d (x ∷ xs) = x.1

    rest-of : List (Role × Note) → List (Role × Note)
    rest-of [] = []
    rest-of (x ∷ xs) = xs

module _ (selection : Selection) (own role : Role) (t u : TracedEnd) (rest message after : List ℕ) (by : Role) (note : Note)
    (more : List (Role × Note)) (so_far now whole : Traces) (lines : List (List ℕ))
    (holds : HoldsAny u)
    -- what is taken of the bytes
    (splits : (text later : List ℕ) (step : StepValue) → note ≡ Judged step → rest ≡ frame text ++ later → length text ≤ 65535
    → (message ≡ text) × (after ≡ later))
    (drops : (step : StepValue) (n : ℕ) → note ≡ Left step n → after ≡ take (length rest - n) rest)
    (keeps : (n : ℕ) → note ≡ Held n → after ≡ rest)
    -- the lines
    (reads : (s next : Side) (text : List ℕ) (step : StepValue) (r : SideReads s text step next) → ShowsEnd t s.state → message ≡ text → note ≡ Judged step
    → (lines ≡ read_trace selection own s next text step r) × ShowsEnd u next.state)
    (none : (v : EndState) → ShowsEnd t v → IsOfNoFrame note → (lines ≡ []) × ShowsEnd u v)
    (pushed : now ≡ so_far ++ lines ∷ [])
  where
    -- the lines of the first of those that are left
    grown : (first : List (List ℕ)) (others : Traces) → lines ≡ first → so_far ++ (first ∷ others) ≡ whole → now ++ others ≡ whole
    grown first others is inv =
        ap (λ (xs : Traces). xs ++ others) pushed ∙ append_assoc so_far (lines ∷ []) others
        ∙ ap (λ (x : List (List ℕ)). so_far ++ (x ∷ others)) is ∙ inv

    -- so many bytes are held, at the end
    partial-last : (reader s : Side) → (bytes : List ℕ) → ShowsEnd t s.state → (partial : List ℕ) → rest ≡ partial → reader.state ≡ record (s.state) { partial = partial }
        → (by, note) ∷ more ≡ noted_by role (held_note (length partial)) → so_far ++ blanks (held_note (length partial)) ≡ whole
        → Finished reader u after more now whole
    partial-last reader s bytes shows [] is state left inv = absurd (cc left)
    partial-last reader s bytes shows (b ∷ bs) is state left inv =
        let two = first-note by role note (Held (suc (length bs))) more [] left in
        let no_frame : IsOfNoFrame note = subst IsOfNoFrame (sym two.0) tt in
        let made = none s.state shows no_frame in
        record {
          shows = subst (λ (v : EndState). ShowsEnd u v) (sym state) (holds s.state (b ∷ bs) made.1);
          rest_is = keeps (suc (length bs)) two.0 ∙ is ∙ ap (λ (v : EndState). v.partial) (sym state);
          left_is = two.1;
          whole_is = sym (append-nil now) ∙ grown [] [] made.0 inv;
        }

    idle-step : (reader s : Side) (bytes : List ℕ) (step : StepValue) (idle : idle_step (progress_of s.state) ≡ Some step) → reader ≡ s → ShowsEnd t s.state
        → rest ≡ s.state.partial ++ bytes → (by, note) ∷ more ≡ noted_by role (left_note step (length bytes) ++ held_note (length s.state.partial))
        → so_far ++ (blanks (left_note step (length bytes)) ++ blanks (held_note (length s.state.partial))) ≡ whole
        → Remains selection own role reader u after more now whole
    idle-step reader s [] step idle same shows rest_is left inv =
        inr (partial-last reader s [] shows s.state.partial (rest_is ∙ append-nil s.state.partial) (ap (λ (r : Side). r.state) same) left inv)
    idle-step reader s (b ∷ bs) step idle same shows rest_is left inv =
        let two = first-note by role note (Left step (suc (length bs))) more (noted_by role (held_note (length s.state.partial))) left in
        let no_frame : IsOfNoFrame note = subst IsOfNoFrame (sym two.0) tt in
        let made = none s.state shows no_frame in
        let long : length rest ≡ length s.state.partial + suc (length bs) = ap length rest_is ∙ length-append s.state.partial (b ∷ bs) in
        let count : length rest - suc (length bs) ≡ length s.state.partial = omega arith in
        let taken : after ≡ s.state.partial =
        drops step (suc (length bs)) two.0 ∙ ap₂ take count rest_is ∙ take_at s.state.partial (b ∷ bs) (length s.state.partial) refl in
        inl (subst (λ (r : Side). Reading selection own role r u after more now whole) (sym same) (record {
          s = s;
          bytes = [];
          heard = [];
          receives = is_idle s [] step idle;
          shows = made.1;
          rest_is = taken ∙ sym (append-nil s.state.partial);
          left_is = two.1;
          whole_is = grown [] (blanks (held_note (length s.state.partial))) made.0 inv;
        }))

    -- one entry more
    pub one-entry : (reader s : Side) (bytes : List ℕ) (heard : List Note) (x : SideReceives s bytes heard reader) → ShowsEnd t s.state
        → rest ≡ s.state.partial ++ bytes → (by, note) ∷ more ≡ noted_by role (heard ++ held_note (length reader.state.partial))
        → so_far ++ came_traces selection own s reader bytes heard x ≡ whole → Remains selection own role reader u after more now whole
    one-entry reader s bytes heard (is_idle _ _ step idle) shows rest_is left inv = idle-step reader s bytes step idle refl shows rest_is left inv
    one-entry reader s bytes heard (waits _ _ listens part) shows rest_is left inv =
        inr (partial-last reader s bytes shows (s.state.partial ++ bytes) rest_is refl left inv)
    one-entry reader s bytes heard (reads_frame _ next _ _ text later step notes listens cut fits r tail) shows rest_is left inv =
        let two = first-note by role note (Judged step) more (noted_by role (notes ++ held_note (length reader.state.partial))) left in
        let split = splits text later step two.0 (rest_is ∙ cut) fits in
        let made = reads s next text step r shows split.0 two.0 in
        inl (record {
          s = next;
          bytes = later;
          heard = notes;
          receives = tail;
          shows = made.1;
          rest_is = split.1 ∙ ap (λ (h : List ℕ). h ++ later) (sym (read-empties s next text step r));
          left_is = two.1;
          whole_is = grown (read_trace selection own s next text step r) (came_traces selection own next reader later notes tail) made.0 inv;
        })

    pub entry-step : (reader : Side) (left : List (Role × Note)) → left ≡ (by, note) ∷ more → Remains selection own role reader t rest left so_far whole
        → Remains selection own role reader u after more now whole
    entry-step reader left is (inl r) = one-entry reader r.s r.bytes r.heard r.receives r.shows r.rest_is (sym is ∙ r.left_is) r.whole_is
    entry-step reader left is (inr f) = let bad = sym is ∙ f.left_is in absurd (cc bad)

-- ---- the end

module _ (selection : Selection) (own role : Role) (t : TracedEnd) (rest : List ℕ) (so_far whole : Traces) (holds : HoldsAny t) where
  waits-last : (reader s : Side) (partial : List ℕ) → ShowsEnd t s.state → rest ≡ partial → reader.state ≡ record (s.state) { partial = partial }
      → [] ≡ noted_by role (held_note (length partial)) → so_far ++ blanks (held_note (length partial)) ≡ whole → Finished reader t rest [] so_far whole
  waits-last reader s [] shows is state left inv = record {
    shows = subst (λ (v : EndState). ShowsEnd t v) (sym state) (holds s.state [] shows);
    rest_is = is ∙ ap (λ (v : EndState). v.partial) (sym state);
    left_is = refl;
    whole_is = sym (append-nil so_far) ∙ inv;
  }
  waits-last reader s (b ∷ bs) shows is state left inv = absurd (cc left)

  idle-last : (reader s : Side) (bytes : List ℕ) (step : StepValue) → reader ≡ s → ShowsEnd t s.state → rest ≡ s.state.partial ++ bytes
      → [] ≡ noted_by role (left_note step (length bytes) ++ held_note (length s.state.partial))
      → so_far ++ (blanks (left_note step (length bytes)) ++ blanks (held_note (length s.state.partial))) ≡ whole → Finished reader t rest [] so_far whole
  idle-last reader s [] step same shows rest_is left inv = search rules
  idle-last reader s (b ∷ bs) step same shows rest_is left inv = absurd (cc left)

  read-last : (reader s : Side) (bytes : List ℕ) (heard : List Note) (x : SideReceives s bytes heard reader) → ShowsEnd t s.state
      → rest ≡ s.state.partial ++ bytes → [] ≡ noted_by role (heard ++ held_note (length reader.state.partial))
      → so_far ++ came_traces selection own s reader bytes heard x ≡ whole → Finished reader t rest [] so_far whole
  read-last reader s bytes heard (is_idle _ _ step idle) shows rest_is left inv = idle-last reader s bytes step refl shows rest_is left inv
  read-last reader s bytes heard (waits _ _ listens part) shows rest_is left inv = waits-last reader s (s.state.partial ++ bytes) shows rest_is refl left inv
  read-last reader s bytes heard (reads_frame _ next _ _ text later step notes listens cut fits r tail) shows rest_is left inv = absurd (cc left)

  pub all-read : (reader : Side) (left : List (Role × Note)) → left ≡ [] → Remains selection own role reader t rest left so_far whole
      → Finished reader t rest [] so_far whole
  all-read reader left none (inl r) = read-last reader r.s r.bytes r.heard r.receives r.shows r.rest_is (sym none ∙ r.left_is) r.whole_is
  all-read reader left none (inr f) = record { shows = f.shows; rest_is = f.rest_is; left_is = refl; whole_is = f.whole_is }

-- the lines of one entry more
pub traces-push : (traces : List (Vec (Vec ℕ Global) Global)) (v : Vec (Vec ℕ Global) Global)
    → traces_of (traces ++ v ∷ []) ≡ traces_of traces ++ bytes_of v.items ∷ []
traces-push [] v = refl
traces-push (t ∷ ts) v = ap (λ (xs : Traces). bytes_of t.items ∷ xs) (traces-push ts v)
