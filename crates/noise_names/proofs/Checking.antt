-- The first fault of a pattern as a function, and that it is what the definitions say.
use Rattle.std.proofs.Common.{rules, ◌≡◌, ℕ, List, [], ◌∷◌, ◌++◌, Option, Some, None, Result, Ok, Err, refl, Bool, true, false, ◌||◌, ap, sym, ◌∙◌, subst, append_assoc, append-nil, ◌<◌, ◌≤◌, ◌+◌, length, drop, get_or, drop-cons}
use Rattle.noise_names.proofs.Common.{list_any, drop_all, Role, Initiator, Responder, Token, E, S, Ee, Es, Se, Ss, Psk, Seen, Plan, Place, Step, does, payload, transport, place, token_places, message_places, places_of, is_one_way, other, with_place, rules_by, lowest_of, Walks, fault_or, first_fault_by, first_fault, broken_rules, IsValid, IsFirstFault}
use Rattle.noise_names.specs.declared.faults.RuleFault.{RuleFault}
use Rattle.noise_names.specs.Checking.{seen_of}
use Rattle.noise_names.specs.Validity.{first_fault_from}

-- each of the places, wherever it stands, breaks none after the earlier ones and those before it
pub record Keeps (broken : List Place → Place → List ℕ) (earlier places : List Place) : Type 0 where
  pub each : (front : List Place) (p : Place) (rest : List Place) → places ≡ front ++ p ∷ rest → broken (earlier ++ front) p ≡ []

-- the fault is that of the first place that breaks one
pub record FirstBroken (broken : List Place → Place → List ℕ) (earlier places : List Place) (fault : RuleFault) : Type 0 where
  pub front : List Place
  pub at : Place
  pub rest : List Place
  pub split : places ≡ front ++ at ∷ rest
  pub before : Keeps broken earlier front
  pub higher : List ℕ
  pub lowest : broken (earlier ++ front) at ≡ fault.rule ∷ higher
  pub message : fault.message ≡ at.message
  pub token : fault.token ≡ at.token

no_place : (front : List Place) (p : Place) (rest : List Place) → [] ≡ front ++ p ∷ rest → ⊥
no_place [] p rest e = cc
no_place (q ∷ front) p rest e = cc

-- one more in front
keeps-cons : (broken : List Place → Place → List ℕ) (earlier : List Place) (q : Place) (later : List Place) → broken earlier q ≡ []
    → Keeps broken (earlier ++ q ∷ []) later → Keeps broken earlier (q ∷ later)
keeps-cons broken earlier q later here there = record { each = each } where
  each : (front : List Place) (p : Place) (rest : List Place) → q ∷ later ≡ front ++ p ∷ rest → broken (earlier ++ front) p ≡ []
  each [] p rest h =
      let same : q ≡ p = cc in
      rw append-nil (subst (λ (x : Place). broken earlier x ≡ []) same here)
  each (f ∷ front) p rest h =
      let same : q ≡ f = cc in
      let tails : later ≡ front ++ p ∷ rest = cc in
      let found : broken ((earlier ++ q ∷ []) ++ front) p ≡ [] = there.each front p rest tails in
      subst (λ (x : Place). broken (earlier ++ x ∷ front) p ≡ []) same (rw append_assoc at found)

pub none_keeps : (broken : List Place → Place → List ℕ) (earlier places : List Place) → first_fault_by broken earlier places ≡ None
    → Keeps broken earlier places
none_keeps broken earlier [] e = record { each = λ front p rest h. absurd (no_place front p rest h) }
none_keeps broken earlier (q ∷ later) e = at (none_keeps broken (earlier ++ q ∷ []) later) (broken earlier q) refl e where
  at : (first_fault_by broken (earlier ++ q ∷ []) later ≡ None → Keeps broken (earlier ++ q ∷ []) later) → (rules : List ℕ) → broken earlier q ≡ rules
      → fault_or rules q (first_fault_by broken (earlier ++ q ∷ []) later) ≡ None → Keeps broken earlier (q ∷ later)
  at deeper [] b h = keeps-cons broken earlier q later b (deeper h)
  at deeper (r ∷ rs) b h = cc

pub some_first : (broken : List Place → Place → List ℕ) (earlier places : List Place) (fault : RuleFault)
    → first_fault_by broken earlier places ≡ Some fault → FirstBroken broken earlier places fault
some_first broken earlier [] fault e = cc
some_first broken earlier (q ∷ later) fault e = at (some_first broken (earlier ++ q ∷ []) later fault) (broken earlier q) refl e where
  at : (first_fault_by broken (earlier ++ q ∷ []) later ≡ Some fault → FirstBroken broken (earlier ++ q ∷ []) later fault) → (rules : List ℕ)
      → broken earlier q ≡ rules → fault_or rules q (first_fault_by broken (earlier ++ q ∷ []) later) ≡ Some fault
      → FirstBroken broken earlier (q ∷ later) fault
  at deeper (r ∷ rs) b h =
      let reported : RuleFault = record { rule = r; message = q.message; token = q.token } in
      let same : reported ≡ fault = cc in
      record {
        front = [];
        at = q;
        rest = later;
        split = refl;
        before = record { each = λ front p rest k. absurd (no_place front p rest k) };
        higher = rs;
        lowest = rw append-nil (b ∙ ap (λ (f : RuleFault). f.rule ∷ rs) same);
        message = sym (ap (λ (f : RuleFault). f.message) same);
        token = sym (ap (λ (f : RuleFault). f.token) same);
      }
  at deeper [] b h =
      let more : FirstBroken broken (earlier ++ q ∷ []) later fault = deeper h in
      let found : broken ((earlier ++ q ∷ []) ++ more.front) more.at ≡ fault.rule ∷ more.higher = more.lowest in
      record {
        front = q ∷ more.front;
        at = more.at;
        rest = more.rest;
        split = ap (λ (x : List Place). q ∷ x) more.split;
        before = keeps-cons broken earlier q more.front b more.before;
        higher = more.higher;
        lowest = rw append_assoc at found;
        message = more.message;
        token = more.token;
      }

-- no fault is found in a pattern exactly if it is valid
pub none_valid : (plan : Plan) → first_fault plan ≡ None → IsValid plan
unfolding first_fault_from
none_valid plan e = (none_keeps broken_rules [] (places_of plan) e).each

pub some_fault : (plan : Plan) (fault : RuleFault) → first_fault plan ≡ Some fault → IsFirstFault plan fault
unfolding first_fault_from
some_fault plan fault e =
    let found : FirstBroken broken_rules [] (places_of plan) fault = some_first broken_rules [] (places_of plan) fault e in
    record {
      earlier = found.front;
      at = found.at;
      later = found.rest;
      places = found.split;
      before = found.before.each;
      higher = found.higher;
      lowest = found.lowest;
      message = found.message;
      token = found.token;
    }

pub fault_invalid : (plan : Plan) (fault : RuleFault) → IsFirstFault plan fault → IsValid plan → ⊥
fault_invalid plan fault f v = apart (v f.earlier f.at f.later f.places) f.lowest where
  apart : {rules others : List ℕ} {rule : ℕ} → rules ≡ [] → rules ≡ rule ∷ others → ⊥
  apart a b = cc

or_moves : (x y r : Bool) → x || (y || r) ≡ y || (x || r)
or_moves true true r = refl
or_moves true false r = refl
or_moves false true r = refl
or_moves false false r = refl

any-snoc : (test : Place → Bool) (places : List Place) (p : Place) → list_any test (places ++ p ∷ []) ≡ test p || list_any test places
any-snoc test [] p = refl
any-snoc test (q ∷ places) p = ap (λ (b : Bool). test q || b) (any-snoc test places p) ∙ or_moves (test q) (test p) (list_any test places)

-- what is kept of one place more
pub seen_of-snoc : (places : List Place) (p : Place) → seen_of (places ++ p ∷ []) ≡ with_place (seen_of places) p
unfolding seen_of
seen_of-snoc places p = simp (any-snoc) refl

by_step : (earlier : List Place) (party : Role) (step : Step) (message token : ℕ)
    → rules_by (seen_of earlier) party step ≡ broken_rules earlier (place party step message token)
unfolding seen_of
by_step earlier Initiator (does E) message token = simp (append-nil, append_assoc)
by_step earlier Responder (does E) message token = simp (append-nil, append_assoc)
by_step earlier Initiator (does S) message token = simp (append-nil, append_assoc)
by_step earlier Responder (does S) message token = simp (append-nil, append_assoc)
by_step earlier party (does Ee) message token = simp (append-nil, append_assoc)
by_step earlier party (does Es) message token = simp (append-nil, append_assoc)
by_step earlier party (does Se) message token = simp (append-nil, append_assoc)
by_step earlier party (does Ss) message token = simp (append-nil, append_assoc)
by_step earlier party (does Psk) message token = refl
by_step earlier Initiator payload message token = refl
by_step earlier Responder payload message token = refl
by_step earlier Initiator transport message token = refl
by_step earlier Responder transport message token = refl

-- what is kept reports the broken rules
pub rules_by-seen_of : (earlier : List Place) (p : Place) → rules_by (seen_of earlier) p.party p.step ≡ broken_rules earlier p
rules_by-seen_of earlier p = by_step earlier p.party p.step p.message p.token

none_or : (rules : List ℕ) (p : Place) (next : Option RuleFault) → lowest_of rules ≡ None → fault_or rules p next ≡ next
none_or [] p next h = refl
none_or (r ∷ rs) p next h = cc

some_or : (rules : List ℕ) (p : Place) (next : Option RuleFault) (rule : ℕ) → lowest_of rules ≡ Some rule
    → fault_or rules p next ≡ Some (record { rule = rule; message = p.message; token = p.token })
some_or [] p next rule h = cc
some_or (r ∷ rs) p next rule h = let e : r ≡ rule = cc in
    ap (λ (n : ℕ). let f : RuleFault = record { rule = n; message = p.message; token = p.token } in Some f) e

kept_goes_on : (earlier : List Place) (p : Place) (later : List Place) → lowest_of (broken_rules earlier p) ≡ None
    → first_fault_from earlier (p ∷ later) ≡ first_fault_from (earlier ++ p ∷ []) later
unfolding first_fault_from
kept_goes_on earlier p later h = none_or (broken_rules earlier p) p (first_fault_by broken_rules (earlier ++ p ∷ []) later) h

broken_stops : (earlier : List Place) (p : Place) (later : List Place) (rule : ℕ) → lowest_of (broken_rules earlier p) ≡ Some rule
    → first_fault_from earlier (p ∷ later) ≡ Some (record { rule = rule; message = p.message; token = p.token })
unfolding first_fault_from
broken_stops earlier p later rule h = some_or (broken_rules earlier p) p (first_fault_by broken_rules (earlier ++ p ∷ []) later) rule h

-- the lowest rule that is broken, from what is kept
lowest-same : (old : Seen) (earlier : List Place) (p : Place) → old ≡ seen_of earlier
    → lowest_of (broken_rules earlier p) ≡ lowest_of (rules_by old p.party p.step)
lowest-same old earlier p e = sym (ap (λ (s : Seen). lowest_of (rules_by s p.party p.step)) e ∙ ap lowest_of (rules_by-seen_of earlier p))

-- one place without a fault
pub walks_one : (old new : Seen) (p : Place) → lowest_of (rules_by old p.party p.step) ≡ None → new ≡ with_place old p → Walks old new (p ∷ []) (Ok tt)
walks_one old new p kept more earlier later e = search (rules, seen_of-snoc, kept_goes_on, lowest-same)

-- one place with a fault
pub walks_fault : (old new : Seen) (p : Place) (rule : ℕ) → lowest_of (rules_by old p.party p.step) ≡ Some rule
    → Walks old new (p ∷ []) (Err (record { rule = rule; message = p.message; token = p.token }))
walks_fault old new p rule broken earlier later e = broken_stops earlier p later rule (lowest-same old earlier p e ∙ broken)

-- some places and then others
pub walks_on : (old mid new : Seen) (ps qs : List Place) (result : Result (Unit {0}) RuleFault) → Walks old mid ps (Ok tt) → Walks mid new qs result
    → Walks old new (ps ++ qs) result
walks_on old mid new ps qs (Ok x) a b earlier later e =
    let first : (mid ≡ seen_of (earlier ++ ps)) × (first_fault_from earlier (ps ++ (qs ++ later)) ≡ first_fault_from (earlier ++ ps) (qs ++ later)) =
    search in
    let second : (new ≡ seen_of ((earlier ++ ps) ++ qs))
    × (first_fault_from (earlier ++ ps) (qs ++ later) ≡ first_fault_from ((earlier ++ ps) ++ qs) later) = b (earlier ++ ps) later first.0 in
    (rw append_assoc at second.0, rw append_assoc (first.1 ∙ rw append_assoc at second.1))
walks_on old mid new ps qs (Err fault) a b earlier later e = search (rules, append_assoc)

-- a fault among the first places
pub walks_fault_before : (old new : Seen) (ps qs : List Place) (fault : RuleFault) → Walks old new ps (Err fault) → Walks old new (ps ++ qs) (Err fault)
walks_fault_before old new ps qs fault a earlier later e = rw append_assoc (a earlier (qs ++ later) e)

-- the places of the tokens from the one at i on
pub token_places-at : (party : Role) (message k : ℕ) (tokens : List Token) (i : ℕ) (d : Token) → i < length tokens
    → token_places party message k (drop i tokens) ≡ place party (does (get_or tokens i d)) message k ∷ token_places party message (k + 1) (drop (i + 1) tokens)
token_places-at party message k tokens i d h = search (rules, drop-cons)

-- the places of a message
abbrev pub whole_message : Role → ℕ → List Token → List Place
whole_message party n tokens = token_places party n 0 tokens ++ place party payload n (length tokens) ∷ []

-- the places of the messages from the one at i on
pub message_places-at : (party : Role) (n : ℕ) (messages : List (List Token)) (i : ℕ) (m : List Token) → i < length messages → m ≡ get_or messages i m
    → message_places party n (drop i messages) ≡ whole_message party n m ++ message_places (other party) (n + 1) (drop (i + 1) messages)
message_places-at party n messages i m h is = search (rules, drop-cons, append_assoc)

no_more : (earlier : List Place) → first_fault_from earlier [] ≡ None
unfolding first_fault_from
no_more earlier = refl

-- all places were passed
pub whole_none : (plan : Plan) (start new : Seen) (places : List Place) → start ≡ seen_of [] → places ≡ places_of plan → Walks start new places (Ok tt)
    → first_fault plan ≡ None
whole_none plan start new places e same w =
    let ended : first_fault_from [] (places ++ []) ≡ None = (w [] [] e).1 ∙ no_more places in
    let all : first_fault_from [] places ≡ None = rw append-nil at ended in
    subst (λ (ps : List Place). first_fault_from [] ps ≡ None) same all

-- the parts of the list of places
pub two_way_places : (plan : Plan) (initiator responder : List Token) (messages : List (List Token)) → initiator ≡ plan.initiator
    → responder ≡ plan.responder → messages ≡ plan.messages → is_one_way plan ≡ false
    → (((token_places Initiator 0 0 initiator ++ token_places Responder 0 0 responder) ++ message_places Initiator 1 messages)
    ++ place Initiator transport (length messages + 1) 0 ∷ []) ++ place Responder transport (length messages + 1) 1 ∷ [] ≡ places_of plan
two_way_places plan initiator responder messages a b c d = rw (a, b, c, d) (append_assoc _ (place Initiator transport (length plan.messages + 1) 0 ∷ []) _)

pub one_way_places : (plan : Plan) (initiator responder : List Token) (messages : List (List Token)) → initiator ≡ plan.initiator
    → responder ≡ plan.responder → messages ≡ plan.messages → is_one_way plan ≡ true
    → ((token_places Initiator 0 0 initiator ++ token_places Responder 0 0 responder) ++ message_places Initiator 1 messages)
    ++ place Initiator transport (length messages + 1) 0 ∷ [] ≡ places_of plan
one_way_places plan initiator responder messages a b c d = rw (a, b, c, d) refl

-- one place more is kept
pub seen-more : (earlier done : List Place) (old new : Seen) (q : Place) → old ≡ seen_of (earlier ++ done) → new ≡ with_place old q
    → new ≡ seen_of (earlier ++ (done ++ q ∷ []))
seen-more earlier done old new q e f = f ∙ ap (λ (s : Seen). with_place s q) e ∙ sym (seen_of-snoc (earlier ++ done) q)
    ∙ ap seen_of (append_assoc earlier done (q ∷ []))

-- one token more is passed
pub tokens-more : (party : Role) (message : ℕ) (tokens : List Token) (i : ℕ) (d : Token) (done all : List Place) → i < length tokens
    → done ++ token_places party message i (drop i tokens) ≡ all
    → (done ++ place party (does (get_or tokens i d)) message i ∷ []) ++ token_places party message (i + 1) (drop (i + 1) tokens) ≡ all
tokens-more party message tokens i d done all h e = search (rules, append_assoc, token_places-at)

-- no token is left
pub tokens-all : (party : Role) (message : ℕ) (tokens : List Token) (i : ℕ) (done all : List Place) → length tokens ≤ i
    → done ++ token_places party message i (drop i tokens) ≡ all → done ≡ all
tokens-all party message tokens i done all h e = search (rules, drop_all)
