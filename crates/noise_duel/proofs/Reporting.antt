-- What the laws say of a run, for the ends and the report that are left.
use Rattle.std.proofs.Common.{rules, ◌≡◌, ℕ, zero, suc, ◌+◌, List, ◌∷◌, ◌++◌, length, take, refl, ap, sym, subst, ◌∙◌, append_assoc, Some, None, []}
use Rattle.std.specs.Prelude.{Bool, true, false, ◌&&◌, if◌then◌else◌}
use Rattle.std.specs.List.{list_any}
use Rattle.noise_duel.proofs.Common.{◌||◌, Role, Initiator, Responder, Token, other, same_role, Plan, Place, first_places, message_places, places_of, token_places, transport_places, is_among, is_at, Own, Counterparts, counterpart, passed_places, token_of, Party, EndState, EndMatches, EndValue, IsReportedBy, KeyMaterial, HaveParts, InTurn, MessagesComeThrough, MessagesLeave, sides_at_start, payloads_in, say_events, notes_of, Event, Note, DuelValue, EndsComeOfMessages, Start, HashesReport, PayloadsCome, PsksMakeOne, VisiblyEqualGivesOne, EndsFrame, Run, Sides}
use Rattle.noise_duel.specs.declared.report.Report.{Report}
use Rattle.noise_duel.specs.Reports.{EndsAgree, HaveComeThrough, Reports, static_shown}
use Rattle.noise_keys.specs.Keys.{KeyPairs}

-- ---- agreement

pub ends-agree : EndsComeOfMessages → EndsFrame → HashesReport → VisiblyEqualGivesOne → PsksMakeOne → PayloadsCome
    → (p : Plan) (a b : Start) (i j : ℕ) (events : List Event) (notes : List (Role × Note)) (last : Sides) → Run (sides_at_start p a b i j) events notes last
    → EndsAgree p a b i j last
ends-agree stand frame seen back one payloads p a b i j events notes last run = record {
  initiator = (stand p a b i j events notes last run).0;
  responder = (stand p a b i j events notes last run).1;
  initiator_frames = (frame p a b i j events notes last run).0;
  responder_frames = (frame p a b i j events notes last run).1;
  seen = seen p a b i j events notes last run;
  back = back p a b i j events notes last run;
  one = one p a b i j events notes last run;
  payloads = λ same. payloads p a b i events notes last (subst (λ (k : ℕ). Run (sides_at_start p a b i k) events notes last) (sym same) run);
}

-- ---- static keys that were shown

or-same : (b c d : Bool) → (c ≡ true → d ≡ true) → (b || c) ≡ true → (b || d) ≡ true
or-same true c d f h = refl
or-same false c d f h = f h

-- what is among the first places is among all
any-front : (test : Place → Bool) (xs ys : List Place) → list_any test xs ≡ true → list_any test (xs ++ ys) ≡ true
any-front test [] ys h = cc
any-front test (x ∷ xs) ys h = or-same (test x) (list_any test xs) (list_any test (xs ++ ys)) (any-front test xs ys) h

front-of-messages : (r : Role) (k n : ℕ) (ms : List (List Token)) → (rest : List Place) × (message_places r k ms ≡ message_places r k (take n ms) ++ rest)
front-of-messages r k zero ms = (message_places r k ms, refl)
front-of-messages r k (suc n) [] = ([], refl)
front-of-messages r k (suc n) (ts ∷ ms) = search (rules, append_assoc, (front-of-messages (other r) (k + 1) n ms))

passed-among : (p : Plan) (n : ℕ) (party : Role) (t : Token) → is_among party t (passed_places p n) ≡ true → is_among party t (places_of p) ≡ true
passed-among p n party t h =
    let more = front-of-messages Initiator 1 n p.messages in
    let before : List Place = token_places Initiator 0 0 p.initiator ++ token_places Responder 0 0 p.responder in
    let is : places_of p ≡ first_places p n ++ (more.0 ++ transport_places p) = search (rules, append_assoc) in
    subst (λ (ps : List Place). is_among party t ps ≡ true) (sym is)
    (any-front (λ x. is_at t x.step && same_role x.party party) (first_places p n) (more.0 ++ transport_places p) h)

-- the static key that a party knows of its counterpart is that of the key material
known-static : (w : KeyMaterial) (p : Plan) (party : Role) (n : ℕ) (v u : Party) → v ≡ counterpart u v.own v.agree → u.pattern ≡ p → u.role ≡ party
    → u.passed ≡ n
    → ((k : Own) → is_among party (token_of k) (places_of p) ≡ true → u.own k ≡ Some (w.public party k))
    → (if v.ended then None else v.remote.s) ≡ static_shown w p party n
known-static w p party n v u c pattern role passed own = search (rules, passed-among)

-- ---- the whole conversation

module _ {A B : Type 0} (pairs_a : A → KeyPairs)
    (pairs_b : B → KeyPairs) where
  pub all-through : MessagesComeThrough → MessagesLeave → EndsComeOfMessages
      → ((e : EndValue A) (v : EndState) → EndMatches pairs_a e v → IsReportedBy v e)
      → ((e : EndValue B) (v : EndState) → EndMatches pairs_b e v → IsReportedBy v e)
      → (w : KeyMaterial) (p : Plan) (prologue : List ℕ) (a b : Start) (interval : ℕ) (lines : List (Role × List ℕ))
      → HaveParts w p prologue a b → InTurn p 0 lines → (duel : DuelValue A B) (report : Report)
      → Reports pairs_a pairs_b (sides_at_start p a b interval interval) (say_events lines) duel report
      → HaveComeThrough pairs_a pairs_b w p prologue a b interval lines duel report
  all-through come leave stand reported_a reported_b w p prologue a b interval lines parts turns duel report left =
      let notes : List (Role × Note) = notes_of report.entries.items in
      let last : Sides = left.last in
      let it = come w p prologue a b interval lines notes last parts turns left.run in
      let views = leave w p prologue a b interval lines notes last parts turns left.run in
      let matches = stand p a b interval interval (say_events lines) notes last left.run in
      let mine = matches.0 in
      let theirs = matches.1 in
      let v : Party = last.initiator.state.party in
      let u : Party = last.responder.state.party in
      let n : ℕ = length (payloads_in (length p.messages) lines) in
      let parties : Counterparts v u = it.1.ends.parties in
      let pattern_a : v.pattern ≡ p = search rules in
      let pattern_b : u.pattern ≡ p = search in
      let role_a : v.role ≡ Initiator = search rules in
      let role_b : u.role ≡ Responder = search in
      let own_a : v.own ≡ a.own = search rules in
      let own_b : u.own ≡ b.own = search rules in
      let history : u.state ≡ v.state = ap (λ (z : Party). z.state) parties.there in
      let passed : u.passed ≡ v.passed = ap (λ (z : Party). z.passed) parties.there in
      let pattern : u.pattern ≡ v.pattern = ap (λ (z : Party). z.pattern) parties.there in
      let going_a : v.ended ≡ false = ap (λ (z : Party). z.ended) parties.back in
      let going_b : u.ended ≡ false = ap (λ (z : Party). z.ended) parties.there in
      let open_there : v.passed ≡ length v.pattern.messages → u.passed ≡ length u.pattern.messages = search rules in
      let open_back : u.passed ≡ length u.pattern.messages → v.passed ≡ length v.pattern.messages = search rules in
      let reports_a = reported_a duel.initiator last.initiator.state left.matches.initiator in
      let reports_b = reported_b duel.responder last.responder.state left.matches.responder in
      record {
        entries = it.0;
        initiator_frames = left.frames.initiator ∙ it.1.frames Initiator;
        responder_frames = left.frames.responder ∙ it.1.frames Responder;
        initiator = subst (λ (z : EndState). EndMatches pairs_a duel.initiator z) views.0 left.matches.initiator;
        responder = subst (λ (z : EndState). EndMatches pairs_b duel.responder z) views.1 left.matches.responder;
        last = last;
        matches = left.matches;
        through = it.1;
        state = history;
        hash = search;
        keys_there = search rules;
        keys_back = search rules;
        initiator_knows = search (rules, known-static);
        responder_knows = search (rules, known-static);
      }
