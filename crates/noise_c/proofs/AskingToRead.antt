-- Each DH result that a message asks for is that of a later DH token than the one before.
use Rattle.std.proofs.Common.{◌≡◌, inl, inr, ℕ, zero, suc, ◌+◌, ◌<◌, ◌≤◌, List, [], ◌∷◌, ◌++◌, length, take, drop, refl, ap, sym, subst, ◌∙◌, arith, append_assoc, take-take}
use Rattle.std.proofs.lemmas.List.Sums.{sum_by-cons}
use Rattle.std.specs.Prelude.{true, false}
use Rattle.noise_c.proofs.Common.{take-append_seam, Bool, cond, Option, Some, None, is_some, if◌then◌else◌, nat_lt, count_by, Token, E, S, Ee, SymmetricState, Own, Remote, Short, Tag, Agreement, is_dh, Party, Reader, reader, Fits, known_after, psks_after, BeginsAs, CanBegin, Stops, dh_result_of, cause_of, cause_at, remote_after, own_at, remote_at, first_psk, tokens_now, StopsFor, WantsToRead, DhResults, AreAmong, AskedToRead, IsHandedIn, with_dh_results}
use Rattle.noise_names.specs.declared.token.Token.TheVariants.{Psk}
use Rattle.noise_handshake.specs.Message.{token_bytes, after_token, before_payload, after_tokens}
use Rattle.noise_c.proofs.Among.{fit-all}
use Rattle.noise_c.specs.DhResults.AskedToRead.{ready, asked}

-- ---- the tokens

pub take-through : (before later : List Token) (t : Token) → take (suc (length before)) (before ++ t ∷ later) ≡ before ++ t ∷ []
take-through [] later t = refl
take-through (u ∷ before) later t = ap (λ (us : List Token). u ∷ us) (take-through before later t)

pub drop-through : (before later : List Token) (t : Token) → drop (suc (length before)) (before ++ t ∷ later) ≡ later
drop-through [] later t = refl
drop-through (u ∷ before) later t = drop-through before later t

count-cons : (t : Token) (ts : List Token) → count_by is_dh (t ∷ ts) ≡ cond (is_dh t) 1 0 + count_by is_dh ts
count-cons t ts = sum_by-cons (λ (u : Token). cond (is_dh u) 1 0) t ts

count-less : (ts : List Token) (t : Token) → count_by is_dh ts ≤ count_by is_dh (t ∷ ts)
count-less ts t = omega (arith, count-cons t ts)

count-more : (t : Token) (ts : List Token) → is_dh t ≡ true → suc (count_by is_dh ts) ≤ count_by is_dh (t ∷ ts)
count-more t ts d = omega (arith, count-cons t ts, ap {B = ℕ} (λ (b : Bool). cond b 1 0) d)

-- a DH token is one more than those after it
pub counts : (before later : List Token) (t : Token) (j : ℕ) → j ≤ length before → is_dh t ≡ true
    → suc (count_by is_dh later) ≤ count_by is_dh (drop j (before ++ t ∷ later))
counts [] later t zero h d = count-more t later d
counts [] later t (suc j) h d = absurd (omega (arith, h))
counts (u ∷ before) later t zero h d = omega (arith, counts before later t zero (omega arith) d, count-less (before ++ t ∷ later) u)
counts (u ∷ before) later t (suc j) h d = counts before later t j (omega (arith, h)) d

cause-there : (keyed : Bool) (before later : List Token) (t : Token) (rest : List ℕ) → cause_at keyed (before ++ t ∷ later) (length before) rest ≡ cause_of keyed t rest
cause-there keyed [] later t rest = refl
cause-there keyed (u ∷ before) later t rest = cause-there keyed before later t rest

no-cause : (b : Bool) → Agreement ≡ (if b then Short else Tag) → ⊥
no-cause true e = cc
no-cause false e = cc

pub at-most : (j n : ℕ) → (n < j → ⊥) → j ≤ n
at-most j n f = grind arith

-- ---- one token more

-- the secrets that are left after tokens
abbrev pub psks_left : List (List ℕ) → List Token → List (List ℕ)
psks_left psks [] = psks
psks_left psks (t ∷ ts) = psks_left (psks_after psks t) ts

dh-nothing : (t : Token) → is_dh t ≡ true → (r : SymmetricState) (x : List ℕ) → token_bytes r t x ≡ []
dh-nothing E d r x = cc
dh-nothing S d r x = cc
dh-nothing _ d r x = refl

dh-fits : (w : Reader) (known : Remote) (psks : List (List ℕ)) (t : Token) (x : List ℕ) → is_dh t ≡ true
    → dh_result_of w.agree (own_at w.role t) (remote_at w.role known t) ≡ Some x → Fits w known psks t x
dh-fits w known psks E x d e = cc
dh-fits w known psks S x d e = cc
dh-fits w known psks Psk x d e = cc
dh-fits w known psks _ x d e = e

-- a token that takes no bytes leads on from where those before it lead
pub leads-on : (w : Reader) (known : Remote) (psks : List (List ℕ)) (r : SymmetricState) (before : List Token) (t : Token) (xs : List (List ℕ)) (x m rest : List ℕ)
    → BeginsAs w known psks r before xs m rest → Fits w (remote_after known before xs) (psks_left psks before) t x
    → ((h : SymmetricState) → token_bytes h t x ≡ []) → BeginsAs w known psks r (before ++ t ∷ []) (xs ++ x ∷ []) m rest
leads-on w known psks r [] t [] x m rest l f none = record {
  fit = (f, tt);
  spelled = l.spelled ∙ ap (λ (k : List ℕ). (k ++ []) ++ rest) (sym (none r));
}
leads-on w known psks r [] t (y ∷ xs) x m rest l f none = absurd l.fit
leads-on w known psks r (u ∷ before) t [] x m rest l f none = absurd l.fit
leads-on w known psks r (u ∷ before) t (y ∷ xs) x m rest l f none =
    let next : SymmetricState = after_token w.has_psks r u y in
    let more : List ℕ = before_payload w.has_psks next before xs ++ rest in
    let i = leads-on w (known_after known u y) (psks_after psks u) next before t xs x more rest (record { fit = l.fit.1; spelled = refl }) f none in
    record {
      fit = (l.fit.0, i.fit);
      spelled = l.spelled ∙ append_assoc (token_bytes r u y) (before_payload w.has_psks next before xs) rest ∙ ap (λ (k : List ℕ). token_bytes r u y ++ k) i.spelled
          ∙ sym (append_assoc (token_bytes r u y) _ rest);
    }

-- what leads somewhere leads to each token before
leads-less : (w : Reader) (known : Remote) (psks : List (List ℕ)) (r : SymmetricState) (ts : List Token) (xs : List (List ℕ)) (m rest : List ℕ) (k : ℕ)
    → BeginsAs w known psks r ts xs m rest → CanBegin w known psks r (take k ts) m
leads-less w known psks r ts xs m rest zero l = record { carried = []; rest = m; leads = record { fit = tt; spelled = refl } }
leads-less w known psks r [] xs m rest (suc k) l = record { carried = []; rest = m; leads = record { fit = tt; spelled = refl } }
leads-less w known psks r (t ∷ ts) [] m rest (suc k) l = absurd l.fit
leads-less w known psks r (t ∷ ts) (x ∷ xs) m rest (suc k) l =
    let next : SymmetricState = after_token w.has_psks r t x in
    let more : List ℕ = before_payload w.has_psks next ts xs ++ rest in
    let i = leads-less w (known_after known t x) (psks_after psks t) next ts xs more rest k (record { fit = l.fit.1; spelled = refl }) in
    record {
      carried = x ∷ i.carried;
      rest = i.rest;
      leads = record {
        fit = (l.fit.0, i.leads.fit);
        spelled = l.spelled ∙ append_assoc (token_bytes r t x) (before_payload w.has_psks next ts xs) rest ∙ ap (λ (k : List ℕ). token_bytes r t x ++ k) i.leads.spelled
            ∙ sym (append_assoc (token_bytes r t x) _ i.rest);
      };
    }

pub reaches-less : (w : Reader) (known : Remote) (psks : List (List ℕ)) (r : SymmetricState) (ts : List Token) (m : List ℕ) (i j : ℕ) → i ≤ j
    → CanBegin w known psks r (take j ts) m → CanBegin w known psks r (take i ts) m
reaches-less w known psks r ts m i j h a =
    subst (λ (us : List Token). CanBegin w known psks r us m) (take-take i j ts h) (leads-less w known psks r (take j ts) a.carried m a.rest i a.leads)

-- ---- the token that asks

-- It is a DH, what is read before it is no further than it, and with its DH result reading goes past it.
record Past (first next : Reader) (known : Remote) (psks : List (List ℕ)) (r : SymmetricState) (ts : List Token) (m : List ℕ) : Type 0 where
  before : List Token
  token : Token
  later : List Token
  tokens : ts ≡ before ++ token ∷ later
  dh : is_dh token ≡ true
  reached : CanBegin next known psks r (take (suc (length before)) ts) m
  beyond : (j : ℕ) → CanBegin first known psks r (take j ts) m → j ≤ length before

dh-there : (w : Reader) (known : Remote) (psks : List (List ℕ)) (r : SymmetricState) (before later : List Token) (t : Token) (m : List ℕ)
    → (s : Stops w known psks r (before ++ t ∷ later) m (length before) Agreement) → is_dh t ≡ true
dh-there w known psks r before later t m s = by t refl where
  keyed : Bool
  keyed = is_some ((after_tokens w.has_psks r (take (length before) (before ++ t ∷ later)) s.carried).cipher.key)

  why : Agreement ≡ cause_of keyed t s.rest
  why = s.why ∙ cause-there keyed before later t s.rest

  within : length before < length (before ++ t ∷ later)
  within = more before where
    more : (us : List Token) → length us < length (us ++ t ∷ later)
    more [] = omega arith
    more (u ∷ us) = omega (arith, more us)

  here : BeginsAs w known psks r before s.carried m s.rest
  here = subst (λ (us : List Token). BeginsAs w known psks r us s.carried m s.rest) (take-append_seam before (t ∷ later)) s.leads

  by : (u : Token) → t ≡ u → is_dh t ≡ true
  by E e = absurd (no-e (why ∙ ap (λ (u : Token). cause_of keyed u s.rest) e)) where
    no-e : Agreement ≡ Short → ⊥
    no-e h = cc
  by S e = absurd (no-cause (nat_lt (length s.rest) (if keyed then 48 else 32)) (why ∙ ap (λ (u : Token). cause_of keyed u s.rest) e))
  by Psk e =
      let x : List ℕ = first_psk (psks_left psks before) in
      let l = leads-on w known psks r before Psk s.carried x m s.rest here refl (λ (h : SymmetricState). refl) in
      absurd (s.further within
      (subst (λ (us : List Token). CanBegin w known psks r us m)
      (ap (λ (u : Token). before ++ u ∷ []) (sym e) ∙ sym (take-through before later t)) (record { carried = _; rest = s.rest; leads = l })))
  by Ee e = ap is_dh e
  by _ e = ap is_dh e

past : (w : Reader) (next : DhResults) (known : Remote) (psks : List (List ℕ)) (r : SymmetricState) (ts : List Token) (m : List ℕ) (own : Own) (key x : List ℕ)
    → StopsFor w known psks r ts m own key → IsHandedIn w.agree next own key x → Past w (record w { agree = next }) known psks r ts m
past w next known psks r ts m own key x s handed = record {
  before = s.before;
  token = s.token;
  later = s.later;
  tokens = s.tokens;
  dh = d;
  reached = subst (λ (us : List Token). CanBegin (record w { agree = next }) known psks r us m)
      (sym (take-through s.before s.later s.token) ∙ ap (take (suc (length s.before))) (sym s.tokens))
      (record { carried = s.stops.carried ++ x ∷ []; rest = s.stops.rest; leads = on });
  beyond = λ (j : ℕ) (reaches : CanBegin w known psks r (take j ts) m). at-most j (length s.before) (λ (h : length s.before < j).
      s.stops.further inside (reaches-less w known psks r ts m (suc (length s.before)) j (omega (arith, h)) reaches));
} where
  stops : Stops w known psks r (s.before ++ s.token ∷ s.later) m (length s.before) Agreement
  stops = subst (λ (us : List Token). Stops w known psks r us m (length s.before) Agreement) s.tokens s.stops

  d : is_dh s.token ≡ true
  d = dh-there w known psks r s.before s.later s.token m stops

  inside : length s.before < length ts
  inside = subst (λ (us : List Token). length s.before < length us) (sym s.tokens) (more s.before) where
    more : (us : List Token) → length us < length (us ++ s.token ∷ s.later)
    more [] = omega arith
    more (u ∷ us) = omega (arith, more us)

  here : BeginsAs w known psks r s.before s.stops.carried m s.stops.rest
  here = subst (λ (us : List Token). BeginsAs w known psks r us s.stops.carried m s.stops.rest)
      (ap (take (length s.before)) s.tokens ∙ take-append_seam s.before (s.token ∷ s.later)) s.stops.leads

  answer : dh_result_of next (own_at w.role s.token) (remote_at w.role (remote_after known s.before s.stops.carried) s.token) ≡ Some x
  answer = ap (dh_result_of next (own_at w.role s.token)) s.key_is ∙ ap (λ (o : Own). next o key) (sym s.own_is) ∙ handed.there

  on : BeginsAs (record w { agree = next }) known psks r (s.before ++ s.token ∷ []) (s.stops.carried ++ x ∷ []) m s.stops.rest
  on =
      let w2 : Reader = record w { agree = next } in
      let l : BeginsAs w2 known psks r s.before s.stops.carried m s.stops.rest =
      record { fit = fit-all w.role w.has_psks w.agree next handed.stays known psks s.before s.stops.carried here.fit; spelled = here.spelled } in
      leads-on w2 known psks r s.before s.token s.stops.carried x m s.stops.rest l
      (dh-fits w2 (remote_after known s.before s.stops.carried) (psks_left psks s.before) s.token x d answer)
      (λ (h : SymmetricState). dh-nothing s.token d h x)

-- a DH result that is asked for isn't there
wants-none : (w : Reader) (known : Remote) (psks : List (List ℕ)) (r : SymmetricState) (ts : List Token) (m : List ℕ) (own : Own) (key : List ℕ)
    → StopsFor w known psks r ts m own key → w.agree own key ≡ None
wants-none w known psks r ts m own key s = by (w.agree own key) refl where
  stops : Stops w known psks r (s.before ++ s.token ∷ s.later) m (length s.before) Agreement
  stops = subst (λ (us : List Token). Stops w known psks r us m (length s.before) Agreement) s.tokens s.stops

  d : is_dh s.token ≡ true
  d = dh-there w known psks r s.before s.later s.token m stops

  more : (us : List Token) → length us < length (us ++ s.token ∷ s.later)
  more [] = omega arith
  more (u ∷ us) = omega (arith, more us)

  here : BeginsAs w known psks r s.before s.stops.carried m s.stops.rest
  here = subst (λ (us : List Token). BeginsAs w known psks r us s.stops.carried m s.stops.rest)
      (ap (take (length s.before)) s.tokens ∙ take-append_seam s.before (s.token ∷ s.later)) s.stops.leads

  by : (o : Option (List ℕ)) → w.agree own key ≡ o → w.agree own key ≡ None
  by None e = e
  by (Some y) e =
      let answer : dh_result_of w.agree (own_at w.role s.token) (remote_at w.role (remote_after known s.before s.stops.carried) s.token) ≡ Some y =
      ap (dh_result_of w.agree (own_at w.role s.token)) s.key_is ∙ ap (λ (o : Own). w.agree o key) (sym s.own_is) ∙ e in
      let l = leads-on w known psks r s.before s.token s.stops.carried y m s.stops.rest here
      (dh-fits w (remote_after known s.before s.stops.carried) (psks_left psks s.before) s.token y d answer)
      (λ (h : SymmetricState). dh-nothing s.token d h y) in
      absurd (s.stops.further (subst (λ (us : List Token). length s.before < length us) (sym s.tokens) (more s.before))
      (subst (λ (us : List Token). CanBegin w known psks r us m)
      (sym (take-through s.before s.later s.token) ∙ ap (take (suc (length s.before))) (sym s.tokens))
      (record { carried = _; rest = s.stops.rest; leads = l })))

pub read-lacks : (v : Party) (m : List ℕ) (own : Own) (key : List ℕ) → WantsToRead v m own key → v.agree own key ≡ None
read-lacks v m own key w = wants-none (reader v) v.remote v.psks v.state (tokens_now v) m own key w.stops

-- ---- all that are asked for

pub among-next : (first next all : DhResults) (own : Own) (key x : List ℕ) → AreAmong first all → all own key ≡ Some x → IsHandedIn first next own key x
    → AreAmong next all
among-next first next all own key x among is handed o k y e =
    elim (handed.only o k y e) [
      | inl h ↦ among o k y h
      | inr h ↦ ap (λ (z : Own). all z k) h.0 ∙ ap (all own) h.1 ∙ is ∙ ap Some (sym h.2)
    ]

pub asked-few : (v : Party) (all : DhResults) (m : List ℕ) (first last : DhResults) (n j : ℕ) → AskedToRead v all m first n last → AreAmong first all
    → CanBegin (reader (with_dh_results v first)) v.remote v.psks v.state (take j (tokens_now v)) m
    → (n ≤ count_by is_dh (drop j (tokens_now v))) × AreAmong last all
asked-few v all m first last n j (ready _) among reached = (omega arith, among)
asked-few v all m first last _ j (asked _ next _ own key x n wants is handed more) among reached =
    let ts : List Token = tokens_now v in
    let p = past (reader (with_dh_results v first)) next v.remote v.psks v.state ts m own key x wants.stops handed in
    let h : j ≤ length p.before = p.beyond j reached in
    let i = asked-few v all m next last n (suc (length p.before)) more (among-next first next all own key x among is handed) p.reached in
    let rest : drop (suc (length p.before)) ts ≡ p.later = ap (drop (suc (length p.before))) p.tokens ∙ drop-through p.before p.later p.token in
    let few : n ≤ count_by is_dh p.later = subst (λ (us : List Token). n ≤ count_by is_dh us) rest i.0 in
    let here : suc (count_by is_dh p.later) ≤ count_by is_dh (drop j ts) =
    subst (λ (us : List Token). suc (count_by is_dh p.later) ≤ count_by is_dh (drop j us)) (sym p.tokens) (counts p.before p.later p.token j h p.dh) in
    (omega (arith, few, here), i.1)

pub asked-to-read : (v : Party) (all first last : DhResults) (m : List ℕ) (n : ℕ) → AskedToRead v all m first n last → AreAmong first all
    → (n ≤ count_by is_dh (tokens_now v)) × AreAmong last all
asked-to-read v all first last m n a among =
    asked-few v all m first last n 0 a among (record { carried = []; rest = m; leads = record { fit = tt; spelled = refl } })
