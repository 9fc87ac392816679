-- The same of DH results that the party's own message asks for.
use Rattle.std.proofs.Common.{◌≡◌, ℕ, zero, suc, ◌<◌, ◌≤◌, List, [], ◌∷◌, ◌++◌, length, take, drop, refl, ap, sym, subst, ◌∙◌, arith, take-take}
use Rattle.std.specs.Prelude.{true}
use Rattle.noise_c.proofs.Common.{take-append_seam, Option, Some, None, count_by, Token, E, S, Ee, Own, Remote, is_dh, Party, dh_result_of, own_at, remote_at, first_psk, psks_after, tokens_now, LacksDhResultFor, WantsToWrite, Writer, writer, Gives, Given, LacksDhResultAt, DhResults, AreAmong, AskedToWrite, HasKeys, IsHandedIn, Shows, with_dh_results}
use Rattle.noise_names.specs.declared.token.Token.TheVariants.{Psk}
use Rattle.noise_c.specs.DhResults.AskedToWrite.{ready, asked}
use Rattle.noise_c.proofs.Among.{given-all}
use Rattle.noise_c.proofs.AskingToRead.{among-next, at-most, counts, drop-through, psks_left, take-through}

-- a text is given for each of these tokens
abbrev IsGiven : Writer → Remote → List (List ℕ) → List Token → Type 0
IsGiven w known psks ts = (xs : List (List ℕ)) × Given w known psks ts xs

given-on : (w : Writer) (known : Remote) (psks : List (List ℕ)) (before : List Token) (t : Token) (xs : List (List ℕ)) (x : List ℕ)
    → Given w known psks before xs → Gives w known (psks_left psks before) t x → Given w known psks (before ++ t ∷ []) (xs ++ x ∷ [])
given-on w known psks [] t [] x g f = (f, tt)
given-on w known psks [] t (y ∷ xs) x g f = absurd g
given-on w known psks (u ∷ before) t [] x g f = absurd g
given-on w known psks (u ∷ before) t (y ∷ xs) x g f = (g.0, given-on w known (psks_after psks u) before t xs x g.1 f)

given-less : (w : Writer) (known : Remote) (psks : List (List ℕ)) (ts : List Token) (xs : List (List ℕ)) (k : ℕ) → Given w known psks ts xs
    → IsGiven w known psks (take k ts)
given-less w known psks ts xs zero g = ([], tt)
given-less w known psks [] xs (suc k) g = ([], tt)
given-less w known psks (t ∷ ts) [] (suc k) g = absurd g
given-less w known psks (t ∷ ts) (x ∷ xs) (suc k) g =
    let i = given-less w known (psks_after psks t) ts xs k g.1 in (x ∷ i.0, (g.0, i.1))

pub given-first : (w : Writer) (known : Remote) (psks : List (List ℕ)) (ts : List Token) (i j : ℕ) → i ≤ j → IsGiven w known psks (take j ts)
    → IsGiven w known psks (take i ts)
given-first w known psks ts i j h g =
    subst (λ (us : List Token). IsGiven w known psks us) (take-take i j ts h) (given-less w known psks (take j ts) g.0 i g.1)

-- the text of the token before which a party stops is none of its own keys or secrets
dh-gives : (w : Writer) (known : Remote) (psks : List (List ℕ)) (t : Token) (x : List ℕ) → is_dh t ≡ true
    → dh_result_of w.agree (own_at w.role t) (remote_at w.role known t) ≡ Some x → Gives w known psks t x
dh-gives w known psks E x d e = cc
dh-gives w known psks S x d e = cc
dh-gives w known psks Psk x d e = cc
dh-gives w known psks _ x d e = e

dh-there : (w : Writer) (known : Remote) (psks : List (List ℕ)) (before later : List Token) (t : Token) → Shows w.own t
    → LacksDhResultAt w known psks (before ++ t ∷ later) (length before) → is_dh t ≡ true
dh-there w known psks before later t shows s = by t shows refl where
  given : Given w known psks before s.before
  given = subst (λ (us : List Token). Given w known psks us s.before) (take-append_seam before (t ∷ later)) s.given

  -- no text of this token is given
  none : (x : List ℕ) → Gives w known (psks_left psks before) t x → ⊥
  none x f =
      s.none (s.before ++ x ∷ [])
      (subst (λ (us : List Token). Given w known psks us (s.before ++ x ∷ [])) (sym (take-through before later t))
      (given-on w known psks before t s.before x given f))

  by : (u : Token) → Shows w.own u → t ≡ u → is_dh t ≡ true
  by E k e = absurd (none k.0 (subst (λ (z : Token). Gives w known (psks_left psks before) z k.0) (sym e) (k.1, k.2)))
  by S k e = absurd (none k.0 (subst (λ (z : Token). Gives w known (psks_left psks before) z k.0) (sym e) (k.1, k.2)))
  by Psk k e =
      absurd (none (first_psk (psks_left psks before))
      (subst (λ (z : Token). Gives w known (psks_left psks before) z (first_psk (psks_left psks before))) (sym e) refl))
  by Ee k e = ap is_dh e
  by _ k e = ap is_dh e

-- It is a DH, what is given before it is no further than it, and with its DH result texts are given past it.
record Past (first next : Writer) (known : Remote) (psks : List (List ℕ)) (ts : List Token) : Type 0 where
  before : List Token
  token : Token
  later : List Token
  tokens : ts ≡ before ++ token ∷ later
  dh : is_dh token ≡ true
  reached : IsGiven next known psks (take (suc (length before)) ts)
  beyond : (j : ℕ) → IsGiven first known psks (take j ts) → j ≤ length before

past : (w : Writer) (next : DhResults) (known : Remote) (psks : List (List ℕ)) (ts : List Token) (own : Own) (key x : List ℕ)
    → ((before later : List Token) (t : Token) → ts ≡ before ++ t ∷ later → Shows w.own t)
    → LacksDhResultFor w known psks ts own key → IsHandedIn w.agree next own key x → Past w (record w { agree = next }) known psks ts
past w next known psks ts own key x keys s handed = record {
  before = s.before;
  token = s.token;
  later = s.later;
  tokens = s.tokens;
  dh = d;
  reached = subst (λ (us : List Token). IsGiven (record w { agree = next }) known psks us)
      (sym (take-through s.before s.later s.token) ∙ ap (take (suc (length s.before))) (sym s.tokens)) (s.lacks.before ++ x ∷ [], on);
  beyond = λ (j : ℕ) (given : IsGiven w known psks (take j ts)). at-most j (length s.before) (λ (h : length s.before < j).
      let g = given-first w known psks ts (suc (length s.before)) j (omega (arith, h)) given in s.lacks.none g.0 g.1);
} where
  d : is_dh s.token ≡ true
  d = dh-there w known psks s.before s.later s.token (keys s.before s.later s.token s.tokens)
      (subst (λ (us : List Token). LacksDhResultAt w known psks us (length s.before)) s.tokens s.lacks)

  here : Given w known psks s.before s.lacks.before
  here = subst (λ (us : List Token). Given w known psks us s.lacks.before)
      (ap (take (length s.before)) s.tokens ∙ take-append_seam s.before (s.token ∷ s.later)) s.lacks.given

  answer : dh_result_of next (own_at w.role s.token) (remote_at w.role known s.token) ≡ Some x
  answer = ap (dh_result_of next (own_at w.role s.token)) s.key_is ∙ ap (λ (o : Own). next o key) (sym s.own_is) ∙ handed.there

  on : Given (record w { agree = next }) known psks (s.before ++ s.token ∷ []) (s.lacks.before ++ x ∷ [])
  on =
      let w2 : Writer = record w { agree = next } in
      given-on w2 known psks s.before s.token s.lacks.before x
      (given-all w.role w.has_psks w.agree next handed.stays w.own known psks s.before s.lacks.before here)
      (dh-gives w2 known (psks_left psks s.before) s.token x d answer)

-- a DH result that is asked for isn't there
pub write-lacks : (v : Party) (own : Own) (key : List ℕ) → HasKeys v → WantsToWrite v own key → v.agree own key ≡ None
write-lacks v own key keys wants = by (v.agree own key) refl where
  s : LacksDhResultFor (writer v) v.remote v.psks (tokens_now v) own key
  s = wants.lacks

  d : is_dh s.token ≡ true
  d = dh-there (writer v) v.remote v.psks s.before s.later s.token (keys s.before s.later s.token s.tokens)
      (subst (λ (us : List Token). LacksDhResultAt (writer v) v.remote v.psks us (length s.before)) s.tokens s.lacks)

  here : Given (writer v) v.remote v.psks s.before s.lacks.before
  here = subst (λ (us : List Token). Given (writer v) v.remote v.psks us s.lacks.before)
      (ap (take (length s.before)) s.tokens ∙ take-append_seam s.before (s.token ∷ s.later)) s.lacks.given

  by : (o : Option (List ℕ)) → v.agree own key ≡ o → v.agree own key ≡ None
  by None e = e
  by (Some y) e =
      let answer : dh_result_of v.agree (own_at v.role s.token) (remote_at v.role v.remote s.token) ≡ Some y =
      ap (dh_result_of v.agree (own_at v.role s.token)) s.key_is ∙ ap (λ (o : Own). v.agree o key) (sym s.own_is) ∙ e in
      absurd (s.lacks.none (s.lacks.before ++ y ∷ [])
      (subst (λ (us : List Token). Given (writer v) v.remote v.psks us (s.lacks.before ++ y ∷ []))
      (sym (take-through s.before s.later s.token) ∙ ap (take (suc (length s.before))) (sym s.tokens))
      (given-on (writer v) v.remote v.psks s.before s.token s.lacks.before y here
      (dh-gives (writer v) v.remote (psks_left v.psks s.before) s.token y d answer))))

asked-few : (v : Party) (all : DhResults) → HasKeys v → (first last : DhResults) (n j : ℕ) → AskedToWrite v all first n last → AreAmong first all
    → IsGiven (writer (with_dh_results v first)) v.remote v.psks (take j (tokens_now v))
    → (n ≤ count_by is_dh (drop j (tokens_now v))) × AreAmong last all
asked-few v all keys first last n j (ready _) among given = (omega arith, among)
asked-few v all keys first last _ j (asked _ next _ own key x n wants is handed more) among given =
    let ts : List Token = tokens_now v in
    let p = past (writer (with_dh_results v first)) next v.remote v.psks ts own key x keys wants.lacks handed in
    let h : j ≤ length p.before = p.beyond j given in
    let i = asked-few v all keys next last n (suc (length p.before)) more (among-next first next all own key x among is handed) p.reached in
    let rest : drop (suc (length p.before)) ts ≡ p.later = ap (drop (suc (length p.before))) p.tokens ∙ drop-through p.before p.later p.token in
    let few : n ≤ count_by is_dh p.later = subst (λ (us : List Token). n ≤ count_by is_dh us) rest i.0 in
    let here : suc (count_by is_dh p.later) ≤ count_by is_dh (drop j ts) =
    subst (λ (us : List Token). suc (count_by is_dh p.later) ≤ count_by is_dh (drop j us)) (sym p.tokens) (counts p.before p.later p.token j h p.dh) in
    (omega (arith, few, here), i.1)

pub asked-to-write : (v : Party) (all first last : DhResults) (n : ℕ) → HasKeys v → AskedToWrite v all first n last → AreAmong first all
    → (n ≤ count_by is_dh (tokens_now v)) × AreAmong last all
asked-to-write v all first last n keys a among = asked-few v all keys first last n 0 a among ([], tt)
