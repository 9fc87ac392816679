-- The first tokens of a message.
use Rattle.std.proofs.Common.{rules, ◌≡◌, ℕ, zero, suc, ◌+◌, ◌<◌, List, [], ◌∷◌, ◌++◌, length, take, drop, refl, ap, sym, subst, ◌∙◌, arith, take-take, length-take, append_assoc}
use Rattle.std.specs.Prelude.{Bool, true}
use Rattle.noise_handshake.proofs.Common.{take-append-drop, list_all, Token, SymmetricState, Own, Remote, Cause, PlacedToken, keyed_after, Reader, BeginsAs, CanBegin, cause_at, remote_after, LacksDhResultFor, Writer, Given, LacksDhResultAt, tokens_of, ArePlaced, StopsKnowing, and_parts}

pub tokens-take : (ps : List PlacedToken) (k : ℕ) → tokens_of (take k ps) ≡ take k (tokens_of ps)
tokens-take ps zero = refl
tokens-take [] (suc k) = refl
tokens-take (p ∷ ps) (suc k) = ap (λ (us : List Token). p.token ∷ us) (tokens-take ps k)

pub placed-take : (has_psks keyed : Bool) (place : ℕ) (ps : List PlacedToken) (k : ℕ) → ArePlaced has_psks keyed place ps → ArePlaced has_psks keyed place (take k ps)
placed-take has_psks keyed place ps zero a = tt
placed-take has_psks keyed place [] (suc k) a = tt
placed-take has_psks keyed place (p ∷ ps) (suc k) a = (a.0, a.1, placed-take has_psks (keyed_after has_psks keyed p.token) (place + p.width) ps k a.2)

pub all-take : (p : Token → Bool) (ts : List Token) (k : ℕ) → list_all p ts ≡ true → list_all p (take k ts) ≡ true
all-take p ts zero h = refl
all-take p [] (suc k) h = refl
all-take p (t ∷ ts) (suc k) h = search (rules, (all-take p ts k (and_parts (p t) (list_all p ts) h).1))

-- why reading stops at one of the first tokens
cause-take : (keyed : Bool) (ts : List Token) (k j : ℕ) (rest : List ℕ) → j < k → j < length ts → cause_at keyed (take k ts) j rest ≡ cause_at keyed ts j rest
cause-take keyed [] k j rest h w = absurd (omega (arith, w))
cause-take keyed (t ∷ ts) zero j rest h w = absurd (omega (arith, h))
cause-take keyed (t ∷ ts) (suc k) zero rest h w = refl
cause-take keyed (t ∷ ts) (suc k) (suc j) rest h w = cause-take keyed ts k j rest (omega (arith, h)) (omega (arith, w))

pub stops-all : (v : Reader) (known : Remote) (s : List (List ℕ)) (r : SymmetricState) (ts : List Token) (m : List ℕ) (k j : ℕ) (cause : Cause) (here : Remote)
    → j < length (take k ts) → StopsKnowing v known s r (take k ts) m j cause here → StopsKnowing v known s r ts m j cause here
stops-all v known s r ts m k j cause here h (stop, knows) =
    let less : j < k = omega (arith, h, length-take k ts) in
    let within : j < length ts = omega (arith, h, length-take k ts) in
    let first : take j (take k ts) ≡ take j ts = take-take j k ts (omega (arith, less)) in
    let next : take (suc j) (take k ts) ≡ take (suc j) ts = take-take (suc j) k ts (omega (arith, less)) in (
      record {
        within = omega (arith, within);
        carried = stop.carried;
        rest = stop.rest;
        leads = subst (λ (us : List Token). BeginsAs v known s r us stop.carried m stop.rest) first stop.leads;
        further = λ _ reaches. stop.further h (subst (λ (us : List Token). CanBegin v known s r us m) (sym next) reaches);
        unread = λ e. absurd (omega (arith, e, within));
        why = search (rules, cause-take);
      },
      knows ∙ ap (λ (us : List Token). remote_after known us stop.carried) first,
    )

-- what the first tokens lack
pub lacks-all : (w : Writer) (known : Remote) (s : List (List ℕ)) (ts : List Token) (k j : ℕ) → LacksDhResultAt w known s (take k ts) j → LacksDhResultAt w known s ts j
lacks-all w known s ts k j l =
    let less : j < k = omega (arith, l.within, length-take k ts) in
    record {
      within = omega (arith, l.within, length-take k ts);
      before = l.before;
      given = subst (λ (us : List Token). Given w known s us l.before) (take-take j k ts (omega (arith, less))) l.given;
      none = λ xs g. l.none xs (subst (λ (us : List Token). Given w known s us xs) (sym (take-take (suc j) k ts (omega (arith, less)))) g);
    }

pub lacks-first : (w : Writer) (known : Remote) (s : List (List ℕ)) (ts : List Token) (k j : ℕ) → j < k → LacksDhResultAt w known s ts j
    → LacksDhResultAt w known s (take k ts) j
lacks-first w known s ts k j less l = record {
  within = omega (arith, less, l.within, length-take k ts);
  before = l.before;
  given = subst (λ (us : List Token). Given w known s us l.before) (sym (take-take j k ts (omega (arith, less)))) l.given;
  none = λ xs g. l.none xs (subst (λ (us : List Token). Given w known s us xs) (take-take (suc j) k ts (omega (arith, less))) g);
}

pub lacks-for-all : (w : Writer) (known : Remote) (s : List (List ℕ)) (ts : List Token) (k : ℕ) (own : Own) (key : List ℕ)
    → LacksDhResultFor w known s (take k ts) own key → LacksDhResultFor w known s ts own key
lacks-for-all w known s ts k own key l = record {
  before = l.before;
  token = l.token;
  later = l.later ++ drop k ts;
  tokens = sym (take-append-drop k ts) ∙ ap (λ (us : List Token). us ++ drop k ts) l.tokens ∙ append_assoc l.before (l.token ∷ l.later) (drop k ts);
  lacks = lacks-all w known s ts k (length l.before) l.lacks;
  own_is = l.own_is;
  key_is = l.key_is;
}
