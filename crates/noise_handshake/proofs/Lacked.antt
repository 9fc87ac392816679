-- Which DH result the next message lacks: writing.
use Rattle.std.proofs.Common.{rules, ◌≡◌, ℕ, zero, suc, ◌<◌, ◌≤◌, List, [], ◌∷◌, length, take, refl, ap, sym, subst, ◌∙◌, arith}
use Rattle.std.specs.Prelude.{Bool, true, false, not, is_some}
use Rattle.noise_handshake.proofs.Common.{◌&&◌, ◌==◌, Option, Some, None, IsTrue, MatchOption, Token, Role, Initiator, turn_from, has_psk, Own, Remote, HandshakeValue, is_turn, party_of, Party, Speaks, own_at, remote_at, psks_after, tokens_now, LacksDhResultFor, WantsToWrite, Writer, writer, Gives, Given, LacksDhResultAt, LacksDhResult, remote_known, Speaking, same_role-true}
use Rattle.noise_handshake.proofs.Giving.{lacks-later}
use Rattle.noise_handshake.proofs.Knowing.{is_some-remote}
use Rattle.noise_handshake.proofs.Wrote.{for-view}
use Rattle.noise_handshake.proofs.Stepwise.{lacks-first}
use Rattle.noise_handshake.proofs.Wanted.{none-some}
use Rattle.noise_keys.specs.Keys.{KeyPairs}

lacks-tail : (w : Writer) (known : Remote) (psks : List (List ℕ)) (t : Token) (ts : List Token) (x : List ℕ) (k : ℕ) (xs : List (List ℕ))
    → k < length ts → Gives w known psks t x → Given w known psks (take (suc k) (t ∷ ts)) xs
    → ((ys : List (List ℕ)) → Given w known psks (take (suc (suc k)) (t ∷ ts)) ys → ⊥) → LacksDhResultAt w known (psks_after psks t) ts k
lacks-tail w known psks t ts x k [] h g given none = absurd given
lacks-tail w known psks t ts x k (y ∷ ys) h g given none = record {
  within = h;
  before = ys;
  given = given.1;
  none = λ zs z. none (x ∷ zs) (g, z);
}

-- where the first token has its text the others lack what all lack
lacks-after : (w : Writer) (known : Remote) (psks : List (List ℕ)) (t : Token) (ts : List Token) (x : List ℕ) → Gives w known psks t x
    → ((k : ℕ) → LacksDhResultAt w known (psks_after psks t) ts k → ⊥) → (k : ℕ) → LacksDhResultAt w known psks (t ∷ ts) k → ⊥
lacks-after w known psks t ts x g f zero l = l.none (x ∷ []) (g, tt)
lacks-after w known psks t ts x g f (suc k) l =
    f k (lacks-tail w known psks t ts x k l.before (omega (arith, l.within)) g l.given l.none)

later-one : (w : Writer) (known : Remote) (psks : List (List ℕ)) (t : Token) (ts : List Token) (x : List ℕ) → Gives w known psks t x
    → (o : Option (Own × List ℕ))
    → MatchOption o ((k : ℕ) → LacksDhResultAt w known (psks_after psks t) ts k → ⊥) (λ want. LacksDhResultFor w known (psks_after psks t) ts want.0 want.1)
    → MatchOption o ((k : ℕ) → LacksDhResultAt w known psks (t ∷ ts) k → ⊥) (λ want. LacksDhResultFor w known psks (t ∷ ts) want.0 want.1)
later-one w known psks t ts x g None h = lacks-after w known psks t ts x g h
later-one w known psks t ts x g (Some want) h = record {
  before = t ∷ h.before;
  token = h.token;
  later = h.later;
  tokens = ap (λ (us : List Token). t ∷ us) h.tokens;
  lacks = lacks-later w known psks t ts x (length h.before) g h.lacks;
  own_is = h.own_is;
  key_is = h.key_is;
}

-- what the later tokens lack
pub asked-later : (w : Writer) (known : Remote) (psks others : List (List ℕ)) (tokens ts : List Token) (t : Token) (x : List ℕ) → tokens ≡ t ∷ ts
    → others ≡ psks_after psks t → Gives w known psks t x → (o : Option (Own × List ℕ))
    → MatchOption o ((k : ℕ) → LacksDhResultAt w known others ts k → ⊥) (λ want. LacksDhResultFor w known others ts want.0 want.1)
    → MatchOption o ((k : ℕ) → LacksDhResultAt w known psks tokens k → ⊥) (λ want. LacksDhResultFor w known psks tokens want.0 want.1)
asked-later w known psks others tokens ts t x e f g o h =
    let h1 = subst (λ (z : List (List ℕ)). MatchOption o ((k : ℕ) → LacksDhResultAt w known z ts k → ⊥) (λ want. LacksDhResultFor w known z ts want.0 want.1)) f h in
    subst (λ (us : List Token). MatchOption o ((k : ℕ) → LacksDhResultAt w known psks us k → ⊥) (λ want. LacksDhResultFor w known psks us want.0 want.1)) (sym e)
    (later-one w known psks t ts x g o h1)

first-one : (w : Writer) (known : Remote) (psks : List (List ℕ)) (t : Token) (ts : List Token) → ((x : List ℕ) → Gives w known psks t x → ⊥)
    → IsTrue (remote_known w.role (is_some known.e) (is_some known.s) t) → (o : Option (Own × List ℕ))
    → MatchOption o (remote_at w.role known t ≡ None) (λ want. (want.0 ≡ own_at w.role t) × (remote_at w.role known t ≡ Some want.1))
    → MatchOption o ((k : ℕ) → LacksDhResultAt w known psks (t ∷ ts) k → ⊥) (λ want. LacksDhResultFor w known psks (t ∷ ts) want.0 want.1)
first-one w known psks t ts bad dh None h = absurd (none-some (remote_at w.role known t) (is_some-remote w.role known t ∙ dh) h)
first-one w known psks t ts bad dh (Some want) h = record {
  before = [];
  token = t;
  later = ts;
  tokens = refl;
  lacks = lacks-first (t ∷ ts) ts t refl w known psks bad;
  own_is = h.0;
  key_is = h.1;
}

-- what the first token lacks
pub asked-first : (w : Writer) (known : Remote) (psks : List (List ℕ)) (tokens ts : List Token) (t : Token) → tokens ≡ t ∷ ts
    → ((x : List ℕ) → Gives w known psks t x → ⊥)
    → IsTrue (remote_known w.role (is_some known.e) (is_some known.s) t) → (o : Option (Own × List ℕ))
    → MatchOption o (remote_at w.role known t ≡ None) (λ want. (want.0 ≡ own_at w.role t) × (remote_at w.role known t ≡ Some want.1))
    → MatchOption o ((k : ℕ) → LacksDhResultAt w known psks tokens k → ⊥) (λ want. LacksDhResultFor w known psks tokens want.0 want.1)
asked-first w known psks tokens ts t e bad dh o h = search (rules, first-one)

-- ---- whether a message of this party is due

tests-of : (ended all ours : Bool) → (not ended && not all && ours) ≡ true → (ended ≡ false) × (all ≡ false) × (ours ≡ true)
tests-of true all ours e = absurd (cc)
tests-of false true ours e = absurd (cc)
tests-of false false true e = (refl, refl, refl)
tests-of false false false e = absurd (cc)

module _ {K : Type 0} (h : HandshakeValue K) where
  abbrev is-due : Bool
  is-due = not h.ended && not (h.passed == length h.pattern.messages) && is_turn h.role h.passed

  pub due-within : h.passed ≤ length h.pattern.messages → is-due ≡ true → h.passed < length h.pattern.messages
  due-within w e = search rules

  pub due-turn : is-due ≡ true → turn_from Initiator h.passed ≡ h.role
  due-turn e = same_role-true (turn_from Initiator h.passed) h.role (tests-of h.ended (h.passed == length h.pattern.messages) (is_turn h.role h.passed) e).2

  pub due-speaking : (pairs : K → KeyPairs) → h.passed ≤ length h.pattern.messages → is-due ≡ true → (has_psks : Bool) (psks : List (List ℕ)) (tokens : List Token)
      → has_psks ≡ has_psk h.pattern → psks ≡ h.psks → tokens ≡ tokens_now (party_of pairs h)
      → Speaking (party_of pairs h) h.role has_psks (pairs h.keys).public (pairs h.keys).agree psks h.remote tokens
  due-speaking pairs w e has_psks psks tokens b d f = record {
    speaks = record {
      going = (tests-of h.ended (h.passed == length h.pattern.messages) (is_turn h.role h.passed) e).0;
      more = due-within w e;
      turn = due-turn e;
    };
    role_is = refl;
    psks_is = b;
    own_is = refl;
    agree_is = refl;
    psks_are = d;
    known_is = refl;
    tokens_are = f;
  }

-- ---- for a party that speaks

wants-of : (v : Party) (o : Option (Own × List ℕ)) → Speaks v
    → MatchOption o ((k : ℕ) → LacksDhResultAt (writer v) v.remote v.psks (tokens_now v) k → ⊥)
    (λ want. LacksDhResultFor (writer v) v.remote v.psks (tokens_now v) want.0 want.1)
    → MatchOption o ((k : ℕ) → LacksDhResult v k → ⊥) (λ want. WantsToWrite v want.0 want.1)
wants-of v None l h = λ k lacks. h k lacks.lacks
wants-of v (Some want) l h = record { speaks = l; lacks = h }

pub wants : (v : Party) (o : Option (Own × List ℕ)) (role : Role) (has_psks : Bool) (own : Own → Option (List ℕ))
    (agree : Own → List ℕ → Option (List ℕ)) (psks : List (List ℕ)) (known : Remote) (ts : List Token)
    → Speaking v role has_psks own agree psks known ts
    → MatchOption o ((k : ℕ) → LacksDhResultAt (record { role = role; has_psks = has_psks; own = own; agree = agree }) known psks ts k → ⊥)
    (λ want. LacksDhResultFor (record { role = role; has_psks = has_psks; own = own; agree = agree }) known psks ts want.0 want.1)
    → MatchOption o ((k : ℕ) → LacksDhResult v k → ⊥) (λ want. WantsToWrite v want.0 want.1)
wants v o role has_psks own agree psks known ts l h =
    wants-of v o l.speaks (for-view v role has_psks own agree psks known ts l
    (λ w z s us. MatchOption o ((k : ℕ) → LacksDhResultAt w z s us k → ⊥) (λ want. LacksDhResultFor w z s us want.0 want.1)) h)
