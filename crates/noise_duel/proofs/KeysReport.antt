-- Keys that agree and equal psks: one conversation and one history, or two hashed texts clash.
use Rattle.std.proofs.Common.{◌≡◌, ℕ, List, ◌∷◌, length, ap, sym, subst, ◌∙◌, inl, inr, []}
use Rattle.std.specs.Prelude.{true, Option, Some}
use Rattle.noise_duel.proofs.Common.{is_some, unwrap_or, Role, Initiator, Responder, Token, E, S, other, Plan, pre_of, name_bytes, SymmetricState, Ephemeral, Static, Remote, Own, public_keys, has_before, has_token, token_of, LawsBelow, Start, begun_as, pre_keys, IsSetUp, KeysReport, Knows, heads, tails, History, history_of, history_at_start}
use Rattle.noise_duel.proofs.HashedMessages.{AreMessages, AllAlike, passes-messages}
use Rattle.noise_duel.proofs.HashReports.{SameBytes, bytes-or, starts-back}
use Rattle.noise_duel.proofs.Forward.{UsePsks, passes-psks, one-history, starts-one, states-one}
use Rattle.noise_duel.proofs.Agreeing.{all-agree, passes-uses}

at-e : (k l : Remote) (ts : List Token) → has_token E ts ≡ true → pre_keys k ts ≡ pre_keys l ts → unwrap_or k.e [] ≡ unwrap_or l.e []
at-e k l [] h e = cc
at-e k l (E ∷ ts) h e = heads (unwrap_or k.e []) (unwrap_or l.e []) (pre_keys k ts) (pre_keys l ts) e
at-e k l (S ∷ ts) h e = at-e k l ts h (tails (unwrap_or k.s []) (unwrap_or l.s []) (pre_keys k ts) (pre_keys l ts) e)
at-e k l (_ ∷ ts) h e = at-e k l ts h e

at-s : (k l : Remote) (ts : List Token) → has_token S ts ≡ true → pre_keys k ts ≡ pre_keys l ts → unwrap_or k.s [] ≡ unwrap_or l.s []
at-s k l [] h e = cc
at-s k l (S ∷ ts) h e = heads (unwrap_or k.s []) (unwrap_or l.s []) (pre_keys k ts) (pre_keys l ts) e
at-s k l (E ∷ ts) h e = at-s k l ts h (tails (unwrap_or k.e []) (unwrap_or l.e []) (pre_keys k ts) (pre_keys l ts) e)
at-s k l (_ ∷ ts) h e = at-s k l ts h e

there : (o q : Option (List ℕ)) (k : List ℕ) → o ≡ Some k → is_some q ≡ true → unwrap_or o [] ≡ unwrap_or q [] → q ≡ Some k
there (Some x) (Some y) k e f g = ap Some (sym g) ∙ e
there _ _ k e f g = cc

-- what a party was given of the other's keys is right, where both mixed the same keys
module _ (laws : LawsBelow) (p : Plan) (role : Role) (a b : Start) (set : IsSetUp p role a) (there_set : IsSetUp p (other role) b)
    (same : pre_keys a.remote (pre_of (other role) p) ≡ pre_keys (public_keys b.own) (pre_of (other role) p)) where
  given : (is_some a.remote.e ≡ has_before p (other role) E) × (is_some a.remote.s ≡ has_before p (other role) S)
  given = laws.set_remote p role a.own a.remote (length a.psks) set

  own-before : (x : Own) → has_before p (other role) (token_of x) ≡ true → is_some (b.own x) ≡ true
  own-before x h = laws.set_own p (other role) b.own b.remote (length b.psks) there_set x (laws.before_is_among p (other role) (token_of x) h)

  pub knows-first : Knows a.remote b.own
  knows-first = record {
    e = λ k h.
        let before : has_before p (other role) E ≡ true = sym given.0 ∙ ap is_some h in
        there a.remote.e (b.own Ephemeral) k h (own-before Ephemeral before) (at-e a.remote (public_keys b.own) (pre_of (other role) p) before same);
    s = λ k h.
        let before : has_before p (other role) S ≡ true = sym given.1 ∙ ap is_some h in
        there a.remote.s (b.own Static) k h (own-before Static before) (at-s a.remote (public_keys b.own) (pre_of (other role) p) before same);
  }

pub keys-report : LawsBelow → KeysReport
keys-report laws p a b ps qs v w sa sb left right count e psks agrees =
    elim (bytes-or p a b ps qs v w left right count e) [ inl h ↦ inl (whole h) | inr c ↦ inr c ]
  where
    whole : SameBytes p a b ps qs v w left right count → (ps ≡ qs) × (history_of p Initiator a ps ≡ history_of p Responder b qs)
    whole h =
        let name : List ℕ = name_bytes (record { base = p.base; places = p.places }) in
        let r0 : SymmetricState = (begun_as p Initiator a).state in
        let s0 : SymmetricState = (begun_as p Responder b).state in
        let l = passes-messages (begun_as p Initiator a) v ps left in
        let m = passes-messages (begun_as p Responder b) w qs right in
        let left0 : History = history_at_start name p a.prologue (public_keys a.own) a.remote in
        let right0 : History = history_at_start name p b.prologue b.remote (public_keys b.own) in
        let keys = starts-back name p a.prologue b.prologue (public_keys a.own) a.remote b.remote (public_keys b.own) h.start in
        let begun : left0 ≡ right0 =
        starts-one name p a.prologue b.prologue (public_keys a.own) a.remote b.remote (public_keys b.own) keys.0 keys.1 keys.2 in
        let first : r0 ≡ s0 = states-one name p a.prologue b.prologue (public_keys a.own) a.remote b.remote (public_keys b.own) begun in
        let ka : Knows a.remote b.own = knows-first laws p Initiator a b sa sb keys.2 in
        let kb : Knows b.remote a.own = knows-first laws p Responder b a sb sa (sym keys.1) in
        let one : ps ≡ qs = all-agree a b agrees p 0 a.remote b.remote a.psks r0 ps qs ka kb
        (passes-uses (begun_as p Initiator a) v ps left) (passes-uses (begun_as p Responder b) w qs right)
        (passes-psks (begun_as p Initiator a) v ps left)
        (subst (λ (z : List (List ℕ)). UsePsks p 0 z qs) (sym psks) (passes-psks (begun_as p Responder b) w qs right))
        l.lines
        (subst (λ (s : SymmetricState). AreMessages p 0 s qs) (sym first) m.lines)
        (subst (λ (s : SymmetricState). AllAlike p 0 r0 s ps qs) (sym first) h.lines) in
        (one, one-history p left0 right0 ps qs begun one)
