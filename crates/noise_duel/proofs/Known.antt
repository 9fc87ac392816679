-- What each party comes to know of the other's keys, where the conversation is one.
use Rattle.std.proofs.Common.{rules, ◌≡◌, ℕ, ◌+◌, List, ◌∷◌, refl, sym, subst, []}
use Rattle.std.specs.Prelude.{Bool, true, false}
use Rattle.noise_duel.proofs.Common.{not, Role, Initiator, Responder, Token, turn_from, Plan, Remote, Party, tokens_at, after_own, after_message, LawsBelow, HandshakeMessage, Exchanged, Start, begun_as, none, wrote, took, Knows, KnowEachOther}
use Rattle.noise_duel.proofs.Agreeing.{UsesAt, Uses, UsesAll, known_next, known_after_all, writes_now, is-own, learns, turns-apart, passes-uses}
use Rattle.noise_duel.proofs.KeysReport.{knows-first}

abbrev known_all : Plan → Role → ℕ → Remote → List HandshakeMessage → Remote
known_all p role n known [] = known
known_all p role n known (m ∷ ms) = known_all p role (n + 1) (known_after_all (writes_now role n) known (tokens_at p.messages n) m.carried) ms

remote-is : (v w : Party) (ps : List HandshakeMessage) → Exchanged v ps w → w.remote ≡ known_all v.pattern v.role v.passed v.remote ps
remote-is v w [] (none _) = refl
remote-is v w (p ∷ ps) (wrote _ _ _ _ here more) = search (rules, (remote-is (after_own v p.carried p.payload) w ps more))
remote-is v w (p ∷ ps) (took _ _ _ _ here more) = search (rules, (remote-is (after_message v p.carried p.payload) w ps more))

module _ (a b : Start) where
  token-known : (mine : Bool) (ka kb : Remote) (t : Token) (x : List ℕ) → Knows ka b.own → Knows kb a.own
      → UsesAt mine Initiator a.own a.agree ka t x → UsesAt (not mine) Responder b.own b.agree kb t x
      → Knows (known_next mine ka t x) b.own × Knows (known_next (not mine) kb t x) a.own
  token-known true ka kb t x f g u w = (f, learns kb a.own t x x g refl (is-own Initiator a.own a.agree ka t x u))
  token-known false ka kb t x f g u w = (learns ka b.own t x x f refl (is-own Responder b.own b.agree kb t x w), g)

  front-known : (mine : Bool) (ka kb : Remote) (ts : List Token) (xs : List (List ℕ)) → Knows ka b.own → Knows kb a.own
      → Uses mine Initiator a.own a.agree ka ts xs → Uses (not mine) Responder b.own b.agree kb ts xs
      → Knows (known_after_all mine ka ts xs) b.own × Knows (known_after_all (not mine) kb ts xs) a.own
  front-known true ka kb (t ∷ ts) (x ∷ xs) f g u w =
      let k = token-known true ka kb t x f g u.0 w.0 in front-known true (known_next true ka t x) (known_next false kb t x) ts xs k.0 k.1 u.1 w.1
  front-known false ka kb (t ∷ ts) (x ∷ xs) f g u w =
      let k = token-known false ka kb t x f g u.0 w.0 in front-known false (known_next false ka t x) (known_next true kb t x) ts xs k.0 k.1 u.1 w.1
  front-known _ ka kb _ _ f g u w = (f, g)

  all-known : (p : Plan) (n : ℕ) (ka kb : Remote) (ps : List HandshakeMessage) → Knows ka b.own → Knows kb a.own → UsesAll p Initiator a.own a.agree n ka ps
      → UsesAll p Responder b.own b.agree n kb ps
      → Knows (known_all p Initiator n ka ps) b.own × Knows (known_all p Responder n kb ps) a.own
  all-known p n ka kb [] f g u w = (f, g)
  all-known p n ka kb (m ∷ ms) f g u w =
      let mine : Bool = writes_now Initiator n in
      let apart : writes_now Responder n ≡ not mine = turns-apart (turn_from Initiator n) in
      let turned = subst (λ (z : Bool). Uses z Responder b.own b.agree kb (tokens_at p.messages n) m.carried
      × UsesAll p Responder b.own b.agree (n + 1) (known_after_all z kb (tokens_at p.messages n) m.carried) ms) apart w in
      let k = front-known mine ka kb (tokens_at p.messages n) m.carried f g u.0 turned.0 in
      let later = all-known p (n + 1) (known_after_all mine ka (tokens_at p.messages n) m.carried)
      (known_after_all (not mine) kb (tokens_at p.messages n) m.carried) ms k.0 k.1 u.1 turned.1 in (
        later.0,
        subst (λ (z : Bool). Knows (known_all p Responder (n + 1) (known_after_all z kb (tokens_at p.messages n) m.carried) ms) a.own) (sym apart)
            later.1,
      )

pub know-each-other : LawsBelow → KnowEachOther
know-each-other laws p a b ps v w sa sb left right before =
    let ka : Knows a.remote b.own = knows-first laws p Initiator a b sa sb (before Responder) in
    let kb : Knows b.remote a.own = knows-first laws p Responder b a sb sa (sym (before Initiator)) in
    let k = all-known a b p 0 a.remote b.remote ps ka kb (passes-uses (begun_as p Initiator a) v ps left) (passes-uses (begun_as p Responder b) w ps right) in (
      subst (λ (z : Remote). Knows z b.own) (sym (remote-is (begun_as p Initiator a) v ps left)) k.0,
      subst (λ (z : Remote). Knows z a.own) (sym (remote-is (begun_as p Responder b) w ps right)) k.1,
    )
