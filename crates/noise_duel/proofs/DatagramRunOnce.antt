-- A run of datagrams is determined: of two parties and a list of events one list of notes and one pair of parties comes.
use Rattle.std.proofs.Common.{rules, ◌≡◌, ℕ, List, ◌∷◌, refl, ap, sym, subst, ◌∙◌}
use Rattle.std.specs.Prelude.{Ok, Err, Result}
use Rattle.noise_duel.proofs.Common.{Role, other, DatagramState, Opens, nonce_named, DatagramEvent, DatagramNote, SealFault, DatagramHappens, DatagramRun, DatagramRunOnce, PartyOpens, PartySeals, is_sealed, is_delivered, is_missing, is_put_in, opens, rejects, seals, seals_nothing, DatagramSide, DatagramSides, same_Some}
use Rattle.noise_session.specs.declared.datagram_fault.DatagramFault.{DatagramFault}
use Rattle.noise_session.specs.Datagrams.Opens.{opened, refused, forged}
use Rattle.noise_duel.specs.DatagramRuns.DatagramRun.{begins, ends}
use Rattle.noise_duel.proofs.Prefixes.{transport_message-same}

abbrev opens_as : List ℕ → Result (List ℕ) DatagramFault
opens_as payload = Ok payload

abbrev refused_as : DatagramFault → Result (List ℕ) DatagramFault
refused_as why = Err why

err-same : (x y : DatagramFault) → refused_as x ≡ refused_as y → x ≡ y
err-same x y e = cc

not-both : (p : List ℕ) (why : DatagramFault) → opens_as p ≡ refused_as why → ⊥
not-both p why e = cc

opens-once : (v : DatagramState) (bytes : List ℕ) (w x : DatagramState) (p q : Result (List ℕ) DatagramFault) → Opens v bytes p w → Opens v bytes q x → p ≡ q
opens-once v bytes w x p q (opened _ _ a none is) (opened _ _ b also be) =
    ap opens_as (transport_message-same v.state (other v.role) 0 (nonce_named bytes) a b (sym is ∙ be))
opens-once v bytes w x p q (opened _ _ a none is) (forged _ _ also never) = absurd (never a is)
opens-once v bytes w x p q (refused _ _ why e) (refused _ _ because f) = ap refused_as (same_Some why because (sym e ∙ f))
opens-once v bytes w x p q (forged _ _ none never) (opened _ _ b also is) = absurd (never b is)
opens-once v bytes w x p q (forged _ _ none never) (forged _ _ also again) = refl
opens-once v bytes w x p q (opened _ _ a none is) (refused _ _ why e) = cc
opens-once v bytes w x p q (refused _ _ why e) (opened _ _ b none is) = cc
opens-once v bytes w x p q (refused _ _ why e) (forged _ _ none never) = cc
opens-once v bytes w x p q (forged _ _ none never) (refused _ _ why e) = cc

party-seals-once : (s : DatagramSide) (payload : List ℕ) (x y : DatagramSide) (m n : DatagramNote) → PartySeals s payload m x → PartySeals s payload n y → (m ≡ n) × (x ≡ y)
party-seals-once s payload x y m n (seals _ _ none) (seals _ _ also) = (refl, refl)
party-seals-once s payload x y m n (seals_nothing _ _ why e) (seals_nothing _ _ because f) = (ap SealFault (same_Some why because (sym e ∙ f)), refl)
party-seals-once s payload x y m n (seals _ _ none) (seals_nothing _ _ why e) = cc
party-seals-once s payload x y m n (seals_nothing _ _ why e) (seals _ _ none) = cc

party-opens-once : (s : DatagramSide) (bytes : List ℕ) (x y : DatagramSide) (m n : DatagramNote) → PartyOpens s bytes m x → PartyOpens s bytes n y → (m ≡ n) × (x ≡ y)
party-opens-once s bytes x y m n (opens _ _ a o) (opens _ _ b u) = search (rules, opens-once)
party-opens-once s bytes x y m n (opens _ _ a o) (rejects _ _ why u) = search (rules, opens-once)
party-opens-once s bytes x y m n (rejects _ _ why o) (opens _ _ b u) = search (rules, opens-once)
party-opens-once s bytes x y m n (rejects _ _ why o) (rejects _ _ because u) = search (err-same, opens-once)

happens-once : (d x y : DatagramSides) (event : DatagramEvent) (m n : Role × DatagramNote) → DatagramHappens d event m x → DatagramHappens d event n y
    → (m ≡ n) × (x ≡ y)
happens-once d x y event m n (is_sealed _ role payload note next h) (is_sealed _ _ _ reported after k) = search (rules, party-seals-once)
happens-once d x y event m n (is_delivered _ role i bytes note next at h) (is_delivered _ _ _ others reported after there k) =
    search (rules, party-opens-once)
happens-once d x y event m n (is_missing _ role i none) (is_missing _ _ _ also) = (refl, refl)
happens-once d x y event m n (is_put_in _ role bytes note next h) (is_put_in _ _ _ reported after k) = search (rules, party-opens-once)
happens-once d x y event m n (is_delivered _ role i bytes note next at h) (is_missing _ _ _ none) = cc
happens-once d x y event m n (is_missing _ role i none) (is_delivered _ _ _ bytes note next at h) = cc

pub datagram-run-once : DatagramRunOnce
datagram-run-once d x y events ms ns (ends _) (ends _) = (refl, refl)
datagram-run-once d x y events ms ns (begins _ next _ event later now more h run) (begins _ after _ _ _ first rest k on) =
    let one = happens-once d next after event now first h k in
    let two = datagram-run-once next x y later more rest run (subst (λ (z : DatagramSides). DatagramRun z later rest y) (sym one.1) on) in
    (ap (λ (z : Role × DatagramNote). z ∷ more) one.0 ∙ ap (λ (zs : List (Role × DatagramNote)). first ∷ zs) two.0, two.1)
