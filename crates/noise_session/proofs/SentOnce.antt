-- A payload comes to one thing at an end.
use Rattle.std.proofs.Common.{rules, ◌≡◌, ℕ, List, Option, Some, Result, refl}
use Rattle.noise_session.proofs.Common.{Party, SendFault, EndState, Sends, lacks_dh_result, sends_handshake, sends_transport}
use Rattle.noise_handshake.specs.Writing.{Writes, LacksDhResult}
use Rattle.noise_session.proofs.Parties.{closed-yet}
use Rattle.noise_session.specs.Sending.Sends.{refuses}

module _ (written-one : (v : Party) (payload m n : List ℕ) (xs ys : List (List ℕ)) → Writes v payload xs m → Writes v payload ys n → (xs ≡ ys) × (m ≡ n))
    (lacks-one : (v : Party) (k j : ℕ) → LacksDhResult v k → LacksDhResult v j → k ≡ j)
    (apart : (v : Party) (payload m : List ℕ) (xs : List (List ℕ)) (k : ℕ) → Writes v payload xs m → LacksDhResult v k → ⊥) where
  refused-one : (o : Option SendFault) (a b : SendFault) → o ≡ Some a → o ≡ Some b → a ≡ b
  refused-one o a b e f = cc

  pub sends-once : (v : EndState) (payload : List ℕ) (x y : EndState) (r s : Result (List ℕ) SendFault) → Sends v payload r x → Sends v payload s y → (r ≡ s) × (x ≡ y)
  sends-once v payload x y r s (refuses _ _ a e) (refuses _ _ b f) = search
  sends-once v payload x y r s (refuses _ _ a e) (lacks_dh_result _ _ k f lacks) = cc
  sends-once v payload x y r s (refuses _ _ a e) (sends_handshake _ _ m xs f writes) = cc
  sends-once v payload x y r s (refuses _ _ a e) (sends_transport _ _ f opens) = cc
  sends-once v payload x y r s (lacks_dh_result _ _ k e lacks) (refuses _ _ b f) = cc
  sends-once v payload x y r s (lacks_dh_result _ _ k e lacks) (lacks_dh_result _ _ j f other) = search
  sends-once v payload x y r s (lacks_dh_result _ _ k e lacks) (sends_handshake _ _ m xs f writes) = absurd (apart v.party payload m xs k writes lacks)
  sends-once v payload x y r s (lacks_dh_result _ _ k e lacks) (sends_transport _ _ f opens) = absurd (closed-yet v lacks.speaks.more opens)
  sends-once v payload x y r s (sends_handshake _ _ m xs e writes) (refuses _ _ b f) = cc
  sends-once v payload x y r s (sends_handshake _ _ m xs e writes) (lacks_dh_result _ _ k f lacks) = absurd (apart v.party payload m xs k writes lacks)
  sends-once v payload x y r s (sends_handshake _ _ m xs e writes) (sends_handshake _ _ n ys f other) = search rules
  sends-once v payload x y r s (sends_handshake _ _ m xs e writes) (sends_transport _ _ f opens) = absurd (closed-yet v writes.speaks.more opens)
  sends-once v payload x y r s (sends_transport _ _ e opens) (refuses _ _ b f) = cc
  sends-once v payload x y r s (sends_transport _ _ e opens) (lacks_dh_result _ _ k f lacks) = absurd (closed-yet v lacks.speaks.more opens)
  sends-once v payload x y r s (sends_transport _ _ e opens) (sends_handshake _ _ m xs f writes) = absurd (closed-yet v writes.speaks.more opens)
  sends-once v payload x y r s (sends_transport _ _ e opens) (sends_transport _ _ f other) = (refl, refl)
