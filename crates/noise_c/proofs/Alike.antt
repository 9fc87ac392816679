-- Two programs that begin alike, and whose starts return OK, begin as the law of two programs asks.
use Rattle.std.proofs.Common.{◌≡◌, ℕ, List, true, false, refl, ap, sym, ◌∙◌}
use Rattle.std.specs.Prelude.{is_some, max, length}
use Rattle.noise_c.proofs.Common.{Bool, Option, Some, None, false≢true, if◌then◌else◌, Plan, IsValid, Own, Role, Token, E, S, Ee, Es, Se, Ss, is_dh, occurs, own_at, remote_at, dh_result_of, psks_of, setup_fault, Remote, DhResults, key_from_c, public_in, remote_of, table_of}
use Rattle.noise_names.specs.declared.token.Role.TheVariants.{Initiator, Responder}
use Rattle.noise_names.specs.declared.token.Token.TheVariants.{Psk}
use Rattle.noise_names.specs.Tokens.{other}
use Rattle.noise_names.specs.Plan.{places_of}
use Rattle.noise_names.specs.Validity.{is_among}
use Rattle.noise_handshake.specs.Counterparts.{DhResultsAgree, shown_before}
use Rattle.noise_keys.specs.KeyTokens.{token_of}
use Rattle.noise_handshake.specs.Setup.{has_before, public_keys}
use Rattle.noise_c.specs.declared.structs.NoiseSetup.{NoiseSetup}
use Rattle.noise_c.specs.HandshakeStructs.{psks_in}
use Rattle.noise_c.specs.TwoRuns.{Dh, Knows}
use Rattle.noise_c.proofs.Starts.{remote-of}

-- what the laws of a setup say
pub record Setups : Type 0 where
  pub own : (p : Plan) (role : Role) (own : Own → Option (List ℕ)) (known : Remote) (n : ℕ) → setup_fault p role own known n ≡ None
      → (x : Own) → is_among role (token_of x) (places_of p) ≡ true → is_some (own x) ≡ true
  pub remote : (p : Plan) (role : Role) (own : Own → Option (List ℕ)) (known : Remote) (n : ℕ) → setup_fault p role own known n ≡ None
      → (is_some known.e ≡ has_before p (other role) E) × (is_some known.s ≡ has_before p (other role) S)
  pub keys : (p : Plan) (role : Role) (t : Token) → IsValid p → is_dh t ≡ true → occurs t (places_of p) ≡ true
      → is_among role (token_of (own_at role t)) (places_of p) ≡ true

key-shown : (b : Bool) (known own : Option (List ℕ)) → is_some known ≡ b → ((k : List ℕ) → known ≡ Some k → own ≡ Some k)
    → known ≡ (if b then own else None)
key-shown true None own e f = absurd (false≢true e)
key-shown true (Some k) own e f = sym (f k refl)
key-shown false None own e f = refl
key-shown false (Some k) own e f = absurd (false≢true (sym e))

-- each knows the keys of the other's pre-message, and no others
pub shown : (setups : Setups) (p : Plan) (role : Role) (g h : NoiseSetup) → Knows g h
    → setup_fault p role (public_in (table_of g)) (remote_of g) (max (length (psks_in g)) (psks_of p.messages)) ≡ None
    → remote_of g ≡ shown_before p (other role) (public_in (table_of h))
shown setups p role g h knows fault =
    let there = setups.remote p role (public_in (table_of g)) (remote_of g) _ fault in
    remote-of _ _ _ _
    (key-shown (has_before p (other role) E) (key_from_c g.remote_e) (key_from_c h.e) there.0 knows.e)
    (key-shown (has_before p (other role) S) (key_from_c g.remote_s) (key_from_c h.s) there.1 knows.s)

-- the other party's key at a DH token
remote-left : (t : Token) (own : Own → Option (List ℕ)) → is_dh t ≡ true → remote_at Initiator (public_keys own) t ≡ own (own_at Responder t)
remote-left Ee own e = refl
remote-left Es own e = refl
remote-left Se own e = refl
remote-left Ss own e = refl
remote-left E own e = absurd (false≢true e)
remote-left S own e = absurd (false≢true e)
remote-left Psk own e = absurd (false≢true e)

remote-right : (t : Token) (own : Own → Option (List ℕ)) → is_dh t ≡ true → remote_at Responder (public_keys own) t ≡ own (own_at Initiator t)
remote-right Ee own e = refl
remote-right Es own e = refl
remote-right Se own e = refl
remote-right Ss own e = refl
remote-right E own e = absurd (false≢true e)
remote-right S own e = absurd (false≢true e)
remote-right Psk own e = absurd (false≢true e)

-- all DH results of these private keys
abbrev pub results_of : Dh → DhResults
results_of d own key = Some (d own key)

meets-at : (d d_too : Dh) (x y : Own) (k l : Option (List ℕ)) → is_some k ≡ true → is_some l ≡ true
    → ((a b : List ℕ) → k ≡ Some a → l ≡ Some b → d x b ≡ d_too y a)
    → dh_result_of (results_of d) x l ≡ dh_result_of (results_of d_too) y k
meets-at d d_too x y None l e f agree = absurd (false≢true e)
meets-at d d_too x y (Some a) None e f agree = absurd (false≢true f)
meets-at d d_too x y (Some a) (Some b) e f agree = ap Some (agree a b refl refl)

-- the DH results of both agree
pub meets : (setups : Setups) (p : Plan) (own theirs : Own → Option (List ℕ)) (known their_known : Remote) (n m : ℕ) (d d_too : Dh) → IsValid p
    → setup_fault p Initiator own known n ≡ None → setup_fault p Responder theirs their_known m ≡ None
    → ((x y : Own) (k l : List ℕ) → own x ≡ Some k → theirs y ≡ Some l → d x l ≡ d_too y k)
    → DhResultsAgree p Initiator own (results_of d) theirs (results_of d_too)
meets setups p own theirs known their_known n m d d_too valid fault fault_too agree t dh among =
    let x : Own = own_at Initiator t in
    let y : Own = own_at Responder t in
    let mine = setups.own p Initiator own known n fault x (setups.keys p Initiator t valid dh among) in
    let yours = setups.own p Responder theirs their_known m fault_too y (setups.keys p Responder t valid dh among) in
    ap (dh_result_of (results_of d) x) (remote-left t theirs dh)
    ∙ meets-at d d_too x y (own x) (theirs y) mine yours (agree x y)
    ∙ ap (dh_result_of (results_of d_too) y) (sym (remote-right t own dh))
