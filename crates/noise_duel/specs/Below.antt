-- What the laws of the handshake and of an end say, as one premise of this crate's lemmas.
use Rattle.std.specs.Prelude.{◌≡◌, ◌<◌, ◌≤◌, ◌+◌, ℕ, List, length, Bool, true, is_some, Option, Some, None, Result}
use Rattle.noise_names.specs.declared.token.Role.{Role}
use Rattle.noise_names.specs.declared.token.Role.TheVariants.{Initiator, Responder}
use Rattle.noise_names.specs.declared.token.Token.{Token}
use Rattle.noise_names.specs.declared.token.Token.TheVariants.{E, S}
use Rattle.noise_names.specs.Tokens.{other, turn_from}
use Rattle.noise_names.specs.Validity.{IsValid, is_among, occurs}
use Rattle.noise_names.specs.Plan.{Plan, Place, places_of, has_psk}
use Rattle.noise_names.specs.Overhead.{has_key, overhead_of}
use Rattle.noise_names.specs.Limits.{IsPattern}
use Rattle.noise_state.specs.declared.symmetric.SymmetricState.{SymmetricState}
use Rattle.noise_keys.specs.declared.keys.Own.{Own}
use Rattle.noise_keys.specs.KeyTokens.{has_token, own_at, token_of}
use Rattle.noise_handshake.specs.declared.remote.Remote.{Remote}
use Rattle.noise_handshake.specs.declared.faults.Cause.{Cause}
use Rattle.noise_handshake.specs.Message.{after_payload}
use Rattle.noise_handshake.specs.Length.{Carry}
use Rattle.noise_handshake.specs.Passed.{passed_places}
use Rattle.noise_handshake.specs.Party.{Party, Accepts, Refuses, Speaks, dh_result_of, remote_at, start, tokens_at, tokens_now}
use Rattle.noise_handshake.specs.Writing.{Writes, LacksDhResult}
use Rattle.noise_handshake.specs.Matching.{IsKeyed, after_message, after_own}
use Rattle.noise_handshake.specs.Setup.{party_at_start, has_before, public_keys, setup_fault}
use Rattle.noise_handshake.specs.Counterparts.{Counterparts, DhResultsAgree, IsEquipped, is_dh, keys_if, shown_after, shown_before}
use Rattle.noise_session.specs.declared.faults.SendFault.{SendFault}
use Rattle.noise_session.specs.Ends.{EndState}
use Rattle.noise_session.specs.Steps.{StepValue}
use Rattle.noise_session.specs.Taking.{Judges}
use Rattle.noise_session.specs.Sending.{Sends}

pub record LawsBelow : Type 0 where
  -- a message is accepted, refused and written in one way
  pub accepted_once : (v : Party) (message : List ℕ) (xs ys : List (List ℕ)) (p q : List ℕ)
      → Accepts v message xs p → Accepts v message ys q → (xs ≡ ys) × (p ≡ q)
  pub not_refused : (v : Party) (message : List ℕ) (xs : List (List ℕ)) (p : List ℕ) (k : ℕ) (c : Cause)
      → Accepts v message xs p → Refuses v message k c → ⊥
  pub refused_once : (v : Party) (message : List ℕ) (k j : ℕ) (c d : Cause)
      → Refuses v message k c → Refuses v message j d → (k ≡ j) × (c ≡ d)
  pub written_once : (v : Party) (payload m n : List ℕ) (xs ys : List (List ℕ))
      → Writes v payload xs m → Writes v payload ys n → (xs ≡ ys) × (m ≡ n)
  pub not_lacking : (v : Party) (payload m : List ℕ) (xs : List (List ℕ)) (k : ℕ)
      → Writes v payload xs m → LacksDhResult v k → ⊥
  pub sent_once : (v x y : EndState) (payload : List ℕ) (r s : Result (List ℕ) SendFault)
      → Sends v payload r x → Sends v payload s y → (r ≡ s) × (x ≡ y)
  pub judged_once : (v x y : EndState) (message : List ℕ) (s t : StepValue)
      → Judges v message s x → Judges v message t y → (s ≡ t) × (x ≡ y)
  -- where there is a key, and what a message carries
  pub keyed_first : (name prologue : List ℕ) (p : Plan) (initiator responder : Remote) → IsPattern p
      → is_some ((start name p prologue initiator responder).cipher.key) ≡ has_key p (passed_places p 0)
  pub keyed_next : (p : Plan) (n : ℕ) (r : SymmetricState) (xs : List (List ℕ)) (payload : List ℕ)
      → n < length p.messages → Carry (tokens_at p.messages n) xs
      → is_some r.cipher.key ≡ has_key p (passed_places p n)
      → is_some ((after_payload (has_psk p) r (tokens_at p.messages n) xs payload).cipher.key)
      ≡ has_key p (passed_places p (n + 1))
  pub written_carries : (v : Party) (payload message : List ℕ) (xs : List (List ℕ))
      → Writes v payload xs message → Carry (tokens_now v) xs
  pub accepted_carries : (v : Party) (payload message : List ℕ) (xs : List (List ℕ))
      → Accepts v message xs payload → Carry (tokens_now v) xs
  -- which tokens are among the places of a pattern
  pub before_is_among : (p : Plan) (party : Role) (t : Token)
      → has_before p party t ≡ true → is_among party t (places_of p) ≡ true
  pub sent_is_among : (p : Plan) (n : ℕ) (t : Token)
      → has_token t (tokens_at p.messages n) ≡ true → is_among (turn_from Initiator n) t (places_of p) ≡ true
  pub among_occurs : (party : Role) (t : Token) (places : List Place)
      → is_among party t places ≡ true → occurs t places ≡ true
  pub dh_key_is_among : (p : Plan) (role : Role) (t : Token)
      → IsValid p → is_dh t ≡ true → occurs t (places_of p) ≡ true
      → is_among role (token_of (own_at role t)) (places_of p) ≡ true
  -- what a setup without a fault has
  pub set_own : (p : Plan) (role : Role) (own : Own → Option (List ℕ)) (known : Remote) (n : ℕ)
      → setup_fault p role own known n ≡ None
      → (x : Own) → is_among role (token_of x) (places_of p) ≡ true → is_some (own x) ≡ true
  pub set_remote : (p : Plan) (role : Role) (own : Own → Option (List ℕ)) (known : Remote) (n : ℕ)
      → setup_fault p role own known n ≡ None
      → (is_some known.e ≡ has_before p (other role) E) × (is_some known.s ≡ has_before p (other role) S)
  -- counterparts
  pub accepts : (v w : Party) (payload message : List ℕ) (xs : List (List ℕ))
      → IsValid v.pattern → Counterparts v w → Writes v payload xs message → Accepts w message xs payload
  pub next : (v w : Party) (payload message : List ℕ) (xs : List (List ℕ))
      → IsValid v.pattern → Counterparts v w → Writes v payload xs message
      → Counterparts (after_own v xs payload) (after_message w xs payload)
  pub turned : (v w : Party) → Counterparts v w → Counterparts w v
  pub known : (v w : Party) → Counterparts v w → v.remote ≡ shown_after v.pattern (other v.role) v.passed w.own
  pub dh_result : (agree : Own → List ℕ → Option (List ℕ)) (x : Own) (role : Role) (e s : Bool)
      (theirs : Own → Option (List ℕ)) (t : Token) (dh_result : List ℕ)
      → dh_result_of agree x (remote_at role (keys_if e s theirs) t) ≡ Some dh_result
      → dh_result_of agree x (remote_at role (public_keys theirs) t) ≡ Some dh_result
  pub starts : (p : Plan) (prologue : List ℕ) (psks : List (List ℕ)) (own theirs : Own → Option (List ℕ))
      (agree their_agree : Own → List ℕ → Option (List ℕ)) (known their_known : Remote)
      → known ≡ shown_before p Responder theirs → their_known ≡ shown_before p Initiator own
      → DhResultsAgree p Initiator own agree theirs their_agree
      → Counterparts (party_at_start p Initiator prologue own agree known psks)
      (party_at_start p Responder prologue theirs their_agree their_known psks)
  pub due : (v w : Party) (payload : List ℕ)
      → IsValid v.pattern → Counterparts v w → IsEquipped v.pattern v.role v.own v.agree w.own → Speaks v → IsKeyed v
      → overhead_of v.pattern (v.passed + 1) + length payload ≤ 65535
      → (xs : List (List ℕ)) × (message : List ℕ) × Writes v payload xs message
