-- What the calls of the halves of a transport say of one message (Noise 5.1, 5.2, 7.4 and 11.3). The calls of the whole
-- transport say the same of its halves.
use Rattle.std.specs.Prelude.{◌≡◌, ◌≢◌, ◌+◌, ◌≤◌, ◌<◌, ℕ, List, [], length, take, drop, Option, None, Result, Err, IsOk, IfOk, IfErr}
use Rattle.std.specs.Prelude.{OnOk, OnErr, MatchOption, MatchResult}
use Rattle.noise_state.specs.Cipher.{ciphertext_under}
use Rattle.noise_session.specs.declared.faults.SendFault.{SendFault}
use Rattle.noise_session.specs.declared.faults.OpenFault.{OpenFault}
use Rattle.noise_session.specs.Frames.{frame}
use Rattle.noise_session.specs.Transport.{last_nonce}
use Rattle.noise_session.specs.Halves.{HalfValue, sender_fault, receiver_fault}
use Rattle.noise_session.specs.TransportValue.{TransportValue, TransportState, TransportMatches, SenderMatches, ReceiverMatches, sending_half, receiving_half}
use Rattle.noise_session.specs.TransportValue.{next_message, due_message, rekeyed_if_due, unopened_fault}

-- the call has this fault, if there is one, and else succeeds
abbrev pub SucceedsUnless : {T E : Type 0} → Option E → Result T E → Type 0
SucceedsUnless why result = MatchOption why (IsOk result) (λ fault. result ≡ Err fault)

-- the call has this fault, if there is one, and else succeeds or reports that the message is no transport message
abbrev pub OpensUnless : {T : Type 0} → Option OpenFault → List ℕ → Result T OpenFault → Type 0
OpensUnless why message result =
    MatchOption why (IfErr result (λ fault. fault ≡ unopened_fault (length message))) (λ fault. result ≡ Err fault)

-- the message of the payload, under the half's key and at its nonce
abbrev pub message_of : HalfValue → List ℕ → List ℕ
message_of h payload = ciphertext_under h.key h.nonce [] payload

-- it is that of no payload, if the half opens any
abbrev pub IsNoMessage : HalfValue → List ℕ → Type 0
IsNoMessage h message =
    receiver_fault h ≡ None → (payload : List ℕ) → message ≢ message_of h payload

-- the other party makes it of no payload now
abbrev pub IsNotDue : TransportState → List ℕ → Type 0
IsNotDue v message = (payload : List ℕ) → message ≢ due_message v payload

-- a message leaves of a half that it counts, and may rekey
abbrev pub IsCounted : HalfValue → HalfValue → Type 0
IsCounted h next = next ≡ record h { key = next.key; nonce = h.nonce + 1 }

abbrev pub HasDueKey : HalfValue → HalfValue → Type 0
HasDueKey h next = next.key ≡ rekeyed_if_due h.interval (h.nonce + 1) h.key

-- one message more
abbrev pub one_sent : TransportState → TransportState
one_sent v = record v { sent = v.sent + 1 }

abbrev pub one_received : TransportState → TransportState
one_received v = record v { received = v.received + 1 }

-- A payload of n bytes is sealed into the first bytes of `out`, or isn't and nothing changes: `carried` is what a
-- message becomes there, so many bytes longer than the payload.
pub record SealsAs (carried : List ℕ → List ℕ) (overhead : ℕ) (h next : HalfValue) (n : ℕ) (payload out after : List ℕ)
    (result : Result ℕ SendFault) : Type 0 where
  pub fault : SucceedsUnless (sender_fault h n) result
  pub below : OnOk result (h.nonce < last_nonce)
  pub len : IfOk result (λ k. (k ≡ n + overhead) × (k ≤ length after))
  pub rest : IfOk result (λ k. drop k after ≡ drop k out)
  pub counted : OnOk result (IsCounted h next)
  pub unchanged : OnErr result ((next ≡ h) × (after ≡ out))
  pub sealed : IfOk result (λ k. take k after ≡ carried (message_of h payload))
  pub renewed : OnOk result (HasDueKey h next)
  pub seals : (v : TransportState) → SenderMatches h v → IfOk result
      (λ k. (take k after ≡ carried (next_message v payload)) × SenderMatches next (one_sent v))

-- as the message itself, or as its frame
abbrev pub SenderSeals : HalfValue → HalfValue → ℕ → List ℕ → List ℕ → List ℕ → Result ℕ SendFault → Type 0
SenderSeals = SealsAs (λ message. message) 16

abbrev pub SenderSealsFrame : HalfValue → HalfValue → ℕ → List ℕ → List ℕ → List ℕ → Result ℕ SendFault → Type 0
SenderSealsFrame = SealsAs frame 18

-- A message is opened, and its payload is in the result; or it isn't, and the half stays as it is.
pub record ReceiverOpens {T : Type 0} (h next : HalfValue) (message : List ℕ) (result : Result T OpenFault)
    (payload_in : T → List ℕ) : Type 0 where
  pub fault : OpensUnless (receiver_fault h) message result
  pub counted : OnOk result (IsCounted h next)
  pub unchanged : OnErr result (next ≡ h)
  pub opened : MatchResult result (λ r. message ≡ message_of h (payload_in r)) (λ _. IsNoMessage h message)
  pub renewed : OnOk result (HasDueKey h next)
  pub opens : (v : TransportState) → ReceiverMatches h v → MatchResult result
      (λ r. (message ≡ due_message v (payload_in r)) × ReceiverMatches next (one_received v))
      (λ _. receiver_fault h ≡ None → IsNotDue v message)

-- The payload takes the place of the first bytes of a message that is opened, and the tag stays; else all stays.
pub record OpensInPlace (message after : List ℕ) (result : Result ℕ OpenFault) : Type 0 where
  pub len : IfOk result (λ n. n + 16 ≡ length after)
  pub beyond : IfOk result (λ n. drop n after ≡ drop n message)
  pub unchanged : OnErr result (after ≡ message)

-- The half of a transport that seals does, and nothing else of the transport changes.
pub record TransportSeals (t next : TransportValue) (n : ℕ) (payload out after : List ℕ) (result : Result ℕ SendFault)
    : Type 0 where
  pub half : SenderSeals (sending_half t) (sending_half next) n payload out after result
  pub others : next ≡ record t { send_key = next.send_key; send_nonce = next.send_nonce }
  pub unchanged : OnErr result (next ≡ t)
  pub matches : (v : TransportState) → TransportMatches t v → OnOk result (TransportMatches next (one_sent v))

-- The half of a transport that opens does, and nothing else of the transport changes.
pub record TransportOpens {T : Type 0} (t next : TransportValue) (message : List ℕ) (result : Result T OpenFault)
    (payload_in : T → List ℕ) : Type 0 where
  pub half : ReceiverOpens (receiving_half t) (receiving_half next) message result payload_in
  pub others : next ≡ record t { receive_key = next.receive_key; receive_nonce = next.receive_nonce }
  pub unchanged : OnErr result (next ≡ t)
  pub matches : (v : TransportState) → TransportMatches t v → OnOk result (TransportMatches next (one_received v))
