-- What the calls of the halves of datagrams say of one datagram (Noise 5.1, 7.4 and 11.4). The calls of the whole say
-- the same of its halves.
use Rattle.std.specs.Prelude.{◌≡◌, ◌+◌, ◌≤◌, ◌++◌, ℕ, List, [], length, take, drop, Option, Some, None, Result, Ok, Err, IfOk}
use Rattle.std.specs.Prelude.{OnOk, OnErr, MatchResult}
use Rattle.std.specs.Int.{w64, to_be_bytes}
use Rattle.noise_state.specs.Cipher.{ciphertext_under}
use Rattle.noise_session.specs.declared.faults.SendFault.{SendFault}
use Rattle.noise_session.specs.declared.datagram_fault.DatagramFault.{DatagramFault}
use Rattle.noise_session.specs.declared.datagram_fault.DatagramFault.TheVariants as fault
use Rattle.noise_session.specs.HalfCalls.{SucceedsUnless}
use Rattle.noise_session.specs.Datagrams.{DatagramsValue, DatagramSenderValue, DatagramReceiverValue, datagram_sending_half, datagram_receiving_half}
use Rattle.noise_session.specs.Datagrams.{DatagramState, DatagramsMatch, DatagramSenderMatches, DatagramReceiverMatches}
use Rattle.noise_session.specs.Datagrams.{Opens, datagram, nonce_named, accepting, unsealed, datagram_receiver_fault}

-- the datagram of the payload, under the half's key and at its nonce
abbrev pub datagram_under : DatagramSenderValue → List ℕ → List ℕ
datagram_under h payload = to_be_bytes w64 h.nonce ++ ciphertext_under h.key h.nonce [] payload

-- A payload of n bytes is sealed into the first bytes of `out`, or isn't and nothing changes.
pub record DatagramSenderSeals (h next : DatagramSenderValue) (n : ℕ) (payload out after : List ℕ)
    (result : Result ℕ SendFault) : Type 0 where
  pub fault : SucceedsUnless (unsealed h.role h.one_way h.nonce n) result
  pub len : IfOk result (λ k. (k ≡ n + 24) × (k ≤ length after))
  pub rest : IfOk result (λ k. drop k after ≡ drop k out)
  pub counted : OnOk result (next ≡ record h { nonce = h.nonce + 1 })
  pub unchanged : OnErr result ((next ≡ h) × (after ≡ out))
  pub sealed : IfOk result (λ k. take k after ≡ datagram_under h payload)
  pub seals : (v : DatagramState) → DatagramSenderMatches h v → IfOk result
      (λ k. (take k after ≡ datagram v.state v.role v.sent payload)
      × DatagramSenderMatches next (record v { sent = v.sent + 1 }))

-- the fault of a datagram that isn't opened: the first, or a wrong tag where there is none
abbrev pub declined_for : Option DatagramFault → DatagramFault
declined_for None = fault.Tag
declined_for (Some why) = why

-- The bytes after the nonce are the message of the payload, under the half's key and at the nonce that they name.
abbrev pub IsUnderKey : DatagramReceiverValue → List ℕ → List ℕ → Type 0
IsUnderKey h bytes payload = drop 8 bytes ≡ ciphertext_under h.key (nonce_named bytes) [] payload

-- A datagram is opened, and its payload is in the result; or it isn't, and the half stays as it is.
pub record DatagramReceiverOpens {T : Type 0} (h next : DatagramReceiverValue) (bytes : List ℕ)
    (result : Result T DatagramFault) (payload_in : T → List ℕ) : Type 0 where
  pub fault : MatchResult result (λ _. datagram_receiver_fault h bytes ≡ None)
      (λ why. why ≡ declined_for (datagram_receiver_fault h bytes))
  pub opened : MatchResult result (λ r. IsUnderKey h bytes (payload_in r))
      (λ _. datagram_receiver_fault h bytes ≡ None → (payload : List ℕ) → IsUnderKey h bytes payload → ⊥)
  pub same : next ≡ record h { recent = next.recent }
  pub unchanged : OnErr result (next ≡ h)
  pub opens : (v : DatagramState) → DatagramReceiverMatches h v → MatchResult result
      (λ r. Opens v bytes (Ok (payload_in r)) (accepting v (nonce_named bytes))
      × DatagramReceiverMatches next (accepting v (nonce_named bytes)))
      (λ fault. Opens v bytes (Err fault) v)

-- The payload of a datagram that is opened takes its place from the ninth byte on, and nonce and tag stay; else all
-- stays.
pub record OpensAfterNonce (bytes after : List ℕ) (result : Result ℕ DatagramFault) : Type 0 where
  pub len : IfOk result (λ n. n + 24 ≡ length after)
  pub beyond : IfOk result (λ n. (take 8 after ≡ take 8 bytes) × (drop (8 + n) after ≡ drop (8 + n) bytes))
  pub unchanged : OnErr result (after ≡ bytes)

-- The half that seals does, and nothing else of the datagrams changes.
pub record DatagramsSeal (d next : DatagramsValue) (n : ℕ) (payload out after : List ℕ) (result : Result ℕ SendFault)
    : Type 0 where
  pub half : DatagramSenderSeals (datagram_sending_half d) (datagram_sending_half next) n payload out after result
  pub others : next ≡ record d { send_nonce = next.send_nonce }
  pub unchanged : OnErr result (next ≡ d)
  pub matches : (v : DatagramState) → DatagramsMatch d v
      → OnOk result (DatagramsMatch next (record v { sent = v.sent + 1 }))

-- The half that opens does, and nothing else of the datagrams changes.
pub record DatagramsOpen {T : Type 0} (d next : DatagramsValue) (bytes : List ℕ) (result : Result T DatagramFault)
    (payload_in : T → List ℕ) : Type 0 where
  pub half : DatagramReceiverOpens (datagram_receiving_half d) (datagram_receiving_half next) bytes result payload_in
  pub others : next ≡ record d { recent = next.recent }
  pub unchanged : OnErr result (next ≡ d)
  pub matches : (v : DatagramState) → DatagramsMatch d v
      → OnOk result (DatagramsMatch next (accepting v (nonce_named bytes)))
