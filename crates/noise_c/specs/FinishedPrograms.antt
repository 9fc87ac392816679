-- Two programs of one handshake that have finished: their halves and cipher states face each other, and they are as the
-- theorem on streams asks.
use Rattle.std.specs.Prelude.{◌≡◌, ◌≤◌, ℕ, ◌==◌, Bool, true, List, [], length}
use Rattle.std.specs.List.{concat}
use Rattle.noise_names.specs.declared.token.Role.TheVariants.{Initiator, Responder}
use Rattle.noise_names.specs.Tokens.{other}
use Rattle.noise_names.specs.Plan.{Plan}
use Rattle.noise_handshake.specs.Counterparts.{Counterparts}
use Rattle.noise_handshake.specs.Party.{Party}
use Rattle.noise_session.specs.Windows.{Recalls}
use Rattle.noise_session.specs.TransportValue.{TransportState, transport_of}
use Rattle.noise_channel.specs.Halves.{StreamReceiverValue}
use Rattle.noise_channel.specs.Reading.StreamReceiverState.{Listens}
use Rattle.noise_channel.specs.Streams.{outgoing}
use Rattle.noise_channel.specs.Writing.{Call, StreamSenderState, WritesAll, bytes_put, has_ended, payloads_written}
use Rattle.noise_channel.specs.Writing.StreamSenderState.{Speaks}
use Rattle.noise_duel.specs.Agreement.{IsSetUp, KeysAgree}
use Rattle.noise_duel.specs.Messages.{HandshakeMessage, Start}
use Rattle.noise_channel.specs.Finished.{HaveFinished}
use Rattle.noise_channel.specs.Receiving.{ReadsToEnd}
use Rattle.noise_c.specs.declared.structs.NoiseCipher.{NoiseCipher}
use Rattle.noise_c.specs.declared.structs.NoiseDatagramReceiver.{NoiseDatagramReceiver}
use Rattle.noise_c.specs.declared.structs.NoiseDatagramSender.{NoiseDatagramSender}
use Rattle.noise_c.specs.declared.structs.NoiseHandshake.{NoiseHandshake}
use Rattle.noise_c.specs.declared.structs.NoiseStreamReceiver.{NoiseStreamReceiver}
use Rattle.noise_c.specs.declared.structs.NoiseStreamSender.{NoiseStreamSender}
use Rattle.noise_c.specs.declared.codes.numbers.TheConstants.{OK, RECEIVING_CIPHER}
use Rattle.noise_c.specs.DatagramStructs.{datagram_receiver_from_c}
use Rattle.noise_c.specs.DhResults.{DhResults, with_dh_results}
use Rattle.noise_c.specs.Finishing.{AreCiphersOf, AreDatagramHalvesOf, AreStreamHalvesOf, Finishes}
use Rattle.noise_c.specs.HalfStructs.{party_in}
use Rattle.noise_c.specs.HandshakeStructs.{ForParty, ForPattern, KeepsParty}
use Rattle.noise_c.specs.TwoPrograms.{Face, HaveTalked, Program, program_start}

-- ---- what faces each other

-- The half that opens datagrams is of the other party, has the key of the half that seals, and has opened none.
pub record DatagramFace (sender : NoiseDatagramSender) (receiver : NoiseDatagramReceiver) : Type 0 where
  pub role : party_in receiver.party ≡ other (party_in sender.party)
  pub one_way : (receiver.one_way == 0) ≡ (sender.one_way == 0)
  pub key : receiver.key ≡ sender.key
  pub nonce : sender.nonce ≡ 0
  pub opened : Recalls (datagram_receiver_from_c receiver).recent []

-- The cipher states of one direction differ in their marks alone.
abbrev pub CipherFace : NoiseCipher → NoiseCipher → Type 0
CipherFace send receive = receive ≡ record send { mark = RECEIVING_CIPHER }

-- What two handshakes finish with faces each other, as the halves of `noise_finish` do (`halves` of `Agree`).
pub record FinishFacing (k l : NoiseHandshake) : Type 0 where
  pub streams : (interval : ℕ) (s t : NoiseStreamSender) (r u : NoiseStreamReceiver)
      → AreStreamHalvesOf k interval s r → AreStreamHalvesOf l interval t u → Face s.half r.half t.half u.half
  pub datagrams : (i j : ℕ) (s t : NoiseDatagramSender) (r u : NoiseDatagramReceiver)
      → AreDatagramHalvesOf k i s r → AreDatagramHalvesOf l j t u → DatagramFace s u × DatagramFace t r
  pub ciphers : (s r t u : NoiseCipher)
      → AreCiphersOf k s r → AreCiphersOf l t u → CipherFace s u × CipherFace t r

abbrev pub ProgramsFinishFacing : Type 0
ProgramsFinishFacing = (p : Plan) (g h : Program) → HaveTalked p g h → FinishFacing g.last h.last

-- ---- what the theorem on streams asks

-- All messages of a handshake have passed, of which there is some, and they left a key.
pub record IsDone (k : NoiseHandshake) : Type 0 where
  pub passed : ForPattern k (λ p. k.passed ≡ length p.messages)
  pub some : 1 ≤ k.passed
  pub keyed : 1 ≤ k.cipher.present

-- Two handshakes are those of two parties that have finished, which have all the DH results of their keys from the
-- start; the structs have those that were handed in. Each party is what the other takes it for, and finishing either
-- struct returns OK.
pub record HaveBothFinished (k l : NoiseHandshake) : Type 0 where
  pub pattern : Plan
  pub left : Start
  pub right : Start
  pub messages : List HandshakeMessage
  pub messages_too : List HandshakeMessage
  pub party : Party
  pub party_too : Party
  pub finished : HaveFinished pattern left right messages messages_too party party_too
  pub handed_in : DhResults
  pub handed_in_too : DhResults
  pub stands : KeepsParty k pattern (with_dh_results party handed_in)
  pub stands_too : KeepsParty l pattern (with_dh_results party_too handed_in_too)
  pub facing : Counterparts party party_too
  pub finishes : Finishes k OK
  pub finishes_too : Finishes l OK

-- So it is of two programs, both made without a fault, whose keys agree.
abbrev pub ProgramsFinish : Type 0
ProgramsFinish = (p : Plan) (g h : Program) → HaveTalked p g h
    → IsSetUp p Initiator (program_start g) → IsSetUp p Responder (program_start h) → KeysAgree (program_start g) (program_start h)
    → IsDone g.last → IsDone h.last → HaveBothFinished g.last h.last

-- ---- what one of them reads

-- The half that the handshake leaves has read all that came, and it is said to be whole just where the end came and
-- nothing is left.
abbrev pub ReadsAfter : NoiseHandshake → ℕ → List ℕ → List ℕ → List ℕ → Bool → Type 0
ReadsAfter k interval came before after whole = ForParty k (λ _ v. (r : StreamReceiverValue)
    × ReadsToEnd (transport_of v interval) (Listens 0) came before after r whole)

-- The bytes are all that calls of a writer put out, which took this text, joined, and the end.
pub record IsStreamOf (v : TransportState) (text bytes : List ℕ) : Type 0 where
  pub calls : List Call
  pub state : StreamSenderState
  pub writes : WritesAll (outgoing v) (Speaks 0) calls state
  pub put : bytes_put calls ≡ bytes
  pub taken : concat (payloads_written calls) ≡ text
  pub ended : has_ended state ≡ true
