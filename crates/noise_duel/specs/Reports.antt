-- What a run of two ends reports and leaves.
use Rattle.std.specs.Prelude.{◌≡◌, ◌⊎◌, ℕ, List, length, Option, Some, None, Result, IfOk, if◌then◌else◌}
use Rattle.noise_names.specs.declared.token.Role.{Role}
use Rattle.noise_names.specs.declared.token.Role.TheVariants.{Initiator, Responder}
use Rattle.noise_names.specs.declared.token.Token.TheVariants.{S}
use Rattle.noise_names.specs.Plan.{Plan}
use Rattle.noise_names.specs.Validity.{is_among}
use Rattle.noise_keys.specs.declared.keys.Own.TheVariants.{Static}
use Rattle.noise_handshake.specs.Passed.{passed_places}
use Rattle.noise_session.specs.declared.phase.Phase.{Phase}
use Rattle.noise_session.specs.declared.phase.Phase.TheVariants as phase
use Rattle.noise_session.specs.Ends.{EndState, EndMatches, hash_in, remote_static_in}
use Rattle.noise_duel.specs.declared.report.Report.{Report}
use Rattle.noise_duel.specs.Agreement.{VisiblyEqual}
use Rattle.noise_duel.specs.Conversation.{KeyMaterial, ComeThrough, HaveParts, InTurn, end_after, sides_at_start, frames_by, handshake_payloads, state_after_lines, notes_of_messages, transcript}
use Rattle.noise_names.specs.Lists.{bytes_of}
use Rattle.noise_duel.specs.Entries.{notes_of}
use Rattle.noise_events.specs.Events.{Event}
use Rattle.noise_duel.specs.DuelValue.{DuelValue, DuelMatches, HasFrames, both_sides}
use Rattle.noise_duel.specs.Invariant.{ComesOfMessages}
use Rattle.noise_duel.specs.Messages.{Start, begun_as, HaveSameKeysBefore, messages_of}
use Rattle.noise_duel.specs.Networks.{HaveOneHash, HaveOneHistory, HaveClash, PayloadsAgree, SharePsks, UsedSamePsks}
use Rattle.noise_duel.specs.OwnFrames.{FramesAreOwn}
use Rattle.noise_duel.specs.Runs.{Run}
use Rattle.noise_duel.specs.Sides.{Sides}
use Rattle.noise_keys.specs.Keys.{KeyPairs}

-- What holds at the end of a run of two new ends of one pattern, over any network; their prologues, keys, psks and
-- intervals may differ.
pub record EndsAgree (p : Plan) (a b : Start) (i j : ℕ) (last : Sides) : Type 0 where
  -- each end is what the messages made of it that it wrote and accepted, and its frames are those of its own messages
  pub initiator : ComesOfMessages (begun_as p Initiator a) i last.initiator
  pub responder : ComesOfMessages (begun_as p Responder b) j last.responder
  pub initiator_frames : FramesAreOwn last.initiator
  pub responder_frames : FramesAreOwn last.responder
  -- with equal hashes: the conversation is the same as far as it can be seen, or two hashed texts clash
  pub seen : HaveOneHash last → VisiblyEqual p a b last.initiator.passed last.responder.passed ⊎ HaveClash p a b last
  -- Conversely: where it is the same as far as it can be seen, with the same psks and DH results, there is one history,
  -- and so one hash.
  pub back : a.prologue ≡ b.prologue → HaveSameKeysBefore p a b
      → messages_of last.initiator.passed ≡ messages_of last.responder.passed
      → UsedSamePsks p a b last → HaveOneHistory p a b last
  -- With equal hashes and the same psks: all of the conversation is the same, what travelled encrypted too, or two
  -- hashed texts clash.
  pub one : HaveOneHash last → SharePsks p a b last → HaveOneHistory p a b last ⊎ HaveClash p a b last
  -- And with equal intervals: each end's accepted payloads are the first of those that the other wrote, in order, up to
  -- a forged message.
  pub payloads : i ≡ j → HaveOneHash last → SharePsks p a b last → PayloadsAgree i last ⊎ HaveClash p a b last

-- a party's static key, where its pre-message or one of the first so many messages has it
abbrev pub static_shown : KeyMaterial → Plan → Role → ℕ → Option (List ℕ)
static_shown w p party passed = if is_among party S (passed_places p passed) then Some (w.public party Static) else None

-- the key of the next transport message that an end writes, and of the next that it accepts; none where it isn't open
abbrev pub send_key_in : {K : Type 0} → Phase K → Option (List ℕ)
send_key_in (phase.Open t) = t.send_key
send_key_in _ = None

abbrev pub receive_key_in : {K : Type 0} → Phase K → Option (List ℕ)
receive_key_in (phase.Open t) = t.receive_key
receive_key_in _ = None

module _ {A B : Type 0} (pairs_a : A → KeyPairs)
    (pairs_b : B → KeyPairs) where
  -- The report is that of a run of two ends, and the ends left match the states after it.
  pub record Reports (d : Sides) (events : List Event) (duel : DuelValue A B) (report : Report) : Type 0 where
    pub last : Sides
    pub run : Run d events (notes_of report.entries.items) last
    pub frames : HasFrames report last
    pub matches : DuelMatches pairs_a pairs_b duel last

  -- Whatever the states of two ends, the report and the ends left are those of the run of these events.
  abbrev pub ReportsRun : {E : Type 0} → List Event → DuelValue A B → Result (DuelValue A B × Report) E → Type 0
  ReportsRun events duel result = (v w : EndState)
      → DuelMatches pairs_a pairs_b duel (both_sides v w)
      → IfOk result (λ r. Reports (both_sides v w) events r.0 r.1)

  -- Where they are two new ends of one pattern, they agree at the end of that run.
  abbrev pub AgreesInRun : {E : Type 0} → List Event → DuelValue A B → Result (DuelValue A B × Report) E → Type 0
  AgreesInRun events duel result = (p : Plan) (a b : Start) (i j : ℕ)
      → DuelMatches pairs_a pairs_b duel (sides_at_start p a b i j)
      → IfOk result (λ r. (left : Reports (sides_at_start p a b i j) events r.0 r.1) × EndsAgree p a b i j left.last)

  -- All lines have come through: the report has just each line as written and then as accepted, with its payload, and
  -- the frames of the transcript. The ends left are those after the lines, with one history, and so with equal hashes
  -- and keys, and each knows the other's static key once it was shown.
  pub record HaveComeThrough (w : KeyMaterial) (p : Plan) (prologue : List ℕ) (a b : Start) (interval : ℕ)
      (lines : List (Role × List ℕ)) (duel : DuelValue A B) (report : Report) : Type 0 where
    pub entries : notes_of report.entries.items ≡ notes_of_messages 0 0 lines
    pub initiator_frames : bytes_of report.initiator.items
        ≡ frames_by Initiator (transcript w p prologue interval lines)
    pub responder_frames : bytes_of report.responder.items
        ≡ frames_by Responder (transcript w p prologue interval lines)
    pub initiator : EndMatches pairs_a duel.initiator
        (end_after p Initiator a b interval (state_after_lines w p prologue lines) lines)
    pub responder : EndMatches pairs_b duel.responder
        (end_after p Responder b a interval (state_after_lines w p prologue lines) lines)
    pub last : Sides
    pub matches : DuelMatches pairs_a pairs_b duel last
    pub through : ComeThrough w p prologue interval lines last
    pub state : last.responder.state.party.state ≡ last.initiator.state.party.state
    pub hash : hash_in duel.responder.phase ≡ hash_in duel.initiator.phase
    pub keys_there : receive_key_in duel.responder.phase ≡ send_key_in duel.initiator.phase
    pub keys_back : receive_key_in duel.initiator.phase ≡ send_key_in duel.responder.phase
    pub initiator_knows : remote_static_in duel.initiator.phase
        ≡ static_shown w p Responder (length (handshake_payloads p lines))
    pub responder_knows : remote_static_in duel.responder.phase
        ≡ static_shown w p Initiator (length (handshake_payloads p lines))

  -- Where they are two new ends with their parts of one key material, and the lines are in turn, all come through.
  abbrev pub AllComeThrough : {E : Type 0} → List (Role × List ℕ) → DuelValue A B → Result (DuelValue A B × Report) E
      → Type 0
  AllComeThrough lines duel result = (w : KeyMaterial) (p : Plan) (prologue : List ℕ) (a b : Start) (interval : ℕ)
      → HaveParts w p prologue a b → InTurn p 0 lines
      → DuelMatches pairs_a pairs_b duel (sides_at_start p a b interval interval)
      → IfOk result (λ r. HaveComeThrough w p prologue a b interval lines r.0 r.1)
