-- The key schedule of an end after a message.
use Rattle.std.proofs.Common.{rules, ◌≡◌, ◌∙◌, refl, sym, ap, subst, ℕ, Bool, true, false, List, [], Vec, Result, Err, IfOk, drop, length}
use Rattle.std.specs.Prelude.{if◌then◌else◌}
use Rattle.noise_run.proofs.Common.{Global, IfOk-weaker, drop_at, SendFault, EndState, ended_session, frame, StepValue, Judges, accepted, refused, opened, dropped, exhausted, Note, SideReads, SideWrites, writes_nothing, writes_handshake, writes_transport, accepts_handshake, accepts_transport, refuses_message, Side, bytes_of, FileKeys, RenewsBeforeLastNonce, key_use_lines, ShowsEnd, TracedMatches, note_ends, Used, about, act_of, read_use, read_trace, written_frame, written_message, written_use, written_trace, Selection, TracedEnd}
use Rattle.byteorder.specs.Endian.{big_bytes}
use Rattle.noise_session.specs.Faults.{ends}
use Rattle.noise_session.specs.Sending.{Sends}
use Rattle.noise_session.specs.Sending.Sends.{refuses, lacks_dh_result, sends_handshake, sends_transport}
use Rattle.noise_trace.specs.declared.end_trace.EndTrace.{EndTrace}
use Rattle.noise_trace.specs.EndFollowing.{EndFollows}
use Rattle.noise_trace.specs.KeyUses.{KeyUseValue}
use Rattle.noise_run.specs.declared.trace_lines.About.{About}
use Rattle.noise_run.specs.declared.trace_lines.Act.{Act}
use Rattle.noise_run.specs.declared.trace_lines.Act.TheVariants.{Writes as Writing}
use Rattle.noise_vectors.specs.FileKeys.{pairs_of}

-- ---- the pattern stays

judged-pattern : (v next : EndState) (message : List ℕ) (step : StepValue) → Judges v message step next → next.party.pattern ≡ v.party.pattern
judged-pattern v next message step (accepted _ _ payload xs accepts) = refl
judged-pattern v next message step (refused _ _ token cause r) = refl
judged-pattern v next message step (opened _ _ payload opens more spelled) = refl
judged-pattern v next message step (dropped _ _ opens more none) = refl
judged-pattern v next message step (exhausted _ _ opens none) = refl

read-pattern : (s next : Side) (message : List ℕ) (step : StepValue) → SideReads s message step next → next.state.party.pattern ≡ s.state.party.pattern
read-pattern s next message step (accepts_handshake _ _ payload xs accepts) = refl
read-pattern s next message step (accepts_transport _ _ payload opens more spelled) = refl
read-pattern s next message step (refuses_message _ _ _ after gives judges) = judged-pattern s.state after message step judges

over-pattern : (ended : Bool) (v : EndState) → (if ended then ended_session v else v).party.pattern ≡ v.party.pattern
over-pattern true v = refl
over-pattern false v = refl

sent-pattern : (v : EndState) (payload : List ℕ) (next : EndState) (reported : Result (List ℕ) SendFault) → Sends v payload reported next → next.party.pattern ≡ v.party.pattern
sent-pattern v payload next reported (refuses _ _ why refusal) = over-pattern (ends why) v
sent-pattern v payload next reported _ = refl

written-pattern : (s : Side) (payload : List ℕ) (next : Side) (note : Note) → SideWrites s payload note next → next.state.party.pattern ≡ s.state.party.pattern
written-pattern s payload next note (writes_nothing _ _ why after sends) = sent-pattern s.state payload after (Err why) sends
written-pattern s payload next note (writes_handshake _ message _ xs free w) = refl
written-pattern s payload next note (writes_transport _ message _ free opens is) = refl

-- ---- what is held

sent-partial : (v : EndState) (payload : List ℕ) (next : EndState) (reported : Result (List ℕ) SendFault) (sends : Sends v payload reported next) (why : SendFault)
    → reported ≡ Err why → (partial : List ℕ) → partial ≡ v.partial → (if ends why then [] else partial) ≡ next.partial
sent-partial v payload next reported (refuses _ _ other refusal) why is partial e = search rules
sent-partial v payload next reported (lacks_dh_result _ _ token free lacks) why is partial e = search
sent-partial v payload next reported (sends_handshake _ _ message xs free w) why is partial e = absurd (cc is)
sent-partial v payload next reported (sends_transport _ _ free opens) why is partial e = absurd (cc is)

pub written-partial : (s : Side) (payload : List ℕ) (next : Side) (note : Note) → SideWrites s payload note next → (partial : List ℕ) → partial ≡ s.state.partial
    → (if note_ends note then [] else partial) ≡ next.state.partial
written-partial s payload next note (writes_nothing _ _ why after sends) partial e = sent-partial s.state payload after (Err why) sends why refl partial e
written-partial s payload next note (writes_handshake _ message _ xs free w) partial e = e
written-partial s payload next note (writes_transport _ message _ free opens is) partial e = e

-- ---- the message in a frame

pub message-in : (message : List ℕ) → drop 2 (frame message) ≡ message
message-in message = drop_at (big_bytes 2 (length message)) message 2 refl

pub written-text : (s : Side) (payload : List ℕ) (next : Side) (note : Note) (w : SideWrites s payload note next)
    → drop 2 (written_frame s payload next note w) ≡ written_message s payload next note w
written-text s payload next note (writes_nothing _ _ why after sends) = refl
written-text s payload next note (writes_handshake _ message _ xs free w) = message-in message
written-text s payload next note (writes_transport _ message _ free opens is) = message-in message

-- ---- the lines

pub read-lines : {E : Type 0} (selection : Selection) (t : TracedEnd) (end : EndTrace FileKeys) (given : About) (act : Act) (message text : List ℕ) (m : KeyUseValue)
    (s next : Side) (step : StepValue) (r : SideReads s text step next) (result : Result (Vec (Vec ℕ Global) Global) E) → ShowsEnd t s.state → message ≡ text
    → act ≡ act_of step → given ≡ about t.role s.state act → Used m (read_use s next text step r) end next.state
    → IfOk result (λ lines. bytes_of lines.items ≡ key_use_lines selection given message m)
    → IfOk result (λ lines. (bytes_of lines.items ≡ read_trace selection t.role s next text step r) × ShowsEnd (record t { end = end }) next.state)
read-lines selection t end given act message text m s next step r result shows is acts abouts seen made = search (rules, read-pattern)

pub write-lines : {E : Type 0} (selection : Selection) (t : TracedEnd) (end : EndTrace FileKeys) (given : About) (message : List ℕ) (m : KeyUseValue)
    (s : Side) (payload : List ℕ) (next : Side) (note : Note) (w : SideWrites s payload note next) (result : Result (Vec (Vec ℕ Global) Global) E)
    → TracedMatches t s.state → message ≡ written_message s payload next note w
    → given ≡ about t.role s.state Writing → Used m (written_use s payload next note w) end next.state
    → IfOk result (λ lines. bytes_of lines.items ≡ key_use_lines selection given message m)
    → IfOk result (λ lines. (bytes_of lines.items ≡ written_trace selection t.role s payload next note w) × ShowsEnd (record t { end = end }) next.state)
write-lines selection t end given message m s payload next note w result matches is abouts seen made = search (rules, written-pattern)

pub wrote-whole : {E : Type 0} (selection : Selection) (t u : TracedEnd) (end : EndTrace FileKeys) (given : About) (message bytes : List ℕ) (m : KeyUseValue) (noted : Note)
    (s : Side) (payload : List ℕ) (next : Side) (note : Note) (w : SideWrites s payload note next) (result : Result (Vec (Vec ℕ Global) Global) E)
    → TracedMatches t s.state → noted ≡ note → bytes ≡ written_frame s payload next note w → message ≡ drop 2 bytes
    → given ≡ about t.role s.state Writing
    → (EndFollows pairs_of t.end s.state → noted ≡ note → message ≡ written_message s payload next note w
    → Used m (written_use s payload next note w) end next.state)
    → u.role ≡ t.role → u.psks ≡ t.psks → u.end ≡ end → u.partial.items ≡ (if note_ends noted then [] else t.partial.items)
    → (RenewsBeforeLastNonce m → IfOk result (λ lines. bytes_of lines.items ≡ key_use_lines selection given message m))
    → IfOk result (λ lines. (bytes_of lines.items ≡ written_trace selection t.role s payload next note w) × TracedMatches u next.state)
wrote-whole selection t u end given message bytes m noted s payload next note w result matches reported framed cut abouts clause role psks ends partial made =
    let text : message ≡ written_message s payload next note w = cut ∙ ap (drop 2) framed ∙ written-text s payload next note w in
    let seen = clause matches.shows.follows reported text in
    IfOk-weaker result _ _ (λ lines h. (
      h.0,
      record {
        shows = record {
          psks = psks ∙ h.1.psks;
          follows = subst (λ (z : EndTrace FileKeys). EndFollows pairs_of z next.state) (sym ends) h.1.follows;
        };
        partial = partial ∙ ap (λ (n : Note). if note_ends n then [] else t.partial.items) reported ∙ written-partial s payload next note w t.partial.items matches.partial;
      },
    )) (write-lines selection t end given message m s payload next note w result matches text abouts seen (made seen.1))
