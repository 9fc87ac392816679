-- What holds of a direction between two programs, turn by turn, and what comes of it at the end.
use Rattle.std.proofs.Common.{◌≡◌, ◌≢◌, ◌⊎◌, inl, inr, ℕ, zero, suc, ◌<◌, ◌/◌, List, [], ◌∷◌, ◌++◌, length, take, drop, Some, refl, sym, ◌∙◌, ap, subst, arith, append-nil}
use Rattle.std.proofs.Math.Nat.{zero-div}
use Rattle.std.proofs.lemmas.List.{nil_from_length}
use Rattle.std.proofs.lemmas.List.Folds.{concat-append}
use Rattle.std.proofs.lemmas.Option.{same_Some}
use Rattle.std.specs.List.{concat}
use Rattle.std.specs.Prelude.{false, true, not, ◌&&◌, ◌↔◌}
use Rattle.noise_names.specs.declared.token.Role.TheVariants.{Initiator, Responder}
use Rattle.noise_names.specs.Plan.{is_one_way}
use Rattle.noise_names.specs.Tokens.{other, same_role}
use Rattle.noise_state.specs.Cipher.{rekeyed_times}
use Rattle.noise_state.specs.History.{state_of_history}
use Rattle.noise_handshake.specs.Matching.{party_of}
use Rattle.noise_session.specs.Transport.{last_nonce, rekeys, split_key}
use Rattle.noise_session.specs.TransportValue.{TransportState, transport_of}
use Rattle.noise_channel.specs.declared.next.StreamState.TheVariants as reading
use Rattle.noise_channel.specs.Finished.{FinishedIsOne, ForgedOrTwice, HaveFinished}
use Rattle.noise_channel.specs.Halves.{StreamReceiverMatches, StreamReceiverValue, StreamSenderMatches, is_reader, is_writer}
use Rattle.noise_channel.specs.Streams.{Direction, incoming, outgoing}
use Rattle.noise_channel.specs.Writing.{Asked, Call, ChannelWrites, StreamSenderState, WritesAll, bytes_put, has_ended, payload_in, payloads_written}
use Rattle.noise_channel.specs.Writing.Asked.{ToEnd, ToWrite}
use Rattle.noise_channel.specs.Writing.ChannelWrites.{skips, writes, ends}
use Rattle.noise_channel.specs.Writing.Put.{Wrote}
use Rattle.noise_channel.specs.Writing.StreamSenderState.{Speaks}
use Rattle.noise_channel.specs.Writing.WritesAll.{stops}
use Rattle.noise_channel.specs.Reading.{StreamReceiverState}
use Rattle.noise_channel.specs.Reading.StreamReceiverState.{AtEnd, Broken, Listens}
use Rattle.noise_channel.specs.Reading.ChannelReads.{wants}
use Rattle.noise_channel.specs.Runs.{ArrivesWhole, Rests, StreamReceiverRun}
use Rattle.noise_channel.specs.Runs.StreamReceiverRun.{stops as run_stops}
use Rattle.noise_duel.specs.Histories.{ExchangedHasHistory}
use Rattle.noise_duel.specs.Messages.{Exchanged, HandshakeMessage, Start, begun_as}
use Rattle.noise_duel.specs.Messages.Exchanged.{none as nothing, wrote, took}
use Rattle.noise_c.proofs.Common.{Bool, DhResults, IsPatternOf, KeepsParty, NoiseHandshake, Party, Plan, Role, after_message, after_own, and_parts, false≢true, handshake_from_c, if◌then◌else◌, nat_tests, pairs_in, text_from_c, with_dh_results, with_later, ◌==◌, ◌||◌}
use Rattle.noise_c.proofs.FinishedPrograms.{not-same}
use Rattle.noise_c.proofs.Network.{MakesStream, Prefix, all-alike, bytes-more, front-or-forged, more-comes, one-more, payloads-more}
use Rattle.noise_c.specs.declared.structs.NoiseHalf.{NoiseHalf}
use Rattle.noise_c.specs.declared.structs.NoiseStreamReceiver.{NoiseStreamReceiver}
use Rattle.noise_c.specs.declared.structs.NoiseStreamSender.{NoiseStreamSender}
use Rattle.noise_c.specs.declared.two_streams.Stream.{Stream}
use Rattle.noise_c.specs.declared.two_streams.Streams.{Streams}
use Rattle.noise_c.specs.declared.two_streams.StreamTurn.{StreamTurn}
use Rattle.noise_c.specs.declared.two_streams.StreamTurn.TheVariants as turn
use Rattle.noise_c.specs.Finishing.{UsesUp}
use Rattle.noise_c.specs.HalfStructs.{half_from_c, is_half, is_party, party_in}
use Rattle.noise_c.specs.StreamSteps.{Begins, EndsStream, ReadsStream, StreamsAreMade, StreamsRun, TakesTurn, WritesStream}
use Rattle.noise_c.specs.StreamSteps.StreamsRun.{none, initiator, responder}
use Rattle.noise_c.specs.StreamStructs.{BeginsToRead, BeginsToWrite, is_state, is_stream_receiver, is_stream_sender, state_in, stream_receiver_from_c, stream_sender_from_c}
use Rattle.noise_c.specs.declared.codes.numbers.TheConstants.{STREAM_RECEIVER, STREAM_SENDER}
use Rattle.noise_c.specs.TwoStreams.{FaceInStreams, IsFaithful, IsForged, Opposite, StreamIsRight}

-- ---- a writer and a reader, turn by turn

-- The writer began with this half, and its calls made what is written and put on the network.
pub record WriterHolds (v : TransportState) (began : NoiseStreamSender) (s : Stream) : Type 0 where
  pub first : s.first_sender ≡ began
  pub calls : List Call
  pub state : StreamSenderState
  pub all : WritesAll (outgoing v) (Speaks 0) calls state
  pub sends : StreamSenderMatches (stream_sender_from_c s.sender) v state
  pub written : s.written.items ≡ concat (payloads_written calls)
  pub put : s.put.items ≡ bytes_put calls
  pub ended : s.ended ≡ has_ended state

-- The reader began with this half, and has read what came.
pub record ReaderHolds (w : TransportState) (began : NoiseStreamReceiver) (s : Stream) : Type 0 where
  pub first : s.first_receiver ≡ began
  pub payloads : List (List ℕ)
  pub state : StreamReceiverState
  pub run : StreamReceiverRun (incoming w) (Listens 0) [] s.came.items payloads state s.left.items
  pub receives : StreamReceiverMatches (stream_receiver_from_c s.receiver) w state
  pub rests : Rests (incoming w) state s.left.items
  pub handed : s.handed_out.items ≡ concat payloads
  pub whole : (s.whole ≡ true) ↔ ((state ≡ AtEnd) × (s.left.items ≡ []))

writer-begins : (v : TransportState) (x : NoiseStreamSender) (y : NoiseStreamReceiver) (s : Stream) → Begins x y s → BeginsToWrite x v → WriterHolds v x s
writer-begins v x y s b h = record {
  first = b.senders.0;
  calls = [];
  state = Speaks 0;
  all = stops (outgoing v) (Speaks 0);
  sends = subst (λ (z : NoiseStreamSender). StreamSenderMatches (stream_sender_from_c z) v (Speaks 0)) (sym b.senders.1) h;
  written = b.nothing.0;
  put = b.nothing.1;
  ended = b.open_yet.0;
}

idle-at-start : (d : Direction) → Rests d (Listens 0) []
idle-at-start d = (_, _, wants d 0 [] (omega arith), tt)

not-at-end : (n : ℕ) → Listens n ≡ AtEnd → ⊥
not-at-end n e = cc

reader-begins : (w : TransportState) (x : NoiseStreamSender) (y : NoiseStreamReceiver) (s : Stream) → Begins x y s → BeginsToRead y w → ReaderHolds w y s
reader-begins w x y s b h = record {
  first = b.receivers.0;
  payloads = [];
  state = Listens 0;
  run = subst (λ (came : List ℕ). StreamReceiverRun (incoming w) (Listens 0) [] came [] (Listens 0) s.left.items) (sym b.nothing.2)
      (subst (λ (left : List ℕ). StreamReceiverRun (incoming w) (Listens 0) [] [] [] (Listens 0) left) (sym b.nothing.3) (run_stops (incoming w) (Listens 0) []));
  receives = subst (λ (z : NoiseStreamReceiver). StreamReceiverMatches (stream_receiver_from_c z) w (Listens 0)) (sym b.receivers.1) h;
  rests = subst (λ (left : List ℕ). Rests (incoming w) (Listens 0) left) (sym b.nothing.3) (idle-at-start (incoming w));
  handed = b.nothing.4;
  whole = (λ e. absurd (false≢true (sym b.open_yet.1 ∙ e)), λ h. absurd (not-at-end 0 h.0));
}

ok-or : (n : ℕ) → (n ≡ 0) ⊎ (0 < n)
ok-or zero = inl refl
ok-or (suc n) = inr (omega arith)

-- ---- a call that writes

stays-open : (d : Direction) (s t : StreamSenderState) (p bytes : List ℕ) (used : ℕ) → ChannelWrites d s (ToWrite p) (Wrote used bytes) t
    → has_ended t ≡ has_ended s
stays-open d s t p bytes used (skips _ n) = refl
stays-open d s t p bytes used (writes _ n _ some speaks low) = refl

is-over : (d : Direction) (s t : StreamSenderState) (bytes : List ℕ) → ChannelWrites d s ToEnd (Wrote 0 bytes) t → has_ended t ≡ true
is-over d s t bytes (ends _ n speaks low) = refl

part-taken : (nothing_taken : Bool) (n : ℕ) (text : List ℕ) → (n == 0) ≡ nothing_taken
    → concat ((if nothing_taken then [] else take n text ∷ []) ++ []) ≡ take n text
part-taken true n text e =
    let none_taken : n ≡ 0 = grind (arith, nat_tests) in ap (λ (k : ℕ). take k text) (sym none_taken)
part-taken false n text e = append-nil (take n text)

-- one call more of the writer, and what it put
module _ (v : TransportState) (x : NoiseStreamSender) (old new : Stream) (h : WriterHolds v x old) where
  goes-on : new.first_sender ≡ old.first_sender → (asked : Asked) (used : ℕ) (bytes text : List ℕ) (t : StreamSenderState)
      → ChannelWrites (outgoing v) h.state asked (Wrote used bytes) t → StreamSenderMatches (stream_sender_from_c new.sender) v t
      → concat (payload_in (Wrote used bytes) asked ++ []) ≡ text
      → new.put.items ≡ old.put.items ++ bytes → new.written.items ≡ old.written.items ++ text → new.ended ≡ has_ended t
      → WriterHolds v x new
  goes-on same asked used bytes text t one sends taken put written ended =
      let call : Call = record { asked = asked; put = Wrote used bytes } in
      record {
        first = same ∙ h.first;
        calls = h.calls ++ call ∷ [];
        state = t;
        all = one-more (outgoing v) (Speaks 0) h.state t h.calls asked (Wrote used bytes) h.all one;
        sends = sends;
        written =
            written
            ∙ (ap (λ (b : List ℕ). b ++ text) h.written
            ∙ (ap (λ (b : List ℕ). concat (payloads_written h.calls) ++ b) (sym taken)
            ∙ sym (ap concat (payloads-more h.calls (call ∷ [])) ∙ concat-append (payloads_written h.calls) (payload_in (Wrote used bytes) asked ++ []))));
        put =
            put
            ∙ (ap (λ (b : List ℕ). b ++ bytes) h.put
            ∙ (ap (λ (b : List ℕ). bytes_put h.calls ++ b) (sym (append-nil bytes)) ∙ sym (bytes-more h.calls (call ∷ []))));
        ended = ended;
      }

  stays : new.first_sender ≡ old.first_sender → new.sender ≡ old.sender → new.put ≡ old.put → new.written ≡ old.written → new.ended ≡ old.ended
      → WriterHolds v x new
  stays same sender put written ended = record {
    first = same ∙ h.first;
    calls = h.calls;
    state = h.state;
    all = h.all;
    sends = subst (λ (z : NoiseStreamSender). StreamSenderMatches (stream_sender_from_c z) v h.state) (sym sender) h.sends;
    written = ap (λ z. z.items) written ∙ h.written;
    put = ap (λ z. z.items) put ∙ h.put;
    ended = ended ∙ h.ended;
  }

writer-writes : (v : TransportState) (x : NoiseStreamSender) (payload : List ℕ) (old new : Stream) → WritesStream payload old new → WriterHolds v x old
    → WriterHolds v x new
writer-writes v x payload old new w h =
    let same : new.first_sender ≡ old.first_sender = ap (λ (s : Stream). s.first_sender) w.others in
    let open_as : new.ended ≡ old.ended = ap (λ (s : Stream). s.ended) w.others in
    elim (ok-or w.code) [
      | inl ok ↦
          let n = w.call.writes ok v h.state h.sends in
          let log = w.logged ok in
          goes-on v x old new h same (ToWrite payload) w.next.used (take w.next.len w.after) (take w.next.used payload) n.0 n.1 n.2
          (part-taken (w.next.used == 0) w.next.used payload refl) log.0 log.1
          (open_as ∙ (h.ended ∙ sym (stays-open (outgoing v) h.state n.0 payload (take w.next.len w.after) w.next.used n.1)))
      | inr bad ↦
          let log = w.unlogged bad in
          stays v x old new h same (w.call.unchanged bad).0 log.0 log.1 open_as
    ]

writer-ends : (v : TransportState) (x : NoiseStreamSender) (old new : Stream) → EndsStream old new → WriterHolds v x old → WriterHolds v x new
writer-ends v x old new w h =
    let same : new.first_sender ≡ old.first_sender = ap (λ (s : Stream). s.first_sender) w.others in
    let text : new.written ≡ old.written = ap (λ (s : Stream). s.written) w.others in
    elim (ok-or w.code) [
      | inl ok ↦
          let n = w.call.ends ok v h.state h.sends in
          let log = w.logged ok in
          goes-on v x old new h same ToEnd 0 (take 18 w.after) [] n.0 n.1 n.2 refl log.0
          (ap (λ z. z.items) text ∙ sym (append-nil old.written.items))
          (log.1 ∙ sym (is-over (outgoing v) h.state n.0 (take 18 w.after) n.1))
      | inr bad ↦
          let log = w.unlogged bad in
          stays v x old new h same (w.call.unchanged bad).0 log.0 text log.1
    ]

-- ---- bytes that come

ended-as : (r : StreamReceiverValue) (w : TransportState) (t : StreamReceiverState) → r.state ≡ reading.Ended → StreamReceiverMatches r w t → t ≡ AtEnd
ended-as r w (Listens n) is matches = absurd (let e : reading.Ended ≡ reading.Open = sym is ∙ matches.0 in cc)
ended-as r w AtEnd is matches = refl
ended-as r w Broken is matches = absurd (let e : reading.Ended ≡ reading.Broken = sym is ∙ matches in cc)

at-end-as : (r : StreamReceiverValue) (v : TransportState) (t : StreamReceiverState) → t ≡ AtEnd → StreamReceiverMatches r v t → r.state ≡ reading.Ended
at-end-as r v t is matches = subst (λ (u : StreamReceiverState). StreamReceiverMatches r v u) is matches

reader-reads : (w : TransportState) (y : NoiseStreamReceiver) (bytes : List ℕ) (old new : Stream) → ReadsStream bytes old new → ReaderHolds w y old
    → ReaderHolds w y new
reader-reads w y bytes old new s h =
    let r = s.reads w h.state h.receives in
    let d : Direction = incoming w in
    let now : StreamReceiverValue = stream_receiver_from_c new.receiver in
    let all = more-comes d (Listens 0) h.state r.state [] old.came.items old.left.items bytes (drop s.used (old.left.items ++ bytes)) h.payloads r.payloads
    h.run r.run in
    record {
      first = ap (λ (z : Stream). z.first_receiver) s.others ∙ h.first;
      payloads = h.payloads ++ r.payloads;
      state = r.state;
      run = subst (λ (came : List ℕ). StreamReceiverRun d (Listens 0) [] came (h.payloads ++ r.payloads) r.state new.left.items) (sym s.came_is)
          (subst (λ (left : List ℕ). StreamReceiverRun d (Listens 0) [] (old.came.items ++ bytes) (h.payloads ++ r.payloads) r.state left) (sym s.left_is) all);
      receives = r.matches;
      rests = subst (λ (left : List ℕ). Rests d r.state left) (sym s.left_is) r.rests;
      handed =
          r.appended
          ∙ (ap (λ (b : List ℕ). b ++ concat r.payloads) h.handed ∙ sym (concat-append h.payloads r.payloads));
      whole = (
        λ e. let o = s.whole_is.0 e in (ended-as now w r.state o.0 r.matches, nil_from_length new.left.items o.1),
        λ o. s.whole_is.1 (at-end-as now w r.state o.0 r.matches, ap length o.1),
      );
    }

-- ---- the other half of a direction

writer-kept : (v : TransportState) (x : NoiseStreamSender) (bytes : List ℕ) (old new : Stream) → ReadsStream bytes old new → WriterHolds v x old
    → WriterHolds v x new
writer-kept v x bytes old new s h = subst (λ (z : Stream). WriterHolds v x z) (sym s.others) (record {
  first = h.first;
  calls = h.calls;
  state = h.state;
  all = h.all;
  sends = h.sends;
  written = h.written;
  put = h.put;
  ended = h.ended;
})

reader-kept : (w : TransportState) (y : NoiseStreamReceiver) (old new : Stream) → new.first_receiver ≡ old.first_receiver → new.receiver ≡ old.receiver
    → new.came ≡ old.came → new.left ≡ old.left → new.handed_out ≡ old.handed_out → new.whole ≡ old.whole → ReaderHolds w y old → ReaderHolds w y new
reader-kept w y old new first receiver came left handed whole h = record {
  first = first ∙ h.first;
  payloads = h.payloads;
  state = h.state;
  run = subst (λ z. StreamReceiverRun (incoming w) (Listens 0) [] z.items h.payloads h.state new.left.items) (sym came)
      (subst (λ z. StreamReceiverRun (incoming w) (Listens 0) [] old.came.items h.payloads h.state z.items) (sym left) h.run);
  receives = subst (λ (z : NoiseStreamReceiver). StreamReceiverMatches (stream_receiver_from_c z) w h.state) (sym receiver) h.receives;
  rests = subst (λ z. Rests (incoming w) h.state z.items) (sym left) h.rests;
  handed = ap (λ z. z.items) handed ∙ h.handed;
  whole = (
    λ e. let o = h.whole.0 (sym whole ∙ e) in (o.0, ap (λ z. z.items) left ∙ o.1),
    λ o. whole ∙ h.whole.1 (o.0, sym (ap (λ z. z.items) left) ∙ o.1),
  );
}

reader-kept-writing : (w : TransportState) (y : NoiseStreamReceiver) (payload : List ℕ) (old new : Stream) → WritesStream payload old new → ReaderHolds w y old
    → ReaderHolds w y new
reader-kept-writing w y payload old new s h =
    let o = s.others in
    reader-kept w y old new (ap (λ (z : Stream). z.first_receiver) o) (ap (λ (z : Stream). z.receiver) o) (ap (λ (z : Stream). z.came) o)
    (ap (λ (z : Stream). z.left) o) (ap (λ (z : Stream). z.handed_out) o) (ap (λ (z : Stream). z.whole) o) h

reader-kept-ending : (w : TransportState) (y : NoiseStreamReceiver) (old new : Stream) → EndsStream old new → ReaderHolds w y old → ReaderHolds w y new
reader-kept-ending w y old new s h =
    let o = s.others in
    reader-kept w y old new (ap (λ (z : Stream). z.first_receiver) o) (ap (λ (z : Stream). z.receiver) o) (ap (λ (z : Stream). z.came) o)
    (ap (λ (z : Stream). z.left) o) (ap (λ (z : Stream). z.handed_out) o) (ap (λ (z : Stream). z.whole) o) h

-- ---- both directions, turn by turn

-- a direction from a party of the first transport to one of the second
pub record Holds (v w : TransportState) (x : NoiseStreamSender) (y : NoiseStreamReceiver) (s : Stream) : Type 0 where
  pub writer : WriterHolds v x s
  pub reader : ReaderHolds w y s

takes-turn : (v w : TransportState) (x x_too : NoiseStreamSender) (y y_too : NoiseStreamReceiver) (t : StreamTurn) (out out_after into into_after : Stream)
    → TakesTurn t out out_after into into_after → Holds v w x y out → Holds w v x_too y_too into
    → Holds v w x y out_after × Holds w v x_too y_too into_after
takes-turn v w x x_too y y_too (turn.Write payload) out out_after into into_after s h k = (
  record {
    writer = writer-writes v x payload.items out out_after s.0 h.writer;
    reader = reader-kept-writing w y payload.items out out_after s.0 h.reader;
  },
  subst (λ (z : Stream). Holds w v x_too y_too z) (sym s.1) k,
)
takes-turn v w x x_too y y_too turn.End out out_after into into_after s h k = (
  record {
    writer = writer-ends v x out out_after s.0 h.writer;
    reader = reader-kept-ending w y out out_after s.0 h.reader;
  },
  subst (λ (z : Stream). Holds w v x_too y_too z) (sym s.1) k,
)
takes-turn v w x x_too y y_too (turn.Read bytes) out out_after into into_after s h k = (
  subst (λ (z : Stream). Holds v w x y z) (sym s.1) h,
  record {
    writer = writer-kept w x_too bytes.items into into_after s.0 k.writer;
    reader = reader-reads v y_too bytes.items into into_after s.0 k.reader;
  },
)

runs-hold : (v w : TransportState) (x x_too : NoiseStreamSender) (y y_too : NoiseStreamReceiver) (there0 back0 there back : Stream)
    (turns : List (Bool × StreamTurn)) → StreamsRun there0 back0 turns there back → Holds v w x y there0 → Holds w v x_too y_too back0
    → Holds v w x y there × Holds w v x_too y_too back
runs-hold v w x x_too y y_too there0 back0 there back turns none h k = (h, k)
runs-hold v w x x_too y y_too there0 back0 there back turns (initiator before there1 _ back1 _ t run s) h k =
    let both = runs-hold v w x x_too y y_too there0 back0 there1 back1 before run h k in
    takes-turn v w x x_too y y_too t there1 there back1 back s both.0 both.1
runs-hold v w x x_too y y_too there0 back0 there back turns (responder before there1 _ back1 _ t run s) h k =
    let both = runs-hold v w x x_too y y_too there0 back0 there1 back1 before run h k in
    let after = takes-turn w v x_too x y_too y t back1 back there1 there s both.1 both.0 in (after.1, after.0)

-- both readers stay known
pub turn-known : (t : StreamTurn) (out out_after into into_after : Stream) → TakesTurn t out out_after into into_after
    → is_stream_receiver out.receiver ≡ true → is_stream_receiver into.receiver ≡ true
    → (is_stream_receiver out_after.receiver ≡ true) × (is_stream_receiver into_after.receiver ≡ true)
turn-known (turn.Write payload) out out_after into into_after s h k = (
  ap (λ (z : Stream). is_stream_receiver z.receiver) s.0.others ∙ h,
  ap (λ (z : Stream). is_stream_receiver z.receiver) s.1 ∙ k,
)
turn-known turn.End out out_after into into_after s h k = (
  ap (λ (z : Stream). is_stream_receiver z.receiver) s.0.others ∙ h,
  ap (λ (z : Stream). is_stream_receiver z.receiver) s.1 ∙ k,
)
turn-known (turn.Read bytes) out out_after into into_after s h k = (
  ap (λ (z : Stream). is_stream_receiver z.receiver) s.1 ∙ h,
  s.0.known,
)

-- ---- a direction between halves that are opposite

no-rekeys : (i : ℕ) → rekeys i 0 ≡ 0
no-rekeys i = by (i == 0) where
  by : (never : Bool) → (if never then 0 else 0 / i) ≡ 0
  by true = refl
  by false = zero-div i

first-key : (key first : List ℕ) (i : ℕ) → Some key ≡ Some (rekeyed_times (rekeys i 0) first) → key ≡ first
first-key key first i e = same_Some key (rekeyed_times (rekeys i 0) first) e ∙ ap (λ (n : ℕ). rekeyed_times n first) (no-rekeys i)

either-true : (x y : Bool) → (x || y) ≡ true → (x ≡ true) ⊎ (y ≡ true)
either-true true y e = inl refl
either-true false y e = inr e

party-is : (a : ℕ) → is_party a ≡ true → (a ≡ 1) ⊎ (a ≡ 2)
party-is a e = elim (either-true (a == 1) (a == 2) e) [
  | inl one ↦ inl (grind (arith, nat_tests))
  | inr two ↦ inr (grind (arith, nat_tests))
]

opposite-roles : (a b : ℕ) → (a ≡ 1) ⊎ (a ≡ 2) → (b ≡ 1) ⊎ (b ≡ 2) → b ≢ a → same_role (party_in a) Responder ≡ same_role (party_in b) Initiator
opposite-roles a b (inl e) (inl f) apart = absurd (apart (f ∙ sym e))
opposite-roles a b (inl e) (inr f) apart =
    ap (λ (n : ℕ). same_role (party_in n) Responder) e ∙ sym (ap (λ (n : ℕ). same_role (party_in n) Initiator) f)
opposite-roles a b (inr e) (inl f) apart =
    ap (λ (n : ℕ). same_role (party_in n) Responder) e ∙ sym (ap (λ (n : ℕ). same_role (party_in n) Initiator) f)
opposite-roles a b (inr e) (inr f) apart = absurd (apart (f ∙ sym e))

same-bool : (a b : Bool) → (a ≡ true → b ≡ true) → (b ≡ true → a ≡ true) → a ≡ b
same-bool true true f g = refl
same-bool false false f g = refl
same-bool true false f g = sym (f refl)
same-bool false true f g = g refl

-- the laws of the channel
pub record Laws : Type 0 where
  pub prefix : Prefix
  pub makes : MakesStream
  pub arrives : (d : Direction) (n : ℕ) (calls : List Call) (u : StreamSenderState) → n < last_nonce → WritesAll d (Speaks n) calls u → ArrivesWhole d n calls u

module _ (laws : Laws) (v w : TransportState) (x : NoiseStreamSender) (y : NoiseStreamReceiver) (s : Stream) (h : Holds v w x y s)
    (begins : BeginsToWrite x v) (begins_too : BeginsToRead y w) (intervals : v.interval ≡ w.interval) (sends : is_party x.half.party ≡ true)
    (receives : is_party y.half.party ≡ true) (o : Opposite x.half y.half) where
  sealing-key : x.half.key ≡ split_key v.state v.role
  sealing-key = first-key x.half.key (split_key v.state v.role) v.interval begins.1.key

  opening-key : y.half.key ≡ split_key w.state (other w.role)
  opening-key = first-key y.half.key (split_key w.state (other w.role)) w.interval begins_too.1.key

  same-silent : (outgoing v).silent ≡ (incoming w).silent
  same-silent =
      let one_way : v.one_way ≡ w.one_way = sym begins.1.one_way ∙ (ap not (sym o.one_way) ∙ begins_too.1.one_way) in
      let roles = opposite-roles x.half.party y.half.party (party-is x.half.party sends) (party-is y.half.party receives) o.parties in
      ap (λ (b : Bool). b && same_role v.role Responder) one_way
      ∙ ap (λ (b : Bool). w.one_way && b)
      (ap (λ (r : Role). same_role r Responder) (sym begins.1.role) ∙ (roles ∙ ap (λ (r : Role). same_role r Initiator) begins_too.1.role))

  written-into : WritesAll (incoming w) (Speaks 0) h.writer.calls h.writer.state
  written-into =
      all-alike (outgoing v) (incoming w) (Speaks 0) h.writer.state h.writer.calls
      (record { keys = sym sealing-key ∙ (sym o.key ∙ opening-key); intervals = intervals; silent = same-silent }) h.writer.all

  faithful : (more : List (List ℕ)) → payloads_written h.writer.calls ≡ h.reader.payloads ++ more
      → (h.reader.state ≡ AtEnd → (more ≡ []) × (has_ended h.writer.state ≡ true)) → IsFaithful s
  faithful more is over =
      let text : s.written.items ≡ s.handed_out.items ++ concat more =
      h.writer.written ∙ (ap concat is ∙ (concat-append h.reader.payloads more ∙ ap (λ (b : List ℕ). b ++ concat more) (sym h.reader.handed))) in
      record {
        front = (concat more, text);
        whole = λ e.
            let end = over (h.reader.whole.0 e).0 in (
              sym (append-nil s.handed_out.items) ∙ (ap (λ (ps : List (List ℕ)). s.handed_out.items ++ concat ps) (sym end.0) ∙ sym text),
              h.writer.ended ∙ end.1,
            );
      }

  forged-here : IsForged (split_key w.state (other w.role)) w.interval (bytes_put h.writer.calls) s.came.items
      → IsForged s.first_sender.half.key v.interval s.put.items s.came.items
  forged-here f =
      subst (λ (key : List ℕ). IsForged key v.interval s.put.items s.came.items)
      (sym opening-key ∙ (o.key ∙ ap (λ (z : NoiseStreamSender). z.half.key) (sym h.writer.first)))
      (subst (λ (i : ℕ). IsForged (split_key w.state (other w.role)) i s.put.items s.came.items) (sym intervals)
      (subst (λ (put : List ℕ). IsForged (split_key w.state (other w.role)) w.interval put s.came.items) (sym h.writer.put) f))

  pub stream-right : StreamIsRight v.interval s
  stream-right = record {
    faithful = elim (front-or-forged (incoming w) h.writer.calls h.writer.state s.came.items s.left.items h.reader.payloads h.reader.state written-into
        h.reader.run laws.prefix laws.makes) [
          | inl f ↦ inl (faithful f.0 f.1 f.2)
          | inr f ↦ inr (forged-here f)
        ];
    all = λ e.
        let came : s.came.items ≡ bytes_put h.writer.calls = e ∙ h.writer.put in
        let a = laws.arrives (incoming w) 0 h.writer.calls h.writer.state (omega arith) written-into s.left.items h.reader.payloads h.reader.state
        (subst (λ (b : List ℕ). StreamReceiverRun (incoming w) (Listens 0) [] b h.reader.payloads h.reader.state s.left.items) came h.reader.run)
        h.reader.rests in (
          h.reader.handed ∙ (ap concat a.0 ∙ sym h.writer.written),
          same-bool s.whole s.ended (λ f. h.writer.ended ∙ a.1.0 (h.reader.whole.0 f).0)
              (λ f. h.reader.whole.1 (a.1.1 (sym h.writer.ended ∙ f), a.2)),
        );
  }

-- ---- both handshakes

-- a handshake that was used up held some party
pub some-party : (old new : NoiseHandshake) → UsesUp old new 0 → (p : Plan) × (v : Party) × KeepsParty old p v
some-party old new u =
    let usable = u.usable refl in
    let text : text_from_c new ≡ text_from_c old = ap text_from_c (u.used refl) in (
      usable.pattern,
      party_of pairs_in (with_later (handshake_from_c usable.pattern old) []),
      record {
        pattern = subst (λ (z : List ℕ). IsPatternOf z usable.pattern) text usable.named;
        later = [];
        matches = refl;
      },
    )

party-known : (mark : ℕ) (k : NoiseHalf) (rest : Bool) → (is_half mark k && rest) ≡ true → is_party k.party ≡ true
party-known mark k rest e =
    (and_parts (k.mark == mark) (is_party k.party) (and_parts (is_half mark k) rest e).0).1

known-sender : (k : NoiseStreamSender) → is_stream_sender k ≡ true → is_party k.half.party ≡ true
known-sender k e = party-known STREAM_SENDER k.half (is_writer (half_from_c k.half) (not (k.ended == 0))) e

known-receiver : (k : NoiseStreamReceiver) → is_stream_receiver k ≡ true → is_party k.half.party ≡ true
known-receiver k e =
    party-known STREAM_RECEIVER k.half (is_state k.state)
    (and_parts (is_half STREAM_RECEIVER k.half && is_state k.state) (is_reader (half_from_c k.half) (state_in k.state)) e).0

opposite-at : (x k : NoiseStreamSender) (y l : NoiseStreamReceiver) → k ≡ x → l ≡ y → Opposite x.half y.half → Opposite k.half l.half
opposite-at x k y l e f o =
    subst (λ (z : NoiseStreamSender). Opposite z.half l.half) (sym e) (subst (λ (z : NoiseStreamReceiver). Opposite x.half z.half) (sym f) o)

runs-first : (there0 back0 there back : Stream) (turns : List (Bool × StreamTurn)) (x x_too : NoiseStreamSender) (y y_too : NoiseStreamReceiver) (v w : TransportState)
    → StreamsRun there0 back0 turns there back → Begins x y there0 → Begins x_too y_too back0 → BeginsToWrite x v → BeginsToRead y w → BeginsToWrite x_too w
    → BeginsToRead y_too v → Holds v w x y there × Holds w v x_too y_too back
runs-first there0 back0 there back turns x x_too y y_too v w run b c h i j k =
    runs-hold v w x x_too y y_too there0 back0 there back turns run
    (record { writer = writer-begins v x y there0 b h; reader = reader-begins w x y there0 b i })
    (record { writer = writer-begins w x_too y_too back0 c j; reader = reader-begins v x_too y_too back0 c k })

pub both-right : (laws : Laws) (a a_after b b_after : NoiseHandshake) (interval : ℕ) (turns : List (Bool × StreamTurn)) (r : Streams)
    → StreamsAreMade a a_after b b_after interval turns r → FaceInStreams r → StreamIsRight interval r.there × StreamIsRight interval r.back
both-right laws a a_after b b_after interval turns r m face =
    let g = m.begins in
    let left = some-party a a_after g.used_up in
    let right = some-party b b_after g.used_up_too in
    let v : TransportState = transport_of left.1 interval in
    let w : TransportState = transport_of right.1 interval in
    let sends = g.halves.writer left.0 left.1 left.2 in
    let receives = g.halves.reader left.0 left.1 left.2 in
    let sends_too = g.halves_too.writer right.0 right.1 right.2 in
    let receives_too = g.halves_too.reader right.0 right.1 right.2 in
    let both = runs-first m.there m.back r.there r.back turns g.sender g.their_sender g.their_receiver g.receiver v w m.runs g.there_begins g.back_begins
    sends receives_too sends_too receives in (
      stream-right laws v w g.sender g.their_receiver r.there both.0 sends receives_too refl (known-sender g.sender g.halves.known.0)
          (known-receiver g.their_receiver g.halves_too.known.1)
          (opposite-at r.there.first_sender g.sender r.there.first_receiver g.their_receiver (sym both.0.writer.first) (sym both.0.reader.first) face.0),
      stream-right laws w v g.their_sender g.receiver r.back both.1 sends_too receives refl (known-sender g.their_sender g.halves_too.known.0)
          (known-receiver g.receiver g.halves.known.1)
          (opposite-at r.back.first_sender g.their_sender r.back.first_receiver g.receiver (sym both.1.writer.first) (sym both.1.reader.first) face.1),
    )

-- ---- what two parties that have finished leave

kept-pattern : (v w : Party) (ps : List HandshakeMessage) → Exchanged v ps w → w.pattern ≡ v.pattern
kept-pattern v w ps (nothing _) = refl
kept-pattern v w ps (wrote _ _ p more made rest) = kept-pattern (after_own v p.carried p.payload) w more rest
kept-pattern v w ps (took _ _ p more made rest) = kept-pattern (after_message v p.carried p.payload) w more rest

kept-role : (v w : Party) (ps : List HandshakeMessage) → Exchanged v ps w → w.role ≡ v.role
kept-role v w ps (nothing _) = refl
kept-role v w ps (wrote _ _ p more made rest) = kept-role (after_own v p.carried p.payload) w more rest
kept-role v w ps (took _ _ p more made rest) = kept-role (after_message v p.carried p.payload) w more rest

roles-differ : (a b : ℕ) → party_in a ≢ party_in b → b ≢ a
roles-differ a b apart e = apart (ap party_in (sym e))

responder-differs : Initiator ≢ Responder
responder-differs e = cc

module _ (v w : TransportState) (state : v.state ≡ w.state) (one_way : v.one_way ≡ w.one_way) (role : other w.role ≡ v.role)
    (differ : v.role ≢ w.role) (x : NoiseStreamSender) (y : NoiseStreamReceiver) (begins : BeginsToWrite x v) (begins_too : BeginsToRead y w) where
  opposite-by : Opposite x.half y.half
  opposite-by = record {
    key =
        first-key y.half.key (split_key w.state (other w.role)) w.interval begins_too.1.key
        ∙ (ap (λ (r : Role). split_key w.state r) role
        ∙ (ap (λ z. split_key z v.role) (sym state)
        ∙ sym (first-key x.half.key (split_key v.state v.role) v.interval begins.1.key)));
    parties = roles-differ x.half.party y.half.party (λ e. differ (sym begins.1.role ∙ (e ∙ begins_too.1.role)));
    one_way = not-same (y.half.one_way == 0) (x.half.one_way == 0) (begins_too.1.one_way ∙ (sym one_way ∙ sym begins.1.one_way));
  }

pub both-face : ExchangedHasHistory → FinishedIsOne → (a a_after b b_after : NoiseHandshake) (interval : ℕ) (turns : List (Bool × StreamTurn)) (r : Streams)
    → StreamsAreMade a a_after b b_after interval turns r → (p : Plan) (s t : Start) (ps qs : List HandshakeMessage) (v w : Party)
    (handed_in handed_in_too : DhResults) → HaveFinished p s t ps qs v w → KeepsParty a p (with_dh_results v handed_in)
    → KeepsParty b p (with_dh_results w handed_in_too) → FaceInStreams r ⊎ ForgedOrTwice p s t ps qs
both-face follows finished a a_after b b_after interval turns r m p s t ps qs v w handed_in handed_in_too h keeps keeps_too =
    elim (finished p s t ps qs v w h) [
      | inl one ↦ inl (face (follows p Initiator s ps v h.wrote_and_took ∙ (ap state_of_history one.1 ∙ sym (follows p Responder t qs w h.took_and_wrote))))
      | inr forged ↦ inr forged
    ]
  where
    face : v.state ≡ w.state → FaceInStreams r
    face state =
        let g = m.begins in
        let v0 : TransportState = transport_of (with_dh_results v handed_in) interval in
        let w0 : TransportState = transport_of (with_dh_results w handed_in_too) interval in
        let begins_as : v.role ≡ Initiator = kept-role (begun_as p Initiator s) v ps h.wrote_and_took in
        let begins_as_too : w.role ≡ Responder = kept-role (begun_as p Responder t) w qs h.took_and_wrote in
        let one_way : is_one_way v.pattern ≡ is_one_way w.pattern =
        ap is_one_way (kept-pattern (begun_as p Initiator s) v ps h.wrote_and_took ∙ sym (kept-pattern (begun_as p Responder t) w qs h.took_and_wrote)) in
        let differ : v.role ≢ w.role = λ e. responder-differs (sym begins_as ∙ (e ∙ begins_as_too)) in
        let sends = g.halves.writer p (with_dh_results v handed_in) keeps in
        let receives = g.halves.reader p (with_dh_results v handed_in) keeps in
        let sends_too = g.halves_too.writer p (with_dh_results w handed_in_too) keeps_too in
        let receives_too = g.halves_too.reader p (with_dh_results w handed_in_too) keeps_too in
        let both = runs-first m.there m.back r.there r.back turns g.sender g.their_sender g.their_receiver g.receiver v0 w0 m.runs g.there_begins g.back_begins
        sends receives_too sends_too receives in
        let there = opposite-by v0 w0 state one_way (ap other begins_as_too ∙ sym begins_as) differ g.sender g.their_receiver sends receives_too in
        let back = opposite-by w0 v0 (sym state) (sym one_way) (ap other begins_as ∙ sym begins_as_too) (λ e. differ (sym e)) g.their_sender g.receiver sends_too
        receives in (
          opposite-at g.sender r.there.first_sender g.their_receiver r.there.first_receiver both.0.writer.first both.0.reader.first there,
          opposite-at g.their_sender r.back.first_sender g.receiver r.back.first_receiver both.1.writer.first both.1.reader.first back,
        )
