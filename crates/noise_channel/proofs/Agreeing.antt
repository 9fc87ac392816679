-- Parties with one history read each other's streams.
use Rattle.std.proofs.Common.{◌≡◌, ◌⊎◌, inl, inr, ℕ, ◌<◌, List, [], refl, sym, ◌∙◌, ap, subst, arith}
use Rattle.noise_names.specs.declared.token.Role.TheVariants.{Initiator, Responder}
use Rattle.noise_names.specs.Plan.{Plan, is_one_way}
use Rattle.noise_names.specs.Tokens.{other}
use Rattle.noise_handshake.specs.Party.{Party}
use Rattle.noise_handshake.specs.Matching.{after_message, after_own}
use Rattle.noise_state.specs.History.{state_of_history}
use Rattle.noise_session.specs.TransportValue.{TransportState, transport_of}
use Rattle.noise_session.specs.Transport.{last_nonce}
use Rattle.noise_channel.specs.Streams.{Direction, incoming, outgoing}
use Rattle.noise_channel.specs.Writing.{StreamSenderState, Call, WritesAll, payloads_written, has_ended}
use Rattle.noise_channel.specs.Writing.StreamSenderState.{Speaks}
use Rattle.noise_channel.specs.Reading.{StreamReceiverState}
use Rattle.noise_channel.specs.Reading.StreamReceiverState.{Listens}
use Rattle.noise_channel.specs.Runs.{StreamReceiverRun, PrefixOrForged}
use Rattle.noise_channel.specs.Agreement.{EndAlike, IsWholeOrForged}
use Rattle.noise_channel.specs.Finished.{FinishedIsOne, ForgedOrTwice, HaveFinished}
use Rattle.noise_duel.specs.Agreement.{KeysReport}
use Rattle.noise_duel.specs.Histories.{ExchangedHasHistory, PartiesClash, history_of}
use Rattle.noise_duel.specs.Messages.{HandshakeMessage, Exchanged, Start, begun_as}
use Rattle.noise_duel.specs.Messages.Exchanged.{none, wrote, took}

passes-pattern : (v w : Party) (ps : List HandshakeMessage) → Exchanged v ps w → w.pattern ≡ v.pattern
passes-pattern v w ps (none _) = refl
passes-pattern v w ps (wrote _ _ p more writes rest) = passes-pattern (after_own v p.carried p.payload) w more rest
passes-pattern v w ps (took _ _ p more accepts rest) = passes-pattern (after_message v p.carried p.payload) w more rest

passes-role : (v w : Party) (ps : List HandshakeMessage) → Exchanged v ps w → w.role ≡ v.role
passes-role v w ps (none _) = refl
passes-role v w ps (wrote _ _ p more writes rest) = passes-role (after_own v p.carried p.payload) w more rest
passes-role v w ps (took _ _ p more accepts rest) = passes-role (after_message v p.carried p.payload) w more rest

module _
    (directions : (v w : TransportState) → w.role ≡ other v.role → w.state ≡ v.state → w.interval ≡ v.interval → w.one_way ≡ v.one_way
    → (outgoing v ≡ incoming w) × (outgoing w ≡ incoming v))
    (prefix : (d : Direction) (n : ℕ) (calls : List Call) (u : StreamSenderState) (came left : List ℕ) (out : List (List ℕ)) (t : StreamReceiverState) → n < last_nonce
    → WritesAll d (Speaks n) calls u → StreamReceiverRun d (Listens n) [] came out t left → PrefixOrForged d n (payloads_written calls) (has_ended u) came out t) where
  reads-whole : (v w : TransportState) → outgoing v ≡ incoming w → IsWholeOrForged v w
  reads-whole v w same calls u came left out t all run =
      prefix (outgoing v) 0 calls u came left out t (omega arith) all
      (subst (λ (d : Direction). StreamReceiverRun d (Listens 0) [] came out t left) (sym same) run)

  pub one-agrees : ExchangedHasHistory → (p : Plan) (a b : Start) (ps qs : List HandshakeMessage) (v w : Party) (interval : ℕ)
      → Exchanged (begun_as p Initiator a) ps v → Exchanged (begun_as p Responder b) qs w
      → history_of p Initiator a ps ≡ history_of p Responder b qs
      → IsWholeOrForged (transport_of v interval) (transport_of w interval) × IsWholeOrForged (transport_of w interval) (transport_of v interval)
  one-agrees follows p a b ps qs v w interval there back one =
      let initiator : v.role ≡ Initiator = passes-role (begun_as p Initiator a) v ps there in
      let responder : w.role ≡ Responder = passes-role (begun_as p Responder b) w qs back in
      let role : w.role ≡ other v.role = responder ∙ ap other (sym initiator) in
      let pattern : w.pattern ≡ v.pattern =
      passes-pattern (begun_as p Responder b) w qs back ∙ sym (passes-pattern (begun_as p Initiator a) v ps there) in
      let state : w.state ≡ v.state =
      follows p Responder b qs w back ∙ sym (follows p Initiator a ps v there ∙ ap state_of_history one) in
      let both = directions (transport_of v interval) (transport_of w interval) role state refl (ap is_one_way pattern) in (
        reads-whole (transport_of v interval) (transport_of w interval) both.0,
        reads-whole (transport_of w interval) (transport_of v interval) both.1,
      )

  pub channel-agrees : ExchangedHasHistory → KeysReport → (p : Plan) (a b : Start) (ps qs : List HandshakeMessage) (v w : Party) (interval : ℕ) → EndAlike p a b ps qs v w
      → (IsWholeOrForged (transport_of v interval) (transport_of w interval) × IsWholeOrForged (transport_of w interval) (transport_of v interval))
      ⊎ PartiesClash p a b ps qs
  channel-agrees follows report p a b ps qs v w interval h =
      elim (report p a b ps qs v w h.initiator h.responder h.wrote_and_took h.took_and_wrote h.passed h.hashes h.psks h.keys) [
        | inl one ↦ inl (one-agrees follows p a b ps qs v w interval h.wrote_and_took h.took_and_wrote one.1)
        | inr clash_there ↦ inr clash_there
      ]

  pub finished-agree : ExchangedHasHistory → FinishedIsOne → (p : Plan) (a b : Start) (ps qs : List HandshakeMessage) (v w : Party) (interval : ℕ) → HaveFinished p a b ps qs v w
      → (IsWholeOrForged (transport_of v interval) (transport_of w interval) × IsWholeOrForged (transport_of w interval) (transport_of v interval))
      ⊎ ForgedOrTwice p a b ps qs
  finished-agree follows finished p a b ps qs v w interval h =
      elim (finished p a b ps qs v w h) [
        | inl one ↦ inl (one-agrees follows p a b ps qs v w interval h.wrote_and_took h.took_and_wrote one.1)
        | inr forged ↦ inr forged
      ]
