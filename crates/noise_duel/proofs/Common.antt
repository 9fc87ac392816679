-- The names that most of these proofs cite, passed on from one place. Declares nothing.
pub use Rattle.sha2.specs.Sha256.{sha256}
pub use Rattle.std.proofs.lemmas.Bool.{and_left, and_parts, and_right, false_from_ne_true, ltb-false, ltb-true, ne_eqb, or_right}
pub use Rattle.std.proofs.lemmas.Bool.Decides.{eqb_tells, nat_tests}
pub use Rattle.std.proofs.lemmas.List.{drop_all, drop_more, length-map, length-replicate, length-take, map-append, take-append-le}
pub use Rattle.std.proofs.lemmas.Option.{same_Some, slice_get-map, slice_get_past}
pub use Rattle.std.proofs.lemmas.Result.{IfOk-weaker, on_ok_weaker}
pub use Rattle.std.specs.Prelude.{IsTrue, MatchBool, bytes_eq, cond, is_some, nat_le, nat_lt, not, unwrap_or, ◌||◌}
pub use Rattle.noise_events.specs.DatagramEvents.{DatagramEvent, Seal, datagram_event_of, datagram_events_of}
pub use Rattle.noise_events.specs.Events.{Deliver, Event, Say, Write, event_of, events_of}
pub use Rattle.noise_handshake.specs.Counterparts.{Counterparts, DhResultsAgree, IsEquipped, counterpart, is_dh, keys_if, shown_after, shown_before}
pub use Rattle.noise_handshake.specs.Length.{Carries, Carry, keyed_after, keyed_after_tokens}
pub use Rattle.noise_handshake.specs.Matching.{after_message, after_own}
pub use Rattle.noise_handshake.specs.Message.{after_payload, after_token, after_tokens, before_payload, message_bytes, token_bytes, with_ephemeral}
pub use Rattle.noise_handshake.specs.Party.{Accepts, Fit, Fits, Listens, Party, Reader, Speaks, dh_result_of, first_psk, known_after, other_psks, psks_after, reader, remote_after, remote_at, start, tokens_at, tokens_now, with_premessage}
pub use Rattle.noise_handshake.specs.Passed.{passed_places}
pub use Rattle.noise_handshake.specs.Setup.{keys_of, has_before, party_at_start, psks_of, public_keys}
pub use Rattle.noise_handshake.specs.Writing.{Given, Gives, LacksDhResult, Writer, Writes, writer}
pub use Rattle.noise_handshake.specs.declared.remote.Remote.{Remote}
pub use Rattle.noise_keys.specs.declared.keys.Own.{Own}
pub use Rattle.noise_keys.specs.declared.keys.Own.TheVariants.{Ephemeral, Static}
pub use Rattle.noise_keys.specs.KeyTokens.{has_token, own_at, token_of}
pub use Rattle.noise_names.specs.Lists.{bytes_of, cons-same, get-front, get-last, heads, same-or, split-apart, tails}
pub use Rattle.noise_names.specs.Names.{name_bytes}
pub use Rattle.noise_names.specs.Overhead.{has_key, overhead_of}
pub use Rattle.noise_names.specs.Plan.{Place, Plan, first_places, has_psk, is_one_way, message_places, places_of, pre_of, token_places, transport_places}
pub use Rattle.noise_names.specs.Roles.{same_role-other, same_role-self}
pub use Rattle.noise_names.specs.Tokens.{is_psk, other, same_role, same_token, turn_from}
pub use Rattle.noise_names.specs.Validity.{IsValid, is_among, is_at, occurs}
pub use Rattle.noise_names.specs.declared.token.Role.{Role}
pub use Rattle.noise_names.specs.declared.token.Role.TheVariants.{Initiator, Responder}
pub use Rattle.noise_names.specs.declared.token.Token.{Token}
pub use Rattle.noise_names.specs.declared.token.Token.TheVariants.{E, Ee, Es, Psk, S, Se, Ss}
pub use Rattle.noise_session.specs.Datagrams.{AreOnce, DatagramState, DatagramsMatch, DatagramsValue, IsSealed, Opens, accepting, datagram, datagram_fault, nonce_named, unsealed}
pub use Rattle.noise_session.specs.Ends.{EndMatches, EndState, EndValue, IsReportedBy, end_of, ended_session, progress_of}
pub use Rattle.noise_session.specs.Frames.{IsPartial, frame}
pub use Rattle.noise_session.specs.Framing.{frame-same, frame-whole}
pub use Rattle.noise_session.specs.Progress.{Progress, idle_step, is_open, refusal}
pub use Rattle.noise_session.specs.Progress.Progress.{Handshaking, HasEnded}
pub use Rattle.noise_session.specs.Sending.{Sends, after_fault}
pub use Rattle.noise_session.specs.Sending.Sends.{lacks_dh_result, refuses, sends_handshake, sends_transport}
pub use Rattle.noise_session.specs.Steps.{StepValue, step_value}
pub use Rattle.noise_session.specs.Taking.{Judges, Takes}
pub use Rattle.noise_session.specs.Taking.Judges.{accepted, dropped, exhausted}
pub use Rattle.noise_session.specs.Transport.{last_nonce, rekeys, split_key, transport_message}
pub use Rattle.noise_session.specs.declared.faults.SendFault.{SendFault}
pub use Rattle.noise_state.specs.Ciphertexts.{ciphertext-same, length-ciphertext}
pub use Rattle.noise_state.specs.declared.symmetric.SymmetricState.{SymmetricState}
pub use Rattle.noise_state.specs.History.{Ciphertext, History, MixHash, MixKey, MixKeyAndHash, and_then, chaining_key_of, hash_of, state_of_history}
pub use Rattle.noise_state.specs.Symmetric.{ciphertext, start_value}
pub use Rattle.noise_state.specs.Cipher.{ciphertext_under, rekeyed_times}
pub use Rattle.noise_duel.specs.Agreement.{HashReports, IsSetUp, KeysAgree, KeysReport, KnowEachOther, Knows, PsksReport, VisiblyEqual, VisiblyEqualIsOne}
pub use Rattle.noise_duel.specs.Below.{LawsBelow}
pub use Rattle.noise_duel.specs.HashedTexts.{ClashAt, TextsClashAt, hash_texts, hash_texts_of, hashed, hashed_of}
pub use Rattle.noise_duel.specs.Histories.{ExchangedHasHistory, PartiesClash, history_after, history_after_payload, history_after_token, history_after_tokens, history_at_start, history_of, history_with_ephemeral, history_with_premessage}
pub use Rattle.noise_duel.specs.Conversation.{ComeThrough, HaveParts, InTurn, IsPart, KeyMaterial, MessagesComeThrough, MessagesLeave, MessagesRun, after_conversation, carried_by, conversation, end_after, frames_by, state_after_lines, in_turn, messages_by, notes_of_messages, payloads_in, public_keys_in, say_events, sides_at_start, start_in, transport_messages_of}
pub use Rattle.noise_duel.specs.DatagramNotes.{DatagramNote, Rejected, SealFault, Sealed}
pub use Rattle.noise_duel.specs.DatagramReports.{DatagramDuelMatches, DatagramDuelValue, DatagramReports, datagram_note_of, datagram_notes_of}
pub use Rattle.noise_duel.specs.DatagramRuns.{DatagramHappens, DatagramRun, DatagramRunOnce, PartyOpens, PartySeals}
pub use Rattle.noise_duel.specs.DatagramRuns.DatagramHappens.{is_delivered, is_missing, is_put_in, is_sealed}
pub use Rattle.noise_duel.specs.DatagramRuns.PartyOpens.{opens, rejects}
pub use Rattle.noise_duel.specs.DatagramRuns.PartySeals.{seals, seals_nothing}
pub use Rattle.noise_duel.specs.DatagramSides.{DatagramSide, DatagramSides, NonceMessage, at_nonce, datagram_bytes, datagram_sides, new_party, nonces_of, of_nonce, opening, party, sealed_datagrams, sealing, with_party}
pub use Rattle.noise_duel.specs.DuelValue.{DuelMatches, DuelValue, HasFrames, both_sides}
pub use Rattle.noise_duel.specs.Entries.{note_of, notes_of, step_of, written_note}
pub use Rattle.noise_duel.specs.Invariant.{AreTransportMessages, ComesOfMessages, EndsComeOfMessages}
pub use Rattle.noise_duel.specs.Messages.{Exchanged, HandshakeMessage, HaveSameKeysBefore, OneEach, Start, begun_as, clear_keys, clear_keys_from, dh_results, dh_results_from, keys_before, messages_of, pre_keys}
pub use Rattle.noise_duel.specs.Messages.Exchanged.{none, took, wrote}
pub use Rattle.noise_duel.specs.Networks.{HashesReport, HaveOneHash, HaveOneHistory, HaveClash, PayloadsAgree, PayloadsCome, PsksMakeOne, SharePsks, UsedSamePsks, VisiblyEqualGivesOne}
pub use Rattle.noise_duel.specs.Notes.{Judged, Left, Missing, Note, WriteFault, Wrote, held_note, left_note, noted_by}
pub use Rattle.noise_duel.specs.OneDatagram.{DatagramHappened, DatagramsHaveComeTo, HasFound, HasOpened, HasSealed, SealedMatch}
pub use Rattle.noise_duel.specs.OneEvent.{HasComeTo, HasHappened, HasDelivered, RoleWrote}
pub use Rattle.noise_duel.specs.OwnFrames.{EndsFrame, FramesAreOwn, own_messages}
pub use Rattle.noise_duel.specs.Receiving.{AreLeft, HasReceivedSome, HasStopped, left_of, note_of_left, step_note}
pub use Rattle.noise_duel.specs.Runs.{GivesNoPayload, Happens, Run, RunOnce, SideReads, SideReceives, SideWrites}
pub use Rattle.noise_duel.specs.Runs.Happens.{delivers, injects, misses, says, says_nothing, writes}
pub use Rattle.noise_duel.specs.Runs.SideReads.{accepts_handshake, accepts_transport, refuses_message}
pub use Rattle.noise_duel.specs.Runs.SideReceives.{is_idle, reads_frame, waits}
pub use Rattle.noise_duel.specs.Runs.SideWrites.{writes_handshake, writes_nothing, writes_transport}
pub use Rattle.noise_duel.specs.Sides.{Side, Sides, TransportMessage, accepted_handshake, accepted_transport, new_side, side, with_side, with_state, wrote_handshake, wrote_transport}
