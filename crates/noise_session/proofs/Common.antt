-- The names that most of these proofs cite, passed on from one place. Declares nothing.
pub use Rattle.byteorder.specs.Endian.{big_bytes}
pub use Rattle.std.proofs.lemmas.Bool.{and_parts, cases_Bool, cases_eq, cases_lt, eqb-false, eqb-true, false≢true, le-leb, le-ltb, leb-false, leb-true, lt-leb, ltb-false, ltb-true, ne_eqb, or_cases, or_left, or_right}
pub use Rattle.std.proofs.lemmas.Bool.Decides.{nat_tests}
pub use Rattle.std.proofs.lemmas.List.{drop-drop, drop-set-lt, drop-take, drop_at, length-take-le, nil_from_length, places, same_lists, take-append-drop, take-take, take_all, take_at, take_rest}
pub use Rattle.std.proofs.lemmas.Result.{err_from_is_err_and}
pub use Rattle.std.specs.Int.{bit_at, to_be_bytes, w64}
pub use Rattle.std.specs.Io.KnownBytes.{Appends, Consumes}
pub use Rattle.std.specs.Prelude.{IfOk, MatchBool, MatchResult, OnErr, OnOk, bit_or, is_none, nat_le, slice_range, vec_capacity, ⊤, ◌||◌}
pub use borrow.Rule.Slice.PartMut.{put_mid}
pub use Rattle.noise_aead.specs.Sealing.{nonce_of}
pub use Rattle.noise_events.specs.Windows.{width_of}
pub use Rattle.noise_handshake.specs.HandshakeValue.{HandshakeValue, IsAgreement, is_turn, length_now, write_fault}
pub use Rattle.noise_handshake.specs.Matching.{after_message, after_own}
pub use Rattle.noise_handshake.specs.Party.{Accepts, Listens, Party, Refuses}
pub use Rattle.noise_handshake.specs.declared.faults.Cause.{Cause}
pub use Rattle.noise_names.specs.Tokens.{other, same_role}
pub use Rattle.noise_names.specs.declared.token.Role.{Role}
pub use Rattle.noise_names.specs.declared.token.Role.TheVariants.{Initiator, Responder}
pub use Rattle.noise_state.specs.declared.symmetric.SymmetricState.{SymmetricState}
pub use Rattle.noise_state.specs.Cipher.{ciphertext_under, rekeyed_times}
pub use Rattle.noise_session.specs.Datagrams.{AreOnce, AreParties, DatagramReceiverMatches, DatagramReceiverValue, DatagramSenderMatches, DatagramSenderValue, DatagramState, DatagramsMatch, DatagramsValue, IsSealed, Opens, Runs, accepting, datagram, datagram_fault, datagram_receiver_fault, datagram_receiving_half, datagram_sending_half, nonce_named, unsealed}
pub use Rattle.noise_session.specs.Ends.{EndMatches, EndState, EndValue, EndedMatches, HandshakeMatches, IsReportedBy, OpenMatches, PhaseMatches, ended_session, hash_in, progress_in, progress_of, remote_static_in, session_hash, session_remote_static, transport_in}
pub use Rattle.noise_session.specs.Frames.{IsPartial, frame, frame_length}
pub use Rattle.noise_session.specs.HalfCalls.{IsCounted, OpensUnless, ReceiverOpens, SenderSeals, SucceedsUnless, TransportOpens, TransportSeals, one_received, one_sent}
pub use Rattle.noise_session.specs.Halves.{HalfValue, receiver_fault, sender_fault}
pub use Rattle.noise_session.specs.Progress.{Progress, frame_len_of, idle_step, is_open, message_length, refusal}
pub use Rattle.noise_session.specs.Progress.Progress.{Handshaking, HasEnded, Open}
pub use Rattle.noise_session.specs.Sending.{Sends, after_fault}
pub use Rattle.noise_session.specs.Sending.Sends.{lacks_dh_result, sends_handshake, sends_transport}
pub use Rattle.noise_session.specs.Steps.{StepValue, step_value}
pub use Rattle.noise_session.specs.Steps.StepValue.{Dropped, Exhausted, More, Payload, Refused, Silent, YourTurn}
pub use Rattle.noise_session.specs.Taking.{Judges, Takes}
pub use Rattle.noise_session.specs.Taking.Judges.{accepted, dropped, exhausted}
pub use Rattle.noise_session.specs.Taking.Takes.{idles, judges, waits}
pub use Rattle.noise_session.specs.Transport.{last_nonce, split_key, transport_key, transport_message}
pub use Rattle.noise_session.specs.TransportValue.{ReceiverMatches, SenderMatches, TransportMatches, TransportState, TransportValue, due_message, open_fault, receiving_half, rekeyed_if_due, seal_fault, sending_half, transport_of, unopened_fault}
pub use Rattle.noise_session.specs.Windows.{Recalls, begun_words, bit_of, bitmap_len, ends_at_greatest, is_accepted, is_below, is_marked, is_old, is_ring, ring_fault, top_word, window_fault}
pub use Rattle.noise_session.specs.declared.faults.OpenFault.{OpenFault}
pub use Rattle.noise_session.specs.declared.faults.SendFault.{SendFault}
pub use Rattle.noise_session.specs.declared.phase.Phase.{Phase}
pub use Rattle.noise_session.specs.declared.window.Ring.{Ring}
pub use Rattle.noise_session.specs.inner.Halves.{datagram_receiver_value, datagram_sender_value, half_value}
pub use Rattle.noise_session.specs.inner.Partial.{partial_of}
pub use Rattle.noise_session.specs.inner.Places.{MatchesIn, reported_in}
