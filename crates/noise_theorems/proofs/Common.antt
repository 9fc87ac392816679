-- The names that most of these proofs cite, passed on from one place. Declares nothing.
pub use Rattle.std.proofs.lemmas.Bool.{MatchBool-at_true, and_parts, eq-eqb, eqb-true, false≢true, ne_eqb, or_left, or_right}
pub use Rattle.std.proofs.lemmas.List.{drop_more, length-map, map-append, reverse-append, take_all, take_more}
pub use Rattle.std.proofs.lemmas.Option.{same_Some, slice_get-map, slice_get_cases, slice_get_read}
pub use Rattle.std.proofs.lemmas.Result.{err_from_is_err_and}
pub use Rattle.std.specs.Global.{Global}
pub use Rattle.std.specs.Prelude.{Bool, IsOk, IsSome, IsTrue, MatchOption, Vec, false, if◌then◌else◌, is_some, nat_le, slice_range, true, ◌==◌}
pub use Rattle.noise_duel.specs.Acts.{roles_and_payloads}
pub use Rattle.noise_duel.specs.Clash.{ClashFound, FoundIsClash, first_clash}
pub use Rattle.noise_duel.specs.Conversation.{HaveParts, InTurn, end_after, notes_of_messages, sides_at_start}
pub use Rattle.noise_duel.specs.Forgery.{ForgedMessage, PrefixOrForgedMessage, contents, in_stream}
pub use Rattle.noise_duel.specs.Messages.{HandshakeMessage, Start, begun_as}
pub use Rattle.noise_duel.specs.Networks.{HaveOneHistory, HaveSamePsks, HaveClash, PayloadsAgree, PayloadsCome, PsksMakeOne}
pub use Rattle.noise_duel.specs.Notes.{Held, Judged, Left, Note, WriteFault, Wrote, held_note, left_note, noted_by}
pub use Rattle.noise_duel.specs.Sides.{Side, Sides, TransportMessage, accepted_handshake, accepted_transport, new_side, with_state, wrote_handshake, wrote_transport}
pub use Rattle.noise_events.specs.Events.{Event, events_of}
pub use Rattle.noise_handshake.specs.Party.{Accepts, Listens, Party, Refuses, dh_result_of, remote_at}
pub use Rattle.noise_handshake.specs.Setup.{party_at_start, public_keys, setup_fault}
pub use Rattle.noise_keys.specs.declared.keys.Own.{Own}
pub use Rattle.noise_names.specs.Lists.{bytes_of, get-front, get-last}
pub use Rattle.noise_names.specs.Plan.{Plan, is_one_way}
pub use Rattle.noise_names.specs.Tokens.{other, same_role, turn_from}
pub use Rattle.noise_names.specs.declared.token.Role.{Role}
pub use Rattle.noise_names.specs.declared.token.Role.TheVariants.{Initiator, Responder}
pub use Rattle.noise_session.specs.Ends.{EndMatches, EndState, EndValue, IsReportedBy, PhaseMatches, end_of, ended_session, progress, progress_of, session_hash}
pub use Rattle.noise_session.specs.Progress.{idle_step, is_open, role_of}
pub use Rattle.noise_session.specs.Steps.{StepValue, step_value}
pub use Rattle.noise_session.specs.Taking.{Judges, Takes}
pub use Rattle.noise_state.specs.declared.symmetric.SymmetricState.{SymmetricState}
pub use Rattle.noise_state.specs.History.{Ciphertext, Entry, History, MixHash, MixKey, MixKeyAndHash, hash_of, state_of_history}
pub use Rattle.noise_theorems.specs.FittingMessages.{bytes_not_received, message_fits, messages_fit_from}
pub use Rattle.noise_theorems.specs.Payloads.{PayloadsAreReported, done_of, notes_about, own_payloads, payload_given, payload_reported, reported_to, was_written, written_by}
pub use Rattle.noise_theorems.specs.Setup.{IsReportedFault, XorKeysHaveDhResults, state_of_lines, or_next, start_by}
