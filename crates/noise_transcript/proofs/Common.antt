-- The names that most of these proofs cite, passed on from one place. Declares nothing.
pub use Rattle.std.specs.Prelude.{Bool, false, if◌then◌else◌, is_some, true, IfSome, MatchBool, decimal, nat_lt, not, slice_get, unwrap_or, ⊤, ◌↔◌}
pub use Rattle.noise_duel.specs.Conversation.{HaveParts, InTurn, end_after, notes_of_messages, KeyMaterial, MessagesComeThrough, MessagesLeave, MessagesRun, after_conversation, conversation, frames_by, state_after_lines, in_turn, messages_by, payloads_in, say_events, start_in, transcript, transport_messages_of}
pub use Rattle.noise_duel.specs.Messages.{HandshakeMessage, Start, messages_of}
pub use Rattle.noise_duel.specs.Sides.{Sides}
pub use Rattle.noise_events.specs.Events.{Event, events_of, Say, event_of}
pub use Rattle.noise_keys.specs.KeyTokens.{token_of}
pub use Rattle.noise_handshake.specs.Setup.{public_keys, setup_fault}
pub use Rattle.noise_names.specs.Plan.{Plan, is_one_way, places_of}
pub use Rattle.noise_names.specs.Tokens.{other}
pub use Rattle.noise_names.specs.declared.token.Role.{Role}
pub use Rattle.noise_names.specs.declared.token.Role.TheVariants.{Initiator, Responder}
pub use Rattle.noise_handshake.specs.Counterparts.{is_dh, shown_before}
pub use Rattle.noise_lines.specs.Lines.{line_of, lines_text}
pub use Rattle.noise_names.specs.Validity.{IsFirstFault, IsValid, is_among, occurs}
pub use Rattle.noise_run.specs.Ends.{HasSetupFault, IsFilePattern, IsFilePatternFault, IsStartFault, file_start, setup_of, sides_of_file}
pub use Rattle.noise_run.specs.Printed.{note_line, progress_words, state_line, state_lines}
pub use Rattle.noise_run.specs.Running.{AreLast, IsRunOf, datagrams_of_version, expected_in}
pub use Rattle.noise_vectors.specs.FileKeys.{agreement_of, public_of}
pub use Rattle.noise_vectors.specs.SameFile.{SaySame, VectorTextsAreUnique, expected_of, held_datagrams, version_datagrams}
pub use Rattle.noise_vectors.specs.VectorFile.{AreKeys, IsAllowed, IsAllowedFile, IsAllowedVersion, IsVectorFile}
pub use Rattle.noise_vectors.specs.VectorText.{file_text, role_word}
pub use Rattle.noise_vectors.specs.declared.file_keys.FileKeys.{FileKeys}
pub use Rattle.noise_vectors.specs.declared.vector.AllowedEvents.TheVariants.{SayOnly}
pub use Rattle.noise_vectors.specs.declared.vector.VectorFile.{VectorFile}
pub use Rattle.noise_vectors.specs.declared.vector.Version.{Version}
pub use Rattle.noise_vectors.specs.declared.vector.Version.TheVariants.{One, Two}
pub use Rattle.noise_transcript.specs.Fitting.{HasFittingMessages, IsXor}
pub use Rattle.noise_transcript.specs.Talked.{FittingMessagesRun, exchange_lines, payload_line, reached_line, talked_lines, wrote_line}
