-- The names that most of these proofs cite, passed on from one place. Declares nothing.
pub use Rattle.std.proofs.lemmas.List.{drop_all, drop_at, drop_more, take_all, take_at}
pub use Rattle.std.proofs.lemmas.List.Elements.{All-push, All-same, same_from_all_zip}
pub use Rattle.std.proofs.lemmas.Result.{IfOk-weaker, err_from_is_err_and}
pub use Rattle.std.specs.Global.{Global}
pub use Rattle.std.specs.List.{All}
pub use Rattle.std.specs.Prelude.{IsOk, MatchOption, unwrap_or}
pub use Rattle.noise_duel.specs.DuelValue.{DuelMatches, DuelValue, HasFrames, both_sides}
pub use Rattle.noise_duel.specs.Entries.{note_of, notes_of}
pub use Rattle.noise_duel.specs.Notes.{Held, Left, Note, WriteFault, Wrote, held_note, left_note, noted_by}
pub use Rattle.noise_duel.specs.Runs.{Happens, Run, RunOnce, SideReads, SideReceives, SideWrites}
pub use Rattle.noise_duel.specs.Runs.SideReads.{accepts_handshake, accepts_transport, refuses_message}
pub use Rattle.noise_duel.specs.Runs.SideWrites.{writes_handshake, writes_nothing, writes_transport}
pub use Rattle.noise_duel.specs.Sides.{Side, Sides, side, with_side}
pub use Rattle.noise_duel.specs.declared.entry.Entry.{Entry}
pub use Rattle.noise_events.specs.Events.{Deliver, Event, Raw, Say, Write, event_of, events_of}
pub use Rattle.noise_handshake.specs.Counterparts.{shown_before}
pub use Rattle.noise_handshake.specs.Setup.{party_at_start, setup_fault}
pub use Rattle.noise_lines.specs.Lines.{line_of}
pub use Rattle.noise_lines.specs.PrintedWords.{AreExpected}
pub use Rattle.noise_lines.specs.TracedLines.{traces_of}
pub use Rattle.noise_lines.specs.declared.faults.Fault.{Fault}
pub use Rattle.noise_lines.specs.declared.faults.Fault.TheVariants.{Setup}
pub use Rattle.noise_names.specs.Lists.{bytes_of, get-last}
pub use Rattle.noise_names.specs.Plan.{Plan}
pub use Rattle.noise_names.specs.Tokens.{other, same_role}
pub use Rattle.noise_names.specs.Validity.{IsValid}
pub use Rattle.noise_names.specs.declared.token.Role.{Role}
pub use Rattle.noise_names.specs.declared.token.Role.TheVariants.{Initiator, Responder}
pub use Rattle.noise_session.specs.Ends.{EndState, EndValue, IsReportedBy, end_of, ended_session, progress, progress_of}
pub use Rattle.noise_session.specs.Frames.{frame}
pub use Rattle.noise_session.specs.Progress.{Progress, idle_step, is_open, refusal, role_of}
pub use Rattle.noise_session.specs.Steps.{StepValue}
pub use Rattle.noise_session.specs.Taking.{Judges}
pub use Rattle.noise_session.specs.Taking.Judges.{accepted, dropped, exhausted, opened, refused}
pub use Rattle.noise_session.specs.declared.faults.SendFault.{SendFault}
pub use Rattle.noise_vectors.specs.FileKeys.{agreement_of, public_of}
pub use Rattle.noise_vectors.specs.HexWord.{hex_of}
pub use Rattle.noise_vectors.specs.SameFile.{SaySame, VectorTextsAreUnique, expected_of, held_datagrams}
pub use Rattle.noise_vectors.specs.VectorFile.{IsExpected, IsVectorFile}
pub use Rattle.noise_vectors.specs.VectorText.{expect_line, expect_words, file_text, line_then, lines_of, role_word, text_body, window_words}
pub use Rattle.noise_vectors.specs.declared.file_keys.FileKeys.{FileKeys}
pub use Rattle.noise_vectors.specs.declared.vector.FileDatagrams.{FileDatagrams}
pub use Rattle.noise_vectors.specs.declared.vector.VectorFile.{VectorFile}
pub use Rattle.noise_run.specs.Ends.{IsFilePattern, IsPlanOf, IsStartFault, file_start, setup_of, sides_of_file}
pub use Rattle.noise_run.specs.KeyUseLines.{RenewsBeforeLastNonce, key_use_lines, rekeyed_lines, transport_lines}
pub use Rattle.noise_run.specs.Printed.{frame_numbered, note_line, state_lines}
pub use Rattle.noise_run.specs.PrintedTrace.{act_word, call_word, none_word, part_word, start_call_word, start_lines_from, start_word, state_key_word, step_lines_from, transport_call_word, transport_line}
pub use Rattle.noise_run.specs.Running.{AreLast, IsRunOf, LeavesLines, are_ready, datagram_run_lines, datagrams_of_version, expected_in, gone_over, is_ready}
pub use Rattle.noise_run.specs.Selection.{heading_lines, if_selected, selects_transport}
pub use Rattle.noise_run.specs.TracedEnds.{AreOver, AreTracedEnds, EndsTraced, Follow, HasRunTraced, HasTracedTo, IsNewSides, IsOfNoFrame, ShowsEnd, TracedMatches, Used, entry_frame, note_ends}
pub use Rattle.noise_run.specs.Tracing.{HasTraces, about, act_of, blanks, came_traces, datagram_keys_of, happened_traces, judged_use, last_traces, read_trace, read_use, run_traces, start_lines_of, start_traces, unsent_use, written_frame, written_message, written_trace, written_use}
pub use Rattle.noise_run.specs.declared.key_use_lines.Selection.{Selection}
pub use Rattle.noise_run.specs.declared.traced_end.TracedEnd.{TracedEnd}
pub use Rattle.noise_run.specs.declared.traced_ends.TracedEnds.{TracedEnds}
