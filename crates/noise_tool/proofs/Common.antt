-- The names that most of these proofs cite, passed on from one place. Declares nothing.
pub use Rattle.std.proofs.KnownBytes.{Appends-nil}
pub use Rattle.std.proofs.lemmas.List.{flat_map_more, length-map, map-append, map_more, map_push, take-append-drop, take_all}
pub use Rattle.std.proofs.lemmas.List.Elements.{All-push, same_from_all_zip}
pub use Rattle.std.proofs.lemmas.List.Sums.{fold-append, sum_by-append}
pub use Rattle.std.proofs.lemmas.Result.{err_from_is_err_and}
pub use Rattle.std.specs.Global.{Global}
pub use Rattle.std.specs.Io.KnownBytes.{Appends, Keeps}
pub use Rattle.std.specs.List.{list_all, list_any, sum_by}
pub use Rattle.std.specs.Prelude.{IfErr, IfSome, MatchBool, count_by, is_none}
pub use Rattle.noise_duel.specs.DuelValue.{DuelValue}
pub use Rattle.noise_duel.specs.Entries.{notes_of}
pub use Rattle.noise_duel.specs.Sides.{Sides}
pub use Rattle.noise_events.specs.Events.{Event, events_of}
pub use Rattle.noise_handshake.specs.Counterparts.{shown_before}
pub use Rattle.noise_handshake.specs.Setup.{has_before, psks_of, setup_fault}
pub use Rattle.noise_lines.specs.Faults.{of_vector, status_of}
pub use Rattle.noise_lines.specs.Lines.{lines_text}
pub use Rattle.noise_lines.specs.Prefixes.{AppendsPrefix}
pub use Rattle.noise_lines.specs.Reported.{error_text, fault_line}
pub use Rattle.noise_lines.specs.TracedLines.{traces_of}
pub use Rattle.noise_lines.specs.Verdicts.{IsJudged, IsMet, is_met, verdict_text}
pub use Rattle.noise_lines.specs.declared.faults.Fault.{Fault}
pub use Rattle.noise_lines.specs.declared.faults.Fault.TheVariants.{TooLong}
pub use Rattle.noise_names.specs.Lists.{bytes_of}
pub use Rattle.noise_names.specs.Plan.{Plan, places_of}
pub use Rattle.noise_names.specs.Tokens.{is_psk, other, own_tokens}
pub use Rattle.noise_names.specs.Validity.{is_among}
pub use Rattle.noise_names.specs.declared.token.Role.{Role}
pub use Rattle.noise_names.specs.declared.token.Role.TheVariants.{Initiator, Responder}
pub use Rattle.noise_session.specs.Ends.{EndState, EndValue, IsReportedBy}
pub use Rattle.noise_session.specs.Progress.{Progress}
pub use Rattle.noise_vectors.specs.FileKeys.{public_of}
pub use Rattle.noise_vectors.specs.VectorFile.{IsAllowedFile, IsReadFault, IsVectorFile}
pub use Rattle.noise_vectors.specs.VectorText.{file_text}
pub use Rattle.noise_vectors.specs.declared.file_keys.FileKeys.{FileKeys}
pub use Rattle.noise_vectors.specs.declared.vector.AllowedEvents.{AllowedEvents}
pub use Rattle.noise_vectors.specs.declared.vector.AllowedEvents.TheVariants.{Any, VersionOne}
pub use Rattle.noise_vectors.specs.declared.vector.FileDatagrams.{FileDatagrams}
pub use Rattle.noise_vectors.specs.declared.vector.VectorFile.{VectorFile}
pub use Rattle.noise_run.specs.Ends.{IsFilePattern, IsFilePatternFault, IsPlanOf, IsStartFault, keys_of_role, setup_of, sides_of_file}
pub use Rattle.noise_tool.specs.Explaining.{AreSaid, IsExplainedAt, IsExplainedFile, IsExplainedRun, IsExplainedText, IsExplainedVector, IsUnreadName, Said, said_text, worse, worst_of}
pub use Rattle.noise_tool.specs.Performing.{AreMet, Converts, DifferAt, IsDone, IsFault, IsPlain, IsReadVector, IsRunFault, IsRunText, IsTooLongConverted, IsUnmet, Printing, ReadsShort}
pub use Rattle.noise_run.specs.Printed.{state_lines}
pub use Rattle.noise_run.specs.Running.{AreLast, IsRunOf, LeavesLines, are_ready, datagrams_of_version, expected_in, is_ready}
pub use Rattle.noise_run.specs.Selection.{all_lines, selection_of}
pub use Rattle.noise_tool.specs.Testing.{EndsTest, HaveTested, IsBelowVerdict, IsOfFile, IsPatternOfText, IsPieceOf, IsTested, IsTestedFile, IsVerdictOn, RunsTo, TestedName, TestsPrefix, asked_in, failed_in, is_input, passed_in, tally_line, tested_names, tested_names_after, tested_text, verdicts_text}
pub use Rattle.noise_run.specs.Tracing.{HasTraces, IsTraceOf}
pub use Rattle.noise_run.specs.declared.key_use_lines.Selection.{Selection}
