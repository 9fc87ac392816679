-- The names that most of these proofs cite, passed on from one place. Declares nothing.
pub use Rattle.hex.proofs.HexLemmas.{decode_of-encode_lower, decode_of-even, decode_sized-encode_lower, decode_sized-ok, decode_sized-twice, length-encode_with}
pub use Rattle.hex.specs.Hex.{decode_of, decode_sized, digit_or_error, encode_lower, hex_digit_value, lower_digits, pair_value, value_at}
pub use Rattle.std.proofs.Math.Seq.{drop-append_seam, drop-cons, take-append_seam, take-length}
pub use Rattle.std.proofs.lemmas.Bool.{and_parts, cases_lt, eqb-true, false≢true, ltb-false, ltb-true, true_from_ne_false}
pub use Rattle.std.proofs.lemmas.Bool.Decides.{Decides-eqb, nat_tests}
pub use Rattle.std.proofs.lemmas.Fmt.{IsAscii-decimal, decimal-digits_value, decimal_digit, decimal_injective, decimal_is_IsNumeral, decimal_nonempty, first_decimal, parse-decimal}
pub use Rattle.std.proofs.lemmas.List.{append-nil, append_assoc, append_cancel_left, append_cancel_right, length-append, length-drop, length-map, map-id, take-append-drop}
pub use Rattle.std.proofs.lemmas.List.Elements.{All-append, All-cons, All-head, All-nil, All-push, All-tail}
pub use Rattle.std.proofs.lemmas.Slice.Eq.{bytes_eq-Decides, starts_is, strip_prefix_is}
pub use Rattle.std.specs.List.{All, AllPass, join_with_byte, list_all, prefix_len, starts_with}
pub use Rattle.std.specs.Prelude.{IfSome, IsOk, IsSome, IsTrue, MatchResult, bytes_eq, nat_le, nat_lt, position, slice_index_or}
pub use Rattle.noise_events.specs.Windows.{width_of}
pub use Rattle.noise_events.specs.declared.datagram_event.DatagramEvent.{DatagramEvent}
pub use Rattle.noise_events.specs.declared.event.Event.{Event}
pub use Rattle.noise_events.specs.declared.event.Event.TheVariants.{Deliver, Say, Write}
pub use Rattle.noise_events.specs.declared.window.Window.{Window}
pub use Rattle.noise_keys.specs.Table.{TableEntry}
pub use Rattle.noise_names.specs.Facts.{section_bytes-all}
pub use Rattle.noise_names.specs.Limits.{IsPattern}
pub use Rattle.noise_names.specs.Lists.{bytes_of}
pub use Rattle.noise_names.specs.Names.{IsSection, Section, is_base, is_base_byte, is_section_byte, modifier, name_bytes, prefix, section_bytes, suffix}
pub use Rattle.noise_names.specs.Plan.{Plan}
pub use Rattle.noise_names.specs.Text.{Spells, message_lines, pre_line, pre_lines, token_line, word_of, words}
pub use Rattle.noise_names.specs.WrongText.{IsEnded, heading_of, line_feeds}
pub use Rattle.noise_names.specs.declared.token.Role.{Role}
pub use Rattle.noise_names.specs.declared.token.Role.TheVariants.{Initiator, Responder}
pub use Rattle.noise_vectors.specs.Block.{IsInner, itself}
pub use Rattle.noise_vectors.specs.Cuts.{AreCuts, AreLengths}
pub use Rattle.noise_vectors.specs.HexWord.{IsDigits, IsHexWord, hex_of, is_lower_digit}
pub use Rattle.noise_vectors.specs.Lines.{IsRead, last_number}
pub use Rattle.noise_vectors.specs.ReaderFaults.{IsCutBlock, IsCutDatagrams, IsHeaderLine, IsIntervalLine, IsPrologueLine, IsProtocolLine, IsWrongBlock, IsWrongDatagram, IsWrongFirst, IsWrongWindow, Listed, ReportsAfter, ReportsBlock, ReportsDatagrams, ReportsExpected, ReportsLine, ReportsParty, ReportsVersion, answer_lines, datagram_lines, event_lines, expect_kind, expect_lines, psk_lines}
pub use Rattle.noise_vectors.specs.SameFile.{VectorTextsAreUnique, cuts_of, expected_of, held_datagrams, version_datagrams, version_number}
pub use Rattle.noise_vectors.specs.VectorFile.{AreBytes, AreKeys, ArePsks, IsAllowed, IsAllowedFile, IsAllowedVersion, IsDatagramEvent, IsEntry, IsEvent, IsExpected, IsOwn, IsShort, IsVectorFile, IsVersion, say_of}
pub use Rattle.noise_vectors.specs.VectorText.{AfterDatagrams, AfterEvents, answer_words, block_text, datagram_event_words, datagram_kind_word, datagrams_text, event_words, expect_line, expect_words, file_text, header_words, is_second, key_word, key_words, kind_word, lengths_word, line_then, lines_of, own_word, party_text, psk_words, role_word, text_body, version_text, window_words}
pub use Rattle.noise_vectors.specs.Words.{IsKey, lacks}
pub use Rattle.noise_vectors.specs.WrongLine.{Block, HasHeading, IsCutFile, IsFirstLine, IsOpenBlock, IsReported, IsReportedLine, IsWrongIn, is_answer_line, is_psk_line, up_to_end, up_to_events, up_to_initiator, up_to_interval, up_to_prologue, up_to_protocol, up_to_responder}
pub use Rattle.noise_vectors.specs.declared.faults.LineKind.{LineKind}
pub use Rattle.noise_vectors.specs.declared.faults.VectorFault.{VectorFault}
pub use Rattle.noise_vectors.specs.declared.faults.VectorFault.TheVariants.{Line, Memory}
pub use Rattle.noise_vectors.specs.declared.file_keys.FileKeys.{FileKeys}
pub use Rattle.noise_vectors.specs.declared.file_keys.FileKeys.TheVariants.{Xor}
pub use Rattle.noise_vectors.specs.declared.lines.Lines.{Lines}
pub use Rattle.noise_vectors.specs.declared.vector.AllowedEvents.{AllowedEvents}
pub use Rattle.noise_vectors.specs.declared.vector.AllowedEvents.TheVariants.{Any, SayOnly, VersionOne}
pub use Rattle.noise_vectors.specs.declared.vector.FileDatagrams.{FileDatagrams}
pub use Rattle.noise_vectors.specs.declared.vector.VectorFile.{VectorFile}
pub use Rattle.noise_vectors.specs.declared.vector.Version.{Version}
pub use Rattle.noise_vectors.specs.declared.vector.Version.TheVariants.{One, Two}
