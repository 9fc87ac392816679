-- The names that most of these proofs cite, passed on from one place. Declares nothing.
pub use Rattle.std.proofs.lemmas.Bool.{and_from, and_parts, cases_lt, eqb-true, false_from_ne_true, le-leb, le-ltb, leb-true, not-false, not-true, or_parts, or_right}
pub use Rattle.std.proofs.lemmas.Bool.Decides.{Decides-eqb, nat_tests}
pub use Rattle.std.proofs.lemmas.List.{append_cancel_left, at_drop_all, at_drop_more, drop-drop, drop_all, drop_at, get_or-map, get_or_default, length-map, length-replicate, length-take-le, map-append, map_more, nil_from_length, same_from_push, take_all, take_min, take_more}
pub use Rattle.std.proofs.lemmas.List.Folds.{list_all-append, list_any-append}
pub use Rattle.std.proofs.lemmas.List.Splits.{join_with_byte-slice_split, slice_split_at, slice_split_none}
pub use Rattle.std.proofs.lemmas.Result.{err_from_is_err_and}
pub use Rattle.std.proofs.lemmas.Slice.Eq.{bytes_eq-Decides, slice_eq-Decides, strip_prefix_is}
pub use Rattle.std.specs.List.{join_with_byte, list_all, list_any, prefix_len, slice_split}
pub use Rattle.std.specs.Prelude.{IfErr, IfOk, IfSome, IsFalse, IsSome, MatchOption, MatchResult, bytes_eq, codes, find, nat_le, slice_get, ⊤, ◌==◌}
pub use Rattle.noise_names.specs.Checking.{Walks, added_by, key_by, lowest_of, rules_by, with_place}
pub use Rattle.noise_names.specs.Facts.{section_bytes-all}
pub use Rattle.noise_names.specs.Judging.{HasTokens, IsBarred, IsLineBefore, IsNextOf, AreRightLines, IsWrong, Matches, RightLines, is_some, right_lines}
pub use Rattle.noise_names.specs.Limits.{HavePsks, HavePsksAt, IsPattern, Placed, first_beyond, has_few_tokens, is_pre_message, psk_if, with_psk_tokens, with_psks_from}
pub use Rattle.noise_names.specs.Lists.{cons-same}
pub use Rattle.noise_names.specs.Names.{IsFirstNameFault, IsSection, Names, Section, after_base, algorithm_part, are_places, base_front, digit_of, has_fault, is_base, is_base_byte, is_modifier, is_section_byte, modifier, name_bytes, pieces_of, prefix, rises, section_bytes, section_part, suffix}
pub use Rattle.noise_names.specs.Overhead.{added_len, has_key, overhead_from, overhead_of}
pub use Rattle.noise_names.specs.Plan.{Place, Plan, Step, does, first_places, has_psk, is_one_way, message_places, payload, place, places_of, plain_of, plan_of, token_places, transport}
pub use Rattle.noise_names.specs.Reading.{is_lower}
pub use Rattle.noise_names.specs.Sections.{modifiers_read, name_read, number_in, numbers_in, section_in, section_read, unless_section_fault}
pub use Rattle.noise_names.specs.Tests.{and-false, or-false}
pub use Rattle.noise_names.specs.Text.{Spells, arrow_of, line, message_lines, pre_line, pre_lines, text_of, token_line, word_of, words}
pub use Rattle.noise_names.specs.Tokens.{is_psk, other, own_tokens, same_role, turn_from}
pub use Rattle.noise_names.specs.Validity.{IsFirstFault, IsValid, broken_rules, fault_or, first_fault, first_fault_by, is_among, occurs}
pub use Rattle.noise_names.specs.WrongText.{BeginsRight, EndsInHeading, HasNoHeading, HasPlaceBeyond, HasTakenName, IsAfter, IsArrowFault, IsAtMessage, IsCutShort, IsEnded, IsLike, IsLimitFault, IsMessage, IsPreMessageFault, IsPskFault, IsTextFault, IsTextFaultAt, IsTokenFault, IsTokens, IsTurnFault, IsWrongLine, arrow_then, body_of, dots, first_line, has_dots, heading_of, is_within, line_feeds, wrong_line}
pub use Rattle.noise_names.specs.declared.faults.NameFault.{NameFault}
pub use Rattle.noise_names.specs.declared.faults.NameFault.TheVariants.{Algorithm, Base, Length, Modifier, ModifierOrder, Prefix}
pub use Rattle.noise_names.specs.declared.faults.TextFaultKind.{TextFaultKind}
pub use Rattle.noise_names.specs.declared.seen.Seen.{Seen}
pub use Rattle.noise_names.specs.declared.token.Role.{Role}
pub use Rattle.noise_names.specs.declared.token.Role.TheVariants.{Initiator, Responder}
pub use Rattle.noise_names.specs.declared.token.Token.{Token}
pub use Rattle.noise_names.specs.declared.token.Token.TheVariants.{E, Ee, Es, Psk, S, Se, Ss}
