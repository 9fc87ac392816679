-- The names that most of these proofs cite, passed on from one place. Declares nothing.
pub use Rattle.std.proofs.Math.Seq.{drop-append-add, drop-append_seam, take-append-add, take-append_seam}
pub use Rattle.std.proofs.lemmas.Bool.{and_from, and_parts, leb-true, not-true, not_from_false, or_left, or_parts, or_right}
pub use Rattle.std.proofs.lemmas.Bool.Decides.{nat_tests}
pub use Rattle.std.proofs.lemmas.List.{drop-append-le, drop_all, drop_at, length-take-le, nil_from_length, take-append-drop, take-append-le, take_more, take_rest}
pub use Rattle.std.proofs.lemmas.List.Folds.{list_any-append}
pub use Rattle.std.proofs.lemmas.List.Sums.{sum_by-append, sum_by-cons, sum_by-take-le}
pub use Rattle.std.specs.List.{list_all, list_any}
pub use Rattle.std.specs.Prelude.{Err, IsFalse, IsTrue, MatchOption, MatchResult, None, Ok, OnOk, Option, Result, Some, count_by, is_none, nat_le, unwrap_or, ◌&&◌, ◌==◌, ◌||◌, ◌↔◌}
pub use Rattle.noise_keys.specs.declared.keys.Own.{Own}
pub use Rattle.noise_keys.specs.declared.keys.Own.TheVariants.{Ephemeral, Static}
pub use Rattle.noise_keys.specs.KeyTokens.{has_token, own_at, token_of}
pub use Rattle.noise_names.specs.Limits.{HavePsksAt, IsPattern, is_pre_message, psk_if, with_psk_tokens}
pub use Rattle.noise_names.specs.Overhead.{added_len, has_key, overhead_from, overhead_of}
pub use Rattle.noise_names.specs.Plan.{Place, Plan, Step, does, has_psk, message_places, payload, place, places_before, places_of, pre_of, token_places, transport}
pub use Rattle.noise_names.specs.Roles.{other-other, same-same_role, same_role-self, same_role-true}
pub use Rattle.noise_names.specs.Tokens.{is_psk, other, own_tokens, same_role, same_token, turn_from}
pub use Rattle.noise_names.specs.Validity.{AllKeepRules, IsValid, is_among, is_at, keys_match, occurs}
pub use Rattle.noise_names.specs.declared.token.Role.{Role}
pub use Rattle.noise_names.specs.declared.token.Role.TheVariants.{Initiator, Responder}
pub use Rattle.noise_names.specs.declared.token.Token.{Token}
pub use Rattle.noise_names.specs.declared.token.Token.TheVariants.{E, Ee, Es, S, Se, Ss}
pub use Rattle.noise_state.specs.Ciphertexts.{ciphertext-same, length-ciphertext}
pub use Rattle.noise_state.specs.Outcomes.{decrypts-not}
pub use Rattle.noise_state.specs.Symmetric.{after_ciphertext, ciphertext, initialize, mix_hash, mix_key_and_hash}
pub use Rattle.noise_state.specs.Standing.{keyed, nonce_now}
pub use Rattle.noise_state.specs.declared.symmetric.SymmetricState.{SymmetricState}
pub use Rattle.noise_handshake.specs.Counterparts.{Counterparts, DhResultsAgree, DhResultsAlike, IsEquipped, counterpart, is_dh, keys_if, shown_after, shown_before, xor_agreement, xor_public}
pub use Rattle.noise_handshake.specs.HandshakeValue.{HandshakeValue, HasPsks, IsAgreement, after_read, after_read_fault, after_write_fault, after_written, ended_as, gone_on, is_turn, length_now, length_unless, message_len_of, read_fault, tokens_due, write_fault}
pub use Rattle.noise_handshake.specs.Asking.{IsWantedToRead, IsWantedToWrite, WantsPskToRead, WantsPskToWrite}
pub use Rattle.noise_handshake.specs.Late.{IsLateWhole, IsPskAfter, party_with, with_later}
pub use Rattle.noise_handshake.specs.Length.{Carries, Carry, added_width, keyed_after, keyed_after_tokens, tag_width, token_width, tokens_width}
pub use Rattle.noise_handshake.specs.Matching.{DoesNotRead, DoesNotWrite, IsKeyed, IsParty, IsSupplied, Matches, party_of, after_message, after_own, ended_party}
pub use Rattle.noise_handshake.specs.Message.{after_payload, after_token, after_tokens, before_payload, message_bytes, token_bytes, with_ephemeral}
pub use Rattle.noise_handshake.specs.Nonces.{nonce_after, nonce_after_message, nonce_after_messages, nonce_after_tokens, nonce_due}
pub use Rattle.noise_handshake.specs.Party.{Accepts, BeginsAs, CanBegin, Fit, Fits, Listens, Party, Reader, Reads, Refuses, Speaks, Stops, cause_at, cause_of, dh_result_of, first_psk, known_after, other_psks, psks_after, reader, remote_after, remote_at, start, tokens_at, tokens_now, with_premessage}
pub use Rattle.noise_handshake.specs.Passed.{passed_places}
pub use Rattle.noise_handshake.specs.Setup.{has_before, has_unexpected, keys_of, lacks_own, lacks_remote, party_at_start, psks_of, public_keys, setup_fault, start_of}
pub use Rattle.noise_handshake.specs.Wanting.{LacksDhResultFor, StopsFor, WantsToRead, WantsToWrite}
pub use Rattle.noise_handshake.specs.Writing.{Given, Gives, LacksDhResult, LacksDhResultAt, Writer, Writes, writer}
pub use Rattle.noise_handshake.specs.declared.faults.Cause.{Cause}
pub use Rattle.noise_handshake.specs.declared.faults.Cause.TheVariants.{Agreement}
pub use Rattle.noise_handshake.specs.declared.faults.ReadFault.{ReadFault}
pub use Rattle.noise_handshake.specs.declared.faults.WriteFault.{WriteFault}
pub use Rattle.noise_handshake.specs.declared.layout.MessageLayout.{MessageLayout}
pub use Rattle.noise_handshake.specs.declared.layout.PlacedToken.{PlacedToken}
pub use Rattle.noise_handshake.specs.declared.remote.Remote.{Remote}
pub use Rattle.noise_handshake.specs.inner.Kept.{IsKept, held_in}
pub use Rattle.noise_handshake.specs.inner.Known.{KnowsRemote, are_known, has_after, has_after_tokens, is_known, remote_known}
pub use Rattle.noise_handshake.specs.inner.Layout.{ArePlaced, IsLaid, LaysNext, placed_from, tokens_of}
pub use Rattle.noise_handshake.specs.inner.Listening.{BeginsBefore, Fails, Listening, StopsKnowing, width_of_key}
pub use Rattle.noise_handshake.specs.inner.Means.{reader_of, writer_of}
pub use Rattle.noise_handshake.specs.inner.Sound.{IsSound}
pub use Rattle.noise_handshake.specs.inner.Speaking.{Speaking, has_own}
