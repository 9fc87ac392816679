-- The names that most of these proofs cite, passed on from one place. Declares nothing.
pub use Rattle.std.proofs.Math.Seq.{drop-append_seam, take-append_seam}
pub use Rattle.std.proofs.lemmas.Bool.{and_from, and_parts, cases_lt, eqb-false, false≢true, not-true, or_left, or_parts, or_right}
pub use Rattle.std.proofs.lemmas.Bool.Decides.{nat_tests}
pub use Rattle.std.specs.Prelude.{Bool, IfOk, IfSome, IsOk, MatchOption, None, Option, Result, Some, cond, count_by, find, if◌then◌else◌, is_some, max, nat_eq, nat_lt, ◌==◌, ◌||◌}
pub use Rattle.noise_handshake.specs.Counterparts.{is_dh}
pub use Rattle.noise_handshake.specs.Asking.{IsWantedToRead, IsWantedToWrite, WantsPskToRead, WantsPskToWrite}
pub use Rattle.noise_handshake.specs.HandshakeValue.{HandshakeValue, IsAgreement, ended_as, length_unless, message_len_of, read_fault, write_fault}
pub use Rattle.noise_handshake.specs.Late.{IsLateWhole, party_with, with_later}
pub use Rattle.noise_handshake.specs.Matching.{DoesNotRead, DoesNotWrite, IsParty, after_message, after_own}
pub use Rattle.noise_handshake.specs.Party.{Accepts, BeginsAs, CanBegin, Fit, Fits, Party, Reader, Reads, Refuses, Stops, cause_at, cause_of, dh_result_of, first_psk, known_after, psks_after, reader, remote_after, remote_at, tokens_at, tokens_now}
pub use Rattle.noise_handshake.specs.Setup.{party_at_start, psks_of, setup_fault}
pub use Rattle.noise_handshake.specs.Wanting.{LacksDhResultFor, StopsFor, WantsToRead, WantsToWrite}
pub use Rattle.noise_handshake.specs.Writing.{Given, Gives, LacksDhResultAt, Writer, Writes, writer}
pub use Rattle.noise_handshake.specs.declared.faults.Cause.{Cause}
pub use Rattle.noise_handshake.specs.declared.faults.Cause.TheVariants.{Agreement, Short, Tag}
pub use Rattle.noise_handshake.specs.declared.faults.ReadFault.{ReadFault}
pub use Rattle.noise_handshake.specs.declared.faults.Want.{Want}
pub use Rattle.noise_handshake.specs.declared.remote.Remote.{Remote}
pub use Rattle.noise_keys.specs.Table.{Table, TableEntry, dh_result_in, is_for, same_own}
pub use Rattle.noise_keys.specs.declared.keys.Own.{Own}
pub use Rattle.noise_keys.specs.KeyTokens.{own_at}
pub use Rattle.noise_names.specs.Plan.{Place, Plan, does, has_psk, message_places, place, places_before, token_places}
pub use Rattle.noise_names.specs.Validity.{IsValid, KeepsRules, dh_is_first, is_at, occurs}
pub use Rattle.noise_names.specs.declared.token.Role.{Role}
pub use Rattle.noise_names.specs.declared.token.Token.{Token}
pub use Rattle.noise_names.specs.declared.token.Token.TheVariants.{E, Ee, Es, S, Se, Ss}
pub use Rattle.noise_session.specs.Datagrams.{DatagramReceiverMatches, DatagramReceiverValue, DatagramSenderMatches, DatagramSenderValue, DatagramsMatch, Opens, accepting, datagrams_of, nonce_named}
pub use Rattle.noise_state.specs.declared.symmetric.SymmetricState.{SymmetricState}
pub use Rattle.noise_state.specs.Symmetric.{ciphertext}
pub use Rattle.noise_state.specs.Cipher.{ciphertext_under}
pub use Rattle.noise_c.specs.Codes.{cause_code, read_code, setup_code, write_code}
pub use Rattle.noise_c.specs.DatagramStructs.{IsDatagramCode, OpensDatagramInPlace, datagram_receiver_from_c, is_datagram_receiver, window_in}
pub use Rattle.noise_c.specs.DhResults.{ActsAsAll, AreAmong, AskedIsLacking, AskedToRead, AskedToWrite, DhResults, FirstActAsAll, FourSuffice, FourSufficeToWrite, HasKeys, IsHandedIn, Shows, with_dh_results}
pub use Rattle.noise_c.specs.HandshakeStructs.{IsAdded, IsGiven, IsNoName, IsNoText, IsNotValid, IsPatternFault, IsPatternOf, IsPatternOfName, IsStartCode, IsUsable, KeepsParty, ReportsDhResult, ReportsRemote, ReportsWant, WasDeclined, WasRead, WasRefused, WasWritten, agreement_in, begun_in, code_of, fault_in, handshake_from_c, is_text, key_from_c, own_in, psks_in, pairs_in, public_in, remote_of, remote_reported, role_in, start_code, table_in, table_of, text_from_c}
pub use Rattle.noise_c.specs.declared.structs.NoiseHandshake.{NoiseHandshake}
pub use Rattle.noise_c.specs.declared.structs.NoiseResult.{NoiseResult}
