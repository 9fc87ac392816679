-- The names that most of these proofs cite, passed on from one place. Declares nothing.
pub use Rattle.std.proofs.lemmas.List.{drop_at, take_at}
pub use Rattle.std.proofs.lemmas.Option.{same_Some}
pub use Rattle.std.specs.Prelude.{Bool, IsFalse, IsTrue, Option, false, if◌then◌else◌, is_some, nat_le, nat_lt, not, slice_range, true, unwrap_or, ◌&&◌, ◌==◌, ◌↔◌, ◌⊎◌}
pub use Rattle.noise_handshake.specs.Matching.{after_message, after_own}
pub use Rattle.noise_handshake.specs.Message.{after_payload, after_token, after_tokens, before_payload, message_bytes, token_bytes, with_ephemeral}
pub use Rattle.noise_handshake.specs.Party.{Party, tokens_at, tokens_now, with_premessage}
pub use Rattle.noise_keys.specs.KeyTokens.{has_token, token_of}
pub use Rattle.noise_handshake.specs.Setup.{has_before, keys_of, public_keys, setup_fault, start_of}
pub use Rattle.noise_handshake.specs.declared.remote.Remote.{Remote}
pub use Rattle.noise_names.specs.Plan.{Plan, has_psk, places_of, pre_of}
pub use Rattle.noise_names.specs.Tokens.{other, own_tokens, same_token}
pub use Rattle.noise_names.specs.declared.token.Role.{Role}
pub use Rattle.noise_names.specs.declared.token.Role.TheVariants.{Initiator, Responder}
pub use Rattle.noise_names.specs.declared.token.Token.{Token}
pub use Rattle.noise_names.specs.declared.token.Token.TheVariants.{E, Ee, Es, Psk, S, Se, Ss}
pub use Rattle.noise_session.specs.Ends.{EndState}
pub use Rattle.noise_state.specs.declared.symmetric.SymmetricState.{SymmetricState}
pub use Rattle.noise_state.specs.Symmetric.{ciphertext}
pub use Rattle.noise_state.specs.Cipher.{rekeyed_times}
pub use Rattle.noise_state.specs.Symmetric.{mix_hash}
pub use Rattle.noise_trace.specs.Following.{Follows, going}
pub use Rattle.noise_trace.specs.KeyUses.{opening_in, rekeyed_after}
pub use Rattle.noise_trace.specs.KeyUses.KeyUseValue.{Message}
pub use Rattle.noise_trace.specs.Steps.{joined, message_steps, payload_step, step, token_steps}
pub use Rattle.noise_trace.specs.Values.{values_of}
pub use Rattle.noise_trace.specs.declared.step.Step.{Step}
pub use Rattle.noise_trace.specs.declared.step_list.StepList.{StepList}
pub use Rattle.noise_trace.specs.inner.StepLists.{with_step, with_token}
