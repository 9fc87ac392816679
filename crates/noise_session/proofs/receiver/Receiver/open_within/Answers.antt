use Rattle.std.proofs.Common.{◌≡◌, ℕ, List, [], length, Err, rules, sym, subst}
use Rattle.noise_session.proofs.Common.{ciphertext_under, OpenFault, HalfValue, receiver_fault, OpensUnless, ReceiverOpens, half_value}
use Rattle.noise_state.specs.declared.cipher.CipherFault.{CipherFault}
use Rattle.noise_state.specs.Cipher.{DecryptRefused, keyed_in, nonce_in}
use Rattle.noise_session.proofs.receiver.Receiver.open_within.Goals as goal

-- a message that is that of no payload under the half's key changes nothing
unopened : {T : Type 0} (t h next : HalfValue) (message : List ℕ) (why : OpenFault) (payload_in : T → List ℕ) → t ≡ h → next ≡ h
    → OpensUnless {T = T} (receiver_fault h) message (Err why) → ((payload : List ℕ) → message ≡ ciphertext_under t.key t.nonce [] payload → ⊥)
    → ReceiverOpens h next message (Err why) payload_in
unopened t h next message why payload_in is same fault none = record {
  fault = fault;
  counted = tt;
  unchanged = same;
  opened = λ listens payload e. none payload (subst (λ (z : HalfValue). message ≡ ciphertext_under z.key z.nonce [] payload) (sym is) e);
  renewed = tt;
  opens = λ v s listens payload e.
      none payload (subst (λ (z : HalfValue). message ≡ ciphertext_under z.key z.nonce [] payload) (sym is) (rw (s.key, s.nonce) e));
}

pub returns-in-Err-Short-clause-opens : goal.returns-in-Err-Short-clause-opens
returns-in-Err-Short-clause-opens c =
    let cipher = c.self.inside.half.cipher in
    let refused = subst (λ (f : CipherFault). DecryptRefused (keyed_in cipher) (nonce_in cipher) (length c.args.message.now) f) c.in-Err-Short.field-0-is
    c.in-Err-Short.ensures.decrypts.0 in
    unopened (half_value c.self.inside.half) c.args.self.now _ c.args.message.now _ _ c.self.view_is (search rules) (search rules)
    (c.in-Err-Short.ensures.decrypts.1 refused.0 refused.1)

pub returns-in-Err-Tag-clause-opens : goal.returns-in-Err-Tag-clause-opens
returns-in-Err-Tag-clause-opens c =
    let cipher = c.self.inside.half.cipher in
    let refused = subst (λ (f : CipherFault). DecryptRefused (keyed_in cipher) (nonce_in cipher) (length c.args.message.now) f) c.in-Err-Tag.field-0-is
    c.in-Err-Tag.ensures.decrypts.0 in
    unopened (half_value c.self.inside.half) c.args.self.now _ c.args.message.now _ _ c.self.view_is (search rules) (search rules)
    (c.in-Err-Tag.ensures.decrypts.1 refused.0 refused.1)
