use Rattle.std.proofs.Common.{arith, sym, ◌∙◌}
use Rattle.noise_state.specs.Ciphertexts.{tagged}
use Rattle.noise_state.proofs.cipher.CipherState.decrypt_fault.Goals as goal

pub returns-then-len-lt-TAG_LEN-clause-forged : goal.returns-then-len-lt-TAG_LEN-clause-forged
returns-then-len-lt-TAG_LEN-clause-forged c = λ ad text bytes e left fits same.
    let keyed = sym c.has_key-else-len-gt-MAX_LEN.ensures ∙ c.if-has_key-2.true in
    omega (arith, e, c.if-len-lt-TAG_LEN.true, tagged c.args.self.now.key c.args.self.now.nonce ad text bytes same keyed)
