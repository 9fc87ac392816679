use Rattle.noise_c.proofs.Ciphering.{forged}
use Rattle.noise_c.proofs.ciphers.noise_cipher_decrypt.Goals as goal

pub returns-in-Err-decrypt-clause-forged : goal.returns-in-Err-decrypt-clause-forged
returns-in-Err-decrypt-clause-forged c =
    forged c.args.cipher.now c.in-Ok.value c.args.ad.now c.args.message.now c.in-Err-decrypt.fault c.cipher_code.result c.in-Ok.ensures.value c.cipher_code.ensures
    c.in-Err-decrypt.ensures.decrypts.0 c.in-Err-decrypt.ensures.decrypts.1
