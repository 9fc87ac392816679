use Rattle.noise_handshake.proofs.Common.{xor_agreement, xor_public}
use Rattle.noise_keys.specs.Keys.{key_of, xor_dh_result-commutes}
use Rattle.noise_handshake.proofs.Meeting.{agreeing-meet}
use Rattle.noise_handshake.proofs.laws.xor_keys_agree.Goals as goal

pub returns : goal.returns
returns c = λ a b p role known their_known n m.
    agreeing-meet p role (xor_public a) (xor_public b) (xor_agreement a)
    (xor_agreement b) known their_known n m
    (λ x y k l. xor_dh_result-commutes (key_of x a.e a.s) (key_of y b.e b.s) k l)
