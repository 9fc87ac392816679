use Rattle.std.proofs.Common.{ap, sym, ◌∙◌}
use Rattle.noise_keys.specs.declared.keys.Own.{Own}
use Rattle.noise_handshake.specs.Counterparts.{xor_agreement}
use Rattle.noise_c.specs.HandshakeStructs.{own_in}
use Rattle.noise_c.proofs.Toying.{answers, code-is}
use Rattle.noise_c.proofs.toys.answer.Goals as goal

pub returns : goal.returns
returns c e =
    answers c.args.keys.now c.args.handshake.now c.noise_answer.new.handshake
    (record { own = own_in c.args.results.now.of_static; remote = c.args.results.now.remote; answer = c.in-Some.result })
    c.noise_answer.result c.noise_answer.ensures.supplies (code-is c.noise_answer.result 0 e) c.if-handshake-ge8.false
    (sym (ap (λ (o : Own). xor_agreement c.args.keys.now o c.args.results.now.remote) c.own_of.ensures) ∙ sym c.agree.ensures ∙ c.in-Some.is)
