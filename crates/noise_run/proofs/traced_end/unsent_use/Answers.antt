use Rattle.std.proofs.Common.{◌∙◌, sym, ap}
use Rattle.noise_run.proofs.Common.{SendFault, WriteFault}
use Rattle.noise_run.proofs.KeyUseLemmas.{six-others, unwritten-shown, withheld-shown}
use Rattle.noise_run.proofs.traced_end.unsent_use.Goals as goal

pub returns-in-Agreement : goal.returns-in-Agreement
returns-in-Agreement c = λ s payload next note w follows reported.
    withheld-shown c.args.end.now (c.end_is_followed.ensures.ended c.args.end.now) c.withheld.result c.in-Agreement.token c.withheld.ensures
    s payload next note w follows (sym (ap (λ (f : SendFault). WriteFault f) c.in-Agreement.is) ∙ reported)

pub returns-in-NotYourTurn : goal.returns-in-NotYourTurn
returns-in-NotYourTurn c = λ s payload next note w follows reported.
    unwritten-shown c.args.end.now (c.end_is_followed.ensures.ended c.args.end.now) c.args.fault (six-others c.args.fault c.in-NotYourTurn.is)
    s payload next note w follows reported
