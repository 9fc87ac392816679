use Rattle.noise_c.proofs.Turning.{query-ok}
use Rattle.noise_c.proofs.two_runs.report_of.Goals as goal

pub returns : goal.returns
returns c =
    let u = c.requires.usable in
    let stage = c.noise_stage.ensures.reported (query-ok _ _ _ c.noise_stage.ensures.code u) in
    record {
      messages = λ p named. (stage p named).messages;
      passed = (stage u.pattern u.named).passed;
      hash = c.noise_hash.ensures.value (query-ok _ _ _ c.noise_hash.ensures.code u);
      remote_static = c.noise_remote_static.ensures.value (query-ok _ _ _ c.noise_remote_static.ensures.code u);
    }
