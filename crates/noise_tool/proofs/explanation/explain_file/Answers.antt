use Rattle.std.proofs.Common.{rules, inl, ◌≡◌}
use Rattle.noise_tool.proofs.Common.{same_from_all_zip}
use Rattle.noise_tool.proofs.explanation.explain_file.Goals as goal

pub returns-in_ok-explain_vector-in-Ok-clause-explained : goal.returns-in_ok-explain_vector-in-Ok-clause-explained
returns-in_ok-explain_vector-in-Ok-clause-explained c =
    let same : c.in_ok-protocol.protocol ≡ c.args.file.protocol = search (rules, same_from_all_zip, c.in_ok-protocol.ensures.cases) in
    inl (record {
      lines = c.in-Ok.ensures.run.0;
      run = c.in-Ok.ensures.run.1;
      reports = rw same at c.in_ok-explain_vector-in-Ok.ensures;
    })
