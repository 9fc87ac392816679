use Rattle.std.proofs.Common.{◌≡◌, ◌⊎◌, inl, inr}
use Rattle.noise_tool.proofs.TestingLemmas.{ends-printed, tested-begun}
use Rattle.noise_tool.proofs.testing.test.Goals as goal

pub returns-in-Ok-clause-prefix : goal.returns-in-Ok-clause-prefix
returns-in-Ok-clause-prefix g c = tested-begun c.args.traces (g.F.FilesByName.bytes_at c.args.files.now) (g.F.FilesByName.unreadable c.args.files.now) _ _ _ c.in-Ok.status
    c.in-Ok.ensures.tested

pub returns-in-Err : goal.returns-in-Err
returns-in-Err g c =
    let ends = ends-printed (g.O.Write.contents) (g.E.Write.contents) c.in-Err.fault _ _ _ _ _ c.in-Err.ensures.fault c.print.ensures.told in
    record {
      status = inr ends.1;
      tested = inl ends.1;
      quiet = inl ends.1;
      outside = λ three. ends.2;
      prefix = rw ends.0 c.in-Err.ensures.prefix;
    }
