use Rattle.noise_theorems.proofs.prologues.run_apart.Goals as goal

pub returns-clause-clash : goal.returns-clause-clash
returns-clause-clash g c p a b i j matches apart =
    let reported = c.in_ok-made.ensures.agrees p a b i j matches in
    record {
      reports = reported.0;
      clash = λ hash e f. c.clash_reported.ensures.reported p a b i j _ _ reported.0.last reported.0.run
          (c.hash_is_reported.ensures c.in_ok-made.made.0 reported.0.last hash reported.0.matches e f) (λ same. apart same.prologue);
    }
