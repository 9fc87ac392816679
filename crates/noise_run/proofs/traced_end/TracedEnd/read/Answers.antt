use Rattle.noise_run.proofs.FollowLemmas.{read-lines}
use Rattle.noise_run.proofs.traced_end.TracedEnd.read.Goals as goal

pub returns-clause-lines : goal.returns-clause-lines
returns-clause-lines c = λ s next text step r shows is reported.
    let seen = c.read_use-key_use.ensures.frame s next text step r shows.follows is reported in
    read-lines c.args.selection c.args.self.now c.read_use-key_use.new.end c.about-about.result c.act_of.result c.args.message.now text _ s next step r
    c.lines_of_use.result shows is (c.act_of.ensures step reported) (c.about-about.ensures s.state shows) seen (c.lines_of_use.ensures seen.1)
