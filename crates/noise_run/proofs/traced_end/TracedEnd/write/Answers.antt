use Rattle.noise_run.proofs.Common.{note_of}
use Rattle.noise_run.proofs.FollowLemmas.{wrote-whole}
use Rattle.noise_run.proofs.traced_end.TracedEnd.write.Goals as goal

pub returns-clause-lines : goal.returns-clause-lines
returns-clause-lines c = λ s payload next note w matches reported framed.
    wrote-whole c.args.selection c.args.self.now c.let_go.new.self c.written_use-key_use.new.end c.about-about.result c.message_in-message.result.now c.args.frame.now _
    (note_of c.args.entry.now) s payload next note w c.lines_of_use.result matches reported framed c.message_in-message.ensures
    (c.about-about.ensures s.state matches.shows) (c.written_use-key_use.ensures s payload next note w) c.let_go.ensures.role c.let_go.ensures.psks
    c.let_go.ensures.end c.let_go.ensures.partial c.lines_of_use.ensures
