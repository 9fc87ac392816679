use Rattle.std.proofs.Common.{◌∙◌, sym}
use Rattle.noise_names.proofs.Judging.{next-message, wrong-psks}
use Rattle.noise_names.proofs.text.fault.Judged.judge_message.Goals as goal

pub returns-then-have_psks : goal.returns-then-have_psks
returns-then-have_psks c = record {
  next =
      λ s dotted tokens st p h.
      next-message c.args.places.now s dotted tokens c.args.role c.args.self c.requires.dots (c.is_turn.ensures.turn c.if-not-is_turn.false) c.if-self-ge8.false
      h.some (sym (c.has_few.ensures.few tokens h) ∙ c.if-not-has_few.false) ((c.have_psks.ensures.psks tokens h).0 c.if-have_psks.true) st p;
}

pub returns-else-have_psks : goal.returns-else-have_psks
returns-else-have_psks c = record {
  next =
      λ s dotted tokens st p h.
      wrong-psks c.args.places.now s tokens c.args.role c.args.self c.requires.dots (c.is_turn.ensures.turn c.if-not-is_turn.false) c.if-self-ge8.false
      h.some (sym (c.has_few.ensures.few tokens h) ∙ c.if-not-has_few.false)
      (λ e. absurd (let bad = (c.have_psks.ensures.psks tokens h).1 e in let no = c.if-have_psks.false in cc)) st;
}
