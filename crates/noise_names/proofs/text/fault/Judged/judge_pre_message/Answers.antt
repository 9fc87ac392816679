use Rattle.std.proofs.Common.{◌≡◌, ◌∙◌, sym, ap, inl, inr, true}
use Rattle.noise_names.proofs.Common.{is_pre_message}
use Rattle.noise_names.proofs.Judging.{next-first, next-second, next-of-role}
use Rattle.noise_names.proofs.WordLists.{pre-kept}
use Rattle.noise_names.proofs.text.fault.Judged.judge_pre_message.Goals as goal

pub returns-in-Initiator : goal.returns-in-Initiator
returns-in-Initiator c = record {
  next =
      λ places s dotted tokens st p h.
      let pre : true ≡ is_pre_message tokens = pre-kept c.args.list.now tokens true h
      (sym c.if-not-is_pre_message.false ∙ c.is_pre_message.ensures ∙ ap is_pre_message c.deref.ensures.0) in
      next-of-role places dotted s tokens _ _ _ (sym c.in-Initiator.is)
      (next-first places s dotted tokens c.args.self c.requires.dots
      (λ e. absurd (let bad = c.is_barred.ensures.1 (inr (c.in-Initiator.is, e)) in let no = c.if-is_barred.false in cc))
      (λ e. absurd (let bad = c.is_barred.ensures.1 (inl e) in let no = c.if-is_barred.false in cc))
      h.some (sym pre) st p);
}

pub returns-in-Responder : goal.returns-in-Responder
returns-in-Responder c = record {
  next =
      λ places s dotted tokens st p h.
      let pre : true ≡ is_pre_message tokens = pre-kept c.args.list.now tokens true h
      (sym c.if-not-is_pre_message.false ∙ c.is_pre_message.ensures ∙ ap is_pre_message c.deref.ensures.0) in
      next-of-role places dotted s tokens _ _ _ (sym c.in-Responder.is)
      (next-second places s dotted tokens c.args.self c.requires.dots
      (λ e. absurd (let bad = c.is_barred.ensures.1 (inl e) in let no = c.if-is_barred.false in cc))
      h.some (sym pre) st p);
}
