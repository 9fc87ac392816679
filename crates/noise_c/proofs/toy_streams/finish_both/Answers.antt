use Rattle.std.proofs.Common.{◌≡◌, ℕ, List, [], ap, sym, subst, ◌∙◌}
use Rattle.noise_c.proofs.Common.{IsPatternOf, Plan, psks_of}
use Rattle.noise_c.proofs.Toying.{finished}
use Rattle.noise_c.proofs.toy_streams.finish_both.Goals as goal

pub returns : goal.returns
returns c =
    let s = c.in_ok-a.ensures.started in
    let p : Plan = s.usable.pattern in
    let same = c.in_ok-pattern.ensures.one p (subst (λ (z : List ℕ). IsPatternOf z p) s.text_is s.usable.named) in
    let none : psks_of p.messages ≡ 0 =
    ap (λ (q : Plan). psks_of q.messages) same ∙ ap psks_of (sym c.messages.ensures.value) ∙ sym c.psk_total.ensures.total ∙ c.if-psk_total-ne0.false in
    finished c.two_programs_agree.ensures c.setup_is_whole.ensures.remote c.xor_keys_agree.ensures _ [] _ _ _ c.args.initiator.now
    c.args.responder.now c.in_ok-a.a c.pass.new.from c.pass-2.new.to c.pass-3.new.from c.in_ok-b.b c.pass.new.to c.pass-2.new.from c.pass-3.new.to
    c.in_ok-a.ensures.started c.in_ok-b.ensures.started c.in_ok-a.ensures.fault c.in_ok-b.ensures.fault c.in_ok-pass.ensures c.in_ok-pass-2.ensures
    c.in_ok-pass-3.ensures c.programs_finish.ensures.parties none (c.is_done.ensures c.if-not-is_done.false)
    (c.is_done-else-not-is_done.ensures c.if-not-is_done-2.false)
