use Rattle.std.proofs.Common.{rules, ◌≡◌, ℕ, length, take, ap, ◌∙◌, arith, length-take}
use Rattle.noise_handshake.proofs.Common.{width_of_key}
use Rattle.noise_handshake.proofs.Static.{short-key, why-short, wrong-key, why-tag, width-is}
use Rattle.noise_handshake.proofs.reader.read_s.Goals as goal

pub returns-then-message-width-clause-read : goal.returns-then-message-width-clause-read
returns-then-message-width-clause-read c = search (rules, width-is, short-key, why-short)

pub returns-in-None-clause-read : goal.returns-in-None-clause-read
returns-in-None-clause-read c =
    let r = c.args.state.now in
    let w = width-is r c.args.width c.requires.width in
    let n : ℕ = c.args.width in
    let same : c.copy_from_slice.new.self ≡ take n c.args.message.now = c.copy_from_slice.ensures.after in
    let long : length c.copy_from_slice.new.self ≡ width_of_key r =
    omega (arith, ap length same, length-take n c.args.message.now, c.if-message-width.false, w) in (
      wrong-key r c.args.message.now n w (λ x e. c.in-None.ensures.opened long x (same ∙ e)),
      why-tag r c.args.message.now n w c.if-message-width.false,
    )
