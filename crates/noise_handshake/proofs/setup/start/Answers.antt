use Rattle.std.proofs.Common.{◌≡◌, ap, ◌∙◌}
use Rattle.std.specs.Prelude.{Bool, not}
use Rattle.noise_handshake.proofs.Common.{Initiator, Responder, has_psk, keys_of, keyed, initialize, mix_hash, SymmetricState, with_premessage}
use Rattle.noise_names.specs.Names.{name_bytes}
use Rattle.noise_handshake.proofs.Beginning.{start-is}
use Rattle.noise_handshake.proofs.Widths.{start-keyed}
use Rattle.noise_handshake.proofs.Setting.{flips}
use Rattle.noise_handshake.proofs.setup.start.Goals as goal

pub returns-clause-matches : goal.returns-clause-matches
returns-clause-matches c =
    let p = c.args.pattern.now in
    let b : Bool = not c.is_plain-with_psks.result in
    let psks : b ≡ has_psk p = flips c.is_plain-with_psks.result (has_psk p) c.is_plain-with_psks.ensures in
    let named = c.deref.ensures.0 ∙ c.write-name.ensures.written ∙ ap name_bytes c.name.ensures in
    let s1 : c.mix_prologue.new.state ≡ mix_hash (initialize c.deref.result.now) c.args.prologue.now =
    c.mix_prologue.ensures ∙ ap (λ (z : SymmetricState). mix_hash z c.args.prologue.now) c.new-state.ensures in
    c.mix_premessage-2.ensures.mixed
    ∙ ap (with_premessage b c.keys_of-responder.result c.pre-second.result.now)
    (c.mix_premessage.ensures.mixed ∙ ap (with_premessage b c.keys_of-initiator.result c.pre-first.result.now) s1)
    ∙ start-is p b c.pre-first.result.now c.pre-second.result.now psks c.pre-first.ensures.value c.pre-second.ensures.value
    c.deref.result.now (name_bytes (record { base = p.base; places = p.places })) c.args.prologue.now c.keys_of-initiator.result c.keys_of-responder.result _ _
    named c.keys_of-initiator.ensures c.keys_of-responder.ensures

pub returns-clause-key : goal.returns-clause-key
returns-clause-key c =
    let p = c.args.pattern.now in
    ap keyed (returns-clause-matches c)
    ∙ start-keyed (name_bytes (record { base = p.base; places = p.places })) c.args.prologue.now p (keys_of Initiator c.args.role c.args.own.now c.args.remote.now)
    (keys_of Responder c.args.role c.args.own.now c.args.remote.now) c.pre-first.ensures.kinds c.pre-second.ensures.kinds
