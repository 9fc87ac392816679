use Rattle.std.proofs.Common.{◌≡◌, ℕ, ap, sym, subst, ◌∙◌, arith}
use Rattle.std.specs.Prelude.{Bool, not, false}
use Rattle.noise_handshake.proofs.Common.{None, Initiator, Responder, Plan, has_psk, IsPattern, Remote, HandshakeValue, keys_of, setup_fault, psks_of, IsSound, LaysNext, E, S, other, KnowsRemote}
use Rattle.noise_handshake.specs.inner.PreMessage.{HasPre}
use Rattle.noise_handshake.proofs.Knowing.{matches-start}
use Rattle.noise_handshake.proofs.Setting.{flips, has-pre, remote-exactly, counted, own-e, own-s}
use Rattle.noise_handshake.proofs.Starting.{few-messages}
use Rattle.noise_handshake.proofs.handshake.Handshake.begin.Goals as goal

pub start-state-requires-clause-initiator : goal.start-state-requires-clause-initiator
start-state-requires-clause-initiator g c =
    let plan : Plan = c.pattern-plan.result.now in
    let own = (g.K.Keys.pairs c.args.keys).public in
    let n : ℕ = psks_of c.args.pattern.messages in
    let none : setup_fault plan c.args.role own c.args.remote n ≡ None =
    ap (λ (z : Plan). setup_fault z c.args.role own c.args.remote n) c.pattern-plan.ensures.value ∙ c.requires.right in
    subst (λ (z : Remote). HasPre plan Initiator (keys_of Initiator c.args.role z c.args.remote)) (sym c.public_keys.ensures)
    (has-pre plan Initiator c.args.role own c.args.remote n none)

pub start-state-requires-clause-responder : goal.start-state-requires-clause-responder
start-state-requires-clause-responder g c =
    let plan : Plan = c.pattern-plan.result.now in
    let own = (g.K.Keys.pairs c.args.keys).public in
    let n : ℕ = psks_of c.args.pattern.messages in
    let none : setup_fault plan c.args.role own c.args.remote n ≡ None =
    ap (λ (z : Plan). setup_fault z c.args.role own c.args.remote n) c.pattern-plan.ensures.value ∙ c.requires.right in
    subst (λ (z : Remote). HasPre plan Responder (keys_of Responder c.args.role z c.args.remote)) (sym c.public_keys.ensures)
    (has-pre plan Responder c.args.role own c.args.remote n none)

pub invariant_of-result : goal.invariant_of-result
invariant_of-result g c =
    let plan : Plan = c.pattern-plan.result.now in
    let P = g.K.Keys.pairs in
    let own = (g.K.Keys.pairs c.args.keys).public in
    let n : ℕ = psks_of c.args.pattern.messages in
    let none : setup_fault plan c.args.role own c.args.remote n ≡ None =
    ap (λ (z : Plan). setup_fault z c.args.role own c.args.remote n) c.pattern-plan.ensures.value ∙ c.requires.right in
    let q : plan ≡ c.args.pattern = c.pattern-plan.ensures.value in
    let b : Bool = not c.is_plain-has_psks.result in
    let has_psks : b ≡ has_psk plan = flips c.is_plain-has_psks.result (has_psk plan) c.is_plain-has_psks.ensures in
    let count : n ≡ psks_of plan.messages = counted plan c.args.role own c.args.remote n none in
    let at : Plan → HandshakeValue g.row.K.Denot = λ z. record {
      pattern = z;
      role = c.args.role;
      keys = c.args.keys;
      remote = c.args.remote;
      psks = c.args.psks.items;
      passed = 0;
      ended = false;
      state = c.start-state.result;
    } in
    let sound : IsSound P (at plan) = record {
      within = omega arith;
      few = few-messages plan c.lay_next-next.ensures.limits;
      psks = omega (arith, c.requires.few, count);
      has_e = own-e plan c.args.role own c.args.remote n none;
      has_s = own-s plan c.args.role own c.args.remote n none;
      keyed = c.start-state.ensures.key;
      nonce = c.start-state.ensures.nonce;
      bound = omega (arith, c.start-state.ensures.nonce);
    } in
    let known = remote-exactly plan c.args.role own c.args.remote n none in
    let knows : KnowsRemote (at plan) = record {
      e = known.0 ∙ sym (matches-start plan (other c.args.role) E);
      s = known.1 ∙ sym (matches-start plan (other c.args.role) S);
    } in (
      has_psks ∙ ap has_psk q,
      omega arith,
      subst (λ (z : Plan). IsSound P (at z)) q sound,
      subst (λ (z : Plan). KnowsRemote (at z)) q knows,
      subst (λ (z : Plan). LaysNext z 0 c.lay_next-next.result) q c.lay_next-next.ensures.laid,
      c.pattern-plan.ensures.valid,
      subst (λ (z : Plan). IsPattern z) q c.lay_next-next.ensures.limits,
    )
