use Rattle.std.proofs.Common.{◌≡◌, ℕ, List, [], ◌∷◌, ◌++◌, sym, ap, subst, ◌∙◌, arith, length}
use Rattle.std.specs.Prelude.{None}
use Rattle.noise_trace.proofs.Common.{Bool, not, Token, Initiator, Responder, Plan, has_psk, pre_of, SymmetricState, mix_hash, Remote, keys_of, public_keys, setup_fault}
use Rattle.noise_names.specs.Names.{name_bytes}
use Rattle.noise_trace.specs.Start.{start_step, start_steps}
use Rattle.noise_trace.specs.inner.PreMessages.{HasKeysFor, Mixes}
use Rattle.noise_trace.proofs.PreMessages.{few-keys, flips, has-keys, made-is, in-turn}
use Rattle.noise_trace.proofs.start.start_steps.Goals as goal
use Rattle.noise_state.specs.Symmetric.{initialize}
use Rattle.noise_trace.specs.declared.start_step.StartPart.TheVariants as part

pub returns : goal.returns
returns g c n none =
    let p : Plan = c.pattern-plan.result.now in
    let own = (g.K.Keys.pairs c.args.keys.now).public in
    let known : Remote = c.args.remote.now in
    let same : p ≡ c.args.pattern.now = c.pattern-plan.ensures.value in
    let fault : setup_fault p c.args.role own known n ≡ None =
    subst (λ (z : Plan). setup_fault z c.args.role own known n ≡ None) (sym same) none in
    let b : Bool = not c.is_plain-has_psks.result in
    let has_psks : b ≡ has_psk p = flips c.is_plain-has_psks.result (has_psk p) c.is_plain-has_psks.ensures in
    let name : List ℕ = c.deref.result.now in
    let named = c.deref.ensures.0 ∙ c.write-name.ensures.written ∙ ap name_bytes c.name.ensures in
    let first : List Token = c.pre-first.result.now in
    let second : List Token = c.pre-second.result.now in
    let prologue : List ℕ = c.args.prologue.now in
    let initiator : Remote = c.keys_of-initiator.result in
    let responder : Remote = c.keys_of-responder.result in
    let ours : Remote = public_keys own in
    let ei : initiator ≡ keys_of Initiator c.args.role ours known =
    c.keys_of-initiator.ensures ∙ ap (λ (z : Remote). keys_of Initiator c.args.role z known) c.public_keys-own.ensures in
    let er : responder ≡ keys_of Responder c.args.role ours known =
    c.keys_of-responder.ensures ∙ ap (λ (z : Remote). keys_of Responder c.args.role z known) c.public_keys-own.ensures in
    let whole = c.setup_is_whole.ensures.own p c.args.role own known n fault in
    let remote = c.setup_is_whole.ensures.remote p c.args.role own known n fault in
    let ki = has-keys p own known (c.tokens_match.ensures.before p) Initiator c.args.role whole remote in
    let kr = has-keys p own known (c.tokens_match.ensures.before p) Responder c.args.role whole remote in
    let r0 : SymmetricState = initialize name in
    let r1 : SymmetricState = mix_hash r0 prologue in
    let s0 = c.new-state.ensures in
    let s1 = c.mix_hash.ensures ∙ ap (λ (z : SymmetricState). mix_hash z prologue) s0 in
    let a = subst (λ (z : SymmetricState). Mixes b Initiator initiator first z c.mix_keys.new.state c.add_step-2.new.steps.items c.mix_keys.new.steps.items) s1
    (c.mix_keys.ensures.mixed (subst (λ (z : Remote). HasKeysFor z first) (sym ei) (subst (λ (ts : List Token). HasKeysFor (keys_of Initiator c.args.role ours known) ts) (sym c.pre-first.ensures.value) ki))) in
    let d = subst (λ (z : SymmetricState). Mixes b Responder responder second z c.mix_keys-2.new.state c.mix_keys.new.steps.items c.mix_keys-2.new.steps.items)
    a.0 (c.mix_keys-2.ensures.mixed (subst (λ (z : Remote). HasKeysFor z second) (sym er) (subst (λ (ts : List Token). HasKeysFor (keys_of Responder c.args.role ours known) ts) (sym c.pre-second.ensures.value) kr))) in
    let all : c.mix_keys-2.new.steps.items ≡ start_steps p c.args.role prologue ours known =
    in-turn b first second name prologue initiator responder c.new-steps.result.items c.add_step.new.steps.items c.add_step-2.new.steps.items
    c.mix_keys.new.steps.items c.mix_keys-2.new.steps.items c.new-steps.ensures
    (c.add_step.ensures.after ∙ ap (λ (z : SymmetricState). c.new-steps.result.items ++ start_step part.Name z ∷ []) s0)
    (c.add_step-2.ensures.after ∙ ap (λ (z : SymmetricState). c.add_step.new.steps.items ++ start_step part.Prologue z ∷ []) s1) a.1 d.1
    ∙ made-is p b first second name prologue initiator responder (keys_of Initiator c.args.role ours known) (keys_of Responder c.args.role ours known)
    has_psks c.pre-first.ensures.value c.pre-second.ensures.value named ei er in
    subst (λ (z : Plan). c.mix_keys-2.new.steps.items ≡ start_steps z c.args.role prologue ours known) same all

pub mix_keys-requires-2 : goal.mix_keys-requires-2
mix_keys-requires-2 g c = record {
  room =
      let p : Plan = c.pattern-plan.result.now in
      omega (
        arith,
        ap length c.new-steps.ensures,
        c.add_step.ensures.len,
        c.add_step-2.ensures.len,
        c.mix_keys.ensures.many,
        ap length c.pre-first.ensures.value,
        few-keys (pre_of Initiator p) c.pre-first.ensures.kinds,
        ap length c.pre-second.ensures.value,
        few-keys (pre_of Responder p) c.pre-second.ensures.kinds,
      );
}
