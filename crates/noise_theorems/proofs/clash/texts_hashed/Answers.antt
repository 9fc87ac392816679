use Rattle.std.proofs.Common.{rules, ◌≡◌, ◌∙◌, ℕ, ◌+◌, List, ◌∷◌, ◌++◌, ap, sym, subst, reverse, take, []}
use Rattle.noise_theorems.proofs.Common.{take_all, take_more, Global, Vec, History, state_of_history, bytes_of}
use Rattle.noise_state.specs.Symmetric.{mix_hash}
use Rattle.noise_state.specs.declared.symmetric.SymmetricState.{SymmetricState}
use Rattle.noise_theorems.proofs.Mixed.{Mixes, mixes-more, mixing, texts-mixed}
use Rattle.noise_theorems.proofs.clash.texts_hashed.Goals as goal

pub loop-piece-preserved : goal.loop-piece-preserved
loop-piece-preserved c =
    let i : ℕ = c.loop-piece.piece-index in
    let name = c.args.name.now in
    let mixed = c.args.mixed.now in
    let piece : Vec ℕ Global = c.piece-item.result in
    let text : Vec ℕ Global = c.extend_from_slice.new.self in
    let r : History = mixing name (reverse (bytes_of (take i mixed))) in
    let more : take (i + 1) mixed ≡ take i mixed ++ piece ∷ [] =
    take_more mixed i piece c.loop-piece-test.true ∙ ap (λ (v : Vec ℕ Global). take i mixed ++ v ∷ []) (sym c.piece-item.is) in
    let is-text : text.items ≡ c.hash.result ++ piece.items = search rules in
    let matches : c.mix_hash.new.self ≡ mix_hash (state_of_history r) piece.items =
    subst (λ (t : List ℕ). c.mix_hash.new.self ≡ mix_hash (state_of_history r) t) c.deref-in-loop-piece.ensures.value
    (c.mix_hash.ensures ∙ ap (λ (z : SymmetricState). mix_hash z c.deref-in-loop-piece.result.now) c.loop-piece.invariant.matches) in
    subst (λ (pieces : List (Vec ℕ Global)). Mixes name pieces c.mix_hash.new.self c.push.new.self.items) (sym more)
    (subst (λ (texts : List (Vec ℕ Global)). Mixes name (take i mixed ++ piece ∷ []) c.mix_hash.new.self texts) (sym c.in_ok-push.ensures.items)
    (mixes-more name (take i mixed) c.loop-piece.texts.items piece text c.loop-piece.state c.mix_hash.new.self c.hash.result c.loop-piece.invariant
    (c.hash.ensures ∙ ap (λ (z : SymmetricState). z.hash) c.loop-piece.invariant.matches) is-text matches))

pub returns : goal.returns
returns c = search (rules, mixing, reverse, take_all, texts-mixed)
