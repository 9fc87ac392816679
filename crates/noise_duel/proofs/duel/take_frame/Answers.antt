use Rattle.std.proofs.Common.{◌≡◌, ℕ, List, ap, sym, subst, ◌∙◌, Option, None, slice_get, Vec, Global}
use Rattle.std.specs.Option.{option_map}
use Rattle.noise_duel.proofs.Common.{slice_get-map, slice_get_past, HasDelivered}
use Rattle.noise_duel.proofs.Happening.{reported-more}
use Rattle.noise_duel.proofs.duel.take_frame.Goals as goal

pub returns-in_ok-push-in-None : goal.returns-in_ok-push-in-None
returns-in_ok-push-in-None g c s st =
    let none : slice_get c.args.frames.now c.args.number ≡ None = slice_get_past c.args.frames.now c.args.number c.in-None.ensures.lookup.3 in
    subst (λ (found : Option (List ℕ)). HasDelivered g.K.Keys.pairs s c.args.role c.args.number found c.args.end.now
    c.args.entries.now.items c.push.new.self.items)
    (sym (slice_get-map (λ (f : Vec ℕ Global). f.items) c.args.frames.now c.args.number ∙ ap (option_map (λ (f : Vec ℕ Global). f.items)) none))
    (st, reported-more _ _ _ c.in_ok-push-in-None.ensures.items)
