use Rattle.std.proofs.Common.{map}
use Rattle.std.proofs.lemmas.List.{map-append}
use Rattle.serde_json.specs.View.{view}
use Rattle.noise_json.proofs.FloatLemmas.{items_whole}
use Rattle.noise_json.proofs.array.Array.with.Goals as goal

pub invariant_of-result : goal.invariant_of-result
invariant_of-result c = record {
  whole = rw (c.in_ok-push.ensures.items, map-append) (items_whole (map view c.args.self.items.items) (view c.args.item.value) c.args.self.whole c.args.item.whole);
}
