use Rattle.serde_json.specs.View.{view, members_view}
use Rattle.noise_json.proofs.FloatLemmas.{members_whole}
use Rattle.noise_json.proofs.object.Object.with.Goals as goal

pub invariant_of-result : goal.invariant_of-result
invariant_of-result c = record {
  whole = rw c.in_ok-put.ensures.ok (members_whole c.args.name.now (view c.args.value.value) (members_view c.args.self.members.entries) c.args.value.whole c.args.self.whole);
}
