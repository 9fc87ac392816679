use Rattle.std.proofs.Common.{◌==◌, rules, tests}
use Rattle.std.specs.Prelude.{codes, not}
use Rattle.std.proofs.lemmas.Iterator.Consumers.{YieldsList-from_filter, count_from_yields_List}
use Rattle.std.proofs.lemmas.Iterator.Splits.{YieldsList-from_slice_split}
use Rattle.noise_explain.specs.AdviceFacts.{begins}
use Rattle.noise_explain.proofs.text_advice.own_count.Goals as goal

pub returns : goal.returns
returns c =
    count_from_yields_List _ _ c.count.ensures.ran
    (YieldsList-from_filter _ (λ word. not (begins word (codes "psk")))
    (YieldsList-from_slice_split _ (λ b. b == 32) c.args.list.now (cc) (cc) c.split.ensures.closure (λ x r q k. search (rules, tests)))
    c.filter.ensures.closure (λ x r q k. search (rules, tests)))
