use Rattle.std.proofs.Common.{rules, ◌≡◌, ◌≤◌, ◌∙◌, ◌+◌, sym, ℕ, List, length, map, string_bytes, take}
use Rattle.noise_tool.proofs.ExplainLemmas.{explains-all, explains-first, said-more}
use Rattle.noise_tool.proofs.TestingLemmas.{name-more}
use Rattle.noise_tool.proofs.explanation.explain_files.Goals as goal

pub loop-name-preserved : goal.loop-name-preserved
loop-name-preserved g c =
    let i = c.loop-name.name-index in
    let names = c.args.names.now in
    let before : List (List ℕ) = map string_bytes (take i names) in
    let all : List (List ℕ) = map string_bytes (take (i + 1) names) in
    let few = rw c.in-Some.is at c.in_ok-explained.ensures.bound in
    let right = rw c.in-Some.is at c.in_ok-explained.ensures.explained in
    let all_is = name-more names i c.name-item.result c.as_str.result.now c.loop-name-test.true c.name-item.is c.as_str.ensures.value in
    said-more c.args.fixes (g.F.FilesByName.bytes_at c.args.files.now) (g.F.FilesByName.unreadable c.args.files.now) before all c.as_str.result.now _ _
    c.loop-name.status _ c.in-Some.explained all_is c.loop-name.invariant right few (search rules) c.worse-status.ensures

pub returns-in_default-clause-made : goal.returns-in_default-clause-made
returns-in_default-clause-made g c =
    let i = c.loop-name.name-index in
    let names = c.args.names.now in
    let same : c.as_str-in_default.result.now ≡ c.as_str.result.now = c.as_str-in_default.ensures.value ∙ sym c.as_str.ensures.value in
    explains-first c.args.fixes (g.F.FilesByName.bytes_at c.args.files.now) (g.F.FilesByName.unreadable c.args.files.now) names i c.name-item.result
    c.as_str.result.now _ c.loop-name.status _ c.loop-name-test.true c.name-item.is c.as_str.ensures.value c.loop-name.invariant
    (rw c.in_default.is at c.in_ok-explained.ensures.unread) (search rules) (search rules) (search rules)

pub returns-clause-made : goal.returns-clause-made
returns-clause-made g c =
    let i = c.loop-name.name-index in
    let names = c.args.names.now in
    let past : length names ≤ i = search rules in
    explains-all c.args.fixes (g.F.FilesByName.bytes_at c.args.files.now) (g.F.FilesByName.unreadable c.args.files.now) names i _ c.loop-name.status _ past
    c.loop-name.invariant c.output.ensures.out c.output.ensures.err c.output.ensures.status
