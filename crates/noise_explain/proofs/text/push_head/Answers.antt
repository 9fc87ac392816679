use Rattle.std.proofs.Common.{◌≡◌, ◌∙◌, ap, codes, rules}
use Rattle.noise_names.specs.Names.{name_bytes}
use Rattle.noise_explain.specs.Template.{name_of}
use Rattle.noise_explain.proofs.PushLemmas.{head-pushed, on-ok}
use Rattle.noise_explain.proofs.text.push_head.Goals as goal

pub returns : goal.returns
returns c =
    let p = c.args.pattern.now in
    let first : c.as_slice.result.now ≡ codes "vector 1\nprotocol " = search rules in
    let name : c.deref.result.now ≡ name_bytes (name_of p) = c.deref.ensures.0 ∙ c.write.ensures.written ∙ ap name_bytes c.name.ensures in
    let prologue : c.as_slice-2.result.now ≡ codes "prologue " = search rules in
    let last : c.as_slice-3.result.now ≡ codes "\ninterval 0\n" = search rules in
    on-ok c.extend_from_slice-4.result _ _ _ _ c.extend_from_slice-4.ensures.items
    (head-pushed c.args.given.now p _ _ _ _ _ _ _ _ _ _ _ _ first name prologue last c.in_ok-extend_from_slice.ensures.items c.in_ok-extend_from_slice-2.ensures.items
    c.in_ok-push.ensures.items c.in_ok-push_block.ensures c.in_ok-extend_from_slice-3.ensures.items c.in_ok-push_bytes.ensures.appended)
