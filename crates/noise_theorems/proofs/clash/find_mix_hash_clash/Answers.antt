use Rattle.std.proofs.Common.{rules, ◌∙◌, reverse, arith}
use Rattle.noise_theorems.proofs.Common.{History, bytes_of}
use Rattle.noise_theorems.proofs.Mixed.{both-within, clash-at, has-mixed, is-hash-clash, mixing}
use Rattle.noise_theorems.proofs.clash.find_mix_hash_clash.Goals as goal

pub swap_remove-requires : goal.swap_remove-requires
swap_remove-requires c =
    let name = c.args.name.now in
    let first = c.in_ok-first.first.items in
    let second = c.in_ok-second.second.items in
    let r : History = mixing name (reverse (bytes_of c.args.left.now)) in
    let s : History = mixing name (reverse (bytes_of c.args.right.now)) in
    let e = c.in_ok-first.ensures r (has-mixed name (bytes_of c.args.left.now)) in
    let f = c.in_ok-second.ensures s (has-mixed name (bytes_of c.args.right.now)) in
    let at = clash-at r s first second c.deref.result.now c.deref-2.result.now c.find_clash.result e f c.deref.ensures.value c.deref-2.ensures.value
    c.find_clash.ensures ∙ c.in-Some.is in
    let both = both-within c.clash_reported.ensures.matches r s c.in-Some.position first second e f at in
    omega (arith, both.0)

pub swap_remove-requires-in-Some : goal.swap_remove-requires-in-Some
swap_remove-requires-in-Some c =
    let name = c.args.name.now in
    let first = c.in_ok-first.first.items in
    let second = c.in_ok-second.second.items in
    let r : History = mixing name (reverse (bytes_of c.args.left.now)) in
    let s : History = mixing name (reverse (bytes_of c.args.right.now)) in
    let e = c.in_ok-first.ensures r (has-mixed name (bytes_of c.args.left.now)) in
    let f = c.in_ok-second.ensures s (has-mixed name (bytes_of c.args.right.now)) in
    let at = clash-at r s first second c.deref.result.now c.deref-2.result.now c.find_clash.result e f c.deref.ensures.value c.deref-2.ensures.value
    c.find_clash.ensures ∙ c.in-Some.is in
    let both = both-within c.clash_reported.ensures.matches r s c.in-Some.position first second e f at in
    omega (arith, both.1)

pub returns-in-Some : goal.returns-in-Some
returns-in-Some c = record {
  found = (λ r s h k.
      let first = c.in_ok-first.first.items in
      let second = c.in_ok-second.second.items in
      let e = c.in_ok-first.ensures r h in
      let f = c.in_ok-second.ensures s k in
      let at = clash-at r s first second c.deref.result.now c.deref-2.result.now c.find_clash.result e f c.deref.ensures.value c.deref-2.ensures.value
      c.find_clash.ensures ∙ c.in-Some.is in
      let both = both-within c.clash_reported.ensures.matches r s c.in-Some.position first second e f at in
      is-hash-clash c.clash_reported.ensures.matches r s
      (record { position = c.in-Some.position; left = c.swap_remove.result; right = c.swap_remove-in-Some.result }) first second e f at both.0 both.1
      c.swap_remove.ensures.value c.swap_remove-in-Some.ensures.value);
}

pub returns : goal.returns
returns c = search (rules, clash-at)
