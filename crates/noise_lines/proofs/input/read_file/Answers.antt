use Rattle.std.proofs.Common.{rules, arith, ◌≡◌, ◌+◌, ◌<◌, ◌≤◌, inr, refl, sym, subst, ℕ, List, ◌++◌, Option, length, take}
use Rattle.noise_lines.proofs.Common.{Consumes, Consumes-kept, Consumes-nil, Consumes-trans, length-append, length-take}
use Rattle.noise_lines.proofs.InputLemmas.{all-read, long-read}
use Rattle.noise_lines.proofs.input.read_file.Goals as goal

-- how many bytes a read asks for
room-of : (piece whole : List ℕ) (most : ℕ) → length piece ≡ length (take most whole) → most ≤ length whole → length piece ≡ most
room-of piece whole most same less = omega (arith, same, length-take most whole, less)

-- what it gives is no more than one byte beyond the limit
read-few : (a b c : Option (List ℕ)) (text piece : List ℕ) (count : ℕ) → Consumes a b text → Consumes b c (take count piece)
    → (count ≤ length piece) × (count ≡ length (take count piece)) → length text + length piece ≤ 4194305
    → (taken : List ℕ) × Consumes a c taken × (length taken ≤ 4194305)
read-few a b c text piece count p q bound few =
    (text ++ take count piece, Consumes-trans a b c text (take count piece) p q, omega (arith, length-append text (take count piece), bound.0, bound.1, few))

pub loop-init : goal.loop-init
loop-init g c =
    let known = g.R.Read.remaining c.args.file.now in
    record {
      few = omega (arith, c.new-text.ensures.len);
      wide = search rules;
      taken = subst (λ (bytes : List ℕ). Consumes known known bytes) (sym c.new-text.ensures.items) (Consumes-nil known);
    }

pub returns-in_err-count-clause-taken : goal.returns-in_err-count-clause-taken
returns-in_err-count-clause-taken g c =
    let few : length c.loop.text.items ≤ 4194305 = omega (arith, c.loop.invariant.few, c.loop.text.ok.0) in
    (c.loop.text.items, Consumes-kept _ _ _ _ c.loop.invariant.taken c.in_err-count.ensures.bytes, few)

pub returns-then-count-eq0-clause-bytes : goal.returns-then-count-eq0-clause-bytes
returns-then-count-eq0-clause-bytes g c =
    let room = room-of c.read_some.new.piece c.deref_mut.result.now c.min-most.result c.read_some.auto.piece
    (omega (arith, c.deref_mut.ensures.len, c.loop.invariant.wide, c.min-most.ensures)) in
    let some : 0 < length c.read_some.new.piece = omega (arith, c.loop.invariant.few, room, c.min-most.ensures, c.len.ensures) in
    all-read _ _ _ c.loop.text.items c.read_some.new.piece c.in_ok-count.count c.if-count-eq0.true c.loop.invariant.taken c.in_ok-count.ensures.bytes.0
    (c.in_ok-count.ensures.bytes.1 c.if-count-eq0.true some)

pub returns-then-count-eq0-clause-taken : goal.returns-then-count-eq0-clause-taken
returns-then-count-eq0-clause-taken g c =
    let room = room-of c.read_some.new.piece c.deref_mut.result.now c.min-most.result c.read_some.auto.piece
    (omega (arith, c.deref_mut.ensures.len, c.loop.invariant.wide, c.min-most.ensures)) in
    read-few _ _ _ c.loop.text.items c.read_some.new.piece c.in_ok-count.count c.loop.invariant.taken c.in_ok-count.ensures.bytes.0 c.in_ok-count.ensures.bound
    (omega (arith, room, c.min-most.ensures, c.len.ensures, c.loop.text.ok.0, c.loop.invariant.few))

pub returns-in_err-extend_from_slice-clause-taken : goal.returns-in_err-extend_from_slice-clause-taken
returns-in_err-extend_from_slice-clause-taken g c =
    let room = room-of c.read_some.new.piece c.deref_mut.result.now c.min-most.result c.read_some.auto.piece
    (omega (arith, c.deref_mut.ensures.len, c.loop.invariant.wide, c.min-most.ensures)) in
    read-few _ _ _ c.loop.text.items c.read_some.new.piece c.in_ok-count.count c.loop.invariant.taken c.in_ok-count.ensures.bytes.0 c.in_ok-count.ensures.bound
    (omega (arith, room, c.min-most.ensures, c.len.ensures, c.loop.text.ok.0, c.loop.invariant.few))

pub returns-then-len-gt-LIMIT-clause-fault : goal.returns-then-len-gt-LIMIT-clause-fault
returns-then-len-gt-LIMIT-clause-fault g c =
    let grown : c.extend_from_slice.new.self.items ≡ c.loop.text.items ++ take c.in_ok-count.count c.read_some.new.piece = search rules in
    let whole = c.extend_from_slice.new.self.ok.0 in
    let long : 4194304 < length c.extend_from_slice.new.self.items = omega (arith, c.if-len-gt-LIMIT.true, c.len-in-loop.ensures, whole) in
    inr (
      refl,
      long-read _ _ _ 4194304 (Consumes-trans _ _ _ _ _ c.loop.invariant.taken c.in_ok-count.ensures.bytes.0)
          (subst (λ (text : List ℕ). 4194304 < length text) grown long),
    )

pub returns-then-len-gt-LIMIT-clause-taken : goal.returns-then-len-gt-LIMIT-clause-taken
returns-then-len-gt-LIMIT-clause-taken g c =
    let room = room-of c.read_some.new.piece c.deref_mut.result.now c.min-most.result c.read_some.auto.piece
    (omega (arith, c.deref_mut.ensures.len, c.loop.invariant.wide, c.min-most.ensures)) in
    read-few _ _ _ c.loop.text.items c.read_some.new.piece c.in_ok-count.count c.loop.invariant.taken c.in_ok-count.ensures.bytes.0 c.in_ok-count.ensures.bound
    (omega (arith, room, c.min-most.ensures, c.len.ensures, c.loop.text.ok.0, c.loop.invariant.few))

pub loop-preserved : goal.loop-preserved
loop-preserved g c =
    let grown : c.extend_from_slice.new.self.items ≡ c.loop.text.items ++ take c.in_ok-count.count c.read_some.new.piece = search rules in
    let before = g.R.Read.remaining c.args.file.now in
    let after = g.R.Read.remaining c.read_some.new.file in
    record {
      few = omega (arith, c.if-len-gt-LIMIT.false, c.len-in-loop.ensures);
      wide = search rules;
      taken = subst (λ (bytes : List ℕ). Consumes before after bytes) (sym grown)
          (Consumes-trans _ _ _ _ _ c.loop.invariant.taken c.in_ok-count.ensures.bytes.0);
    }

pub returns-clause-taken : goal.returns-clause-taken
returns-clause-taken g c =
    let few : length c.loop.text.items ≤ 4194305 = omega (arith, c.loop.invariant.few, c.loop.text.ok.0) in
    (c.loop.text.items, c.loop.invariant.taken, few)
