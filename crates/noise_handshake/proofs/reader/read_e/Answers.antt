use Rattle.std.proofs.Common.{◌≡◌, ◌++◌, ℕ, List, length, take, drop, sym, ap, refl, ◌∙◌, arith, length-take}
use Rattle.noise_handshake.proofs.Common.{take-append-drop}
use Rattle.noise_handshake.proofs.reader.read_e.Goals as goal

pub returns-clause-read : goal.returns-clause-read
returns-clause-read c =
    let k : List ℕ = c.in-Some.key.now in
    let m : List ℕ = c.args.message.now in
    let e : k ≡ take 32 m = c.in-Some.ensures.cases.0 in
    let long : length k ≡ 32 = omega (arith, ap length e, length-take 32 m, c.in-Some.ensures.cases.2) in
    (k, long, sym (take-append-drop 32 m) ∙ ap (λ (z : List ℕ). z ++ drop 32 m) (sym e), c.mix_ephemeral.ensures.mixed, refl)
