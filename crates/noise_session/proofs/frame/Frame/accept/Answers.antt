use Rattle.std.proofs.Common.{rules, ◌≡◌, ℕ, ◌+◌, ◌-◌, ◌≤◌, ◌++◌, length, take, ◌∙◌, subst, arith}
use Rattle.noise_session.proofs.Common.{length-take-le, big_bytes, frame_length}
use Rattle.noise_session.proofs.Growing.{grown-most, grown-within, grown-known, grown-spelled}
use Rattle.noise_session.proofs.frame.Frame.accept.Goals as goal

pub invariant_of-self : goal.invariant_of-self
invariant_of-self c =
    let self = c.args.self.now in
    let xs = self.buffer.items in
    let ys = c.put.new.buffer.items in
    let h = self.partial in
    let n = c.min-count.result in
    let u = c.whole_after-self.result in
    let p = take n c.args.piece.now in
    let low : self.whole ≤ 65537 = self.most in
    let within : h ≤ self.whole = self.within in
    let all : length xs ≡ 65537 = self.room in
    let came : length p ≡ n = length-take-le n c.args.piece.now (omega arith) in
    let joined : take (h + n) ys ≡ take h xs ++ p = subst (λ (k : ℕ). take (h + k) ys ≡ take h xs ++ p) came c.put.ensures.front in
    let read : h + n ≡ 2 → (u ≡ frame_length (take 2 ys)) × (u ≤ 65537) × (take 2 ys ≡ big_bytes 2 (u - 2)) = search rules in
    let fits : h + n ≤ self.whole = omega arith in
    let room : h + n ≤ length xs = omega arith in
    let same : length ys ≡ length xs = c.put.ensures.room in
    record {
      room = same ∙ all;
      fixed = c.put.ensures.fixed ∙ self.fixed;
      most = grown-most xs ys p h n self.whole u joined came room same self.known fits low self.spelled read c.whole_after-self.ensures.unchanged;
      within = grown-within xs ys p h n self.whole u joined came room same self.known fits low self.spelled read c.whole_after-self.ensures.unchanged;
      known = grown-known xs ys p h n self.whole u joined came room same self.known fits low self.spelled read c.whole_after-self.ensures.unchanged;
      spelled = grown-spelled xs ys p h n self.whole u joined came room same self.known fits low self.spelled read c.whole_after-self.ensures.unchanged;
    }
