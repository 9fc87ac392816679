use Rattle.std.proofs.Common.{rules, ◌≡◌, ◌+◌, ◌-◌, ◌≤◌, length, take, ◌∙◌, arith}
use Rattle.noise_session.proofs.Common.{big_bytes, frame_length}
use Rattle.noise_session.proofs.Growing.{grown-most, grown-within, grown-known, grown-spelled}
use Rattle.noise_session.proofs.frame.Frame.read_up.Goals as goal

pub invariant_of-self : goal.invariant_of-self
invariant_of-self g c =
    let self = c.args.self.now in
    let xs = self.buffer.items in
    let ys = c.read_into-count.new.buffer.items in
    let h = self.partial in
    let n = c.read_into-count.result.0 in
    let u = c.whole_after-self.result in
    let r = c.read_into-count.ensures.bytes in
    let p = r.0 in
    let low : self.whole ≤ 65537 = self.most in
    let within : h ≤ self.whole = self.within in
    let all : length xs ≡ 65537 = self.room in
    let read : h + n ≡ 2 → (u ≡ frame_length (take 2 ys)) × (u ≤ 65537) × (take 2 ys ≡ big_bytes 2 (u - 2)) = search rules in
    let came : n ≤ self.whole - h = c.read_into-count.ensures.within in
    let fits : h + n ≤ self.whole = omega arith in
    let room : h + n ≤ length xs = omega arith in
    let same : length ys ≡ length xs = c.read_into-count.ensures.room in
    record {
      room = same ∙ all;
      fixed = c.read_into-count.ensures.fixed ∙ self.fixed;
      most = grown-most xs ys p h n self.whole u r.3 r.2 room same self.known fits low self.spelled read c.whole_after-self.ensures.unchanged;
      within = grown-within xs ys p h n self.whole u r.3 r.2 room same self.known fits low self.spelled read c.whole_after-self.ensures.unchanged;
      known = grown-known xs ys p h n self.whole u r.3 r.2 room same self.known fits low self.spelled read c.whole_after-self.ensures.unchanged;
      spelled = grown-spelled xs ys p h n self.whole u r.3 r.2 room same self.known fits low self.spelled read c.whole_after-self.ensures.unchanged;
    }
