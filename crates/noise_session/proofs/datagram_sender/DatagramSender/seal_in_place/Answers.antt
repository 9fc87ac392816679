use Rattle.std.proofs.Common.{rules, ◌≡◌, ◌≤◌, ◌+◌, ◌-◌, ◌++◌, ℕ, length, take, drop, None, refl, ◌∙◌, ap, arith}
use Rattle.noise_session.proofs.Common.{take_rest, w64, to_be_bytes, put_mid, sender_fault}
use Rattle.noise_session.proofs.DatagramSealing.{datagram-sealed}
use Rattle.noise_session.proofs.datagram_sender.DatagramSender.seal_in_place.Goals as goal

pub returns : goal.returns
returns c =
    let h = c.self.inside.sender in
    let n = c.args.payload_len in
    let out = c.args.buffer.now in
    let written = c.seal_in_place.new.buffer in
    let len = c.in-Ok.len in
    let none : sender_fault h n ≡ None = cc c.in_default.ensures.fault in
    let low = c.in_default.ensures.nonce refl in
    let room : n + 24 ≤ length out = search rules in
    record {
      seals = datagram-sealed h c.seal_in_place.new.self c.args.self.now n len c.put_nonce.result (take n (take (length out - 8) (drop 8 out))) (take n (drop 8 out)) out written c.put_nonce.new.out
          c.self.view_is c.self.invariant (omega arith) (ap (take n) (take_rest out 8)) c.in-Ok.ensures.seals c.put_nonce.ensures.len
          (c.put_nonce.ensures.front
          ∙ ap (λ (k : ℕ). to_be_bytes w64 k ++ take len (drop 8 (put_mid 8 (length out - 8) out written))) c.nonce-nonce.ensures)
          c.put_nonce.ensures.beyond;
    }
