use Rattle.std.proofs.Common.{◌≡◌, ◌≤◌, ◌∷◌, ◌++◌, ℕ, List, arith, length, take, sym, ap, subst, ◌∙◌, []}
use Rattle.noise_duel.proofs.Common.{DatagramsValue, DatagramsMatch, seals_nothing, sealed_datagrams, sealing}
use Rattle.noise_duel.proofs.DatagramHappening.{fault-in-state, no-fault, number-is, one-more-in, seals-as, that-fault}
use Rattle.noise_duel.proofs.Linking.{front-of, frames-unchanged}
use Rattle.noise_duel.proofs.datagram_party.seal.Goals as goal

pub returns-in_ok-push-in-Ok : goal.returns-in_ok-push-in-Ok
returns-in_ok-push-in-Ok c s p unchanged =
    let payload = c.args.payload.now in
    let made = c.in-Ok.ensures.seals.half.seals s.state p.sender in
    let bytes = take c.in-Ok.len c.seal.new.out in
    let none = sym (fault-in-state c.args.datagrams.now s.state (length payload) p) ∙ no-fault _ c.in-Ok.len c.in-Ok.ensures.seals.half.fault in
    let number : length s.sealed ≡ c.len-number.result =
    number-is s c.args.sealed.now.items unchanged ∙ sym (c.len-number.ensures ∙ c.args.sealed.now.ok.0) in
    let room : c.in-Ok.len ≤ c.in_ok-datagram.datagram.len =
    omega (arith, c.in-Ok.ensures.seals.half.len.1, c.as_mut_slice.ensures.len, c.in_ok-datagram.ensures.len, c.seal.auto.out) in
    let written : c.truncate.new.self.items ≡ bytes =
    c.truncate.ensures.items ∙ front-of c.seal.new.out _ c.in-Ok.len c.in_ok-datagram.datagram.len room c.in-Ok.ensures.seals.half.len.1 in
    let reported = c.in_ok-reported-in-Ok.ensures.items ∙ c.as_slice.ensures.value ∙ written ∙ made.0 in
    record {
      next = sealing s payload;
      seals = seals-as s payload c.in_ok-reported-in-Ok.reported.items c.len-number.result none number (sym reported);
      matches = c.in-Ok.ensures.seals.matches s.state p;
      sealed_match = frames-unchanged c.args.sealed.now.items c.push.new.self.items c.truncate.new.self bytes (sealed_datagrams s) (sealed_datagrams (sealing s payload))
          c.in_ok-push-in-Ok.ensures.items written unchanged
          (one-more-in s payload ∙ ap (λ (b : List ℕ). sealed_datagrams s ++ b ∷ []) (sym made.0));
    }

pub returns-in-Err : goal.returns-in-Err
returns-in-Err c s p unchanged = record {
  next = s;
  seals = seals_nothing s c.args.payload.now c.in-Err.fault
      (sym (fault-in-state c.args.datagrams.now s.state (length c.args.payload.now) p) ∙ that-fault _ c.in-Err.fault c.in-Err.ensures.seals.half.fault);
  matches = subst (λ (d : DatagramsValue). DatagramsMatch d s.state) (sym c.in-Err.ensures.seals.unchanged) p;
  sealed_match = unchanged;
}
