use Rattle.std.proofs.Common.{◌≡◌, ◌≤◌, ◌<◌, ℕ, List, [], ◌++◌, length, take, Ok, Err, Result, refl, sym, ◌∙◌, ap, subst, arith}
use Rattle.std.proofs.lemmas.List.{take-append-le}
use Rattle.noise_session.proofs.Common.{length-take-le, take-take, err_from_is_err_and, Appends, SendFault, EndMatches, ended_session, after_fault}
use Rattle.noise_session.specs.Outputs.{Puts}
use Rattle.noise_session.specs.Outputs.Puts.{whole, broken, refused}
use Rattle.noise_session.proofs.Streaming.{appended_none}
use Rattle.noise_session.proofs.Parties.{phase-ended}
use Rattle.noise_session.proofs.end.End.write_to.Goals as goal

-- the front of a buffer whose front was written
front-of : (out rest : List ℕ) (n len : ℕ) → n ≤ len → n ≤ length out → take n (take len (out ++ rest)) ≡ take n out
front-of out rest n len f g = take-take n len (out ++ rest) f ∙ take-append-le n out rest g

pub returns-in_err-len-clause-writes : goal.returns-in_err-len-clause-writes
returns-in_err-len-clause-writes g c v s =
    let t : EndMatches g.K.Keys.pairs _ v = subst (λ u. EndMatches g.K.Keys.pairs u v) (sym c.self.view_is) s in
    let e = c.in_err-len.ensures.writes.sends v t in
    let fault = c.in_err-len.field-0.0 in
    let p = err_from_is_err_and c.from_residual.result c.from_residual.ensures.1 in
    let same : c.from_residual.result ≡ Err fault = p.1 ∙ ap (λ f. Err f) p.2 in (
      [],
      after_fault v fault,
      subst (λ (r : Result ℕ SendFault). Puts v c.args.payload.now r [] (after_fault v fault)) (sym same)
          (refused v (after_fault v fault) c.args.payload.now fault e.0),
      appended_none _,
      e.1,
    )

pub returns-in-Ok-clause-writes : goal.returns-in-Ok-clause-writes
returns-in-Ok-clause-writes g c v s =
    let t : EndMatches g.K.Keys.pairs _ v = subst (λ u. EndMatches g.K.Keys.pairs u v) (sym c.self.view_is) s in
    let w = c.in_ok-len.ensures.writes.sends v t in
    let len = c.in_ok-len.len in
    let frame = take len c.send.new.out in
    let vec = c.self.inside.outgoing.ok.0 in
    let room = c.self.invariant.room in
    let fits : len ≤ length c.send.new.out = c.in_ok-len.ensures.writes.len.1 in
    let lent = c.deref_mut.ensures.len in
    let same = c.send.auto.out in
    let handed : take len c.deref.result.now ≡ frame =
    ap (take len) c.deref.ensures.value ∙ front-of c.send.new.out _ len c.self.inside.outgoing.len (omega arith) fits in
    let count : length frame ≡ len = length-take-le len c.send.new.out c.in_ok-len.ensures.writes.len.1 in (
      frame,
      w.0,
      subst (λ (k : ℕ). Puts v c.args.payload.now (Ok k) frame w.0) count (whole v w.0 c.args.payload.now frame w.1),
      subst (Appends _ _) handed c.in-Ok.ensures.written,
      w.2,
    )

pub returns-in-Err-clause-writes : goal.returns-in-Err-clause-writes
returns-in-Err-clause-writes g c v s =
    let t : EndMatches g.K.Keys.pairs _ v = subst (λ u. EndMatches g.K.Keys.pairs u v) (sym c.self.view_is) s in
    let w = c.in_ok-len.ensures.writes.sends v t in
    let len = c.in_ok-len.len in
    let written = c.in-Err.written in
    let frame = take len c.send.new.out in
    let vec = c.self.inside.outgoing.ok.0 in
    let room = c.self.invariant.room in
    let fits : len ≤ length c.send.new.out = c.in_ok-len.ensures.writes.len.1 in
    let lent = c.deref_mut.ensures.len in
    let same = c.send.auto.out in
    let handed : take len c.deref.result.now ≡ frame =
    ap (take len) c.deref.ensures.value ∙ front-of c.send.new.out _ len c.self.inside.outgoing.len (omega arith) fits in
    let less : written < length frame = subst (λ (xs : List ℕ). written < length xs) handed c.in-Err.ensures.written.0 in
    let ended_party : EndMatches g.K.Keys.pairs _ (ended_session w.0) =
    subst (λ e. EndMatches g.K.Keys.pairs e (ended_session w.0)) (sym c.end.ensures)
    (record { phase = phase-ended g.K.Keys.pairs c.send.new.self.phase w.0 w.2.phase; partial = refl }) in (
      take written frame,
      ended_session w.0,
      broken v w.0 c.args.payload.now frame written w.1 less,
      subst (Appends _ _) (ap (take written) handed) c.in-Err.ensures.written.1,
      ended_party,
    )
