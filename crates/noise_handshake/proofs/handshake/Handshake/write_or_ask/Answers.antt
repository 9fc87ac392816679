use Rattle.std.proofs.Common.{◌≡◌, inl, inr, ap, refl, ℕ, List, length, sym, subst, ◌∙◌, arith, suc}
use Rattle.noise_handshake.proofs.Common.{Err, MatchOption, None, Option, Some, HandshakeValue, HasPsks, IsWantedToWrite, LacksDhResult, Party, WriteFault, party_of, party_with, tokens_due, tokens_now, write_fault}
use Rattle.noise_handshake.specs.Calls.{HandshakeWrites}
use Rattle.noise_handshake.specs.declared.faults.Want.{Want}
use Rattle.noise_handshake.specs.declared.faults.Want.TheVariants as want
use Rattle.noise_handshake.specs.declared.faults.WriteFault.TheVariants as write
use Rattle.noise_handshake.specs.declared.faults.Unwritten.TheVariants as unwritten
use Rattle.noise_handshake.proofs.LateParties.{agrees, writes-partial, speaks-due, lacks-partial}
use Rattle.noise_handshake.proofs.Later.{count-take}
use Rattle.noise_handshake.proofs.NotDue.{still-unwritten}
use Rattle.noise_handshake.proofs.Wrote.{due-not}
use Rattle.noise_handshake.proofs.PskPlaces.{no-place}
use Rattle.noise_handshake.proofs.handshake.Handshake.write_or_ask.Goals as goal
use Rattle.noise_keys.specs.Keys.{KeyPairs}

-- a message that is due isn't withheld
module _ {K : Type 0} (pairs : K → KeyPairs) (h next : HandshakeValue K) (payload out new : List ℕ) (due : write_fault h (length payload) ≡ None)
    (has : HasPsks h) (none : (token : ℕ) → LacksDhResult (party_of pairs h) token → ⊥) where
  written : {B : Type 0} (fault : WriteFault) → HandshakeWrites pairs h payload out (Err fault) next new → B
  written write.Ended w = absurd (due-not pairs h (length payload) due write.Ended (λ x. x) w.0)
  written write.Done w = absurd (due-not pairs h (length payload) due write.Done (λ x. x) w.0)
  written write.NotYourTurn w = absurd (due-not pairs h (length payload) due write.NotYourTurn (λ x. x) w.0)
  written write.TooLong w = absurd (due-not pairs h (length payload) due write.TooLong (λ x. x) w.0)
  written (write.Agreement token) w = absurd (elim w.0.1 [
    | inl lacks ↦ none token lacks.1
    | inr at ↦ no-place (tokens_due h) (length h.psks) token has at
  ])

pub returns-in-Some-clause-writes : goal.returns-in-Some-clause-writes
returns-in-Some-clause-writes g c later =
    let e = sym c.write_fault.ensures.value ∙ c.in-Some.is in
    (still-unwritten g.K.Keys.pairs c.args.self.now c.write_fault.ensures.within later (length c.args.payload.now) c.in-Some.fault e, refl, refl)

pub write_due-requires-clause-psks : goal.write_due-requires-clause-psks
write_due-requires-clause-psks g c =
    c.wants_to_write.ensures.psks (speaks-due c.args.self.now (length c.args.payload.now) (sym c.write_fault.ensures.value ∙ c.in_default.is)) c.in_default-wants_to_write.is

pub returns-in-Ok-clause-writes : goal.returns-in-Ok-clause-writes
returns-in-Ok-clause-writes g c later =
    let P = g.K.Keys.pairs in
    let h = c.args.self.now in
    let q = c.in-Ok.ensures.writes in
    let r = q.1.1 in
    let writes = writes-partial (party_with P later h) h.psks (length h.psks) (agrees P h later) _ r.0 _ q.1.0 r.1 in
    (q.0, (q.1.0, (r.0, writes, r.2)))

pub returns-in-Err-clause-writes : goal.returns-in-Err-clause-writes
returns-in-Err-clause-writes g c later =
    let P = g.K.Keys.pairs in
    let h = c.args.self.now in
    let v : Party = party_with P later h in
    let due : write_fault h (length c.args.payload.now) ≡ None = sym c.write_fault.ensures.value ∙ c.in_default.is in
    let has : HasPsks h = c.wants_to_write.ensures.psks (speaks-due h (length c.args.payload.now) due) c.in_default-wants_to_write.is in
    let lacks = subst (λ (o : Option Want). MatchOption o ((token : ℕ) → LacksDhResult v token → ⊥) (λ want. IsWantedToWrite v (length h.psks) want))
    c.in_default-wants_to_write.is (c.wants_to_write.ensures.wants later) in
    written P h c.write_due.new.self c.args.payload.now c.args.out.now c.write_due.new.out due has
    (λ token l. lacks token (lacks-partial v h.psks (length h.psks) (agrees P h later) token
    (omega (arith, has, count-take (tokens_now v) (suc token))) l)) c.in-Err.fault c.in-Err.ensures.writes

pub returns-in-Some-wants_to_write-clause-writes : goal.returns-in-Some-wants_to_write-clause-writes
returns-in-Some-wants_to_write-clause-writes g c later =
    let n : ℕ = length c.args.self.now.psks in
    let v : Party = party_with g.K.Keys.pairs later c.args.self.now in (
      (
        sym c.write_fault.ensures.value ∙ c.in_default.is,
        subst (λ (o : Option Want). MatchOption o ((token : ℕ) → LacksDhResult v token → ⊥) (λ want. IsWantedToWrite v n want)) c.in-Some-wants_to_write.is
            (c.wants_to_write.ensures.wants later),
      ),
      refl,
      refl,
    )

pub returns-in-Some-wants_to_write-clause-asked : goal.returns-in-Some-wants_to_write-clause-asked
returns-in-Some-wants_to_write-clause-asked g c due later x =
    let psk : Want = want.Psk c.args.self.now.remote.s in
    let e : Some c.in-Some-wants_to_write.want ≡ Some psk = sym c.in-Some-wants_to_write.is ∙ c.wants_to_write.ensures.asked later x in
    let same : c.in-Some-wants_to_write.want ≡ psk = cc in
    ap (λ (w : Want). Err (unwritten.Wants w)) same
