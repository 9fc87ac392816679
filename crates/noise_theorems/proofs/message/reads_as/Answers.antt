use Rattle.std.proofs.Common.{List, ℕ, Ok, Err, ap, inl, inr}
use Rattle.noise_handshake.specs.Calls.{IsNotRead}
use Rattle.noise_handshake.specs.HandshakeValue.{HandshakeValue}
use Rattle.noise_handshake.specs.Late.{LacksPskAt}
use Rattle.noise_handshake.specs.Matching.{DoesNotRead, party_of}
use Rattle.noise_handshake.specs.declared.faults.ReadFault.{ReadFault}
use Rattle.noise_handshake.specs.declared.faults.ReadFault.TheVariants as read
use Rattle.noise_keys.specs.Keys.{KeyPairs}
use Rattle.noise_theorems.proofs.Common.{slice_range}
use Rattle.noise_theorems.proofs.message.reads_as.Goals as goal

-- what isn't read with the psks of the message the party doesn't accept
module _ {K : Type 0} (pairs : K → KeyPairs) (h : HandshakeValue K) (m : List ℕ) (none : (k : ℕ) → LacksPskAt h k → ⊥) where
  not-read : (fault : ReadFault) → IsNotRead pairs h m fault → DoesNotRead (party_of pairs h) m fault
  not-read read.Ended d = d
  not-read read.Done d = d
  not-read read.NotYourTurn d = d
  not-read (read.Refused token cause) d = elim d [ inl refuses ↦ refuses.1 | inr lacks ↦ absurd (none token lacks.1) ]

pub returns-in-Ok-clause-exactly : goal.returns-in-Ok-clause-exactly
returns-in-Ok-clause-exactly g c has listens =
    let t = c.in-Ok.ensures.reads.1.1 in
    let given : List ℕ = slice_range c.read_within.new.message c.in-Ok.from c.in-Ok.to in
    let here = (c.read_exactly.ensures (party_of g.K.Keys.pairs c.args.handshake.now) c.args.message.now (Ok given) listens (t.0, t.1)).payload c.args.payload.now in
    (λ e. here.0 (ap Ok (c.is_same.ensures.0 e)), λ a. c.is_same.ensures.1 (cc (here.1 a)))

pub returns-in-Ok-clause-reads : goal.returns-in-Ok-clause-reads
returns-in-Ok-clause-reads g c =
    let given : List ℕ = slice_range c.read_within.new.message c.in-Ok.from c.in-Ok.to in
    record {
      read = Ok given;
      reads = c.in-Ok.ensures.reads.1;
      is = (λ e. ap Ok (c.is_same.ensures.0 e), λ e. c.is_same.ensures.1 (cc));
    }

pub returns-in-Err-clause-exactly : goal.returns-in-Err-clause-exactly
returns-in-Err-clause-exactly g c has listens =
    let h = c.args.handshake.now in
    let m = c.args.message.now in
    let t = not-read g.K.Keys.pairs h m (λ k at. c.psks_suffice.ensures.none h k has at) c.in-Err.field-0 c.in-Err.ensures.reads.0.0 in
    let here = (c.read_exactly.ensures (party_of g.K.Keys.pairs h) m (Err c.in-Err.field-0) listens t).payload c.args.payload.now in
    (λ e. cc, λ a. cc (here.1 a))

pub returns-in-Err-clause-reads : goal.returns-in-Err-clause-reads
returns-in-Err-clause-reads g c = record {
  read = Err c.in-Err.field-0;
  reads = c.in-Err.ensures.reads.0;
  is = (λ e. cc, λ e. cc);
}

pub returns-in-Ok-clause-message : goal.returns-in-Ok-clause-message
returns-in-Ok-clause-message g c = inr ((c.in-Ok.from, c.in-Ok.to), c.in-Ok.ensures.reads.0, c.is_same.ensures)
