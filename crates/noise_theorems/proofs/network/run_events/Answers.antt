use Rattle.std.proofs.Common.{refl, inr, ℕ}
use Rattle.noise_theorems.proofs.Common.{Initiator, Responder, events_of, Start, HaveSamePsks, start_by}
use Rattle.noise_duel.specs.Entries.{notes_of}
use Rattle.noise_theorems.proofs.Agreed.{all-agreed}
use Rattle.noise_theorems.proofs.network.run_events.Goals as goal

pub returns : goal.returns
returns g c =
    let p = c.args.pattern in
    let text = c.args.prologue.now in
    let i : ℕ = c.args.interval in
    let a : Start = start_by g.K.Keys.pairs p Initiator text c.args.psks.now c.args.initiator c.args.responder in
    let b : Start = start_by g.K.Keys.pairs p Responder text c.args.psks.now c.args.responder c.args.initiator in
    let new = c.in_ok-duel.ensures.made.1 in
    let alike = new.alike in
    let reported = c.in_ok-made.ensures.agrees p a b i i new.matches in
    let psks : HaveSamePsks p a b = record { psks = refl; keys = alike.keys; initiator = alike.initiator; responder = alike.responder } in
    let last = reported.0.last in
    let notes = notes_of c.in_ok-made.made.1.entries.items in
    let payloads = c.payloads_reported.ensures p a b i i (events_of c.args.events.now) notes last reported.0.run in
    let hashes = c.hash_is_reported.ensures c.in_ok-made.made.0 last in record {
      reports = (
        c.in_ok-duel.ensures.made.0,
        record {
          reports = reported.0;
          initiator = payloads.0;
          responder = payloads.1;
          psks = inr psks;
          agreed = λ hash e f.
              let one = hashes hash reported.0.matches e f in
              all-agreed g.K.Keys.pairs p a b i (events_of c.args.events.now) c.in_ok-made.made.0 c.in_ok-made.made.1 last
              (reported.1.one one (inr psks)) (reported.1.payloads refl one (inr psks))
              (rw (reported.0.frames.initiator, reported.0.frames.responder)
              (c.entries_agree.ensures p a b i (events_of c.args.events.now) notes last reported.0.run one (inr psks)))
              (c.keys_meet.ensures p a b i (events_of c.args.events.now) notes last c.in_ok-made.made.0 reported.0.run reported.0.matches one (inr psks));
        },
      );
    }
