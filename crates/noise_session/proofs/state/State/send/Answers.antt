use Rattle.std.proofs.Common.{◌≡◌, ◌≤◌, ◌+◌, ◌-◌, ℕ, List, [], length, take, drop, None, Some, Ok, Err, refl, sym, ◌∙◌, ap, subst, arith, rules}
use Rattle.std.specs.Option.{ForSome}
use Rattle.std.specs.Prelude.{if◌then◌else◌}
use Rattle.noise_session.proofs.Common.{is_none, put_mid, Progress, refusal, message_length, frame_len_of, progress_in, frame}
use Rattle.noise_session.proofs.Common.{after_own, Phase, TransportValue, seal_fault, EndState, EndMatches, PhaseMatches, HandshakeMatches, OpenMatches, EndedMatches, transport_in, ended_session, Sends, lacks_dh_result, sends_handshake, sends_transport}
use Rattle.noise_handshake.specs.HandshakeValue.{HandshakeValue}
use Rattle.noise_handshake.specs.Party.{Party}
use Rattle.noise_session.specs.Sending.Sends.{refuses}
use Rattle.noise_session.proofs.Parties.{no-hash, is-open, as-handshake, as-open, refused-by}
use Rattle.noise_session.proofs.Judging.{ended-open}
use Rattle.noise_session.proofs.Making.{due-now, length-due, not-turn, too-long, seal-due, seal-refused, refused-whole}
use Rattle.noise_session.proofs.Passing.{was-lacking, was-written}
use Rattle.noise_session.proofs.Places.{framed, rest-after, room-after}
use Rattle.noise_session.specs.declared.faults.SendFault.TheVariants as fault
use Rattle.noise_session.proofs.state.State.send.Goals as goal

-- the length of a frame that is due
due-len : (p : Progress) (n : ℕ) → refusal p n ≡ None → frame_len_of p n ≡ Some (2 + message_length p n)
due-len p n due = ap (λ r. if is_none r then Some (2 + message_length p n) else None) due

-- a frame that is due fits
due-fits : (p : Progress) (n room : ℕ) → ForSome (frame_len_of p n) (λ k. k ≤ room) → refusal p n ≡ None → 2 + message_length p n ≤ room
due-fits p n room fits due = fits _ (due-len p n due)

-- A message of the due length was written after the first two bytes of a buffer, and made a frame.
module _ (p : Progress) (n len whole : ℕ) (out written new : List ℕ) (fits : ForSome (frame_len_of p n) (λ k. k ≤ length out))
    (due : refusal p n ≡ None) (long : len ≡ message_length p n) (is_whole : whole ≡ len + 2) where
  abbrev IsMade : Type 0
  IsMade = (frame_len_of p n ≡ Some whole) × (drop whole new ≡ drop whole out) × (take whole new ≡ frame (take len written))

  abbrev MadeAt : ℕ → Type 0
  MadeAt start = take whole new ≡ frame (take len (drop 2 (put_mid start (length out - start) out written)))
      → drop 2 new ≡ drop 2 (put_mid start (length out - start) out written)
      → drop len written ≡ drop len (take (length out - start) (drop start out)) → IsMade

  made-there : MadeAt 2
  made-there is after rest =
      let room = due-fits p n (length out) fits due in
      let count : 2 + message_length p n ≡ whole = omega arith in (
        due-len p n due ∙ ap (λ (k : ℕ). Some k) count,
        rest-after 2 len whole out written new (omega arith) (omega arith) after rest,
        framed len whole out written new (omega arith) is,
      )

  made : (start : ℕ) → start ≡ 2 → MadeAt start
  made start e = subst MadeAt (sym e) made-there

pub seal-requires : goal.seal-requires
seal-requires g c =
    let n = length c.args.payload.now in
    let out = c.args.out.now in
    let p = progress_in c.args.self.now.phase in
    record {
      room = λ none.
          let due : refusal p n ≡ None = search rules in
          room-after 2 out (n + 16) c.min-start.result (rw c.in-Open.is at (due-fits p n (length out) c.requires.room due)) (omega arith);
    }

pub returns-in-Ok-clause-writes : goal.returns-in-Ok-clause-writes
returns-in-Ok-clause-writes g c =
    let n = length c.args.payload.now in
    let out = c.args.out.now in
    let len = c.in-Ok.len in
    let h = c.in-Handshaking.handshake in
    let start = c.min-start.result in
    let written = c.write.new.out in
    let p = progress_in c.args.self.now.phase in
    let wrote = c.in-Ok.ensures.writes in
    let due-there = length-due h n len wrote.0.0 in
    let due : refusal p n ≡ None = rw c.in-Handshaking.is due-there in
    let long : len ≡ message_length p n = search rules in
    let room = due-fits p n (length out) c.requires.room due in
    let f = made p n len c.frame_message.result out written c.frame_message.new.out c.requires.room due long c.frame_message.ensures.len.0 start
    (omega arith) c.frame_message.ensures.frame c.frame_message.ensures.beyond wrote.0.2 in
    record {
      len = (f.0, c.frame_message.ensures.len.1);
      beyond = f.1;
      refused = rw due tt;
      sends = λ v s.
          let m = as-handshake g.K.Keys.pairs _ _ _ v c.in-Handshaking.is s.phase in
          let w = was-written g.K.Keys.pairs h c.write.new.self v.party m.party (c.psks_suffice.ensures.kept h) c.args.payload.now (take len written) wrote.1 in
          let due-by = refused-by g.K.Keys.pairs _ _ v n _ s.phase c.in-Handshaking.is due-there in
          let next : EndState = record v { party = after_own v.party w.0 c.args.payload.now } in (
            next,
            subst (λ (bytes : List ℕ). Sends v c.args.payload.now (Ok bytes) next) (sym f.2)
                (sends_handshake v c.args.payload.now (take len written) w.0 due-by w.1),
            record { phase = c.settle.ensures.matches next (w.2, m.interval, m.sent, m.received); partial = s.partial },
          );
    }

pub returns-in-Err-NotYourTurn-clause-writes : goal.returns-in-Err-NotYourTurn-clause-writes
returns-in-Err-NotYourTurn-clause-writes g c =
    let n = length c.args.payload.now in
    let out = c.args.out.now in
    let start = c.min-start.result in
    let reported = rw c.in-Err-NotYourTurn.field-0-is at c.in-Err-NotYourTurn.ensures.writes in
    let unchanged = reported.1 in
    let why-there = not-turn c.in-Handshaking.handshake n g.K.Keys.pairs reported.0 in
    record {
      len = tt;
      beyond = tt;
      refused = refused-whole _ (Err fault.NotYourTurn) start out c.write.new.out (rw c.in-Handshaking.is (rw why-there (refl, reported.2 (λ none. none))));
      sends = λ v s.
          let m = as-handshake g.K.Keys.pairs _ _ _ v c.in-Handshaking.is s.phase in (
            refuses v c.args.payload.now fault.NotYourTurn (refused-by g.K.Keys.pairs _ _ v n _ s.phase c.in-Handshaking.is why-there),
            record { phase = subst (λ u. HandshakeMatches g.K.Keys.pairs u c.in-Handshaking.interval v) (sym unchanged) m; partial = s.partial },
          );
    }

pub returns-in-Err-TooLong-clause-writes : goal.returns-in-Err-TooLong-clause-writes
returns-in-Err-TooLong-clause-writes g c =
    let n = length c.args.payload.now in
    let out = c.args.out.now in
    let start = c.min-start.result in
    let reported = rw c.in-Err-TooLong.field-0-is at c.in-Err-TooLong.ensures.writes in
    let unchanged = reported.1 in
    let why-there = too-long c.in-Handshaking.handshake n g.K.Keys.pairs reported.0 in
    record {
      len = tt;
      beyond = tt;
      refused = refused-whole _ (Err fault.TooLong) start out c.write.new.out (rw c.in-Handshaking.is (rw why-there (refl, reported.2 (λ none. none))));
      sends = λ v s.
          let m = as-handshake g.K.Keys.pairs _ _ _ v c.in-Handshaking.is s.phase in (
            refuses v c.args.payload.now fault.TooLong (refused-by g.K.Keys.pairs _ _ v n _ s.phase c.in-Handshaking.is why-there),
            record { phase = subst (λ u. HandshakeMatches g.K.Keys.pairs u c.in-Handshaking.interval v) (sym unchanged) m; partial = s.partial },
          );
    }

pub returns-in-Err-Agreement-clause-writes : goal.returns-in-Err-Agreement-clause-writes
returns-in-Err-Agreement-clause-writes g c =
    let n = length c.args.payload.now in
    let out = c.args.out.now in
    let start = c.min-start.result in
    let reported = rw c.in-Err-Agreement.field-0-is at c.in-Err-Agreement.ensures.writes in
    let old = c.in-Handshaking.handshake in
    let due-there = due-now old n reported.0.0 in
    let due : refusal (progress_in c.args.self.now.phase) n ≡ None = rw c.in-Handshaking.is due-there in
    record {
      len = tt;
      beyond = tt;
      refused = rw due tt;
      sends = λ v s.
          let m = as-handshake g.K.Keys.pairs _ _ _ v c.in-Handshaking.is s.phase in
          let lacks = was-lacking g.K.Keys.pairs old c.write.new.self v.party m.party (c.psks_suffice.ensures.due old) (c.psks_suffice.ensures.none old) n
          c.in-Err-Agreement.token reported.0 in
          let due-by = refused-by g.K.Keys.pairs _ _ v n _ s.phase c.in-Handshaking.is due-there in
          let ended_party : EndedMatches c.write.new.self.role None (ended_session v) = record { ended = refl; role = ap (λ (z : HandshakeValue g.row.K.Denot). z.role) reported.1 ∙ ap (λ (u : Party). u.role) m.party.is; hash = sym (no-hash v m.more) } in (
            lacks_dh_result v c.args.payload.now c.in-Err-Agreement.token due-by lacks,
            record {
              phase = subst (λ (p : Phase g.row.K.Denot). PhaseMatches g.K.Keys.pairs p (ended_session v)) (sym c.end.ensures) ended_party;
              partial = c.clear.ensures.empty;
            },
          );
    }

pub returns-in-Ok-seal-clause-writes : goal.returns-in-Ok-seal-clause-writes
returns-in-Ok-seal-clause-writes g c =
    let n = length c.args.payload.now in
    let out = c.args.out.now in
    let len = c.in-Ok-seal.len in
    let t = c.in-Open.transport in
    let start = c.min-start.result in
    let written = c.seal.new.out in
    let p = progress_in c.args.self.now.phase in
    let half = c.in-Ok-seal.ensures.seals.half in
    let due-there = seal-due (seal_fault t n) len half.fault in
    let due : refusal p n ≡ None = rw c.in-Open.is due-there in
    let long : len ≡ message_length p n = rw c.in-Open.is half.len.0 in
    let room = due-fits p n (length out) c.requires.room due in
    let f = made p n len c.frame_message-in-Ok-seal.result out written c.frame_message-in-Ok-seal.new.out c.requires.room due long
    c.frame_message-in-Ok-seal.ensures.len.0 start
    (omega arith) c.frame_message-in-Ok-seal.ensures.frame c.frame_message-in-Ok-seal.ensures.beyond half.rest in
    record {
      len = (f.0, c.frame_message-in-Ok-seal.ensures.len.1);
      beyond = f.1;
      refused = rw due tt;
      sends = λ v s.
          let o = as-open g.K.Keys.pairs _ _ v c.in-Open.is s.phase in
          let r = half.seals (transport_in v) o.transport.sender in
          let due-by = refused-by g.K.Keys.pairs _ _ v n _ s.phase c.in-Open.is due-there in
          let next : EndState = record v { sent = v.sent + 1 } in (
            next,
            subst (λ (bytes : List ℕ). Sends v c.args.payload.now (Ok bytes) next) (sym (f.2 ∙ ap frame r.0))
                (sends_transport v c.args.payload.now due-by (is-open v t o)),
            record { phase = record { going = o.going; all = o.all; transport = c.in-Ok-seal.ensures.seals.matches (transport_in v) o.transport }; partial = s.partial },
          );
    }

pub returns-in-Err-Exhausted-clause-writes : goal.returns-in-Err-Exhausted-clause-writes
returns-in-Err-Exhausted-clause-writes g c =
    let n = length c.args.payload.now in
    let out = c.args.out.now in
    let start = c.min-start.result in
    let reported = rw c.in-Err-Exhausted.field-0-is at c.in-Err-Exhausted.ensures.seals.half.fault in
    let why-there = seal-refused (seal_fault c.in-Open.transport n) fault.Exhausted reported in
    record {
      len = tt;
      beyond = tt;
      refused = refused-whole _ (Err fault.Exhausted) start out c.seal.new.out (search rules);
      sends = λ v s.
          let o = as-open g.K.Keys.pairs _ _ v c.in-Open.is s.phase in
          let ended_party : EndedMatches c.seal.new.self.role (Some c.seal.new.self.hash) (ended_session v) =
          subst (λ (t : TransportValue). EndedMatches t.role (Some t.hash) (ended_session v)) (sym c.in-Err-Exhausted.ensures.seals.unchanged)
          (ended-open c.in-Open.transport v o []) in (
            refuses v c.args.payload.now fault.Exhausted (refused-by g.K.Keys.pairs _ _ v n _ s.phase c.in-Open.is why-there),
            subst (λ e. EndMatches g.K.Keys.pairs e (ended_session v)) (sym c.end-in-Err-Exhausted.ensures) (record { phase = ended_party; partial = refl }),
          );
    }

pub returns-in-Err-OneWay-clause-writes : goal.returns-in-Err-OneWay-clause-writes
returns-in-Err-OneWay-clause-writes g c =
    let n = length c.args.payload.now in
    let out = c.args.out.now in
    let start = c.min-start.result in
    let reported = rw c.in-Err-OneWay.field-0-is at c.in-Err-OneWay.ensures.seals.half.fault in
    let why-there = seal-refused (seal_fault c.in-Open.transport n) fault.OneWay reported in
    record {
      len = tt;
      beyond = tt;
      refused = refused-whole _ (Err fault.OneWay) start out c.seal.new.out (search rules);
      sends = λ v s.
          let o = as-open g.K.Keys.pairs _ _ v c.in-Open.is s.phase in (
            refuses v c.args.payload.now fault.OneWay (refused-by g.K.Keys.pairs _ _ v n _ s.phase c.in-Open.is why-there),
            record { phase = subst (λ (t : TransportValue). OpenMatches t v) (sym c.in-Err-OneWay.ensures.seals.unchanged) o; partial = s.partial },
          );
    }

pub returns-in-Err-TooLong-seal-clause-writes : goal.returns-in-Err-TooLong-seal-clause-writes
returns-in-Err-TooLong-seal-clause-writes g c =
    let n = length c.args.payload.now in
    let out = c.args.out.now in
    let start = c.min-start.result in
    let reported = rw c.in-Err-TooLong-seal.field-0-is at c.in-Err-TooLong-seal.ensures.seals.half.fault in
    let why-there = seal-refused (seal_fault c.in-Open.transport n) fault.TooLong reported in
    record {
      len = tt;
      beyond = tt;
      refused = refused-whole _ (Err fault.TooLong) start out c.seal.new.out (search rules);
      sends = λ v s.
          let o = as-open g.K.Keys.pairs _ _ v c.in-Open.is s.phase in (
            refuses v c.args.payload.now fault.TooLong (refused-by g.K.Keys.pairs _ _ v n _ s.phase c.in-Open.is why-there),
            record { phase = subst (λ (t : TransportValue). OpenMatches t v) (sym c.in-Err-TooLong-seal.ensures.seals.unchanged) o; partial = s.partial },
          );
    }

pub returns-in-Ended-clause-writes : goal.returns-in-Ended-clause-writes
returns-in-Ended-clause-writes g c =
    let n = length c.args.payload.now in
    record {
      len = tt;
      beyond = tt;
      refused = search rules;
      sends = λ v s. (refuses v c.args.payload.now fault.Ended (refused-by g.K.Keys.pairs _ _ v n _ s.phase c.in-Ended.is refl), s);
    }
