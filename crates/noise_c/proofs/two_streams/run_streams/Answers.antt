use Rattle.std.proofs.Common.{◌≡◌, ◌∙◌, ◌+◌, ◌++◌, [], ◌∷◌, ◌≤◌, ℕ, List, arith, length, take, ap, sym, subst, refl}
use Rattle.std.specs.Prelude.{Bool, false, true}
use Rattle.std.proofs.lemmas.List.{take_all, take_more}
use Rattle.noise_c.specs.declared.structs.NoiseStreamReceiver.{NoiseStreamReceiver}
use Rattle.noise_c.specs.declared.two_streams.Stream.{Stream}
use Rattle.noise_c.specs.declared.two_streams.Streams.{Streams}
use Rattle.noise_c.specs.declared.two_streams.StreamTurn.{StreamTurn}
use Rattle.noise_c.specs.StreamSteps.{StreamsAreMade, StreamsRun}
use Rattle.noise_c.specs.StreamSteps.StreamsRun.{none, initiator, responder}
use Rattle.noise_c.specs.StreamStructs.{is_stream_receiver}
use Rattle.noise_c.proofs.Directions.{Laws, both-face, both-right, turn-known}
use Rattle.noise_c.proofs.two_streams.run_streams.Goals.{then-is_responder+in_ok-take_turn, else-is_responder+in_ok-take_turn-2}
use Rattle.noise_c.proofs.two_streams.run_streams.Goals as goal

pub turns-init : goal.turns-init
turns-init c =
    let g = c.in-Some.ensures in
    record {
      runs = none;
      known_there = subst (λ (k : NoiseStreamReceiver). is_stream_receiver k ≡ true) (sym g.there_begins.receivers.1) g.halves_too.known.1;
      known_back = subst (λ (k : NoiseStreamReceiver). is_stream_receiver k ≡ true) (sym g.back_begins.receivers.1) g.halves.known.1;
    }

pub turns-preserved : goal.turns-preserved
turns-preserved c =
    let all : List (Bool × StreamTurn) = c.args.turns.now in
    let at : ℕ = c.turns.is_responder-index in
    let there0 : Stream = c.in-Some.there in
    let back0 : Stream = c.in-Some.back in
    let item : Bool × StreamTurn = c.turns-item.result in
    let more : take (at + 1) all ≡ take at all ++ item ∷ [] =
    take_more all at item c.turns-test.true ∙ ap (λ (z : Bool × StreamTurn). take at all ++ z ∷ []) (sym c.turns-item.is) in
    let inv = c.turns.invariant in
    elim c.if-is_responder.branch [
      | then-is_responder+in_ok-take_turn w ↦
          let side : take (at + 1) all ≡ take at all ++ (true, item.1) ∷ [] =
          more ∙ ap (λ (z : Bool). take at all ++ (z, item.1) ∷ []) w.if-is_responder.true in
          let s = w.in_ok-take_turn.ensures in
          let after = w.take_turn.new in
          let next = responder (take at all) c.turns.there after.into c.turns.back after.out item.1 inv.runs s in
          let known = turn-known item.1 c.turns.back after.out c.turns.there after.into s inv.known_back inv.known_there in
          let here = subst (λ (z : List (Bool × StreamTurn)). StreamsRun there0 back0 z after.into after.out) (sym side) next in
          record {
            runs = subst (λ (z : Stream). StreamsRun there0 back0 (take (at + 1) all) z c.if-is_responder.back) (sym w.there-is)
                (subst (λ (z : Stream). StreamsRun there0 back0 (take (at + 1) all) after.into z) (sym w.back-is) here);
            known_there = subst (λ (z : Stream). is_stream_receiver z.receiver ≡ true) (sym w.there-is) known.1;
            known_back = subst (λ (z : Stream). is_stream_receiver z.receiver ≡ true) (sym w.back-is) known.0;
          }
      | else-is_responder+in_ok-take_turn-2 w ↦
          let side : take (at + 1) all ≡ take at all ++ (false, item.1) ∷ [] =
          more ∙ ap (λ (z : Bool). take at all ++ (z, item.1) ∷ []) w.if-is_responder.false in
          let s = w.in_ok-take_turn-2.ensures in
          let after = w.take_turn-else-is_responder.new in
          let next = initiator (take at all) c.turns.there after.out c.turns.back after.into item.1 inv.runs s in
          let known = turn-known item.1 c.turns.there after.out c.turns.back after.into s inv.known_there inv.known_back in
          let here = subst (λ (z : List (Bool × StreamTurn)). StreamsRun there0 back0 z after.out after.into) (sym side) next in
          record {
            runs = subst (λ (z : Stream). StreamsRun there0 back0 (take (at + 1) all) z c.if-is_responder.back) (sym w.there-is)
                (subst (λ (z : Stream). StreamsRun there0 back0 (take (at + 1) all) after.out z) (sym w.back-is) here);
            known_there = subst (λ (z : Stream). is_stream_receiver z.receiver ≡ true) (sym w.there-is) known.0;
            known_back = subst (λ (z : Stream). is_stream_receiver z.receiver ≡ true) (sym w.back-is) known.1;
          }
    ]

pub returns : goal.returns
returns c =
    let all : List (Bool × StreamTurn) = c.args.turns.now in
    let i : ℕ = c.args.interval in
    let there0 : Stream = c.in-Some.there in
    let back0 : Stream = c.in-Some.back in
    let a = c.args.initiator.now in
    let a_after = c.begin_streams.new.a in
    let b = c.args.responder.now in
    let b_after = c.begin_streams.new.b in
    let past : length all ≤ c.turns.is_responder-index = omega arith in
    let r : Streams = record { there = c.turns.there; back = c.turns.back } in
    let runs : StreamsRun there0 back0 all c.turns.there c.turns.back =
    subst (λ (z : List (Bool × StreamTurn)). StreamsRun there0 back0 z c.turns.there c.turns.back) (take_all c.turns.is_responder-index all past)
    c.turns.invariant.runs in
    let made : StreamsAreMade a a_after b b_after i all r = record { there = there0; back = back0; begins = c.in-Some.ensures; runs = runs } in
    let laws : Laws = record {
      prefix = c.prefix_or_forged.ensures;
      makes = c.calls_make_stream.ensures;
      arrives = c.stream_arrives.ensures.whole;
    } in
    record {
      made = made;
      finishes = λ f g. refl;
      finished = λ p s t ps qs v w handed_in handed_in_too h k l.
          both-face c.history_follows.ensures c.finished_is_one.ensures a a_after b b_after i all r made p s t ps qs v w handed_in handed_in_too h k l;
      right = λ face. both-right laws a a_after b b_after i all r made face;
    }
