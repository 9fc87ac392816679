use Rattle.std.proofs.Common.{rules, ◌∙◌}
use Rattle.noise_theorems.proofs.Common.{Initiator, Responder, roles_and_payloads, HaveParts, end_after, state_of_lines}
use Rattle.noise_duel.specs.SetUpAlike.{material_of}
use Rattle.noise_theorems.proofs.Fit.{in-turn, none-left-ended_party}
use Rattle.noise_theorems.proofs.HashReported.{hash-reported}
use Rattle.noise_theorems.proofs.conversation.say_messages.Goals as goal

pub returns : goal.returns
returns g c p s interval new fits dh_results =
    let lines = roles_and_payloads c.args.lines.now in
    let a = s.initiator in
    let b = s.responder in
    let r = state_of_lines p s lines in
    let parts = c.alike_are_parts.ensures p a.prologue a b new.valid new.alike new.initiator_keys new.responder_keys dh_results in
    let have : HaveParts (material_of a b) p a.prologue a b = record {
      pattern = new.pattern;
      valid = new.valid;
      long = parts.long;
      initiator = parts.initiator;
      responder = parts.responder;
    } in
    let come = c.in_ok-made.ensures.comes_through (material_of a b) p a.prologue a b interval have (in-turn p 0 lines fits) new.matches in
    let says = c.end_is_reported.ensures _ (end_after p Initiator a b interval r lines) come.initiator in
    let says-there = c.end_is_reported.ensures _ (end_after p Responder b a interval r lines) come.responder in
    record {
      initiator_frames = come.initiator_frames;
      responder_frames = come.responder_frames;
      payloads = come.entries;
      taken = search (rules, none-left-ended_party);
      ends = record { initiator = come.initiator; responder = come.responder };
      hash = (says.hash ∙ hash-reported p Initiator a b interval r lines, says-there.hash ∙ hash-reported p Responder b a interval r lines);
      keys_there = come.keys_there;
      keys_back = come.keys_back;
    }
