use Rattle.std.proofs.Common.{◌≡◌, take, true}
use Rattle.noise_c.specs.StreamSteps.{StreamsRun}
use Rattle.noise_c.specs.StreamStructs.{is_stream_receiver}
use Rattle.noise_c.proofs.two_streams.run_streams.Given as goal

abbrev pub invariant-turns : goal.invariant-turns
invariant-turns l = record {
  runs : StreamsRun l.initial.there l.initial.back (take l.is_responder-index l.fn.turns) l.there l.back;
  known_there : is_stream_receiver l.there.receiver ≡ true;
  known_back : is_stream_receiver l.back.receiver ≡ true;
}
