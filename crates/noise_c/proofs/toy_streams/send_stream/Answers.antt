use Rattle.std.proofs.Common.{refl, ap, arith}
use Rattle.std.proofs.lemmas.Grind.{elements}
use Rattle.noise_names.specs.Plan.{is_one_way}
use Rattle.noise_handshake.specs.Party.{Party}
use Rattle.noise_session.specs.TransportValue.{transport_of}
use Rattle.noise_c.proofs.Common.{with_dh_results}
use Rattle.noise_c.proofs.Streaming.{all-sent}
use Rattle.noise_c.proofs.toy_streams.send_stream.Goals as goal

pub returns : goal.returns
returns c =
    let f = c.in-Some.ensures in
    let i = c.args.interval in
    let v : Party = with_dh_results f.party f.handed_in in
    let w : Party = with_dh_results f.party_too f.handed_in_too in
    let there = f.facing.there in
    let same = (c.outgoing_is_incoming.ensures (transport_of v i) (transport_of w i) (ap (λ (z : Party). z.role) there)
    (ap (λ (z : Party). z.state) there) refl (ap (λ (z : Party). is_one_way z.pattern) there)).0 in
    record {
      sent = all-sent (transport_of v i) c.args.text.now _ c.args.out.now.items c.read_after_finish.new.out.items c.in_ok-whole.whole
          (c.in-Some-write_stream.ensures.1 f.pattern v f.stands)
          (c.in_ok-whole.ensures.all f.finishes_too f.pattern w (transport_of v i) f.stands_too same);
      full = tt;
      unchanged = tt;
    }

pub returns-in_err-whole-clause-full : goal.returns-in_err-whole-clause-full
returns-in_err-whole-clause-full c =
    let full = c.in_err-whole.ensures.full in
    let e = c.from_residual.ensures in
    let b = c.write_stream.auto.buffer in
    let d = c.finish_both.auto.buffer in
    grind (arith, elements, full, e, b, d)
