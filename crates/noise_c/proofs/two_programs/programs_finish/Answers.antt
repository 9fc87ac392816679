use Rattle.noise_names.specs.Plan.{places_of}
use Rattle.noise_c.proofs.FinishedPrograms.{facing, finish-both}
use Rattle.noise_c.proofs.Programs.{met}
use Rattle.noise_c.proofs.two_programs.programs_finish.Goals as goal

pub returns-clause-facing : goal.returns-clause-facing
returns-clause-facing c =
    facing
    (record {
      once = c.accepted_once.ensures;
      accepts = c.written_is_accepted.ensures.accepts;
      next = c.written_is_accepted.ensures.next;
      turned = c.written_is_accepted.ensures.turned;
    })
    (met
    (record {
      once = c.accepted_once.ensures;
      accepts = c.written_is_accepted.ensures.accepts;
      next = c.written_is_accepted.ensures.next;
      turned = c.written_is_accepted.ensures.turned;
    })
    (record {
      once = c.accepted_once.ensures;
      apart = c.refused_once.ensures.apart;
      whole = c.first_act_as_all.ensures.whole;
    })
    (record {
      known = c.shown_is_known.ensures.known;
      dh_result = c.shown_is_known.ensures.dh_result;
      sent = c.tokens_match.ensures.sent;
      there = λ party p t. c.tokens_match.ensures.occurs party t (places_of p);
    })
    c.starts_are_counterparts.ensures)

pub returns-clause-parties : goal.returns-clause-parties
returns-clause-parties c =
    finish-both
    (met
    (record {
      once = c.accepted_once.ensures;
      accepts = c.written_is_accepted.ensures.accepts;
      next = c.written_is_accepted.ensures.next;
      turned = c.written_is_accepted.ensures.turned;
    })
    (record {
      once = c.accepted_once.ensures;
      apart = c.refused_once.ensures.apart;
      whole = c.first_act_as_all.ensures.whole;
    })
    (record {
      known = c.shown_is_known.ensures.known;
      dh_result = c.shown_is_known.ensures.dh_result;
      sent = c.tokens_match.ensures.sent;
      there = λ party p t. c.tokens_match.ensures.occurs party t (places_of p);
    })
    c.starts_are_counterparts.ensures)
