use Rattle.std.proofs.Common.{rules, ap, refl, length}
use Rattle.std.specs.Prelude.{is_some}
use Rattle.noise_handshake.proofs.Common.{writer_of, is_known, has_own, Writer, tokens_of}
use Rattle.noise_handshake.proofs.Stepwise.{psk-due, all-first, all-later, psks-later}
use Rattle.noise_handshake.proofs.Lacked.{asked-later, asked-first}
use Rattle.noise_handshake.proofs.writer.+write_lacking.Goals as goal

pub returns-in-Some : goal.returns-in-Some
returns-in-Some g t c = record { wants = search (rules, asked-later) }

pub returns-in-None : goal.returns-in-None
returns-in-None g t c = record {
  wants =
      let w : Writer = writer_of g.K.Keys.pairs c.args.means.now in
      asked-first w c.args.known.now c.args.psks.now (tokens_of c.args.placed.now) (tokens_of c.in_ok-first.later.now) c.in_ok-first.first.now.token
      (ap tokens_of c.in_ok-first.ensures.cases.0) c.in-None.ensures.text (c.in-None.ensures.dh refl) c.asked_at.result c.asked_at.ensures;
}

pub text_at-requires-clause-psk : goal.text_at-requires-clause-psk
text_at-requires-clause-psk g t c = psk-due (tokens_of c.args.placed.now) (tokens_of c.in_ok-first.later.now) c.in_ok-first.first.now.token (ap tokens_of c.in_ok-first.ensures.cases.0) (length c.args.psks.now) c.requires.psks

pub text_at-requires-clause-own : goal.text_at-requires-clause-own
text_at-requires-clause-own g t c = all-first (tokens_of c.args.placed.now) (tokens_of c.in_ok-first.later.now) c.in_ok-first.first.now.token (ap tokens_of c.in_ok-first.ensures.cases.0) (has_own (g.K.Keys.pairs c.args.means.now.keys).public) c.requires.own

pub text_at-requires-clause-known : goal.text_at-requires-clause-known
text_at-requires-clause-known g t c = all-first (tokens_of c.args.placed.now) (tokens_of c.in_ok-first.later.now) c.in_ok-first.first.now.token (ap tokens_of c.in_ok-first.ensures.cases.0) (is_known c.args.means.now.role (is_some c.args.known.now.e) (is_some c.args.known.now.s)) c.requires.known

pub psks_after-others-requires : goal.psks_after-others-requires
psks_after-others-requires g t c = record { psk = psk-due (tokens_of c.args.placed.now) (tokens_of c.in_ok-first.later.now) c.in_ok-first.first.now.token (ap tokens_of c.in_ok-first.ensures.cases.0) (length c.args.psks.now) c.requires.psks }

pub write_lacking-requires : goal.write_lacking-requires
write_lacking-requires g t c κs within =
    let split = ap tokens_of c.in_ok-first.ensures.cases.0 in (
      search rules,
      (
        within,
        (
          psks-later (tokens_of c.args.placed.now) (tokens_of c.in_ok-first.later.now) c.in_ok-first.first.now.token split c.args.psks.now
              c.psks_after-others.result.now c.psks_after-others.ensures.value c.requires.psks,
          (
            all-later (tokens_of c.args.placed.now) (tokens_of c.in_ok-first.later.now) c.in_ok-first.first.now.token split
                (has_own (g.K.Keys.pairs c.args.means.now.keys).public) c.requires.own,
            all-later (tokens_of c.args.placed.now) (tokens_of c.in_ok-first.later.now) c.in_ok-first.first.now.token split
                (is_known c.args.means.now.role (is_some c.args.known.now.e) (is_some c.args.known.now.s)) c.requires.known,
          ),
        ),
      ),
    )
