use Rattle.std.proofs.Common.{rules, ◌≡◌, refl}
use Rattle.noise_names.specs.Plan.{is_one_way}
use Rattle.noise_c.specs.PatternInfo.{flag, info_of}
use Rattle.noise_c.proofs.pattern_info.info_of.Goals as goal

pub returns : goal.returns
unfolding info_of
returns c =
    let one_way : c.from.result ≡ flag (is_one_way c.args.valid.now) = search rules in
    rw (
      one_way,
      c.psk_total.ensures.total,
      c.keys_needed.ensures,
      c.keys_needed-2.ensures,
      c.pre_numbers.ensures,
      c.pre_numbers-2.ensures,
      c.rows.ensures,
      c.pre.ensures.value,
      c.pre-2.ensures.value,
      c.messages-messages.ensures.value,
      c.pattern-pattern.ensures.value,
    ) refl
