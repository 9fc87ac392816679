use Rattle.std.proofs.Common.{◌≡◌, ◌∙◌, List, length, inl, ap, refl, arith, rules}
use Rattle.noise_c.proofs.Common.{TableEntry, handshake_from_c, table_in}
use Rattle.noise_c.proofs.Moved.{results-moved, supplied-full, usable-results}
use Rattle.noise_c.specs.declared.structs.NoiseAnswer.{NoiseAnswer}
use Rattle.noise_c.proofs.late.noise_answer.Goals as goal

pub returns-then-count-eq8-clause-supplies : goal.returns-then-count-eq8-clause-supplies
returns-then-count-eq8-clause-supplies c =
    let old = c.args.handshake.now in
    let long : length old.answers ≡ 8 = search rules in
    let full : old.answer_count ≡ 8 = omega (arith, c.if-count-eq8.true) in
    record {
      other = (λ e. absurd (omega (arith, e)), λ none. absurd (none (c.if-handshake-ne-HANDSHAKE.false, omega (arith, full))));
      added = λ _ few. absurd (omega (arith, few, full));
      replaced = λ _ _. record {
        text = refl;
        handshake = λ p. ap (λ (z : List TableEntry). record (handshake_from_c p old) { keys = record (table_in old) { entries = z } })
            (results-moved old _ c.put_result_last.new.results long full c.put_result_last.ensures);
      };
      mark = refl;
      unchanged = λ low. absurd (omega (arith, low));
      stays = usable-results old _ refl (omega (arith, full));
      codes = inl refl;
    }

pub returns-then-count-eq8-clause-value : goal.returns-then-count-eq8-clause-value
returns-then-count-eq8-clause-value c _ =
    let old = c.args.handshake.now in
    let full : old.answer_count ≡ 8 = omega (arith, c.if-count-eq8.true) in
    ap (λ (z : List NoiseAnswer). record old { answers = z }) c.put_result_last.ensures ∙ supplied-full old _ full
