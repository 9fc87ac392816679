use Rattle.std.proofs.Common.{codes, ◌++◌}
use Rattle.std.proofs.lemmas.Result.{on_ok_weaker}
use Rattle.noise_names.specs.declared.token.Token.TheVariants.{Ee, Es, Se, Ss}
use Rattle.noise_keys.specs.declared.keys.Own.TheVariants.{Ephemeral, Static}
use Rattle.noise_vectors.specs.VectorText.{key_words, role_word}
use Rattle.noise_explain.specs.Template.{entries_for, template_key}
use Rattle.noise_explain.proofs.PushLemmas.{party-pushed}
use Rattle.noise_explain.proofs.keys.push_party.Goals as goal

pub returns : goal.returns
returns c = record {
  appended = let p = c.args.pattern.now in
      let role = c.args.role in
      let g = c.args.given.now in
      on_ok_weaker c.push_answer-4.result
      (party-pushed (role_word role ++ (codes " table " ++ key_words (template_key g p role Ephemeral) (template_key g p role Static)))
      (entries_for g p role Ee) (entries_for g p role Es) (entries_for g p role Se) (entries_for g p role Ss) _ _ _ _ _ _
      c.in_ok-push_keys.ensures.appended c.in_ok-push_answer.ensures.appended c.in_ok-push_answer-2.ensures.appended c.in_ok-push_answer-3.ensures.appended)
      c.push_answer-4.ensures.appended;
}
