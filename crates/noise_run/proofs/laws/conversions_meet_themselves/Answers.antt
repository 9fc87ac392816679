use Rattle.noise_run.proofs.ConversionLemmas.{conversions-meet}
use Rattle.noise_run.proofs.laws.conversions_meet_themselves.Goals as goal

pub returns : goal.returns
returns c = conversions-meet c.vector_texts_are_unique.ensures c.file_run_once.ensures
