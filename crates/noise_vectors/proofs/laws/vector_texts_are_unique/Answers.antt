use Rattle.noise_vectors.proofs.UniqueTexts.{texts-one}
use Rattle.noise_vectors.proofs.laws.vector_texts_are_unique.Goals as goal

pub returns : goal.returns
returns c = texts-one c.texts_are_unique.ensures
