use Rattle.noise_vectors.specs.HexWord.{hex_of}
use Rattle.noise_explain.proofs.FrameLemmas.{front-none, front-some}
use Rattle.noise_explain.proofs.frame_piece.frame_after.Goals as goal

pub returns-in-Some-clause-some : goal.returns-in-Some-clause-some
returns-in-Some-clause-some c =
    front-some c.args.front.now c.args.line.now c.in-Some.word.now c.read_hex.result c.in-Some.ensures.some c.read_hex.ensures.value

pub returns-in-Some-clause-none : goal.returns-in-Some-clause-none
returns-in-Some-clause-none c =
    front-none c.args.front.now c.args.line.now c.in-Some.word.now c.read_hex.result c.in-Some.ensures.some c.read_hex.ensures.found

pub returns-in-None-clause-none : goal.returns-in-None-clause-none
returns-in-None-clause-none c = λ frame bytes. c.in-None.ensures.none (hex_of frame)
