-- What has come of a frame.
use Rattle.std.specs.Prelude.{ℕ, List, take}
use Rattle.noise_session.specs.declared.frame.Frame.{Frame}

abbrev pub partial_of : Frame → List ℕ
partial_of f = take f.partial f.buffer.items
