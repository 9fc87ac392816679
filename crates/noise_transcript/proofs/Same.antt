-- Files that say the same run alike.
use Rattle.std.proofs.Common.{◌≡◌, ◌∙◌, refl, sym}
use Rattle.noise_transcript.proofs.Common.{SaySame, version_datagrams, expected_of, held_datagrams, VectorFile, Version, One, Two, datagrams_of_version, expected_in}
use Rattle.noise_run.specs.OneRun.{RunAlike}

pub datagrams-are : (v : Version) → version_datagrams v ≡ held_datagrams (datagrams_of_version v)
datagrams-are One = refl
datagrams-are (Two additions) = refl

pub expected-are : (v : Version) → expected_of v ≡ expected_in v
expected-are One = refl
expected-are (Two additions) = refl

pub run-alike : (f g : VectorFile) → SaySame f g → RunAlike f g
run-alike f g same = record {
  protocol = same.protocol;
  block = same.block;
  prologue = same.prologue;
  interval = same.interval;
  psks = same.psks;
  initiator = same.initiator;
  responder = same.responder;
  events = same.events;
  datagrams = sym (datagrams-are f.version) ∙ same.datagrams ∙ datagrams-are g.version;
}
