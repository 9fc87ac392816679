-- What a message carries, and how long it is.
use Rattle.std.proofs.Common.{rules, ◌≡◌, ℕ, ◌+◌, List, length}
use Rattle.noise_handshake.proofs.Common.{overhead_of, Carry, Party, Accepts, reader, tokens_now, Writes, writer, IsKeyed}
use Rattle.noise_handshake.proofs.Widths.{fit-carry, given-carry, line-overhead}

pub written-carry : (v : Party) (payload message : List ℕ) (xs : List (List ℕ)) → Writes v payload xs message → Carry (tokens_now v) xs
written-carry v payload message xs w = given-carry (writer v) v.remote v.psks (tokens_now v) xs w.given

pub accepted-carry : (v : Party) (payload message : List ℕ) (xs : List (List ℕ)) → Accepts v message xs payload → Carry (tokens_now v) xs
accepted-carry v payload message xs a = fit-carry (reader v) v.remote v.psks (tokens_now v) xs a.reads.fit

pub written-length : (v : Party) (payload message : List ℕ) (xs : List (List ℕ)) → IsKeyed v → Writes v payload xs message
    → length message ≡ overhead_of v.pattern (v.passed + 1) + length payload
written-length v payload message xs keyed w = search (rules, line-overhead, written-carry)
