-- A reader or writer that counts its failures.
use Rattle.std.specs.Prelude.{ℕ, ◌+◌, ◌%◌, ◌^◌, length, ◌==◌, List, nat_lt, ◌&&◌, Result, Ok, Err, if◌then◌else◌}
use Rattle.noise_session.specs.declared.counted.Counted.{Counted}

-- the reader or writer inside
abbrev pub inner_of : {T : Type 0} → Counted T → T
inner_of c = c.inner

-- how many of its reads and writes have failed, modulo 2^64
abbrev pub failures_of : {T : Type 0} → Counted T → ℕ
failures_of c = c.failures

-- one failure more
abbrev pub one_more : ℕ → ℕ
one_more failures = (failures + 1) % 2 ^ 64

-- the count after a call
abbrev pub after_call : {T E : Type 0} → ℕ → Result T E → ℕ
after_call failures (Ok x) = failures
after_call failures (Err e) = one_more failures

-- the count after a write of these bytes: one that takes none of some has failed, too
abbrev pub after_writing : {E : Type 0} → ℕ → Result ℕ E → List ℕ → ℕ
after_writing failures (Ok n) bytes = if (n == 0) && nat_lt 0 (length bytes) then one_more failures else failures
after_writing failures (Err e) bytes = one_more failures
