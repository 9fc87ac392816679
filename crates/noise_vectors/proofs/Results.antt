-- What is ensured of a call where it succeeded, and where it failed.
use Rattle.std.proofs.Common.{◌≡◌, ap, true, false, true≢false, Result, Ok, Err, if◌then◌else◌}
use Rattle.std.specs.Result.{IsErrAnd, OnOk, OnErr, is_err, is_ok}
use Rattle.noise_vectors.proofs.Common.{false≢true}

-- the error of a `?` is the callee's
pub err-is : {T E : Type 0} {e : E} (r : Result T E) → IsErrAnd r (λ y. y ≡ e) → r ≡ Err e
err-is (Ok x) h = absurd h
err-is (Err y) h = ap Err h

pub at_ok : {T E P : Type 0} (r : Result T E) → OnOk r P → is_err r ≡ false → P
at_ok (Ok x) h e = h
at_ok (Err y) h e = absurd (true≢false e)

pub at_err : {T E P : Type 0} (r : Result T E) → OnErr r P → is_err r ≡ true → P
at_err (Ok x) h e = absurd (false≢true e)
at_err (Err y) h e = h

pub chosen_ok : {T E X : Type 0} (r : Result T E) (new changed kept : X) → new ≡ (if is_ok r then changed else kept) → is_err r ≡ false → new ≡ changed
chosen_ok (Ok x) new changed kept h e = h
chosen_ok (Err y) new changed kept h e = absurd (true≢false e)
