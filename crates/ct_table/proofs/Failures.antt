-- What holds after an `Ok`, and after want of memory.
use Rattle.std.proofs.Common.{◌≡◌, false, sym}
use Rattle.std.specs.Prelude.{Result, Ok, Err, OnOk, OnErr, is_err}
use Rattle.std.proofs.lemmas.Bool.{false≢true}

-- what holds anyway holds after an `Ok`, and after an `Err`
pub on_ok : {T E P : Type 0} (r : Result T E) → P → OnOk r P
on_ok (Ok x) h = h
on_ok (Err e) h = tt

pub on_err : {T E P : Type 0} (r : Result T E) → P → OnErr r P
on_err (Ok x) h = tt
on_err (Err e) h = h

-- what holds after an `Err` need not hold after an `Ok`
pub not_err : {T E : Type 0} (r : Result T E) (P : Type 0) → is_err r ≡ false → OnErr r P
not_err (Ok x) P h = tt
not_err (Err e) P h = absurd (false≢true (sym h))
