-- What is put at the end of a text at once.
use Rattle.std.proofs.Common.{◌≡◌, ℕ, List, ◌++◌, if◌then◌else◌, Result, Ok, Err, OnOk, ap, ◌∙◌}
use Rattle.std.specs.Result.{is_ok}

-- where it is put, the text has grown by all of it
pub puts-whole : {T E : Type 0} (r : Result T E) (new before put told : List ℕ) → new ≡ (if is_ok r then before ++ put else before) → put ≡ told
    → OnOk r (new ≡ before ++ told)
puts-whole (Ok x) new before put told is same = is ∙ ap (λ (l : List ℕ). before ++ l) same
puts-whole (Err e) new before put told is same = tt
