-- Parts of a list that are copied or written in turn.
use Rattle.std.proofs.Common.{◌≡◌, ℕ, ◌+◌, ◌-◌, List, ◌++◌, Result, Ok, is_ok, if◌then◌else◌, length, take, drop, sym, subst, ap, ◌∙◌, arith}
use Rattle.std.specs.declared.alloc.AllocError.{AllocError}
use Rattle.std.proofs.Math.Seq.{take-add}
use Rattle.std.proofs.lemmas.List.{take_at, take_all, take-append-drop, drop-drop, length-drop}

-- the next n bytes, copied to the front of a slice, and the bytes after them are what was left
pub drop-copied : (bytes copy rest : List ℕ) (at n : ℕ) → length copy ≡ n → copy ≡ take n (drop at bytes)
    → drop at bytes ≡ take n (copy ++ rest) ++ drop (at + n) bytes
drop-copied bytes copy rest at n long same =
    sym (take-append-drop n (drop at bytes)) ∙ ap (λ l. take n (drop at bytes) ++ l) (drop-drop n at bytes)
    ∙ ap (λ l. l ++ drop (at + n) bytes) (sym same ∙ sym (take_at copy rest n long))

-- the first bytes, and then the first of the rest
pub take-written : (bytes : List ℕ) (at n : ℕ) → take (at + n) bytes ≡ take at bytes ++ take n (take (length bytes - at) (drop at bytes))
take-written bytes at n =
    let whole : take (length bytes - at) (drop at bytes) ≡ drop at bytes = take_all (length bytes - at) (drop at bytes) (omega (arith, length-drop at bytes)) in
    take-add at n bytes ∙ ap (λ l. take at bytes ++ take n l) (sym whole)

-- where a text could be put after the bytes of a vector, it stands there
pub appended : (old new text : List ℕ) (r : Result (Unit {0}) AllocError) (done : Unit {0}) → r ≡ Ok done → new ≡ (if is_ok r then old ++ text else old)
    → new ≡ old ++ text
appended old new text r done is items = subst (λ (s : Result (Unit {0}) AllocError). new ≡ (if is_ok s then old ++ text else old)) is items
