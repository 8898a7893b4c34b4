-- What is put at the end of a text, last of all or item by item.
use Rattle.std.proofs.Common.{true, false, if◌then◌else◌, is_ok, is_err, Result, Ok, Err}
use Rattle.std.proofs.Common.{◌≡◌, ℕ, ◌+◌, ◌<◌, List, [], ◌++◌, length, take, get_or, append_assoc, append-nil, sym, ap, ◌∙◌}
use Rattle.std.specs.Prelude.{OnOk, OnErr}
use Rattle.std.specs.Fmt.{decimal}
use Rattle.std.specs.List.{flat_map}
use Rattle.ct_io.proofs.BufferedLemmas.{part_more}
use Rattle.ct_text.specs.Growing.{Grows}
use Rattle.ct_text.proofs.GrowingTexts.{puts-three}

-- a text to which nothing is put
pub Grows-none : (text new : List ℕ) → new ≡ text → Grows text new
Grows-none text new is = ([], is ∙ sym (append-nil text))

-- all that is put is put at once, or it is not
pub puts-once : {X E : Type 0} (put : Result X E) (text given more new : List ℕ) → given ≡ more
    → new ≡ (if is_ok put then text ++ given else text) → OnOk put (new ≡ text ++ more)
puts-once (Ok x) text given more new same is = is ∙ ap (λ (l : List ℕ). text ++ l) same
puts-once (Err fault) text given more new same is = tt

-- the last of three parts is put, or it is not
pub puts-last : {X E : Type 0} (put : Result X E) (text a b c first second new : List ℕ) → first ≡ text ++ a → second ≡ first ++ b
    → OnOk put (new ≡ second ++ c) → OnOk put (new ≡ text ++ ((a ++ b) ++ c))
puts-last (Ok x) text a b c first second new h i j = puts-three text a b c first second new h i j
puts-last (Err fault) text a b c first second new h i j = tt

-- the last of three parts is a number
pub puts-number : {X E : Type 0} (put : Result X E) (text a b first second new : List ℕ) (given number : ℕ) → first ≡ text ++ a
    → second ≡ first ++ b → given ≡ number
    → OnOk put (new ≡ second ++ decimal given) → OnOk put (new ≡ text ++ ((a ++ b) ++ decimal number))
puts-number (Ok x) text a b first second new given number h i is j =
    puts-three text a b (decimal number) first second new h i (j ∙ ap (λ (k : ℕ). second ++ decimal k) is)
puts-number (Err fault) text a b first second new given number h i is j = tt

-- the text of one item more
pub puts-item : {X : Type 0} (f : X → List ℕ) (xs : List X) (i : ℕ) (d : X) (text before new : List ℕ) → i < length xs → before ≡ text ++ flat_map f (take i xs)
    → new ≡ before ++ f (get_or xs i d) → new ≡ text ++ flat_map f (take (i + 1) xs)
puts-item {X} f xs i d text before new within before-is new-is =
    new-is ∙ ap (λ (l : List ℕ). l ++ f (get_or xs i d)) before-is ∙ append_assoc text (flat_map f (take i xs)) (f (get_or xs i d))
    ∙ ap (λ (l : List ℕ). text ++ l) (part_more f xs i d within)

-- what was put or not, by the test
pub none-at-err : {X E : Type 0} (put : Result X E) (fact : Type 0) → true ≡ is_err put → OnOk put fact
none-at-err (Ok x) fact is = cc
none-at-err (Err fault) fact is = tt

pub none-at-ok : {X E : Type 0} (put : Result X E) (fact : Type 0) → false ≡ is_err put → OnErr put fact
none-at-ok (Ok x) fact is = tt
none-at-ok (Err fault) fact is = cc
