-- Words and the numbers that they write, as loops meet them.
use Rattle.std.proofs.Common.{◌≡◌, ℕ, ◌+◌, ◌-◌, ◌<◌, ◌≤◌, Bool, true, false, cond, Bor, List, [], ◌∷◌, ◌++◌, length, map, take, drop, get_or, Option, Some, None, option_map, refl, sym, ap, ◌∙◌, append_assoc, take_all, arith}
use Rattle.std.specs.Prelude.{◌==◌, not, slice_index}
use Rattle.std.specs.List.{slice_split}
use Rattle.std.specs.Str.Lines.{strip_carriage_return}
use Rattle.std.proofs.lemmas.List.{at_drop_more, length-take-le}
use Rattle.std.proofs.lemmas.List.Sums.{length-filter, count_by-le-length}
use Rattle.std.proofs.lemmas.List.Splits.{length-slice_split}
use Rattle.ct_text.specs.Line.{words_of}
use Rattle.ct_text.specs.Number.{number_of}
use Rattle.ct_derive.specs.Check.{and_values}
use Rattle.ct_verify.specs.Inside.StatedLine.{all_numbers, line_of}

stripped-short : (line : List ℕ) → length (strip_carriage_return line) ≤ length line
stripped-short line = at (slice_index line (length line - 1) == 13) where
  at : (b : Bool) → length (cond b (take (length line - 1) line) line) ≤ length line
  at true = let taken = length-take-le (length line - 1) line (omega arith) in omega arith
  at false = omega arith

-- a line has no more words than characters and one
pub words-few : (line : List ℕ) → length (words_of line) ≤ length line + 1
unfolding words_of
words-few line =
    let parts = slice_split (λ (b : ℕ). b == 32) (strip_carriage_return line) in
    let kept = length-filter (λ (word : List ℕ). not (length word == 0)) (slice_split (λ (b : ℕ). b == 32) (strip_carriage_return line)) in
    let fewer = count_by-le-length (λ (word : List ℕ). not (length word == 0)) (slice_split (λ (b : ℕ). b == 32) (strip_carriage_return line)) in
    let split = length-slice_split (λ (b : ℕ). b == 32) (strip_carriage_return line) in
    let spaces = count_by-le-length (λ (b : ℕ). b == 32) (strip_carriage_return line) in
    let short = stripped-short line in
    omega arith

pub words-all : (line : List ℕ) → take (length line + 1) (words_of line) ≡ words_of line
words-all line = take_all (length line + 1) (words_of line) (words-few line)

-- the number that the next word writes, before those of the others
pub numbers-next : (words : List (Bor (List ℕ))) (i : ℕ) (d : Bor (List ℕ)) (first : Option ℕ) → first ≡ number_of (get_or words i d).now → i < length words
    → all_numbers (map (λ word. word.now) (drop i words)) ≡ and_values first (all_numbers (map (λ word. word.now) (drop (i + 1) words)))
numbers-next words i d first is within =
    at_drop_more (λ (left : List (Bor (List ℕ))). all_numbers (map (λ word. word.now) left)) words i d within
    ∙ ap (λ (o : Option ℕ). and_values o (all_numbers (map (λ word. word.now) (drop (i + 1) words)))) (sym is)

-- one number more
pub numbers-push : (so_far : List ℕ) (n : ℕ) (rest : Option (List ℕ))
    → option_map (λ more. so_far ++ more) (and_values (Some n) rest) ≡ option_map (λ more. (so_far ++ n ∷ []) ++ more) rest
numbers-push so_far n None = refl
numbers-push so_far n (Some ns) = ap Some (sym (append_assoc so_far (n ∷ []) ns))

-- fewer than five words state no line
pub line_of-short : (words : List (List ℕ)) → length words < 4 → line_of words ≡ None
line_of-short [] short = refl
line_of-short (a ∷ []) short = refl
line_of-short (a ∷ b ∷ []) short = refl
line_of-short (a ∷ b ∷ c ∷ []) short = refl
line_of-short (a ∷ b ∷ c ∷ d ∷ words) short = absurd (omega arith)
