-- The lines of a base and those that follow.
use Rattle.std.proofs.Common.{◌≡◌, ℕ, ◌+◌, ◌-◌, ◌<◌, ◌≤◌, List, [], ◌∷◌, ◌++◌, length, map, take, drop, get_or, slice_get, slice_set, Some, append-nil, append_assoc, length-append, refl, ap, sym, ◌∙◌, arith}
use Rattle.std.proofs.Math.Seq.{take-append-add, take-append_seam, drop-append_seam}
use Rattle.std.proofs.lemmas.Option.{slice_get-get_or}
use Rattle.ct_rule_parts.proofs.Places.{slice_get-append_left, slice_get-append_right}
use Rattle.ct_rules.specs.Derivation.{LineValue}
use Rattle.ct_rule_parts.specs.Slot.{slot_of}
use Rattle.ct_kept.specs.Kept.{KeptValue, SavedValue, BaseValue, UndoValue, set_back, with_line_put}
use Rattle.ct_slots.specs.Number.{slot_number}

-- no items
no_items : {X : Type 0} (xs : List X) → length xs ≡ 0 → xs ≡ []
no_items [] none = refl
no_items (x ∷ xs) none = absurd (omega arith)

-- what is kept
abbrev pub kept_in : List ℕ → List ℕ → List LineValue → ℕ → KeptValue
kept_in bounds reasons lines base = record { bounds = bounds; reasons = reasons; lines = lines; base = base }

-- as many lines as at one time, where those of the base are among them
pub kept_again : (bounds reasons : List ℕ) (first later rest : List LineValue) (count : ℕ) → length first ≤ count
    → rest ≡ take (count - length first) later
    → kept_in bounds reasons (first ++ rest) (length first) ≡ kept_in bounds reasons (take count (first ++ later)) (length first)
kept_again bounds reasons first later rest count within same =
    let all : length first + (count - length first) ≡ count = omega arith in
    let lines : first ++ rest ≡ take count (first ++ later) =
    ap (λ ls. first ++ ls) same ∙ sym (take-append-add first later (count - length first))
    ∙ ap (λ k. take k (first ++ later)) all in
    ap (λ ls. kept_in bounds reasons ls (length first)) lines

-- bounds and reasons, as those of a base, with the lines that followed, and with how many lines there were
abbrev pub base_in : List ℕ → List ℕ → BaseValue
base_in bounds reasons = record { bounds = bounds; reasons = reasons }

abbrev pub undo_in : List ℕ → List ℕ → List LineValue → UndoValue
undo_in bounds reasons later = record { bounds = bounds; reasons = reasons; later = later }

abbrev pub saved_in : List ℕ → List ℕ → ℕ → SavedValue
saved_in bounds reasons count = record { bounds = bounds; reasons = reasons; count = count }

module _ (bounds reasons : List ℕ) (first later : List LineValue) (kept : KeptValue) (is : kept_in bounds reasons (first ++ later) (length first) ≡ kept) where
  -- how many lines there are
  pub all_lines : (m n : ℕ) → m ≡ length first → n ≡ length later → m + n ≡ length kept.lines
  all_lines m n m-is n-is = (λ i. m-is i + n-is i) ∙ sym (length-append first later) ∙ ap (λ (k : KeptValue). length k.lines) is

  -- a line among those of the base
  pub line_in_first : (n size : ℕ) (line : LineValue) → size ≡ length first → n < size → line ≡ get_or first n line → slice_get kept.lines n ≡ Some line
  line_in_first n size line size-is below line-is =
      let within : n < length first = omega arith in
      sym (ap (λ (k : KeptValue). slice_get k.lines n) is) ∙ slice_get-append_left first later n within ∙ slice_get-get_or first n line within
      ∙ ap (λ (l : LineValue). Some l) (sym line-is)

  -- and one among those that follow
  pub later-within : (n size count : ℕ) → size ≡ length first → size ≤ n → count ≡ length later → n < length kept.lines → n - size < count
  later-within n size count size-is above count-is within =
      let all = sym (ap (λ (k : KeptValue). length k.lines) is) ∙ length-append first later in
      omega (arith, size-is, above, count-is, within, all)

  pub line_in_later : (n size : ℕ) (line : LineValue) → size ≡ length first → size ≤ n → n - size < length later → line ≡ get_or later (n - size) line
      → slice_get kept.lines n ≡ Some line
  line_in_later n size line size-is above within line-is =
      let place : n ≡ length first + (n - size) = omega arith in
      sym (ap (λ (k : KeptValue). slice_get k.lines n) is) ∙ ap (slice_get (first ++ later)) place ∙ slice_get-append_right first later (n - size)
      ∙ slice_get-get_or later (n - size) line within ∙ ap (λ (l : LineValue). Some l) (sym line-is)

  -- where the base has no lines, all lines become those of the base
  pub all_begun : (x y : List LineValue) → kept.base ≡ 0 → x ≡ later → y ≡ first
      → kept_in bounds reasons (x ++ y) (length x) ≡ kept_in kept.bounds kept.reasons kept.lines (length kept.lines)
  all_begun x y none x-is y-is =
      let empty : first ≡ [] = no_items first (ap (λ (k : KeptValue). k.base) is ∙ none) in
      (λ i. kept_in bounds reasons (x-is i ++ (y-is ∙ empty) i) (length (x-is i)))
      ∙ ap (λ (ls : List LineValue). kept_in bounds reasons ls (length later)) (append-nil later)
      ∙ ap (λ (ls : List LineValue). kept_in bounds reasons (ls ++ later) (length (ls ++ later))) (sym empty)
      ∙ ap (λ (k : KeptValue). kept_in k.bounds k.reasons k.lines (length k.lines)) is

  -- the bounds and reasons that are taken for those of a base
  pub base_taken : (b r : List ℕ) → b ≡ bounds → r ≡ reasons → base_in b r ≡ base_in kept.bounds kept.reasons
  base_taken b r b-is r-is = (λ i. base_in (b-is i) (r-is i)) ∙ ap (λ (k : KeptValue). base_in k.bounds k.reasons) is

  -- what is needed to put back what was there
  pub undo_taken : (b r : List ℕ) (l : List LineValue) → b ≡ bounds → r ≡ reasons → l ≡ later
      → undo_in b r l ≡ undo_in kept.bounds kept.reasons (drop kept.base kept.lines)
  undo_taken b r l b-is r-is l-is =
      (λ i. undo_in (b-is i) (r-is i) (l-is i)) ∙ ap (undo_in bounds reasons) (sym (drop-append_seam first later))
      ∙ ap (λ (k : KeptValue). undo_in k.bounds k.reasons (drop k.base k.lines)) is

  -- the bounds and reasons of the base, and its lines alone
  pub back_set : (b r : List ℕ) (l : List LineValue) (base : BaseValue) → b ≡ base.bounds → r ≡ base.reasons → l ≡ []
      → kept_in b r (first ++ l) (length first) ≡ set_back base kept
  back_set b r l base b-is r-is l-is =
      (λ i. kept_in (b-is i) (r-is i) (first ++ l-is i) (length first))
      ∙ ap (λ (ls : List LineValue). kept_in base.bounds base.reasons ls (length first)) (append-nil first ∙ sym (take-append_seam first later))
      ∙ ap (set_back base) is

  -- what was there is put back
  pub undone : (b r : List ℕ) (l : List LineValue) (undo : UndoValue) → undo_in b r l ≡ undo
      → kept_in b r (first ++ l) (length first) ≡ kept_in undo.bounds undo.reasons (take kept.base kept.lines ++ undo.later) kept.base
  undone b r l undo undo-is =
      ap (λ (u : UndoValue). kept_in u.bounds u.reasons (first ++ u.later) (length first)) undo-is
      ∙ ap (λ (ls : List LineValue). kept_in undo.bounds undo.reasons (ls ++ undo.later) (length first)) (sym (take-append_seam first later))
      ∙ ap (λ (k : KeptValue). kept_in undo.bounds undo.reasons (take k.base k.lines ++ undo.later) k.base) is

  -- the lines that follow are changed one by one
  pub later_changed : (f : LineValue → LineValue) (l : List LineValue) → l ≡ map f later
      → kept_in bounds reasons (first ++ l) (length first)
      ≡ kept_in kept.bounds kept.reasons (take kept.base kept.lines ++ map f (drop kept.base kept.lines)) kept.base
  later_changed f l l-is =
      let seen = l-is ∙ ap (map f) (sym (drop-append_seam first later)) in
      (λ i. kept_in bounds reasons (sym (take-append_seam first later) i ++ seen i) (length first))
      ∙ ap (λ (k : KeptValue). kept_in k.bounds k.reasons (take k.base k.lines ++ map f (drop k.base k.lines)) k.base) is

  -- one more line, whose claim is now the bound of its slot
  pub line_put : (number value m n : ℕ) (line : LineValue) (b : List ℕ) (l : List LineValue) → number ≡ slot_number (slot_of line.claim)
      → value ≡ line.claim.value → m ≡ length first → n ≡ length later → b ≡ slice_set bounds number value → l ≡ later ++ line ∷ []
      → kept_in b (slice_set reasons number (m + n)) (first ++ l) (length first) ≡ with_line_put kept line
  line_put number value m n line b l number-is value-is m-is n-is b-is l-is =
      let bound = b-is ∙ (λ i. slice_set bounds (number-is i) (value-is i)) in
      let place = (λ i. m-is i + n-is i) ∙ sym (length-append first later) in
      let lines = ap (λ (ls : List LineValue). first ++ ls) l-is ∙ sym (append_assoc first later (line ∷ [])) in
      (λ i. kept_in (bound i) (slice_set reasons (number-is i) (place i)) (lines i) (length first)) ∙ ap (λ (k : KeptValue). with_line_put k line) is

  -- bounds and reasons that are saved, and how many lines there are
  pub saved_taken : (b r : List ℕ) (count : ℕ) → b ≡ bounds → r ≡ reasons → count ≡ length kept.lines
      → saved_in b r count ≡ saved_in kept.bounds kept.reasons (length kept.lines)
  saved_taken b r count b-is r-is count-is =
      (λ i. saved_in (b-is i) (r-is i) (count-is i)) ∙ ap (λ (k : KeptValue). saved_in k.bounds k.reasons (length kept.lines)) is
