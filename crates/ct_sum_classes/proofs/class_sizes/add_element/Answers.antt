use Rattle.std.proofs.Common.{◌≡◌, ◌≢◌, ℕ, zero, suc, [], ◌+◌, ◌-◌, ◌%◌, ◌<◌, ◌≤◌, List, length, get_or, subst, sym, ap, ap₂, ◌∙◌, inl, inr, arith, length-set}
use Rattle.std.proofs.lemmas.Bool.{cases_lt}
use Rattle.ct_sum_classes.specs.Inside.Sizes.{size_of, IsRow, IsTable}
use Rattle.ct_sum_classes.proofs.SizeLemmas.{first_row-next, row_beyond-next, row-low, size-more, set_other, set_more}
use Rattle.ct_sum_classes.proofs.class_sizes.add_element.Goals as goal

first_done : (n m w : ℕ) (table : List (List ℕ)) → IsTable n m w table → (k : ℕ) → k < 1 → IsRow n (m + 1) k (get_or table k [])
first_done n m w table is zero h = first_row-next n m (get_or table 0 []) (is 0 (omega arith))
first_done n m w table is (suc k) h = absurd (omega arith)

pub loop-ones-init : goal.loop-ones-init
loop-ones-init c = record {
  room = c.told-table;
  fewer = c.requires.below 0 (omega arith);
  done = first_done c.args.n c.args.element c.args.w c.args.table.now c.requires.below;
  left = λ k some within. c.requires.below k within;
}

pub add_with_element-requires-clause-same : goal.add_with_element-requires-clause-same
add_with_element-requires-clause-same c =
    row-low c.args.n c.args.element c.loop-ones.ones _ (let h = c.requires.element in let l = c.requires.length in omega arith)
    (c.loop-ones.invariant.left c.loop-ones.ones (omega arith) (omega arith))

pub add_with_element-requires-clause-fewer : goal.add_with_element-requires-clause-fewer
add_with_element-requires-clause-fewer c =
    row-low c.args.n c.args.element (c.loop-ones.ones - 1) _ (let h = c.requires.element in let l = c.requires.length in omega arith)
    c.loop-ones.invariant.fewer

-- the new row, from the two rows before
new_row : (n m k : ℕ) (same fewer row : List ℕ) → 1 ≤ k → m < n → IsRow n m k same → IsRow n m (k - 1) fewer
    → ((s : ℕ) → s < n → get_or row s 0 ≡ get_or same s 0 + get_or fewer ((s + (n - m)) % n) 0) → IsRow n (m + 1) k row
new_row n m zero same fewer row some below first second sums = absurd (omega arith)
new_row n m (suc k) same fewer row some below first second sums = λ s within.
    let before : suc k - 1 ≡ k = omega arith in
    let small : (s + (n - m)) % n < n = omega arith in
    sums s within ∙ ap₂ (λ i j. i + j) (first s within) (second ((s + (n - m)) % n) small
    ∙ ap (λ j. size_of n m j ((s + (n - m)) % n)) before)
    ∙ sym (size-more n m k s below within)

pub loop-ones-preserved : goal.loop-ones-preserved
loop-ones-preserved c =
    let n = c.args.n in
    let m = c.args.element in
    let k = c.loop-ones.ones in
    let table = c.loop-ones.table in
    let same = c.loop-ones.invariant.left k (omega arith) (omega arith) in
    let inside : k < length table = let room = c.loop-ones.invariant.room in omega arith in
    let row =
    new_row n m k (get_or table k []) c.loop-ones.fewer c.add_with_element.new.row
    (omega arith) c.requires.element same c.loop-ones.invariant.fewer c.add_with_element.ensures in
    record {
      room = length-set {A = List ℕ} _ _ _ ∙ c.loop-ones.invariant.room;
      fewer = let at : k + 1 - 1 ≡ k = omega arith in subst (λ j. IsRow n m j (get_or table k [])) (sym at) same;
      done = set_more (λ j r. IsRow n (m + 1) j r) table k _ [] inside c.loop-ones.invariant.done row;
      left = λ j h l. let ne : j ≢ k = omega arith in
          set_other (λ i r. IsRow n m i r) table k _ [] j ne (c.loop-ones.invariant.left j (omega arith) l);
    }

pub returns : goal.returns
returns c = λ k few.
    let n = c.args.n in
    let m = c.args.element in
    let inv = c.loop-ones.invariant in
    elim (cases_lt k c.loop-ones.ones) [
      | inl below ↦ inv.done k below
      | inr rest ↦
          let row = get_or c.loop-ones.table k [] in
          row_beyond-next n m k row c.requires.element (omega arith) (inv.left k (omega arith) few)
    ]
