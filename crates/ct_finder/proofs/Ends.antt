-- What is kept through a run, and what its end as least shows.
use Rattle.std.proofs.Common.{◌≡◌, ℕ, zero, suc, ◌+◌, ◌≤◌, Bool, true, false, ◌&&◌, not, cond, List, [], ◌∷◌, length, refl, sym, ap, ◌∙◌, arith, subst}
use Rattle.std.specs.Prelude.{zip, ℤ, pos, ◌≤ℤ◌, int_lt, Option, Some, None, position, nat_lt}
use Rattle.std.specs.List.{position_or_len}
use Rattle.std.proofs.lemmas.Int.{ints}
use Rattle.std.proofs.lemmas.Bool.{ltb-false}
use Rattle.std.proofs.lemmas.Option.{none-some}
use Rattle.ct_finder.specs.Column.{Column, Tableau, same_column, is_choice}
use Rattle.ct_finder.specs.Pivot.{entering, pivot_row, pivoted, first_wide}
use Rattle.ct_finder.specs.Run.{run, coefficient}
use Rattle.ct_finder.specs.Run.End.{Least, Turns}
use Rattle.ct_finder.specs.Inside.Step.{Step, unless_wide, pivoted_at, step_at, step}
use Rattle.ct_finder.specs.Inside.Step.Step.{ended, goes}
use Rattle.ct_finder.proofs.Steps.{run_on, run-step}
use Rattle.ct_finder.specs.Sum.{next_at, next_from, after}
use Rattle.ct_finder.proofs.Entries.{same_column-is}
use Rattle.ct_finder.proofs.TurnedTableaus.{IsKept, kept-pivoted}

-- what each pivot keeps that a run makes, and what each pivot keeps whatever the size of its entries
abbrev pub KeepsNarrow : List Column → (Tableau → Type 0) → Type 0
KeepsNarrow cs P =
    (t : Tableau) (e i : ℕ) → entering cs t.cost ≡ Some e → pivot_row e t ≡ Some i → first_wide (pivoted e i t) ≡ None → P t → P (pivoted e i t)

abbrev pub Keeps : List Column → (Tableau → Type 0) → Type 0
Keeps cs P = (t : Tableau) (e i : ℕ) → entering cs t.cost ≡ Some e → pivot_row e t ≡ Some i → P t → P (pivoted e i t)

-- so it is kept by each step
on-unless_wide : (P : Tableau → Type 0) (o : Option ℤ) (t next : Tableau) → (o ≡ None → P t) → unless_wide o t ≡ goes next → P next
on-unless_wide P None t next holds is = let same : t ≡ next = cc in subst P same (holds refl)
on-unless_wide P (Some x) t next holds is = absurd cc

on-pivoted_at : (P : Tableau → Type 0) (e : ℕ) (o : Option ℕ) (t next : Tableau) → P t
    → ((i : ℕ) → o ≡ Some i → first_wide (pivoted e i t) ≡ None → P (pivoted e i t)) → pivoted_at e o t ≡ goes next → P next
on-pivoted_at P e None t next holds pivot_on is = let same : t ≡ next = cc in subst P same holds
on-pivoted_at P e (Some i) t next holds pivot_on is = on-unless_wide P (first_wide (pivoted e i t)) (pivoted e i t) next (pivot_on i refl) is

on-step_at : (P : Tableau → Type 0) (cs : List Column) → KeepsNarrow cs P → (o : Option ℕ) (t next : Tableau) → entering cs t.cost ≡ o → P t
    → step_at o t ≡ goes next → P next
on-step_at P cs keeps None t next enters holds is = absurd cc
on-step_at P cs keeps (Some e) t next enters holds is =
    on-pivoted_at P e (pivot_row e t) t next holds (λ i found narrow. keeps t e i enters found narrow holds) is

-- a run ends as least with a tableau that no column enters, where what was kept holds
pub record IsEnd (P : Tableau → Type 0) (cs : List Column) (last : Tableau) : Type 0 where
  pub kept : P last
  pub none : entering cs last.cost ≡ None

end-last : (P : Tableau → Type 0) (cs : List Column) (o : Option ℕ) (t last : Tableau) → entering cs t.cost ≡ o → P t
    → elim o [ None ↦ Least t | Some e ↦ Turns ] ≡ Least last → IsEnd P cs last
end-last P cs None t last was holds is =
    let same : t ≡ last = cc in
    subst (IsEnd P cs) same (record { kept = holds; none = was })
end-last P cs (Some e) t last was holds is = absurd cc

least-unless_wide : (o : Option ℤ) (t last : Tableau) → unless_wide o t ≡ ended (Least last) → ⊥
least-unless_wide None t last is = absurd cc
least-unless_wide (Some x) t last is = absurd cc

least-pivoted_at : (e : ℕ) (o : Option ℕ) (t last : Tableau) → pivoted_at e o t ≡ ended (Least last) → ⊥
least-pivoted_at e None t last is = absurd cc
least-pivoted_at e (Some i) t last is = least-unless_wide (first_wide (pivoted e i t)) (pivoted e i t) last is

end-step_at : (P : Tableau → Type 0) (cs : List Column) (o : Option ℕ) (t last : Tableau) → entering cs t.cost ≡ o → P t → step_at o t ≡ ended (Least last)
    → IsEnd P cs last
end-step_at P cs None t last was holds is =
    let same : t ≡ last = cc in
    subst (IsEnd P cs) same (record { kept = holds; none = was })
end-step_at P cs (Some e) t last was holds is = absurd (least-pivoted_at e (pivot_row e t) t last is)

pub end-of_run : (P : Tableau → Type 0) (cs : List Column) → KeepsNarrow cs P → (n : ℕ) (t last : Tableau) → P t → run cs n t ≡ Least last → IsEnd P cs last
end-of_run P cs keeps zero t last holds is = end-last P cs (entering cs t.cost) t last refl holds is
end-of_run P cs keeps (suc n) t last holds is =
    go (step cs t) refl (λ next goes_on. end-of_run P cs keeps n next last (on-step_at P cs keeps (entering cs t.cost) t next refl holds goes_on)) (sym (run-step cs n t) ∙ is)
  where
    go : (s : Step) → step cs t ≡ s → ((next : Tableau) → step cs t ≡ goes next → run cs n next ≡ Least last → IsEnd P cs last)
        → run_on cs n s ≡ Least last → IsEnd P cs last
    go (ended e) was later is = end-step_at P cs (entering cs t.cost) t last refl holds (was ∙ ap ended is)
    go (goes next) was later is = later next was is

-- and after so many pivots
on-next_at : (P : Tableau → Type 0) (e : ℕ) (o : Option ℕ) (t : Tableau) → P t → ((i : ℕ) → o ≡ Some i → P (pivoted e i t)) → P (next_at e o t)
on-next_at P e None t holds pivot_on = holds
on-next_at P e (Some i) t holds pivot_on = pivot_on i refl

on-next_from : (P : Tableau → Type 0) (cs : List Column) → Keeps cs P → (o : Option ℕ) (t : Tableau) → entering cs t.cost ≡ o → P t → P (next_from o t)
on-next_from P cs keeps None t enters holds = holds
on-next_from P cs keeps (Some e) t enters holds = on-next_at P e (pivot_row e t) t holds (λ i found. keeps t e i enters found holds)

pub kept-after_pivots : (P : Tableau → Type 0) (cs : List Column) → Keeps cs P → (n : ℕ) (t : Tableau) → P t → P (after cs n t)
kept-after_pivots P cs keeps zero t holds = holds
kept-after_pivots P cs keeps (suc n) t holds =
    kept-after_pivots P cs keeps n (next_from (entering cs t.cost) t) (on-next_from P cs keeps (entering cs t.cost) t refl holds)

-- what is known of the tableau with which a run ends as least
pub record IsLeastAt (number : ℕ → ℕ → ℤ) (cs : List Column) (degree : ℕ) (last : Tableau) : Type 0 where
  pub kept : IsKept number cs degree last
  pub none : entering cs last.cost ≡ None

pub least-at : (number : ℕ → ℕ → ℤ) (cs : List Column) (degree n : ℕ) (t last : Tableau) → IsKept number cs degree t
    → run cs n t ≡ Least last → IsLeastAt number cs degree last
least-at number cs degree n t last kept is =
    let end = end-of_run (IsKept number cs degree) cs (λ s e i enters found narrow holds. kept-pivoted number cs degree e i s found holds) n t last kept is in
    record { kept = end.kept; none = end.none }

pub kept-after : (number : ℕ → ℕ → ℤ) (cs : List Column) (degree n : ℕ) (t : Tableau) → IsKept number cs degree t → IsKept number cs degree (after cs n t)
kept-after number cs degree n t kept =
    kept-after_pivots (IsKept number cs degree) cs (λ s e i enters found holds. kept-pivoted number cs degree e i s found holds) n t kept

-- where no column enters, no a or s of the cost row is negative
abbrev enters : Column × ℤ → Bool
enters p = is_choice p.0 && int_lt p.1 (pos 0)

none_before : (xs : List (Column × ℤ)) → position enters xs ≡ None → length xs ≤ position_or_len enters xs
none_before xs h = go (nat_lt (position_or_len enters xs) (length xs)) refl h
  where
    go : (t : Bool) → nat_lt (position_or_len enters xs) (length xs) ≡ t → cond t (Some (position_or_len enters xs)) None ≡ None
        → length xs ≤ position_or_len enters xs
    go true is h = absurd (none-some (position_or_len enters xs) (sym h))
    go false is h = ltb-false (position_or_len enters xs) (length xs) is

nonneg_where : (x c : Column) (v : ℤ) → same_column x c ≡ true → is_choice c ≡ true → enters (x, v) ≡ false → pos 0 ≤ℤ v
nonneg_where x c v same choice not_entering =
    let chosen : is_choice x ≡ true = ap is_choice (same_column-is x c same) ∙ choice in
    let test : int_lt v (pos 0) ≡ false = ap (λ b. b && int_lt v (pos 0)) (sym chosen) ∙ not_entering in
    grind (arith, ints)

nonneg_all : (cs : List Column) (row : List ℤ) → length (zip cs row) ≤ position_or_len enters (zip cs row) → (c : Column) → is_choice c ≡ true
    → pos 0 ≤ℤ coefficient cs row c
nonneg_all [] row h c choice = omega (arith, ints)
nonneg_all (x ∷ cs) [] h c choice = omega (arith, ints)
nonneg_all (x ∷ cs) (v ∷ row) h c choice = go (enters (x, v)) refl h (λ rest. nonneg_all cs row rest c choice)
  where
    go : (t : Bool) → enters (x, v) ≡ t → suc (length (zip cs row)) ≤ cond (not t) (1 + position_or_len enters (zip cs row)) 0
        → (length (zip cs row) ≤ position_or_len enters (zip cs row) → pos 0 ≤ℤ coefficient cs row c)
        → pos 0 ≤ℤ cond (same_column x c) v (coefficient cs row c)
    go true is h ih = absurd (omega arith)
    go false is h ih = at_column (same_column x c) refl
      where
        at_column : (t : Bool) → same_column x c ≡ t → pos 0 ≤ℤ cond t v (coefficient cs row c)
        at_column true same = nonneg_where x c v same choice is
        at_column false same = ih (omega arith)

pub choices-nonneg : (cs : List Column) (cost : List ℤ) → entering cs cost ≡ None → (c : Column) → is_choice c ≡ true → pos 0 ≤ℤ coefficient cs cost c
choices-nonneg cs cost none c choice = nonneg_all cs cost (none_before (zip cs cost) none) c choice
