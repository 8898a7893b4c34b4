use Rattle.std.proofs.Common.{ℕ, zero, suc, ◌+◌, ◌-◌, ◌≤◌, Bool, true, false, List, [], ◌∷◌, length, ◌≡◌, ap, sym, ◌∙◌, arith, refl, inl, inr}
use Rattle.std.specs.Prelude.{if◌then◌else◌, min}
use Rattle.std.proofs.lemmas.Bool.{cases_lt}
use Rattle.ct_rules.specs.Removal.{Places, marked, count_below}
use Rattle.ct_rules.proofs.lowering.count_below.Goals as goal
use Rattle.ct_rules.proofs.lowering.count_below.Goals.{then-gone-other, else-gone-other}

one_more : (gone : Places) (p : ℕ) (b : Bool) → gone p ≡ b → count_below gone (p + 1) ≡ count_below gone p + (if b then 1 else 0)
unfolding count_below
one_more gone p b is =
    let next : p + 1 ≡ suc p = omega arith in
    ap (count_below gone) next ∙ ap (λ (c : Bool). count_below gone p + (if c then 1 else 0)) is

-- past its end a list marks nothing
marks_end : (marks : List Bool) (p : ℕ) → length marks ≤ p → marked marks p ≡ false
marks_end [] p past = refl
marks_end (b ∷ marks) zero past = absurd (omega arith)
marks_end (b ∷ marks) (suc p) past = marks_end marks p (omega arith)

counted_past : (marks : List Bool) (k : ℕ) → count_below (marked marks) (length marks + k) ≡ count_below (marked marks) (length marks)
counted_past marks zero = let e : length marks + 0 ≡ length marks = omega arith in ap (count_below (marked marks)) e
counted_past marks (suc k) =
    let e : length marks + suc k ≡ length marks + k + 1 = omega arith in
    let one = one_more (marked marks) (length marks + k) false (marks_end marks (length marks + k) (omega arith)) in
    let rest = counted_past marks k in
    ap (count_below (marked marks)) e ∙ omega (arith, one, rest)

counted : (marks : List Bool) (place end : ℕ) → end ≡ min place (length marks) → count_below (marked marks) end ≡ count_below (marked marks) place
counted marks place end is = elim (cases_lt place (length marks)) [
  | inl inside ↦ let same : end ≡ place = omega arith in ap (count_below (marked marks)) same
  | inr past ↦
      let same : end ≡ length marks = omega arith in
      let rest : length marks + (place - length marks) ≡ place = omega arith in
      ap (count_below (marked marks)) same ∙ sym (counted_past marks (place - length marks)) ∙ ap (count_below (marked marks)) rest
]

pub loop-other-init : goal.loop-other-init
unfolding count_below
loop-other-init c = (refl, omega arith, omega arith)

pub overflow_add-count : goal.overflow_add-count
overflow_add-count c =
    let few = c.loop-other.invariant.1 in
    let within = c.loop-other-test.true in
    let end = c.min-other-end.type_inv in
    omega (arith, few, within, end)

pub loop-other-preserved : goal.loop-other-preserved
loop-other-preserved c =
    let within : c.loop-other.other + 1 ≤ c.args.place = let t = c.loop-other-test.true in let e = c.min-other-end.ensures in omega (arith, t, e) in
    let so_far = c.loop-other.invariant.0 in
    let few = c.loop-other.invariant.1 in
    elim c.if-gone-other.branch [
      | then-gone-other w ↦
          let one = one_more (marked c.args.gone.now) c.loop-other.other true w.if-gone-other.true in
          let is = w.count-is in
          (omega (arith, one, is, so_far), omega (arith, is, few), within)
      | else-gone-other w ↦
          let one = one_more (marked c.args.gone.now) c.loop-other.other false w.if-gone-other.false in
          let is = w.count-is in
          (omega (arith, one, is, so_far), omega (arith, is, few), within)
    ]

pub returns-clause-count : goal.returns-clause-count
returns-clause-count c =
    let end : c.loop-other.other ≡ c.min-other-end.result = let t = c.loop-other-test.false in let u = c.loop-other.auto.other-end in omega (arith, t, u) in
    c.loop-other.invariant.0 ∙ counted c.args.gone.now c.args.place c.loop-other.other (end ∙ c.min-other-end.ensures)

pub returns-clause-few : goal.returns-clause-few
returns-clause-few c = let a = c.loop-other.invariant.1 in let b = c.loop-other.invariant.2 in omega (arith, a, b)
