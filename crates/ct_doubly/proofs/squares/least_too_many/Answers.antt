-- The numbers that were passed are not too many, nor those past the last that is tried.
use Rattle.std.proofs.Common.{◌≡◌, ℕ, ◌+◌, ◌-◌, ◌<◌, ◌≤◌, Bool, true, false, sym, ap, ◌∙◌, inl, inr, arith}
use Rattle.std.specs.Prelude.{Some, None}
use Rattle.std.proofs.lemmas.Bool.{cases_lt}
use Rattle.ct_johnson.specs.declared.columns.TheConstants.{MAX_COUNTED}
use Rattle.ct_johnson.specs.Bounds.{least_from}
use Rattle.ct_johnson.proofs.PairCounts.{least_from-found, least_from-none, tried_more}
use Rattle.ct_doubly.specs.Doubly.{are_too_many_by_squares}
use Rattle.ct_doubly.proofs.squares.least_too_many.Goals as goal

-- what is found
found : (test : ℕ → Bool) (m : ℕ) → 2 ≤ m → m ≤ MAX_COUNTED → ((k : ℕ) → 2 ≤ k → k < m → test k ≡ false) → test m ≡ true
    → least_from test 2 (MAX_COUNTED - 1) ≡ Some m
found test m some few before here =
    let place : 2 + (m - 2) ≡ m = omega arith in
    least_from-found test (m - 2) (MAX_COUNTED - 1) 2 (λ k l h. before k l (omega arith)) (ap test place ∙ here) (omega arith) ∙ ap Some place

-- nothing is, where neither those that were tried nor the others pass
none : (test : ℕ → Bool) (last m : ℕ) → last < m → ((k : ℕ) → 2 ≤ k → k < m → test k ≡ false)
    → ((k : ℕ) → last < k → k ≤ MAX_COUNTED → test k ≡ false)
    → least_from test 2 (MAX_COUNTED - 1) ≡ None
none test last m over tried rest =
    least_from-none test (MAX_COUNTED - 1) 2
    (λ k some few. elim (cases_lt k m) [ inl before ↦ tried k some before | inr after ↦ rest k (omega arith) (omega arith) ])

pub returns-then-are_too_many-clause-value : goal.returns-then-are_too_many-clause-value
returns-then-are_too_many-clause-value c =
    let last = c.last_to_try-words-end.ensures.counted in
    let few : c.loop-words.words ≤ MAX_COUNTED = omega arith in
    sym (found (are_too_many_by_squares c.args.n1 c.args.w1 c.args.n2 c.args.w2 c.args.half) c.loop-words.words c.loop-words.auto.words few
    c.loop-words.invariant (sym c.are_too_many.ensures ∙ c.if-are_too_many.true))

pub returns-clause-value : goal.returns-clause-value
returns-clause-value c =
    let over : c.last_to_try-words-end.result < c.loop-words.words = omega arith in
    sym (none (are_too_many_by_squares c.args.n1 c.args.w1 c.args.n2 c.args.w2 c.args.half) c.last_to_try-words-end.result c.loop-words.words over
    c.loop-words.invariant c.last_to_try-words-end.ensures.rest)

pub loop-words-init : goal.loop-words-init
loop-words-init c = λ k some below. absurd (omega (arith, some, below))

pub loop-words-preserved : goal.loop-words-preserved
loop-words-preserved c =
    tried_more (are_too_many_by_squares c.args.n1 c.args.w1 c.args.n2 c.args.w2 c.args.half) c.loop-words.words c.loop-words.invariant
    (sym c.are_too_many.ensures ∙ c.if-are_too_many.false)

pub returns-then-are_too_many-clause-some : goal.returns-then-are_too_many-clause-some
returns-then-are_too_many-clause-some c = c.loop-words.auto.words
