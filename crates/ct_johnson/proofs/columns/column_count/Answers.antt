-- The numbers that were passed are not too many, nor those past the last that is tried; the one that is found bounds every code.
use Rattle.std.proofs.Common.{◌≡◌, ℕ, ◌-◌, ◌/◌, ◌<◌, ◌≤◌, false, None, if◌then◌else◌, ap, sym, ◌∙◌, inl, inr, arith}
use Rattle.std.proofs.lemmas.Bool.{cases_lt, lt-leb}
use Rattle.ct_words.specs.Entry.{constant_weight}
use Rattle.ct_words.proofs.EntryLemmas.{entry_limits}
use Rattle.ct_johnson.specs.declared.columns.TheConstants.{MAX_COUNTED}
use Rattle.ct_johnson.specs.Bounds.{are_too_many, least_from}
use Rattle.ct_johnson.proofs.PairCounts.{value_found, value_none, columns_sound, tried_more}
use Rattle.ct_johnson.proofs.columns.column_count.Goals as goal

-- neither those that were tried nor the others are too many
none_at_all : (n δ w last words : ℕ) → last < words → ((k : ℕ) → 2 ≤ k → k < words → are_too_many n δ w k ≡ false)
    → ((k : ℕ) → last < k → k ≤ MAX_COUNTED → are_too_many n δ w k ≡ false)
    → (k : ℕ) → 2 ≤ k → k ≤ MAX_COUNTED → are_too_many n δ w k ≡ false
none_at_all n δ w last words over tried rest k some few =
    elim (cases_lt k words) [ inl before ↦ tried k some before | inr after ↦ rest k (omega arith) few ]

pub returns-then-are_too_many-clause-value : goal.returns-then-are_too_many-clause-value
returns-then-are_too_many-clause-value c =
    let last = c.last_to_try-words-end.ensures.counted in
    let few : c.loop-words.words ≤ MAX_COUNTED = omega arith in
    sym (value_found c.args.n c.args.d c.args.w c.loop-words.words c.if-w-half.false c.loop-words.auto.words few c.loop-words.invariant
    (sym c.are_too_many.ensures ∙ c.if-are_too_many.true))

pub returns-then-are_too_many-clause-sound : goal.returns-then-are_too_many-clause-sound
returns-then-are_too_many-clause-sound c =
    let n = c.args.n in
    let d = c.args.d in
    let w = c.args.w in
    let m = c.loop-words.words in
    let limits = entry_limits (constant_weight n d w) c.requires in
    let last = c.last_to_try-words-end.ensures.counted in
    let few : m ≤ MAX_COUNTED = omega arith in
    let is = value_found n d w m c.if-w-half.false c.loop-words.auto.words few c.loop-words.invariant (sym c.are_too_many.ensures ∙ c.if-are_too_many.true) in
    (columns_sound n d w m limits.length_from limits.weight.0 is).1

pub returns-clause-value : goal.returns-clause-value
returns-clause-value c =
    let over : c.last_to_try-words-end.result < c.loop-words.words = omega arith in
    let none = none_at_all c.args.n (c.args.d / 2) c.args.w c.last_to_try-words-end.result c.loop-words.words over c.loop-words.invariant c.last_to_try-words-end.ensures.rest in
    sym (value_none c.args.n c.args.d c.args.w c.if-w-half.false (λ k some few. none k some (omega arith)))

pub returns-clause-least : goal.returns-clause-least
returns-clause-least c =
    let over : c.last_to_try-words-end.result < c.loop-words.words = omega arith in
    λ fits k some few.
    none_at_all c.args.n (c.args.d / 2) c.args.w c.last_to_try-words-end.result c.loop-words.words over c.loop-words.invariant c.last_to_try-words-end.ensures.rest k some few

pub returns-then-w-half-clause-value : goal.returns-then-w-half-clause-value
returns-then-w-half-clause-value c =
    let half = c.args.d / 2 in
    sym (ap (λ b. if b then least_from (are_too_many c.args.n half c.args.w) 2 (MAX_COUNTED - 1) else None) (lt-leb half c.args.w c.if-w-half.true))

pub returns-then-w-half-clause-least : goal.returns-then-w-half-clause-least
returns-then-w-half-clause-least c = let short = c.if-w-half.true in λ fits k some few. absurd (omega (arith, short, fits))

pub loop-words-init : goal.loop-words-init
loop-words-init c = λ k some below. absurd (omega (arith, some, below))

pub loop-words-preserved : goal.loop-words-preserved
loop-words-preserved c =
    tried_more (are_too_many c.args.n (c.args.d / 2) c.args.w) c.loop-words.words c.loop-words.invariant (sym c.are_too_many.ensures ∙ c.if-are_too_many.false)

pub returns-then-are_too_many-clause-least : goal.returns-then-are_too_many-clause-least
returns-then-are_too_many-clause-least c =
    let last = c.last_to_try-words-end.ensures.counted in
    record {
      some = c.loop-words.auto.words;
      counted = omega (arith, last);
      fits = c.if-w-half.false;
      too_many = sym c.are_too_many.ensures ∙ c.if-are_too_many.true;
      least = c.loop-words.invariant;
    }

pub are_too_many-requires-clause-length : goal.are_too_many-requires-clause-length
are_too_many-requires-clause-length c =
    let limits = entry_limits (constant_weight c.args.n c.args.d c.args.w) c.requires in
    (limits.length_from, limits.length_to)

pub are_too_many-requires-clause-weight : goal.are_too_many-requires-clause-weight
are_too_many-requires-clause-weight c =
    let limits = entry_limits (constant_weight c.args.n c.args.d c.args.w) c.requires in
    (c.if-w-half.false, limits.weight.2)
