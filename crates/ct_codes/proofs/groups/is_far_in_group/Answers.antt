use Rattle.std.proofs.Common.{◌≡◌, ℕ, ◌+◌, ◌<◌, ◌≤◌, List, false, length, get_or, inl, inr, refl, subst, sym, below_more, ◌∙◌, arith}
use Rattle.std.specs.Prelude.{◌≢◌}
use Rattle.std.specs.List.Sorted.{IsNonDecreasingBy}
use Rattle.std.proofs.Math.Facts.{Fits-lt-pow}
use Rattle.std.proofs.lemmas.Bool.{cases_lt, both_ways}
use Rattle.ct_words.specs.Word.{distance}
use Rattle.ct_codes.specs.Inside.Groups.{group_digits}
use Rattle.ct_codes.proofs.groups.is_far_in_group.Goals as goal

-- where words ascend by their digits, no word from one with other digits on has those of a word before it
same-before : (digits : ℕ → ℕ) (words : List ℕ) (place other m : ℕ) → IsNonDecreasingBy digits words → place + 1 ≤ other → other < length words
    → digits (get_or words other 0) ≢ digits (get_or words place 0) → m < length words → digits (get_or words place 0) ≡ digits (get_or words m 0) → m < other
same-before digits words place other m ordered after within differ inside same = elim (cases_lt m other) [
  | inl before ↦ before
  | inr past ↦
      let low = ordered place other 0 (omega arith) within in
      let high = ordered other m 0 past inside in
      absurd (differ (omega arith))
]

pub loop-other-preserved : goal.loop-other-preserved
loop-other-preserved c = λ m after before.
    let words = c.args.words.now in
    let place = c.args.place in
    let is = c.distance.ensures 32 (Fits-lt-pow (c.type_inv.words place)) (Fits-lt-pow (c.type_inv.words c.loop-other.other)) in
    below_more (λ k. place < k → c.args.d ≤ distance 32 (get_or words place 0) (get_or words k 0)) c.loop-other.other
    (λ k h later. c.loop-other.invariant k later h) (λ later. subst (λ x. c.args.d ≤ x) is c.if-distance-d.false) m before after

pub returns-then-group_digits-digits : goal.returns-then-group_digits-digits
returns-then-group_digits-digits c = λ far ordered m after within same.
    let words = c.args.words.now in
    c.loop-other.invariant m after
    (same-before (group_digits c.args.shift c.args.width) words c.args.place c.loop-other.other m ordered c.loop-other.auto.other c.loop-other-test.true
    (λ equal. c.if-group_digits-digits.true (c.group_digits.ensures ∙ equal ∙ sym c.group_digits-digits.ensures)) within same)

pub returns-then-other-place : goal.returns-then-other-place
returns-then-other-place c = λ far. absurd (both_ways false refl far)

pub returns : goal.returns
returns c = λ far ordered m after within same. c.loop-other.invariant m after (omega arith)
