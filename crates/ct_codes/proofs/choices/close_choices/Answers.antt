use Rattle.std.proofs.Common.{◌≡◌, ◌∙◌, sym, ap, ℕ, ◌+◌, ◌*◌, ◌%◌, ◌^◌, ◌<◌, ◌≤◌, nat_lt, Bool, List, Some, position, length, drop, length-drop, arith}
use Rattle.std.proofs.Math.Facts.{Fits-lt-pow}
use Rattle.std.proofs.lemmas.Nat.{one_shl}
use Rattle.std.proofs.lemmas.List.Quantifiers.{position-Some}
use Rattle.std.proofs.lemmas.List.Elements.{All-from_get_or}
use Rattle.ct_words.specs.declared.limits.TheConstants.{MAX_N}
use Rattle.ct_words.specs.Word.{distance}
use Rattle.ct_words.proofs.PairLemmas.{close_any_length}
use Rattle.ct_codes.proofs.ShiftedPairs.{shifted-none_before, shifted-row_found, shifted-end}
use Rattle.ct_codes.proofs.SpanLemmas.{length-coset_list}
use Rattle.ct_codes.proofs.CosetLemmas.{row-within, rows-of_choices}
use Rattle.ct_codes.proofs.choices.close_choices.Goals as goal

-- the number of choices of a representative
span_is : (k : ℕ) → k ≤ MAX_N → 1 * 2 ^ k % 18446744073709551616 ≡ 2 ^ k
span_is k few = one_shl k 64 (omega arith)

-- the places of a word and of the first one after it that is close
close-within : (close : ℕ → Bool) (words : List ℕ) (first more : ℕ) → first < length words → Some more ≡ position close (drop (first + 1) words)
    → (first < first + 1 + more) × (first + 1 + more < length words)
close-within close words first more row found =
    let (within, _, _) = position-Some close (drop (first + 1) words) more 0 (sym found) in
    let left = length-drop (first + 1) words in
    (omega arith, omega arith)

pub overflow_mul-first : goal.overflow_mul-first
overflow_mul-first c =
    let span = 1 * 2 ^ length c.args.basis.now % 18446744073709551616 in
    let row = row-within c.args.words.now c.args.basis.now c.args.representatives.now c.loop-place.place span c.requires.words
    (span_is (length c.args.basis.now) c.requires.basis) c.loop-place-test.true in
    omega arith

pub first_close_after-requires : goal.first_close_after-requires
first_close_after-requires c =
    row-within c.args.words.now c.args.basis.now c.args.representatives.now c.loop-place.place (1 * 2 ^ length c.args.basis.now % 18446744073709551616)
    c.requires.words (span_is (length c.args.basis.now) c.requires.basis) c.loop-place-test.true

pub returns-in-Some-clause-least : goal.returns-in-Some-clause-least
returns-in-Some-clause-least c = λ n below.
    let close = λ (x y : ℕ). nat_lt (distance 32 x y) c.args.d in
    let words = c.args.words.now in
    let first = c.loop-place.place * (1 * 2 ^ length c.args.basis.now % 18446744073709551616) in
    let fits = All-from_get_or (λ x. x < 2 ^ 32) words 0 (λ k h. Fits-lt-pow (c.type_inv.words k)) in
    let within = row-within words c.args.basis.now c.args.representatives.now c.loop-place.place
    (1 * 2 ^ length c.args.basis.now % 18446744073709551616) c.requires.words (span_is (length c.args.basis.now) c.requires.basis) c.loop-place-test.true in
    sym (shifted-row_found close words first c.in-Some.more within (sym c.in-Some.ensures))
    ∙ shifted-none_before close words first c.loop-place.invariant
    ∙ close_any_length 32 n c.args.d words fits below

pub loop-place-preserved : goal.loop-place-preserved
loop-place-preserved c =
    let words = c.args.words.now in
    let fits = All-from_get_or (λ x. x < 2 ^ 32) words 0 (λ k h. Fits-lt-pow (c.type_inv.words k)) in
    rows-of_choices 32 c.args.d words c.args.basis.now c.args.representatives.now c.loop-place.place
    (1 * 2 ^ length c.args.basis.now % 18446744073709551616) c.requires.words (span_is (length c.args.basis.now) c.requires.basis)
    fits c.loop-place-test.true c.loop-place.invariant (sym c.first_close_after.ensures ∙ c.in_default.is)

pub returns-clause-least : goal.returns-clause-least
returns-clause-least c = λ n below.
    let close = λ (x y : ℕ). nat_lt (distance 32 x y) c.args.d in
    let words = c.args.words.now in
    let span = 1 * 2 ^ length c.args.basis.now % 18446744073709551616 in
    let fits = All-from_get_or (λ x. x < 2 ^ 32) words 0 (λ k h. Fits-lt-pow (c.type_inv.words k)) in
    let all : c.loop-place.place ≡ length c.args.representatives.now = omega arith in
    let rows = ap (λ a. a * span) all in
    let spans = ap (λ q. length c.args.representatives.now * q) (span_is (length c.args.basis.now) c.requires.basis) in
    let size = ap length c.requires.words ∙ length-coset_list c.args.basis.now c.args.representatives.now in
    sym (shifted-end close words (c.loop-place.place * span) (omega arith))
    ∙ shifted-none_before close words (c.loop-place.place * span) c.loop-place.invariant
    ∙ close_any_length 32 n c.args.d words fits below

pub overflow_add-result : goal.overflow_add-result
overflow_add-result c =
    let span = 1 * 2 ^ length c.args.basis.now % 18446744073709551616 in
    let row = row-within c.args.words.now c.args.basis.now c.args.representatives.now c.loop-place.place span c.requires.words
    (span_is (length c.args.basis.now) c.requires.basis) c.loop-place-test.true in
    omega arith

pub overflow_add-result-in-Some : goal.overflow_add-result-in-Some
overflow_add-result-in-Some c =
    let span = 1 * 2 ^ length c.args.basis.now % 18446744073709551616 in
    let row = row-within c.args.words.now c.args.basis.now c.args.representatives.now c.loop-place.place span c.requires.words
    (span_is (length c.args.basis.now) c.requires.basis) c.loop-place-test.true in
    let pair = close-within _ c.args.words.now (c.loop-place.place * span) c.in-Some.more row c.in-Some.ensures in
    omega arith

pub returns-in-Some-clause-places : goal.returns-in-Some-clause-places
returns-in-Some-clause-places c =
    let span = 1 * 2 ^ length c.args.basis.now % 18446744073709551616 in
    let row = row-within c.args.words.now c.args.basis.now c.args.representatives.now c.loop-place.place span c.requires.words
    (span_is (length c.args.basis.now) c.requires.basis) c.loop-place-test.true in
    close-within _ c.args.words.now (c.loop-place.place * span) c.in-Some.more row c.in-Some.ensures
