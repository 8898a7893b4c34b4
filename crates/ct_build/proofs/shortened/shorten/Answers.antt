use Rattle.std.proofs.Common.{◌≡◌, ℕ, ◌-◌, ◌^◌, ◌<◌, ◌≤◌, List, length, refl, sym, ap, ap₂, subst, ◌∙◌, inl, arith, eqb-true}
use Rattle.std.proofs.lemmas.Bool.{eqb-false}
use Rattle.ct_words.specs.declared.limits.TheConstants.{MAX_N}
use Rattle.ct_words.specs.Code.{CodeValue, IsSoundCode}
use Rattle.ct_words.specs.Constructions.Places.{ArePlaces}
use Rattle.ct_words.specs.Constructions.Shortened.{shortened, shortened_weight}
use Rattle.ct_words.proofs.Constructions.ShortenedCodes.{IsSoundCode-shortened}
use Rattle.ct_build.specs.declared.fault.BuildFault.TheVariants.{Empty}
use Rattle.ct_build.proofs.Failures.{not_empty, made, failed, none_left}
use Rattle.ct_build.proofs.Sound.{words_within}
use Rattle.ct_build.proofs.shortened.shorten.Goals as goal
use Rattle.ct_build.proofs.shortened.shorten.Goals.{After-d}

pub shortened_words-requires-clause-places : goal.shortened_words-requires-clause-places
shortened_words-requires-clause-places c = subst (λ m. ArePlaces m c.args.places.now) (sym c.n.ensures.value) c.requires.places

pub shortened_words-requires-clause-words : goal.shortened_words-requires-clause-words
shortened_words-requires-clause-words c =
    words_within c.args.part.now c.n.result c.words.result.now c.n.ensures.sound c.n.ensures.value c.words.ensures.value

-- so few digits, and so few places
few_digits : (p q n : ℕ) → p ≡ q → q < n → n ≤ MAX_N → p ≤ MAX_N
few_digits p q n same fewer short = omega arith

few_places : (q n : ℕ) → q < n → n ≤ MAX_N → q < 2 ^ 32
few_places q n fewer short = omega arith

pub weight_without-w-requires : goal.weight_without-w-requires
weight_without-w-requires c = few_digits _ _ c.args.part.now.n c.requires.digits c.requires.some c.n.ensures.sound.length_in_range.1

pub overflow_cast-n : goal.overflow_cast-n
overflow_cast-n c = record { fits = few_places _ c.args.part.now.n c.requires.some c.n.ensures.sound.length_in_range.1 }

sound : (c : After-d)
    → IsSoundCode (record { n = c.n-2.result - length c.args.places.now; d = c.d.result; w = c.weight_without-w.result; words = c.in_ok-words.words.items })
sound c =
    let a = c.args.part.now in
    let places = c.args.places.now in
    let digits = c.args.digits.now in
    let n_is : a.n - length places ≡ c.n-2.result - length places = ap (λ n. n - length places) (sym c.n-2.ensures.value) in
    let w_is : shortened_weight digits a.w ≡ c.weight_without-w.result =
    ap (shortened_weight digits) (sym c.w.ensures.value) ∙ sym c.weight_without-w.ensures in
    let words_are : shortened a.n places digits a.words ≡ c.in_ok-words.words.items =
    (λ i. shortened (sym c.n.ensures.value i) places digits (sym c.words.ensures.value i)) ∙ sym c.in_ok-words.ensures.words in
    let some = eqb-false _ 0 (sym c.is_empty.ensures ∙ c.if-is_empty.false) in
    let long = c.in_ok-words.words.ok.0 in
    let as_many = ap length words_are in
    subst IsSoundCode (λ i. record { n = n_is i; d = sym c.d.ensures.value i; w = w_is i; words = words_are i })
    (IsSoundCode-shortened a places digits c.n.ensures.sound c.requires.places c.requires.some c.requires.digits (omega (arith, some, long, as_many)))

pub from_sorted-requires : goal.from_sorted-requires
from_sorted-requires c = record { code = sound ((goal.at.from_sorted-requires c).After-d) }

pub returns-clause-n : goal.returns-clause-n
returns-clause-n c = ap (λ (v : CodeValue). v.n) c.from_sorted.ensures.value ∙ ap (λ n. n - length c.args.places.now) c.n-2.ensures.value

pub returns-clause-d : goal.returns-clause-d
returns-clause-d c = ap (λ (v : CodeValue). v.d) c.from_sorted.ensures.value ∙ c.d.ensures.value

pub returns-clause-sound : goal.returns-clause-sound
returns-clause-sound c = subst IsSoundCode (sym c.from_sorted.ensures.value) (sound ((goal.at.returns-clause-sound c).After-d))

pub returns-then-is_empty-clause-empty : goal.returns-then-is_empty-clause-empty
returns-then-is_empty-clause-empty c =
    let same = ap₂ (λ n (ws : List ℕ). shortened n c.args.places.now c.args.digits.now ws) c.n.ensures.value c.words.ensures.value in
    let long = c.in_ok-words.words.ok.0 in
    let none = eqb-true _ 0 (sym c.is_empty.ensures ∙ c.if-is_empty.true) in
    (λ is. sym (c.in_ok-words.ensures.words ∙ same) ∙ none_left c.in_ok-words.words.items (omega (arith, long, none)), λ empty. refl)

pub returns-then-is_empty-clause-faults : goal.returns-then-is_empty-clause-faults
returns-then-is_empty-clause-faults c = inl refl

pub returns-clause-empty : goal.returns-clause-empty
returns-clause-empty c =
    let a = c.args.part.now in
    let same = ap₂ (λ n (ws : List ℕ). shortened n c.args.places.now c.args.digits.now ws) c.n.ensures.value c.words.ensures.value in
    let words_are = c.in_ok-words.ensures.words ∙ same in
    let some = eqb-false _ 0 (sym c.is_empty.ensures ∙ c.if-is_empty.false) in
    let long = c.in_ok-words.words.ok.0 in
    (λ same. absurd (made c.from_sorted.result Empty same), λ none. let no = ap length (words_are ∙ none) in absurd (omega (arith, some, long, no)))

pub returns-in_err-words-clause-empty : goal.returns-in_err-words-clause-empty
returns-in_err-words-clause-empty c =
    let same = ap₂ (λ n (ws : List ℕ). shortened n c.args.places.now c.args.digits.now ws) c.n.ensures.value c.words.ensures.value in
    (λ empty. absurd (not_empty c.from_residual.result c.from_residual.ensures.1 empty), λ none. absurd (failed (c.in_err-words.ensures.none (same ∙ none))))

pub returns-clause-w : goal.returns-clause-w
returns-clause-w c =
    ap (λ (v : CodeValue). v.w) c.from_sorted.ensures.value ∙ c.weight_without-w.ensures ∙ ap (shortened_weight c.args.digits.now) c.w.ensures.value

pub returns-clause-words : goal.returns-clause-words
returns-clause-words c =
    ap (λ (v : CodeValue). v.words) c.from_sorted.ensures.value ∙ c.in_ok-words.ensures.words
    ∙ ap₂ (λ n (ws : List ℕ). shortened n c.args.places.now c.args.digits.now ws) c.n.ensures.value c.words.ensures.value
