use Rattle.std.proofs.Common.{◌≡◌, ◌^◌, ◌<◌, ◌≤◌, length, List, ℕ, subst, refl, sym, ap, ◌∙◌, Some, IsPermutation, inl, arith, eqb-true}
use Rattle.std.proofs.lemmas.Bool.{eqb-false}
use Rattle.ct_words.specs.declared.code.TheConstants.{MAX_CODE_DISTANCE}
use Rattle.ct_words.specs.Code.{CodeValue, IsSoundCode}
use Rattle.ct_words.specs.Constructions.Even.{even_from}
use Rattle.ct_words.specs.Constructions.Translation.{selected}
use Rattle.ct_words.proofs.Constructions.TranslationLemmas.{sound-selected}
use Rattle.ct_build.proofs.Sound.{IsSoundCode-same}
use Rattle.ct_build.specs.declared.fault.BuildFault.TheVariants.{Empty}
use Rattle.ct_build.proofs.Failures.{not_empty, made, none_left}
use Rattle.ct_build.proofs.translation.select_weight.Goals as goal
use Rattle.ct_build.proofs.translation.select_weight.Goals.{After-even_from}

-- a distance of codes is far below the numbers of 32 bits
far_below : (k d : ℕ) → k ≡ d → d ≤ MAX_CODE_DISTANCE → k < 2 ^ 31
far_below k d same few = omega arith

pub even_from-requires : goal.even_from-requires
even_from-requires c = far_below c.d.result c.args.part.now.d c.d.ensures.value c.d.ensures.sound.distance_in_range.1

moved : (c : After-even_from) → IsPermutation (selected c.args.part.now.n c.args.by c.args.w c.args.part.now.words) c.in_order-words.result.items
moved c = subst (λ (ws : List ℕ). IsPermutation ws c.in_order-words.result.items) c.in_ok-words.ensures.words c.in_order-words.ensures.permutation

sound : (c : After-even_from)
    → IsSoundCode (record { n = c.n.result; d = c.even_from.result; w = Some c.args.w; words = c.in_order-words.result.items })
sound c =
    let part = c.args.part.now in
    let some = eqb-false _ 0 (sym c.is_empty.ensures ∙ c.if-is_empty.false) in
    let long = c.in_ok-words.words.ok.0 in
    let as_many = ap length c.in_ok-words.ensures.words in
    IsSoundCode-same (record { n = part.n; d = even_from part.d; w = Some c.args.w; words = c.in_order-words.result.items }) _ _ _ _
    c.n.ensures.value (c.even_from.ensures ∙ ap even_from c.d.ensures.value) refl refl
    (sound-selected part c.args.by c.args.w c.in_order-words.result.items c.n.ensures.sound c.requires.by (omega (arith, some, long, as_many)) (moved c)
    c.in_order-words.ensures.sorted)

pub from_sorted-requires : goal.from_sorted-requires
from_sorted-requires c = record { code = sound ((goal.at.from_sorted-requires c).After-even_from) }

pub returns-clause-words : goal.returns-clause-words
returns-clause-words c =
    subst (λ (v : CodeValue). IsPermutation (selected c.args.part.now.n c.args.by c.args.w c.args.part.now.words) v.words) (sym c.from_sorted.ensures.value)
    (moved ((goal.at.returns-clause-words c).After-even_from))

pub returns-clause-n : goal.returns-clause-n
returns-clause-n c = ap (λ (v : CodeValue). v.n) c.from_sorted.ensures.value ∙ c.n.ensures.value

pub returns-clause-d : goal.returns-clause-d
returns-clause-d c = ap (λ (v : CodeValue). v.d) c.from_sorted.ensures.value ∙ c.even_from.ensures ∙ ap even_from c.d.ensures.value

pub returns-clause-sound : goal.returns-clause-sound
returns-clause-sound c = subst IsSoundCode (sym c.from_sorted.ensures.value) (sound ((goal.at.returns-clause-sound c).After-even_from))

pub returns-then-is_empty-clause-empty : goal.returns-then-is_empty-clause-empty
returns-then-is_empty-clause-empty c =
    let long = c.in_ok-words.words.ok.0 in
    let none = eqb-true _ 0 (sym c.is_empty.ensures ∙ c.if-is_empty.true) in
    (λ same. sym c.in_ok-words.ensures.words ∙ none_left c.in_ok-words.words.items (omega (arith, long, none)), λ empty. refl)

pub returns-then-is_empty-clause-faults : goal.returns-then-is_empty-clause-faults
returns-then-is_empty-clause-faults c = inl refl

pub returns-clause-empty : goal.returns-clause-empty
returns-clause-empty c =
    let some = eqb-false _ 0 (sym c.is_empty.ensures ∙ c.if-is_empty.false) in
    let long = c.in_ok-words.words.ok.0 in (
      λ same. absurd (made c.from_sorted.result Empty same),
      λ none. let no = ap length (c.in_ok-words.ensures.words ∙ none) in absurd (omega (arith, some, long, no)),
    )

pub returns-in_err-words-clause-empty : goal.returns-in_err-words-clause-empty
returns-in_err-words-clause-empty c =
    (λ empty. absurd (not_empty c.from_residual.result c.from_residual.ensures.1 empty), λ none. absurd (c.in_err-words.ensures.some none))
