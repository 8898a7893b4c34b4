use Rattle.std.proofs.Common.{◌∙◌, ℕ, ◌^◌, ◌<◌, bit_xor, List, length, take, ap, sym, subst, arith}
use Rattle.std.proofs.Math.Facts.{Fits-lt-pow}
use Rattle.std.proofs.lemmas.List.{take_rest, length-take-le}
use Rattle.std.proofs.lemmas.List.Elements.{All-from_get_or}
use Rattle.ct_words.proofs.TextLemmas.{length-tabulate}
use Rattle.ct_words.specs.Coset.{span_word}
use Rattle.ct_codes.specs.Inside.Rows.{AreRows}
use Rattle.ct_codes.specs.Inside.Translated.{translated}
use Rattle.ct_codes.proofs.LightLemmas.{none_of_one}
use Rattle.ct_codes.proofs.coset_search.least_close_choices.Goals as goal

pub returns-then-branch-clause-least : goal.returns-then-branch-clause-least
returns-then-branch-clause-least c = λ n below.
    let fits = All-from_get_or (λ x. x < 2 ^ 32) c.args.basis.now 0 (λ k h. Fits-lt-pow (c.type_inv.basis k)) in
    let all_fit = All-from_get_or (λ x. x < 2 ^ 32) c.args.representatives.now 0 (λ k h. Fits-lt-pow (c.type_inv.representatives k)) in
    sym (none_of_one n c.args.d c.args.basis.now c.args.representatives.now fits all_fit c.if-representatives-eq1.true
    (c.in_ok-is_heavy.ensures c.if-branch.true) below)

pub rows_of-requires : goal.rows_of-requires
rows_of-requires c =
    let low = take 6 c.args.basis.now in
    let enough = c.if-basis-lt-LOW.false in
    ap length (c.deref.ensures.value ∙ c.in_ok-block.ensures) ∙ length-tabulate (λ s. bit_xor 0 (span_word low s)) (2 ^ length low)
    ∙ ap (λ q. 2 ^ q) (length-take-le 6 c.args.basis.now (omega arith))

pub in_blocks-requires-clause-parts : goal.in_blocks-requires-clause-parts
in_blocks-requires-clause-parts c =
    let enough = c.if-basis-lt-LOW.false in
    record {
      size = (omega arith, c.requires.basis);
      rows_are = subst (λ (xs : List ℕ). AreRows xs c.deref-3.result.now) (sym c.deref-2.ensures.value)
          (subst (λ (ys : List ℕ). AreRows c.in_ok-rows.rows.items ys) (c.deref.ensures.value ∙ sym c.deref-3.ensures.value) c.in_ok-rows.ensures);
      block_is = c.deref-3.ensures.value ∙ c.in_ok-block.ensures;
      steps_are = c.deref-4.ensures.value ∙ c.in_ok-steps.ensures ∙ ap (λ (xs : List ℕ). translated xs 0) (take_rest c.args.basis.now 6);
    }
