use Rattle.std.proofs.Common.{◌∙◌, ◌<◌, ◌^◌, ap, ap₂, subst, sym, ℕ, List}
use Rattle.std.specs.Prelude.{All}
use Rattle.ct_words.specs.Coset.{choice_count, coset_fault, CosetValue}
use Rattle.ct_codes.proofs.SpanLemmas.{length-coset_list}
use Rattle.ct_word_files.proofs.cosets_kind.checked_size.Goals as goal

pub returns-clause-size : goal.returns-clause-size
returns-clause-size c =
    let value = c.in_ok-code.ensures.value in
    let basis = c.in_ok-basis.ensures.items in
    let representatives = c.in_ok-representatives.ensures.items in
    let counted =
    ap₂ choice_count (ap (λ (v : CosetValue). v.basis) value ∙ basis) (ap (λ (v : CosetValue). v.representatives) value ∙ representatives) in (
      c.size.ensures.value ∙ counted ∙ sym (length-coset_list c.args.basis.now c.args.representatives.now),
      sym (ap₂ (λ (b r : List ℕ). coset_fault c.args.entry b r) basis representatives) ∙ c.in_ok-code.ensures.accepted,
    )

pub check_cosets-requires-clause-entry : goal.check_cosets-requires-clause-entry
check_cosets-requires-clause-entry c = c.requires.entry

pub check_cosets-requires-clause-unweighted : goal.check_cosets-requires-clause-unweighted
check_cosets-requires-clause-unweighted c = c.requires.plain

pub check_cosets-requires-clause-basis : goal.check_cosets-requires-clause-basis
check_cosets-requires-clause-basis c =
    subst (λ (ws : List ℕ). All (λ x. x < 2 ^ c.args.entry.n) ws) (sym c.in_ok-basis.ensures.items) c.requires.basis

pub check_cosets-requires-clause-representatives : goal.check_cosets-requires-clause-representatives
check_cosets-requires-clause-representatives c =
    subst (λ (ws : List ℕ). All (λ x. x < 2 ^ c.args.entry.n) ws) (sym c.in_ok-representatives.ensures.items) c.requires.representatives
