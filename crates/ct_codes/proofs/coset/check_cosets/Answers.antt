use Rattle.std.proofs.Common.{◌∙◌, sym, ap₂}
use Rattle.ct_words.specs.Coset.{coset_fault}
use Rattle.ct_codes.proofs.CosetLemmas.{sound_cosets}
use Rattle.ct_codes.proofs.coset.check_cosets.Goals as goal

pub invariant_of-result : goal.invariant_of-result
invariant_of-result c =
    let none = ap₂ (coset_fault c.args.entry) (sym c.deref.ensures.value) (sym c.deref-2.ensures.value) ∙ sym c.in_ok-fault.ensures ∙ c.in-None.is in
    sound_cosets c.args.entry c.args.basis.items c.args.representatives.items c.requires.entry c.requires.unweighted
    c.requires.basis c.requires.representatives none

pub returns-in-None-clause-sound : goal.returns-in-None-clause-sound
returns-in-None-clause-sound c =
    let none = ap₂ (coset_fault c.args.entry) (sym c.deref.ensures.value) (sym c.deref-2.ensures.value) ∙ sym c.in_ok-fault.ensures ∙ c.in-None.is in
    sound_cosets c.args.entry c.args.basis.items c.args.representatives.items c.requires.entry c.requires.unweighted
    c.requires.basis c.requires.representatives none
