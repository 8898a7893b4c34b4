use Rattle.std.proofs.Common.{◌∙◌, ap, ℕ, get_or, option_map}
use Rattle.ct_words.specs.Word.{distance}
use Rattle.ct_words.specs.declared.fault.CodeFault.TheVariants.{Close}
use Rattle.ct_words.specs.Coset.{coset_list}
use Rattle.ct_codes.proofs.SpanLemmas.{coset_list-lt}
use Rattle.ct_codes.proofs.coset.close_fault.Goals as goal

pub returns : goal.returns
returns c =
    let n = c.args.entry.n in
    let words = coset_list c.args.basis.now c.args.representatives.now in
    let below = coset_list-lt n c.args.basis.now c.args.representatives.now c.requires.basis c.requires.representatives in
    c.fault_of.ensures n below
    ∙ ap (option_map (λ (p : ℕ × ℕ). Close p.0 p.1 (distance n (get_or words p.0 0) (get_or words p.1 0)))) (c.in_ok-pair.ensures.least n below)
