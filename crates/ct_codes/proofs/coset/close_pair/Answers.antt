use Rattle.std.proofs.Common.{◌∙◌, sym, subst, ap, ap₂, ℕ, ◌<◌, ◌^◌}
use Rattle.ct_words.specs.Word.{distance}
use Rattle.ct_words.specs.declared.fault.CodeFault.TheVariants.{Close}
use Rattle.ct_codes.proofs.SpanLemmas.{length-coset_list, get_or-coset_list}
use Rattle.ct_codes.proofs.coset.close_pair.Goals as goal

pub returns : goal.returns
returns c = λ n below.
    let basis = c.args.basis.now in
    let representatives = c.args.representatives.now in
    let i = c.args.i in
    let j = c.args.j in
    let size = length-coset_list basis representatives in
    let first = c.choice_word.ensures ∙ sym (get_or-coset_list basis representatives i c.requires.places.0) in
    let second = c.choice_word-2.ensures ∙ sym (get_or-coset_list basis representatives j c.requires.places.1) in
    let first_below = below i 0 (subst (λ (m : ℕ). i < m) (sym size) c.requires.places.0) in
    let second_below = below j 0 (subst (λ (m : ℕ). j < m) (sym size) c.requires.places.1) in
    let far = c.distance-distance.ensures n (subst (λ (z : ℕ). z < 2 ^ n) (sym first) first_below) (subst (λ (z : ℕ). z < 2 ^ n) (sym second) second_below) in
    ap (λ (t : ℕ). Close i j t) (far ∙ ap₂ (distance n) first second)
