use Rattle.std.proofs.Common.{◌∙◌, sym, subst, ap, ℕ, ◌<◌, ◌^◌, nat_lt, List, length, All, IfSome}
use Rattle.ct_words.specs.Word.{distance}
use Rattle.ct_words.specs.Pairs.{least_pair}
use Rattle.ct_codes.proofs.SpanLemmas.{length-coset_list}
use Rattle.ct_codes.proofs.coset_search.listed.Goals as goal

pub returns-clause-least : goal.returns-clause-least
returns-clause-least c = λ n below.
    let made = c.deref.ensures.value ∙ c.in_ok-words.ensures in
    c.close_choices.ensures.least n (subst (λ (xs : List ℕ). All (λ x. x < 2 ^ n) xs) (sym made) below)
    ∙ ap (least_pair (λ x y. nat_lt (distance n x y) c.args.d)) made

pub returns-clause-places : goal.returns-clause-places
returns-clause-places c =
    let made = c.deref.ensures.value ∙ c.in_ok-words.ensures in
    subst (λ (q : ℕ). IfSome c.close_choices.result (λ p. (p.0 < p.1) × (p.1 < q)))
    (ap length made ∙ length-coset_list c.args.basis.now c.args.representatives.now) c.close_choices.ensures.places
