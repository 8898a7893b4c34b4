use Rattle.std.proofs.Common.{◌≡◌, ℕ, suc, ◌+◌, ◌/◌, ◌%◌, [], replicate, add-one, ap, ◌∙◌}
use Rattle.std.specs.Prelude.{pos, false}
use Rattle.ct_words.specs.Entry.{unrestricted}
use Rattle.ct_kind.specs.declared.evidence.Evidence.TheVariants.{Dual}
use Rattle.ct_sample.proofs.drawing.drawn_dual.Goals as goal

pub returns : goal.returns
returns c =
    let h = c.args.h in
    let ones : c.from_vec.result ≡ replicate (suc (8 + c.args.h / 4 % 21)) (pos 1) =
    c.from_vec.ensures ∙ c.in_ok-ones.ensures.items_if_clones_equal (λ y same. same)
    ∙ ap (λ (k : ℕ). replicate k (pos 1)) (add-one (8 + c.args.h / 4 % 21)) in
    let none : c.from_vec-2.result ≡ [] = c.from_vec-2.ensures ∙ c.new.ensures.items in
    λ i. Dual (record { entry = unrestricted (8 + h / 4 % 21) (3 + h / 128 % 4); even = false; c = ones i; y = none i })
