use Rattle.std.proofs.Common.{◌-◌, ◌/◌, ◌%◌, ◌^◌, ◌==◌, count_by, sym, ap₂, ◌∙◌}
use Rattle.ct_johnson.proofs.DigitPlaces.{length-with_digit}
use Rattle.ct_rule_codes.proofs.left_at_place.count_at.Goals as goal

pub returns : goal.returns
returns c =
    let part = c.args.part.now in
    c.count_of_digit.ensures
    ∙ ap₂ (λ n words. count_by (λ x. x / 2 ^ (n - 1 - c.args.place) % 2 == c.args.digit) words) c.n.ensures.value c.words.ensures.value
    ∙ sym (length-with_digit part.n c.args.digit c.args.place part.words)
