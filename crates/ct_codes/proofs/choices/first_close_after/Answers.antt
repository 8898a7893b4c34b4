use Rattle.std.proofs.Common.{◌∙◌, ap, ℕ, ◌+◌, nat_lt, get_or, position}
use Rattle.ct_words.specs.Word.{distance}
use Rattle.std.proofs.lemmas.List.{take_rest}
use Rattle.ct_codes.proofs.choices.first_close_after.Goals as goal

pub returns : goal.returns
returns c =
    let close = λ (x y : ℕ). nat_lt (distance 32 x y) c.args.d in
    c.first_close.ensures ∙ ap (position (close (get_or c.args.words.now c.args.place 0))) (take_rest c.args.words.now (c.args.place + 1))
