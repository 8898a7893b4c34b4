use Rattle.std.proofs.Common.{◌≡◌, ◌*◌, ◌^◌, length}
use Rattle.ct_words.specs.Text.{tabulate}
use Rattle.ct_words.specs.Coset.{choice_word}
use Rattle.ct_codes.proofs.choices.choice_words.Given as goal

-- the choices of the first representatives
abbrev pub invariant-loop-representative : goal.invariant-loop-representative
invariant-loop-representative l =
    l.words.items ≡ tabulate (choice_word l.basis l.representatives) (l.representative-index * 2 ^ length l.basis)
