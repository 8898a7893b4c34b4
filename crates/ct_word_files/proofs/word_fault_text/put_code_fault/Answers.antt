use Rattle.std.proofs.Common.{◌≡◌, ℕ, ◌++◌, List, Result, append_assoc, ap, ◌∙◌}
use Rattle.std.specs.Prelude.{OnOk, codes}
use Rattle.std.proofs.lemmas.Result.{on_ok_weaker}
use Rattle.ct_text.specs.Number.{spaced}
use Rattle.ct_word_files.proofs.word_fault_text.put_code_fault.Goals as goal

-- a number after a text
number_after : {T E : Type 0} (r : Result T E) (t a first second : List ℕ) (given number : ℕ) → first ≡ t ++ a → given ≡ number
    → OnOk r (second ≡ first ++ spaced given) → OnOk r (second ≡ t ++ (a ++ spaced number))
number_after r t a first second given number one is put =
    on_ok_weaker r (λ two. two ∙ ap (λ k. first ++ spaced k) is ∙ ap (λ x. x ++ spaced number) one ∙ append_assoc t a (spaced number)) put

pub returns-in-Size : goal.returns-in-Size
returns-in-Size c = rw c.in-Size.is c.put_numbered.ensures

pub returns-in-Weight : goal.returns-in-Weight
returns-in-Weight c = rw c.in-Weight.is c.put_numbered-in-Weight.ensures

pub returns-in-Repeated : goal.returns-in-Repeated
returns-in-Repeated c = rw c.in-Repeated.is c.put_numbered_pair.ensures

pub returns-in_ok-put_numbered_pair-in-Close : goal.returns-in_ok-put_numbered_pair-in-Close
returns-in_ok-put_numbered_pair-in-Close c =
    rw c.in-Close.is
    (number_after c.put_spaced.result c.args.text.now.items (codes "close" ++ spaced c.in-Close.i ++ spaced c.in-Close.j)
    c.put_numbered_pair-in-Close.new.text.items c.put_spaced.new.text.items c.from.result c.in-Close.distance c.in_ok-put_numbered_pair-in-Close.ensures
    c.from.ensures c.put_spaced.ensures.ok)

pub returns-in-Work : goal.returns-in-Work
returns-in-Work c = rw c.in-Work.is c.put_numbered-in-Work.ensures
