use Rattle.std.proofs.Common.{◌≡◌, ℕ, List, ◌++◌, Result, Ok, Err, cond, sym, ap, ap₂, ◌∙◌, append_assoc}
use Rattle.std.specs.Prelude.{OnOk}
use Rattle.std.specs.Result.{is_ok}
use Rattle.ct_verify.specs.Text.{why_text}
use Rattle.ct_verify.proofs.text.put_why.Goals as goal

-- what was put at the end is there where the memory sufficed
put : {T E : Type 0} (r : Result T E) (now old more all : List ℕ) → now ≡ cond (is_ok r) (old ++ more) old → old ++ more ≡ all → OnOk r (now ≡ all)
put (Ok x) now old more all is same = is ∙ same
put (Err e) now old more all is same = tt

pub returns-in_ok-refusal-in-Evidence : goal.returns-in_ok-refusal-in-Evidence
returns-in_ok-refusal-in-Evidence c =
    put c.extend_from_slice-in-Evidence-2.result c.extend_from_slice-in-Evidence-2.new.self.items
    c.extend_from_slice-in-Evidence.new.self.items c.deref.result.now (c.args.text.now.items ++ why_text c.args.why)
    c.extend_from_slice-in-Evidence-2.ensures.items
    (ap₂ (λ (before after : List ℕ). before ++ after) c.in_ok-extend_from_slice-in-Evidence.ensures.items (c.deref.ensures.value
    ∙ c.in_ok-refusal-in-Evidence.ensures)
    ∙ append_assoc c.args.text.now.items _ _ ∙ ap (λ w. c.args.text.now.items ++ why_text w) (sym c.in-Evidence.is))
