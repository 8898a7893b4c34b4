use Rattle.std.proofs.Common.{◌≡◌, ◌++◌, ℕ, List, Result, ap, sym, ◌∙◌}
use Rattle.std.specs.Prelude.{OnOk}
use Rattle.std.proofs.lemmas.Result.{on_ok_weaker}
use Rattle.ct_text.specs.Number.{spaced}
use Rattle.ct_rules.specs.declared.arguments.Arguments.{Arguments}
use Rattle.ct_rules.specs.declared.arguments.Arguments.TheVariants.{Numbers}
use Rattle.ct_derive.specs.Text.{argument_words}
use Rattle.ct_derive.proofs.TextParts.{onto}
use Rattle.ct_derive.proofs.text.put_arguments.Goals as goal

-- two numbers, one after the other
two_numbers : {T E : Type 0} (r : Result T E) (ids : List (List ℕ)) (arguments : Arguments) (first second k m : ℕ) (t t1 t2 : List ℕ)
    → arguments ≡ Numbers first second → k ≡ first → m ≡ second → t1 ≡ t ++ spaced k → OnOk r (t2 ≡ t1 ++ spaced m)
    → OnOk r (t2 ≡ t ++ argument_words ids arguments)
two_numbers r ids arguments first second k m t t1 t2 is k-is m-is one put =
    on_ok_weaker r
    (λ two. onto t (spaced first) (spaced second) t1 t2 (one ∙ ap (λ n. t ++ spaced n) k-is) (two ∙ ap (λ n. t1 ++ spaced n) m-is)
    ∙ ap (λ (a : Arguments). t ++ argument_words ids a) (sym is))
    put

pub returns-in_ok-put_spaced-in-Numbers : goal.returns-in_ok-put_spaced-in-Numbers
returns-in_ok-put_spaced-in-Numbers c =
    two_numbers c.put_spaced-in-Numbers-2.result c.args.ids.now c.args.arguments c.in-Numbers.first c.in-Numbers.second c.from-in-Numbers.result
    c.from-in-Numbers-2.result c.args.text.now.items c.put_spaced-in-Numbers.new.text.items c.put_spaced-in-Numbers-2.new.text.items c.in-Numbers.is
    c.from-in-Numbers.ensures c.from-in-Numbers-2.ensures c.in_ok-put_spaced-in-Numbers.ensures.ok c.put_spaced-in-Numbers-2.ensures.ok
