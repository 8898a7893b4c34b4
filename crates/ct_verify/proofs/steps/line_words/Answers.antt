use Rattle.std.proofs.Common.{◌≡◌, ℕ, List, map, subst}
use Rattle.std.specs.Prelude.{IfOk}
use Rattle.ct_verify.proofs.WordLemmas.{words-all}
use Rattle.ct_verify.proofs.steps.line_words.Goals as goal

pub returns : goal.returns
returns c =
    subst (λ (all : List (List ℕ)). IfOk c.first_words.result (λ words. map (λ word. word.now) words.items ≡ all))
    (words-all c.args.line.now) c.first_words.ensures
