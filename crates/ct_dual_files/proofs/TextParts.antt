-- Texts that are put one after another.
use Rattle.std.proofs.Common.{◌≡◌, ◌++◌, ℕ, List, Result, Ok, Err, if◌then◌else◌, is_ok, append_assoc, ap, ◌∙◌}
use Rattle.std.specs.Prelude.{OnOk}
use Rattle.std.proofs.lemmas.Result.{on_ok_weaker}

-- a text after a text
pub onto : (t a b u v : List ℕ) → u ≡ t ++ a → v ≡ u ++ b → v ≡ t ++ (a ++ b)
onto t a b u v first second = second ∙ ap (λ (x : List ℕ). x ++ b) first ∙ append_assoc t a b

-- and where the last of them may fail
pub onto_on_ok : {T E : Type 0} (r : Result T E) (t a b u v : List ℕ) → u ≡ t ++ a → OnOk r (v ≡ u ++ b) → OnOk r (v ≡ t ++ (a ++ b))
onto_on_ok r t a b u v first put = on_ok_weaker r (λ second. onto t a b u v first second) put

-- all that is put is put at once, or it is not
pub puts_once : {T E : Type 0} (r : Result T E) (t given more v : List ℕ) → given ≡ more → v ≡ (if is_ok r then t ++ given else t) → OnOk r (v ≡ t ++ more)
puts_once (Ok x) t given more v same is = is ∙ ap (λ (l : List ℕ). t ++ l) same
puts_once (Err fault) t given more v same is = tt
