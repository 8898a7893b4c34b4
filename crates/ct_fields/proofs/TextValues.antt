-- Texts as values of a document.
use Rattle.std.proofs.Common.{◌≡◌, ℕ, List, Vec, String, Global, Result, Ok, ap, subst, ◌∙◌}
use Rattle.std.specs.Prelude.{IfOk}
use Rattle.std.specs.String.{string_vec}
use Rattle.toml.specs.Data.{string}
use Rattle.toml.specs.View.{view}
use Rattle.toml.specs.declared.value.Value.{String as StringValue}
use Rattle.toml.proofs.Views.{view-String}

-- a text of these bytes, once it is made of them
pub text_value : {E : Type 0} (made : Result (String Global) E) (s : String Global) (bytes : Vec ℕ Global) (text : List ℕ)
    → IfOk made (λ t. string_vec t ≡ bytes) → made ≡ Ok s → bytes.items ≡ text → view (StringValue s) ≡ string text
text_value made s bytes text is found items =
    let vec : string_vec s ≡ bytes = subst (λ r. IfOk r (λ t. string_vec t ≡ bytes)) found is in
    view-String s ∙ ap string (ap (λ v. v.items) vec ∙ items)
