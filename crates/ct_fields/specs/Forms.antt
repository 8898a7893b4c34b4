-- Values of a form: pairs of values, and lists of values that have one form.
use Rattle.std.specs.Prelude.{List, [], ◌∷◌, map, Option, Some, None}
use Rattle.std.specs.Option.{option_and_then}
use Rattle.toml.specs.Data.{Data, array, Items, no_items, item}
use Rattle.toml.specs.View.{items_of}

-- the values of a list of two
abbrev pub two_in : Data → Option (Data × Data)
two_in (array (item first (item second no_items))) = Some (first, second)
two_in _ = None

-- the pair that a list of two is, whose values have these forms
abbrev pub pair_in : {A B : Type 0} → (Data → Option A) → (Data → Option B) → Data → Option (A × B)
pair_in first second d =
    option_and_then (λ two. option_and_then (λ x. option_and_then (λ y. Some (x, y)) (second two.1)) (first two.0)) (two_in d)

-- what items are that all have the form
abbrev pub all_of : {A : Type 0} → (Data → Option A) → Items → Option (List A)
all_of form no_items = Some []
all_of form (item d ds) = option_and_then (λ x. option_and_then (λ xs. Some (x ∷ xs)) (all_of form ds)) (form d)

-- the list of two values that is written for a pair
abbrev pub pair_data : {A B : Type 0} → (A → Data) → (B → Data) → A × B → Data
pair_data first second p = array (items_of (first p.0 ∷ second p.1 ∷ []))

-- the list that is written for what is written so
abbrev pub list_data : {A : Type 0} → (A → Data) → List A → Data
list_data written xs = array (items_of (map written xs))
