-- Classes whose words have their length, and their texts.
use Rattle.std.proofs.Common.{◌≡◌, ℕ, ◌^◌, ◌<◌, zero, suc, List, [], ◌∷◌, length, map, get_or, Global, refl, sym, ap, subst, arith}
use Rattle.std.specs.Prelude.{All, Vec}
use Rattle.std.proofs.lemmas.List.Elements.{All-head, All-tail}
use Rattle.toml.specs.Data.{Data}
use Rattle.ct_classes.specs.Partition.{word_lists}
use Rattle.ct_fields.specs.Written.{word_texts}

-- where the words of each class have the length, those of the class at a place have it
pub short_class : (n : ℕ) (classes : List (Vec ℕ Global)) (i : ℕ) (class : Vec ℕ Global) → i < length classes → class ≡ get_or classes i class
    → All (λ words. All (λ x. x < 2 ^ n) words) (word_lists classes) → All (λ x. x < 2 ^ n) class.items
short_class n [] i class below is short = absurd (omega arith)
short_class n (c ∷ cs) zero class below is short =
    subst (λ (w : Vec ℕ Global). All (λ x. x < 2 ^ n) w.items) (sym is) (All-head (λ words. All (λ x. x < 2 ^ n) words) c.items (word_lists cs) short)
short_class n (c ∷ cs) (suc i) class below is short =
    short_class n cs i class (omega arith) is (All-tail (λ words. All (λ x. x < 2 ^ n) words) c.items (word_lists cs) short)

-- the list of the texts of the words of a class
abbrev pub texts_of_class : ℕ → Vec ℕ Global → Data
texts_of_class n class = word_texts n class.items

pub texts_of_classes : (n : ℕ) (classes : List (Vec ℕ Global)) → map (texts_of_class n) classes ≡ map (word_texts n) (word_lists classes)
texts_of_classes n [] = refl
texts_of_classes n (class ∷ classes) = ap (λ ds. texts_of_class n class ∷ ds) (texts_of_classes n classes)
