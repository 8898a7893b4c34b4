-- Duals and documents whose reading is known.
use Rattle.std.specs.Prelude.{ℕ, ℤ, pos, true, false, Bool, [], ◌∷◌, List, codes}
use Rattle.toml.specs.Data.{Data, integer, boolean, table}
use Rattle.ct_words.specs.Entry.{unrestricted, constant_weight}
use Rattle.ct_fields.specs.Written.{put, entry_table}
use Rattle.ct_fields.specs.declared.field.FieldName.TheVariants as name
use Rattle.ct_duals.specs.declared.dual.Dual.{Dual}
use Rattle.ct_dual_files.specs.Fields.{integer_list, pair_list}

-- a dual for A(13,6), of even distances alone, that rests on two upper bounds
abbrev pub thirteen_six : Dual
thirteen_six = record {
  entry = unrestricted 13 6;
  even = true;
  c = pos 5 ∷ pos 1 ∷ pos 1 ∷ [];
  y = (10, pos 16) ∷ (12, pos 48) ∷ [];
}

-- a dual for A(8,4,4)
abbrev pub eight_four_four : Dual
eight_four_four = record { entry = constant_weight 8 4 4; even = false; c = pos 48 ∷ pos 21 ∷ pos 4 ∷ []; y = [] }

-- a document of kind dual for length 13, with its other fields
abbrev pub document : ℕ → Bool → List ℤ → List (ℕ × ℤ) → Data
document d even c y = table (put name.Y (pair_list y) (put name.C (integer_list c) (put name.Even (boolean even) (entry_table (codes "dual") 13 d))))

-- a dual for A(9,4), of even distances alone, that rests on one upper bound: f = 3 + K_1 + K_2, which is 48 at 0
abbrev pub nine_four : Dual
nine_four = record { entry = unrestricted 9 4; even = true; c = pos 3 ∷ pos 1 ∷ pos 1 ∷ []; y = (8, pos 16) ∷ [] }

-- a document of kind odd for length 9 with the mark `even`, with its other fields
abbrev pub odd_document : ℕ → Data → List ℤ → Data
odd_document d m c =
    table (put name.M m (put name.Y (pair_list nine_four.y) (put name.C (integer_list c) (put name.Even (boolean true) (entry_table (codes "odd") 9 d)))))

-- a document of kind jlocal for length 8 and weight 4, with its other fields
abbrev pub local_document : ℕ → List ℤ → List (ℕ × ℤ) → Data
local_document d c y =
    table (put name.Y (pair_list y) (put name.C (integer_list c) (put name.W (integer (pos 4)) (entry_table (codes "jlocal") 8 d))))
