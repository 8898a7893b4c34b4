-- The tables of duals: their room and their depth.
use Rattle.std.proofs.Common.{◌≡◌, ℕ, ◌≤◌, List, [], ◌∷◌, map, length, codes, Option, Some, IfSome, refl, arith, lit≤}
use Rattle.std.specs.Prelude.{◌+◌, ◌*◌, ℤ, pos, negsuc, ◌≤ℤ◌, All}
use Rattle.std.proofs.lemmas.Int.{ints}
use Rattle.std.proofs.lemmas.List.Elements.{All-nil, All-cons, All-head, All-tail}
use Rattle.toml.specs.Data.{Data, integer, boolean, depth, items_depth, members_depth}
use Rattle.toml.specs.View.{items_of}
use Rattle.ct_duals.specs.declared.dual.Dual.{Dual}
use Rattle.ct_duals.specs.Dual.{IsDual}
use Rattle.ct_fields.specs.Inside.Room.{IsSimple, room}
use Rattle.ct_fields.specs.WrittenSchema.{written_table}
use Rattle.ct_fields.specs.declared.field.FieldName.{FieldName}
use Rattle.ct_fields.specs.declared.field.FieldName.TheVariants as name
use Rattle.ct_fields.proofs.RoomLemmas.{Holds, holds-more}
use Rattle.ct_fields.proofs.WrittenSchema.{depth-written}
use Rattle.ct_fields.proofs.WrittenRooms.{holds-written, AreSimple, AreFlat, plain-simple, entry-simple, plain-flat, entry-flat, entry-room}
use Rattle.ct_dual_files.specs.Fields.{integer_list, index_pair, pair_list}
use Rattle.ct_dual_files.specs.Dual.{numbers_fields, dual_fields, odd_fields, johnson_dual_fields, local_dual_fields}

-- whole numbers that are not negative
integers-simple : (c : List ℤ) → All (λ z. pos 0 ≤ℤ z) c → IsSimple (integer_list c)
integers-simple [] positive = tt
integers-simple (pos k ∷ c) positive = (tt, integers-simple c (All-tail (λ z. pos 0 ≤ℤ z) (pos k) c positive))
integers-simple (negsuc k ∷ c) positive = let never = All-head (λ z. pos 0 ≤ℤ z) (negsuc k) c positive in absurd (omega (arith, ints, never))

integers-room : (c : List ℤ) → room (integer_list c) ≡ 2 + 22 * length c
integers-room [] = omega arith
integers-room (z ∷ c) = let rest = integers-room c in omega (arith, rest)

-- pairs of an index and such a number
pairs-simple : (y : List (ℕ × ℤ)) → All (λ p. pos 0 ≤ℤ p.1) y → IsSimple (pair_list y)
pairs-simple [] positive = tt
pairs-simple ((i, pos k) ∷ y) positive = ((tt, (tt, tt)), pairs-simple y (All-tail (λ p. pos 0 ≤ℤ p.1) (i, pos k) y positive))
pairs-simple ((i, negsuc k) ∷ y) positive = let never = All-head (λ p. pos 0 ≤ℤ p.1) (i, negsuc k) y positive in absurd (omega (arith, ints, never))

pairs-room : (y : List (ℕ × ℤ)) → room (pair_list y) ≡ 2 + 48 * length y
pairs-room [] = omega arith
pairs-room (p ∷ y) = let rest = pairs-room y in omega (arith, rest)

-- ---- what is written is simple

abbrev Simple : FieldName × Option Data → Type 0
Simple f = IfSome f.1 IsSimple

one_more : (field : FieldName) (d : Data) (fields : List (FieldName × Option Data)) → IsSimple d → AreSimple fields → AreSimple ((field, Some d) ∷ fields)
one_more field d fields here rest = All-cons Simple (field, Some d) fields here rest

multipliers-simple : (d : Dual) → IsDual d → AreSimple ((name.C, Some (integer_list d.c)) ∷ [])
multipliers-simple d form = one_more name.C (integer_list d.c) [] (integers-simple d.c form.multipliers) (All-nil Simple)

numbers-simple : (d : Dual) → IsDual d → AreSimple (numbers_fields d)
numbers-simple d form =
    one_more name.C (integer_list d.c) ((name.Y, Some (pair_list d.y)) ∷ []) (integers-simple d.c form.multipliers)
    (one_more name.Y (pair_list d.y) [] (pairs-simple d.y (λ k p within. (form.allowances k p within).1)) (All-nil Simple))

-- ---- it has no more than this room

pub dual-holds : (d : Dual) → IsDual d → Holds (written_table (codes "dual") (dual_fields d)) (128 + 22 * length d.c + 48 * length d.y)
dual-holds d form =
    let simple = plain-simple d.entry ((name.Even, Some (boolean d.even)) ∷ numbers_fields d) (one_more name.Even (boolean d.even) (numbers_fields d) tt (numbers-simple d form)) in
    let numbers = integers-room d.c in
    let pairs = pairs-room d.y in
    holds-more _ _ _ (holds-written (codes "dual") (dual_fields d) refl simple) (omega (arith, numbers, pairs))

pub odd-holds : (d : Dual) (m : ℕ) → IsDual d → Holds (written_table (codes "odd") (odd_fields d m)) (128 + 22 * length d.c + 48 * length d.y)
odd-holds d m form =
    let more = (name.M, Some (integer (pos m))) ∷ numbers_fields d in
    let simple = plain-simple d.entry ((name.Even, Some (boolean d.even)) ∷ more) (one_more name.Even (boolean d.even) more tt (one_more name.M (integer (pos m)) (numbers_fields d) tt (numbers-simple d form))) in
    let numbers = integers-room d.c in
    let pairs = pairs-room d.y in
    holds-more _ _ _ (holds-written (codes "odd") (odd_fields d m) refl simple) (omega (arith, numbers, pairs))

pub johnson_dual-holds : (d : Dual) → IsDual d → Holds (written_table (codes "jdual") (johnson_dual_fields d)) (128 + 22 * length d.c)
johnson_dual-holds d form =
    let fields = (name.C, Some (integer_list d.c)) ∷ [] in
    let simple = entry-simple d.entry fields (multipliers-simple d form) in
    let numbers = integers-room d.c in
    let stated = entry-room d.entry fields in
    holds-more _ _ _ (holds-written (codes "jdual") (johnson_dual_fields d) refl simple) (omega (arith, numbers, stated))

pub local_dual-holds : (d : Dual) → IsDual d → Holds (written_table (codes "jlocal") (local_dual_fields d)) (128 + 22 * length d.c + 48 * length d.y)
local_dual-holds d form =
    let simple = entry-simple d.entry (numbers_fields d) (numbers-simple d form) in
    let numbers = integers-room d.c in
    let pairs = pairs-room d.y in
    let stated = entry-room d.entry (numbers_fields d) in
    holds-more _ _ _ (holds-written (codes "jlocal") (local_dual_fields d) refl simple) (omega (arith, numbers, pairs, stated))

-- ---- and is no deeper than a document may be

integers_depth : (c : List ℤ) → items_depth (items_of (map (λ z. integer z) c)) ≡ 0
integers_depth [] = refl
integers_depth (z ∷ c) = rw (integers_depth c) refl

pairs_depth : (y : List (ℕ × ℤ)) → items_depth (items_of (map index_pair y)) ≤ 1
pairs_depth [] = lit≤ tt
pairs_depth (p ∷ y) = let rest = pairs_depth y in omega arith

abbrev Flat : FieldName × Option Data → Type 0
Flat f = IfSome f.1 (λ d. depth d ≤ 80)

multipliers-flat : (d : Dual) → AreFlat ((name.C, Some (integer_list d.c)) ∷ [])
multipliers-flat d = All-cons Flat (name.C, Some (integer_list d.c)) [] (rw (integers_depth d.c) (lit≤ tt)) (All-nil Flat)

numbers-flat : (d : Dual) → AreFlat (numbers_fields d)
numbers-flat d =
    let pairs = pairs_depth d.y in
    All-cons Flat (name.C, Some (integer_list d.c)) ((name.Y, Some (pair_list d.y)) ∷ []) (rw (integers_depth d.c) (lit≤ tt))
    (All-cons Flat (name.Y, Some (pair_list d.y)) [] (omega (arith, pairs)) (All-nil Flat))

pub dual-depth : (d : Dual) → members_depth (written_table (codes "dual") (dual_fields d)) ≤ 80
dual-depth d =
    depth-written 80 (codes "dual") (dual_fields d)
    (plain-flat d.entry ((name.Even, Some (boolean d.even)) ∷ numbers_fields d) (All-cons Flat (name.Even, Some (boolean d.even)) (numbers_fields d) (lit≤ tt) (numbers-flat d)))

pub odd-depth : (d : Dual) (m : ℕ) → members_depth (written_table (codes "odd") (odd_fields d m)) ≤ 80
odd-depth d m =
    let more = (name.M, Some (integer (pos m))) ∷ numbers_fields d in
    depth-written 80 (codes "odd") (odd_fields d m)
    (plain-flat d.entry ((name.Even, Some (boolean d.even)) ∷ more)
    (All-cons Flat (name.Even, Some (boolean d.even)) more (lit≤ tt) (All-cons Flat (name.M, Some (integer (pos m))) (numbers_fields d) (lit≤ tt) (numbers-flat d))))

pub johnson_dual-depth : (d : Dual) → members_depth (written_table (codes "jdual") (johnson_dual_fields d)) ≤ 80
johnson_dual-depth d = depth-written 80 (codes "jdual") (johnson_dual_fields d) (entry-flat d.entry ((name.C, Some (integer_list d.c)) ∷ []) (multipliers-flat d))

pub local_dual-depth : (d : Dual) → members_depth (written_table (codes "jlocal") (local_dual_fields d)) ≤ 80
local_dual-depth d = depth-written 80 (codes "jlocal") (local_dual_fields d) (entry-flat d.entry (numbers_fields d) (numbers-flat d))
