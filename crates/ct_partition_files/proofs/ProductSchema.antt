-- The fields of a document of kind product: they have forms, what they state is sound, and what is written states the product again.
use Rattle.std.proofs.Common.{◌≡◌, ℕ, suc, ◌+◌, ◌*◌, ◌≤◌, ◌&&◌, nat_le, true, List, [], ◌∷◌, length, map, codes, Option, Some, None, IfSome, Ok, refl, sym, le-leb, leb-true, eq-eqb, eqb-true, arith, lit≤}
use Rattle.std.specs.Prelude.{All}
use Rattle.std.specs.List.{list_all}
use Rattle.std.proofs.lemmas.Bool.{and_parts, and_from}
use Rattle.std.proofs.lemmas.List.Elements.{All-nil, All-cons, All-head, All-tail}
use Rattle.toml.specs.Data.{Data, string, depth, items_depth, members_depth}
use Rattle.toml.specs.View.{items_of}
use Rattle.ct_names.specs.Id.{is_id}
use Rattle.ct_words.specs.declared.limits.TheConstants.{MAX_N}
use Rattle.ct_words.specs.declared.entry.Entry.{Entry}
use Rattle.ct_words.specs.Entry.{IsEntry}
use Rattle.ct_fields.specs.Forms.{pair_data}
use Rattle.ct_fields.specs.Inside.Room.{IsSimple, room}
use Rattle.ct_fields.specs.Schema.{Schema, states, needs, StatedBy}
use Rattle.ct_fields.specs.WrittenSchema.{written_table}
use Rattle.ct_fields.specs.declared.field.FieldName.{FieldName}
use Rattle.ct_fields.specs.declared.field.FieldName.TheVariants as name
use Rattle.ct_fields.proofs.OneAnswer.{same_value}
use Rattle.ct_fields.proofs.SchemaLemmas.{AreForms}
use Rattle.ct_fields.proofs.EntryForms.{any-forms, any-stated, any-writes}
use Rattle.ct_fields.proofs.WrittenSchema.{Writes, depth-written}
use Rattle.ct_fields.proofs.RoomLemmas.{Holds, holds-more, id-bare, id-short}
use Rattle.ct_fields.proofs.WrittenRooms.{holds-written, entry-simple, entry-flat, entry-room}
use Rattle.ct_kind.specs.declared.evidence.Evidence.{Evidence}
use Rattle.ct_kind.specs.declared.evidence.Evidence.TheVariants.{Product}
use Rattle.ct_partition_files.specs.Pairs.{AreIds, is_pair_count, id_pairs, pairs_form}
use Rattle.ct_partition_files.specs.Product.{product_schema, product_fields}
use Rattle.ct_partition_files.proofs.PairLemmas.{pairs-form, ids_from, ids_of_test}

-- what follows the entry
abbrev after : Entry → Schema Evidence
after e = needs (pairs_form e.w) (λ pairs. states (Ok (Product e pairs)))

pub product-forms : AreForms product_schema
product-forms = any-forms after (λ n d w short light. (pairs-form w, λ pairs right. tt))

-- so many pairs as a product of the weight may have
counted : (w : Option ℕ) (count : ℕ) → is_pair_count w count ≡ true → (1 ≤ count) × (count ≤ suc MAX_N) × (w ≡ None → count ≡ 1)
counted None count test = let one = eqb-true count 1 test in (omega (arith, one), omega (arith, one), λ _. one)
counted (Some w) count test =
    let (some, few) = and_parts (nat_le 1 count) (nat_le count (suc MAX_N)) test in
    (leb-true 1 count some, leb-true count (suc MAX_N) few, λ never. absurd cc)

count_right : (w : Option ℕ) (count : ℕ) → 1 ≤ count → count ≤ suc MAX_N → (w ≡ None → count ≡ 1) → is_pair_count w count ≡ true
count_right None count some few one = eq-eqb count 1 (one refl)
count_right (Some w) count some few one = and_from (nat_le 1 count) (nat_le count (suc MAX_N)) (le-leb 1 count some) (le-leb count (suc MAX_N) few)

-- what is asked of a product that is read
pub record IsSoundProduct (e : Entry) (pairs : List (List ℕ × List ℕ)) : Type 0 where
  pub entry : IsEntry e
  pub some : 1 ≤ length pairs
  pub few : length pairs ≤ suc MAX_N
  pub one : e.w ≡ None → length pairs ≡ 1
  pub ids : All AreIds pairs

pub product-sound : (document : Data) (x : Evidence) → StatedBy product_schema document x
    → (e : Entry) × (pairs : List (List ℕ × List ℕ)) × (x ≡ Product e pairs) × IsSoundProduct e pairs
product-sound document x stated =
    let (e, entry, (pairs, has, made)) = any-stated after document x stated in
    let (count, ids) = and_parts (is_pair_count e.w (length pairs)) (list_all (λ p. is_id p.0 && is_id p.1) pairs) has.1 in
    let (some, few, one) = counted e.w (length pairs) count in
    (e, pairs, sym (same_value (Product e pairs) x made), record { entry = entry; some = some; few = few; one = one; ids = ids_of_test pairs ids })

-- what is written for such a product states it
pub product-writes : (e : Entry) (pairs : List (List ℕ × List ℕ)) → IsSoundProduct e pairs → Writes [] product_schema (product_fields e pairs) (Ok (Product e pairs))
product-writes e pairs sound =
    any-writes after e ((name.Pairs, Some (id_pairs pairs)) ∷ []) (Ok (Product e pairs)) sound.entry (
      pairs,
      refl,
      and_from (is_pair_count e.w (length pairs)) (list_all (λ p. is_id p.0 && is_id p.1) pairs) (count_right e.w (length pairs) sound.some sound.few sound.one) (ids_from pairs sound.ids),
      (refl, refl),
    )

-- ---- how large its table is

pairs-simple : (pairs : List (List ℕ × List ℕ)) → All AreIds pairs → IsSimple (id_pairs pairs)
pairs-simple [] ids = tt
pairs-simple (p ∷ pairs) ids =
    let (first, second) = All-head AreIds p pairs ids in
    ((id-bare p.0 first, (id-bare p.1 second, tt)), pairs-simple pairs (All-tail AreIds p pairs ids))

pairs-room : (pairs : List (List ℕ × List ℕ)) → All AreIds pairs → room (id_pairs pairs) ≤ 2 + 76 * length pairs
pairs-room [] ids = omega arith
pairs-room (p ∷ pairs) ids =
    let (first, second) = All-head AreIds p pairs ids in
    let short = id-short p.0 first in
    let other = id-short p.1 second in
    let rest = pairs-room pairs (All-tail AreIds p pairs ids) in
    omega (arith, short, other, rest)

pub product-holds : (e : Entry) (pairs : List (List ℕ × List ℕ)) → All AreIds pairs → Holds (written_table (codes "product") (product_fields e pairs)) (128 + 76 * length pairs)
product-holds e pairs ids =
    let P : FieldName × Option Data → Type 0 = λ f. IfSome f.1 IsSimple in
    let fields = (name.Pairs, Some (id_pairs pairs)) ∷ [] in
    let small = pairs-room pairs ids in
    let stated = entry-room e fields in
    holds-more _ _ _
    (holds-written (codes "product") (product_fields e pairs) refl (entry-simple e fields (All-cons P (name.Pairs, Some (id_pairs pairs)) [] (pairs-simple pairs ids) (All-nil P))))
    (omega (arith, small, stated))

pairs_depth : (pairs : List (List ℕ × List ℕ)) → items_depth (items_of (map (pair_data string string) pairs)) ≤ 1
pairs_depth [] = lit≤ tt
pairs_depth (p ∷ pairs) = let rest = pairs_depth pairs in omega arith

pub product-depth : (e : Entry) (pairs : List (List ℕ × List ℕ)) → members_depth (written_table (codes "product") (product_fields e pairs)) ≤ 80
product-depth e pairs =
    let P : FieldName × Option Data → Type 0 = λ f. IfSome f.1 (λ d. depth d ≤ 80) in
    let flat = pairs_depth pairs in
    depth-written 80 (codes "product") (product_fields e pairs)
    (entry-flat e ((name.Pairs, Some (id_pairs pairs)) ∷ []) (All-cons P (name.Pairs, Some (id_pairs pairs)) [] (omega (arith, flat)) (All-nil P)))
