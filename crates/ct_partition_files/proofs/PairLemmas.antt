-- Pairs of ids, where they are read.
use Rattle.std.proofs.Common.{◌≡◌, ℕ, Bool, true, false, ◌&&◌, if◌then◌else◌, List, [], ◌∷◌, length, Option, Some, None, refl, ap, ◌∙◌, subst}
use Rattle.std.specs.Prelude.{All, IsTrue}
use Rattle.std.proofs.lemmas.Bool.{and_parts, and_from}
use Rattle.std.proofs.lemmas.List.Elements.{All-nil, All-cons, All-head, All-tail}
use Rattle.std.specs.List.{list_all}
use Rattle.std.specs.Option.{option_and_then}
use Rattle.std.proofs.lemmas.Option.{option_and_then_some, cond_some}
use Rattle.toml.specs.Data.{Data, string, integer, float, boolean, datetime, array, table}
use Rattle.toml.specs.View.{items_view}
use Rattle.toml.specs.declared.value.Value.{Value}
use Rattle.ct_fields.specs.Ids.{id_in}
use Rattle.ct_fields.specs.Forms.{pair_in, all_of, pair_data}
use Rattle.ct_fields.proofs.ReadLists.{all_of-length}
use Rattle.ct_fields.proofs.FormLemmas.{ReadsBack, pair-reads, all-some, all-from, id-reads}
use Rattle.ct_names.specs.Id.{is_id}
use Rattle.ct_fields.proofs.SchemaLemmas.{IsForm}
use Rattle.ct_partition_files.specs.Pairs.{AreIds, is_pair_count, pairs_in, id_pairs, pairs_form}

-- pairs of ids that are read are those that are written
pairs-read : ReadsBack (pair_in id_in id_in) (pair_data string string) AreIds
pairs-read = pair-reads id_in id_in string string (λ id. IsTrue (is_id id)) (λ id. IsTrue (is_id id)) id-reads id-reads

-- pairs of ids pass the test, and what passes it are such
pub ids_from : (pairs : List (List ℕ × List ℕ)) → All AreIds pairs → list_all (λ p. is_id p.0 && is_id p.1) pairs ≡ true
ids_from [] ids = refl
ids_from (p ∷ ps) ids =
    let (first, second) = All-head AreIds p ps ids in
    and_from (is_id p.0 && is_id p.1) (list_all (λ p. is_id p.0 && is_id p.1) ps) (and_from (is_id p.0) (is_id p.1) first second) (ids_from ps (All-tail AreIds p ps ids))

pub ids_of_test : (pairs : List (List ℕ × List ℕ)) → list_all (λ p. is_id p.0 && is_id p.1) pairs ≡ true → All AreIds pairs
ids_of_test [] test = All-nil AreIds
ids_of_test (p ∷ ps) test =
    let (here, rest) = and_parts (is_id p.0 && is_id p.1) (list_all (λ p. is_id p.0 && is_id p.1) ps) test in
    All-cons AreIds p ps (and_parts (is_id p.0) (is_id p.1) here) (ids_of_test ps rest)

pairs_in-some : (w : Option ℕ) (d : Data) (pairs : List (List ℕ × List ℕ)) → pairs_in w d ≡ Some pairs
    → (d ≡ id_pairs pairs) × (is_pair_count w (length pairs) && list_all (λ p. is_id p.0 && is_id p.1) pairs ≡ true)
pairs_in-some w (array ds) pairs e =
    option_and_then_some _ (all_of (pair_in id_in id_in) ds) pairs e (λ found found-are next.
    let (test, same) = cond_some (is_pair_count w (length found)) found pairs next in
    let (ds-are, ids) = all-some _ _ AreIds pairs-read ds found found-are in
    let P : List (List ℕ × List ℕ) → Type 0 = λ ps. (array ds ≡ id_pairs ps) × (is_pair_count w (length ps) && list_all (λ p. is_id p.0 && is_id p.1) ps ≡ true) in
    subst P same (ap array ds-are, and_from (is_pair_count w (length found)) (list_all (λ p. is_id p.0 && is_id p.1) found) test (ids_from found ids)))
pairs_in-some w (string s) pairs e = absurd cc
pairs_in-some w (integer z) pairs e = absurd cc
pairs_in-some w (float x) pairs e = absurd cc
pairs_in-some w (boolean b) pairs e = absurd cc
pairs_in-some w (datetime t) pairs e = absurd cc
pairs_in-some w (table ms) pairs e = absurd cc

-- so they are a form
pub pairs-form : (w : Option ℕ) → IsForm (pairs_form w)
pairs-form w = record {
  own = refl;
  reads = record {
    some = pairs_in-some w;
    from = λ pairs right.
        let (count, ids) = and_parts (is_pair_count w (length pairs)) (list_all (λ p. is_id p.0 && is_id p.1) pairs) right in
        rw (all-from (pair_in id_in id_in) (pair_data string string) AreIds pairs-read pairs (ids_of_test pairs ids), count) refl;
  };
}

either_way : {A : Type 0} (b : Bool) (x : A) → x ≡ (if b then x else x)
either_way true x = refl
either_way false x = refl

-- pairs that are read are as many as the values, so these can be counted first
counted : (w : Option ℕ) (count : ℕ) (read : Option (List (List ℕ × List ℕ))) → ((pairs : List (List ℕ × List ℕ)) → read ≡ Some pairs → length pairs ≡ count)
    → option_and_then (λ pairs. if is_pair_count w (length pairs) then Some pairs else None) read ≡ (if is_pair_count w count then read else None)
counted w count None as_many = either_way (is_pair_count w count) None
counted w count (Some pairs) as_many = rw (as_many pairs refl) refl

module _ (w : Option ℕ) (vs : List Value) where
  if_counted : pairs_in w (array (items_view vs)) ≡ (if is_pair_count w (length vs) then all_of (pair_in id_in id_in) (items_view vs) else None)
  if_counted = counted w (length vs) (all_of (pair_in id_in id_in) (items_view vs)) (all_of-length (pair_in id_in id_in) vs)

  pub pairs_in-counted : is_pair_count w (length vs) ≡ true → pairs_in w (array (items_view vs)) ≡ all_of (pair_in id_in id_in) (items_view vs)
  pairs_in-counted right = if_counted ∙ ap (λ b. if b then all_of (pair_in id_in id_in) (items_view vs) else None) right

  pub pairs_in-miscounted : is_pair_count w (length vs) ≡ false → pairs_in w (array (items_view vs)) ≡ None
  pairs_in-miscounted wrong = if_counted ∙ ap (λ b. if b then all_of (pair_in id_in id_in) (items_view vs) else None) wrong
