-- The members of a table after an insertion.
use Rattle.std.proofs.Common.{◌≡◌, ℕ, ◌≤◌, true, false, List, [], ◌∷◌, Option, Some, Ordering, Less, Equal, Greater, nat_cmp, is_eq, String, Global, string_bytes, refl, ap, ◌∙◌, sym, subst, arith}
use Rattle.std.specs.BTreeMap.{insert_entry}
use Rattle.std.specs.Cmp.Lexicographic.{slice_cmp}
use Rattle.std.specs.Ordering.{match_ordering}
use Rattle.std.specs.String.{string_cmp}
use Rattle.std.proofs.lemmas.Bool.{and_parts, and_from}
use Rattle.std.proofs.lemmas.Cmp.{nat_list_cmp_total, tied_itself}
use Rattle.toml.specs.Data.{Data, Members, no_members, member, get_member, depth, members_depth}
use Rattle.toml.specs.View.{view, members_view}
use Rattle.toml.specs.declared.value.Value.{Value}
use Rattle.ct_fields.specs.Fields.{is_named, keys_are_named}
use Rattle.ct_fields.specs.Written.{set_member}
use Rattle.ct_fields.specs.declared.field.FieldName.{FieldName}
use Rattle.ct_fields.proofs.FieldLemmas.{same_key}

-- what is inserted is put at its key
pub members_view-insert : (k : String Global) (v : Value) (es : List (String Global × Value))
    → members_view (insert_entry string_cmp es k v) ≡ set_member (string_bytes k) (view v) (members_view es)
members_view-insert k v [] = refl
members_view-insert k v (e ∷ es) = at (string_cmp k e.0) (members_view-insert k v es) where
  at : (o : Ordering) → members_view (insert_entry string_cmp es k v) ≡ set_member (string_bytes k) (view v) (members_view es)
      → members_view (match_ordering o ((k, v) ∷ e ∷ es) ((e.0, v) ∷ es) (e ∷ insert_entry string_cmp es k v))
      ≡ match_ordering o (member (string_bytes k) (view v) (members_view (e ∷ es))) (member (string_bytes e.0) (view v) (members_view es))
      (member (string_bytes e.0) (view e.1) (set_member (string_bytes k) (view v) (members_view es)))
  at Less rest = refl
  at Equal rest = refl
  at Greater rest = ap (member (string_bytes e.0) (view e.1)) rest

-- what is put at a key stands there
pub get_member-same : (k : List ℕ) (d : Data) (ms : Members) → get_member k (set_member k d ms) ≡ Some d
get_member-same k d no_members = rw (tied_itself nat_list_cmp_total k) refl
get_member-same k d (member l e ms) = at (slice_cmp nat_cmp k l) refl (get_member-same k d ms) where
  at : (o : Ordering) → slice_cmp nat_cmp k l ≡ o → get_member k (set_member k d ms) ≡ Some d
      → get_member k (match_ordering o (member k d (member l e ms)) (member l d ms) (member l e (set_member k d ms))) ≡ Some d
  at Less same rest = rw (tied_itself nat_list_cmp_total k) refl
  at Equal same rest = rw same refl
  at Greater same rest = rw same rest

-- another key is passed over
passed : (o : Ordering) (x y : Option Data) → is_eq o ≡ false → match_ordering o x y x ≡ x
passed Less x y other = refl
passed Equal x y other = absurd cc
passed Greater x y other = refl

-- what stands at another key stays
pub get_member-other : (k l : List ℕ) (d : Data) (ms : Members) → is_eq (slice_cmp nat_cmp k l) ≡ false
    → get_member k (set_member l d ms) ≡ get_member k ms
get_member-other k l d no_members other = passed (slice_cmp nat_cmp k l) _ (Some d) other
get_member-other k l d (member m e ms) other = at (slice_cmp nat_cmp l m) refl (get_member-other k l d ms other) where
  at : (o : Ordering) → slice_cmp nat_cmp l m ≡ o → get_member k (set_member l d ms) ≡ get_member k ms
      → get_member k (match_ordering o (member l d (member m e ms)) (member m d ms) (member m e (set_member l d ms))) ≡ get_member k (member m e ms)
  at Less same rest = passed (slice_cmp nat_cmp k l) (get_member k (member m e ms)) (Some d) other
  at Equal same rest =
      let apart : is_eq (slice_cmp nat_cmp k m) ≡ false = subst (λ n. is_eq (slice_cmp nat_cmp k n) ≡ false) (same_key l m same) other in
      passed (slice_cmp nat_cmp k m) (get_member k ms) (Some d) apart ∙ sym (passed (slice_cmp nat_cmp k m) (get_member k ms) (Some e) apart)
  at Greater same rest = ap (λ r. match_ordering (slice_cmp nat_cmp k m) r (Some e) r) rest

-- the keys are named where the one that is put is
pub keys_are_named-put : (names : List FieldName) (k : List ℕ) (d : Data) (ms : Members) → is_named names k ≡ true
    → keys_are_named names ms ≡ true
    → keys_are_named names (set_member k d ms) ≡ true
keys_are_named-put names k d no_members here all = and_from (is_named names k) true here refl
keys_are_named-put names k d (member l e ms) here all =
    let (first, rest) = and_parts (is_named names l) (keys_are_named names ms) all in
    at (slice_cmp nat_cmp k l) first rest (keys_are_named-put names k d ms here rest)
  where
    at : (o : Ordering) → is_named names l ≡ true → keys_are_named names ms ≡ true → keys_are_named names (set_member k d ms) ≡ true
        → keys_are_named names (match_ordering o (member k d (member l e ms)) (member l d ms) (member l e (set_member k d ms))) ≡ true
    at Less first rest more = and_from (is_named names k) (keys_are_named names (member l e ms)) here (and_from (is_named names l) (keys_are_named names ms) first rest)
    at Equal first rest more = and_from (is_named names l) (keys_are_named names ms) first rest
    at Greater first rest more = and_from (is_named names l) (keys_are_named names (set_member k d ms)) first more

-- the table is no deeper than what is put and what was there
pub members_depth-put : (m : ℕ) (k : List ℕ) (d : Data) (ms : Members) → depth d ≤ m → members_depth ms ≤ m
    → members_depth (set_member k d ms) ≤ m
members_depth-put m k d no_members here all = omega arith
members_depth-put m k d (member l e ms) here all = at (slice_cmp nat_cmp k l) (members_depth-put m k d ms here (omega arith)) where
  at : (o : Ordering) → members_depth (set_member k d ms) ≤ m
      → members_depth (match_ordering o (member k d (member l e ms)) (member l d ms) (member l e (set_member k d ms))) ≤ m
  at Less more = omega arith
  at Equal more = omega arith
  at Greater more = omega arith
