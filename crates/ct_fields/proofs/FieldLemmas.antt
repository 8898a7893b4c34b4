-- What the fields of a table are, where they are read, and where they are not.
use Rattle.std.proofs.Common.{◌≡◌, ℕ, ◌≤◌, Bool, true, false, ◌&&◌, ◌||◌, nat_le, pos, negsuc, List, [], ◌∷◌, map, codes, Option, Some, None, IsSome, Ok, Ordering, Less, Equal, Greater, nat_cmp, inl, inr, refl, sym, ap, ◌∙◌, le-leb}
use Rattle.std.specs.List.{list_any}
use Rattle.std.specs.Str.{bytes_eq}
use Rattle.std.specs.Option.{option_map_or}
use Rattle.std.specs.Ordering.{is_eq, match_ordering}
use Rattle.std.specs.Cmp.Lexicographic.{slice_cmp, nat_list_eq_equiv}
use Rattle.std.proofs.lemmas.Bool.{and_parts, leb-true, cases_Bool, false≢true}
use Rattle.std.proofs.lemmas.Cmp.{nat_list_cmp_total, tied_itself}
use Rattle.std.proofs.lemmas.Map.Text.{is_eq-slice_cmp}
use Rattle.std.proofs.lemmas.Map.Views.{Contains-from_any, list_any-from_Contains}
use Rattle.std.proofs.lemmas.Option.{option_and_then_some, cond_some}
use Rattle.std.proofs.lemmas.Slice.Eq.{bytes_eq-Decides}
use Rattle.toml.specs.Data.{Data, string, integer, float, boolean, datetime, array, table, Items, no_items, item, Members, no_members, member, get, get_member, as_str}
use Rattle.toml.specs.View.{items_of}
use Rattle.ct_fields.specs.Field.{field_text}
use Rattle.ct_fields.specs.Fields.{is_text, is_of_kind, number_in, number_field, texts_of, texts_in, is_named, keys_are_named, has_only}
use Rattle.ct_fields.specs.Tables.{IsOfKind, HasNumber, IsNamed}
use Rattle.ct_fields.specs.declared.field.FieldName.{FieldName}
use Rattle.ct_fields.specs.declared.fault.DocumentFault.TheVariants.{Field}
use Rattle.ct_fields.proofs.StepLemmas.{ok_or-ok}

-- texts that pass the test are one
pub bytes_eq-true : (a b : List ℕ) → bytes_eq a b ≡ true → a ≡ b
bytes_eq-true a b = (bytes_eq-Decides a b).0

-- a text passes the test with itself
pub bytes_eq-self : (a : List ℕ) → bytes_eq a a ≡ true
bytes_eq-self a = (bytes_eq-Decides a a).1 refl

-- a value that is the text
is_text-true : (text : List ℕ) (d : Data) → is_text text d ≡ true → d ≡ string text
is_text-true text (string s) e = ap string (bytes_eq-true s text e)
is_text-true text (integer z) e = absurd cc
is_text-true text (float x) e = absurd cc
is_text-true text (boolean b) e = absurd cc
is_text-true text (datetime t) e = absurd cc
is_text-true text (array ds) e = absurd cc
is_text-true text (table ms) e = absurd cc

-- the test of the kind is passed where the kind stands
pub is_of_kind-true : (kind : List ℕ) (document : Data) → is_of_kind kind document ≡ true → IsOfKind kind document
is_of_kind-true kind document e = found (get (codes "kind") document) e where
  found : (o : Option Data) → option_map_or (is_text kind) o false ≡ true → o ≡ Some (string kind)
  found None e = absurd cc
  found (Some d) e = ap Some (is_text-true kind d e)

pub is_of_kind-from : (kind : List ℕ) (document : Data) → IsOfKind kind document → is_of_kind kind document ≡ true
is_of_kind-from kind document h = rw h (bytes_eq-self kind)

-- a number that is read is an integer in the range
pub number_in-some : (low high : ℕ) (d : Data) (k : ℕ) → number_in low high d ≡ Some k → (d ≡ integer (pos k)) × (low ≤ k) × (k ≤ high)
number_in-some low high (integer (pos m)) k e =
    let (test, same) = cond_some (nat_le low m && nat_le m high) m k e in
    let (above, below) = and_parts (nat_le low m) (nat_le m high) test in
    rw (← same) (refl, leb-true low m above, leb-true m high below)
number_in-some low high (integer (negsuc m)) k e = absurd cc
number_in-some low high (string s) k e = absurd cc
number_in-some low high (float x) k e = absurd cc
number_in-some low high (boolean b) k e = absurd cc
number_in-some low high (datetime t) k e = absurd cc
number_in-some low high (array ds) k e = absurd cc
number_in-some low high (table ms) k e = absurd cc

-- a number is read exactly where the field is one
pub number_field-ok : (name : FieldName) (low high : ℕ) (document : Data) (k : ℕ) → number_field name low high document ≡ Ok k → HasNumber name low high document k
number_field-ok name low high document k e =
    option_and_then_some (number_in low high) (get (field_text name) document) k (ok_or-ok _ (Field name) k e) (λ d found h.
    let (is, above, below) = number_in-some low high d k h in (found ∙ ap Some is, above, below))

pub number_field-from : (name : FieldName) (low high : ℕ) (document : Data) (k : ℕ) → HasNumber name low high document k → number_field name low high document ≡ Ok k
number_field-from name low high document k h = rw (h.0, le-leb low k h.1, le-leb k high h.2) refl

-- a value that is a text
pub as_str-some : (d : Data) (text : List ℕ) → as_str d ≡ Some text → d ≡ string text
as_str-some (string s) text e = let same : s ≡ text = cc in ap string same
as_str-some (integer z) text e = absurd cc
as_str-some (float x) text e = absurd cc
as_str-some (boolean b) text e = absurd cc
as_str-some (datetime t) text e = absurd cc
as_str-some (array ds) text e = absurd cc
as_str-some (table ms) text e = absurd cc

-- the texts of a list that is read
texts_of-some : (ds : Items) (texts : List (List ℕ)) → texts_of ds ≡ Some texts → ds ≡ items_of (map string texts)
texts_of-some no_items texts e = let same : [] ≡ texts = cc in rw (← same) refl
texts_of-some (item (string s) ds) texts e =
    option_and_then_some (λ more. Some (s ∷ more)) (texts_of ds) texts e (λ more more-are h.
    let same : s ∷ more ≡ texts = cc in rw (← same) (ap (item (string s)) (texts_of-some ds more more-are)))
texts_of-some (item (integer z) ds) texts e = absurd cc
texts_of-some (item (float x) ds) texts e = absurd cc
texts_of-some (item (boolean b) ds) texts e = absurd cc
texts_of-some (item (datetime t) ds) texts e = absurd cc
texts_of-some (item (array es) ds) texts e = absurd cc
texts_of-some (item (table ms) ds) texts e = absurd cc

pub texts_of-items_of : (texts : List (List ℕ)) → texts_of (items_of (map string texts)) ≡ Some texts
texts_of-items_of [] = refl
texts_of-items_of (text ∷ texts) = rw (texts_of-items_of texts) refl

pub texts_in-some : (d : Data) (texts : List (List ℕ)) → texts_in d ≡ Some texts → d ≡ array (items_of (map string texts))
texts_in-some (array ds) texts e = ap array (texts_of-some ds texts e)
texts_in-some (string s) texts e = absurd cc
texts_in-some (integer z) texts e = absurd cc
texts_in-some (float x) texts e = absurd cc
texts_in-some (boolean b) texts e = absurd cc
texts_in-some (datetime t) texts e = absurd cc
texts_in-some (table ms) texts e = absurd cc

-- a test of what is seen of the items
list_any-map : {X Y : Type 0} (p : Y → Bool) (f : X → Y) → (xs : List X) → list_any p (map f xs) ≡ list_any (λ x. p (f x)) xs
list_any-map p f [] = refl
list_any-map p f (x ∷ xs) = ap (λ b. p (f x) || b) (list_any-map p f xs)

-- the test of a key is passed exactly where it is named
pub is_named-true : (names : List FieldName) (key : List ℕ) → is_named names key ≡ true → IsNamed names key
is_named-true names key e =
    Contains-from_any bytes_eq-true key (codes "kind" ∷ map field_text names) (ap (λ b. bytes_eq key (codes "kind") || b) (list_any-map (bytes_eq key) field_text names) ∙ e)

pub is_named-from : (names : List FieldName) (key : List ℕ) → IsNamed names key → is_named names key ≡ true
is_named-from names key h =
    ap (λ b. bytes_eq key (codes "kind") || b) (sym (list_any-map (bytes_eq key) field_text names)) ∙ list_any-from_Contains nat_list_eq_equiv key (codes "kind" ∷ map field_text names) h

-- keys that compare as equal are one
pub same_key : (key l : List ℕ) → slice_cmp nat_cmp key l ≡ Equal → key ≡ l
same_key key l e = bytes_eq-true key l (sym (is_eq-slice_cmp key l) ∙ ap is_eq e)

-- where each key is named, what the members have at a key is at a named one
keys_are_named-true : (names : List FieldName) (ms : Members) → keys_are_named names ms ≡ true → (key : List ℕ) → IsSome (get_member key ms) → IsNamed names key
keys_are_named-true names no_members e key some = absurd (false≢true some)
keys_are_named-true names (member l d ms) e key some =
    let (here, after) = and_parts (is_named names l) (keys_are_named names ms) e in
    at (slice_cmp nat_cmp key l) refl here (keys_are_named-true names ms after key) some where
      at : (o : Ordering) → slice_cmp nat_cmp key l ≡ o → is_named names l ≡ true → (IsSome (get_member key ms) → IsNamed names key) → IsSome (match_ordering o (get_member key ms) (Some d) (get_member key ms)) → IsNamed names key
      at Less same here after some = after some
      at Equal same here after some = rw (same_key key l same) (is_named-true names l here)
      at Greater same here after some = after some

-- where not each key is named, the members have a value at one that isn't
keys_are_named-false : (names : List FieldName) (ms : Members) → keys_are_named names ms ≡ false → (key : List ℕ) × IsSome (get_member key ms) × (is_named names key ≡ false)
keys_are_named-false names no_members e = absurd (false≢true (sym e))
keys_are_named-false names (member l d ms) e =
    elim (cases_Bool (is_named names l)) [
      | inl here ↦
          let (key, some, other) = keys_are_named-false names ms (rw here at e) in
          (key, later (slice_cmp nat_cmp key l) key some, other)
      | inr other ↦ (l, rw (tied_itself nat_list_cmp_total l) refl, other)
    ] where
      later : (o : Ordering) (key : List ℕ) → IsSome (get_member key ms) → IsSome (match_ordering o (get_member key ms) (Some d) (get_member key ms))
      later Less key some = some
      later Equal key some = refl
      later Greater key some = some

-- the test of a table's keys is passed exactly where it has no other key
pub has_only-true : (names : List FieldName) (ms : Members) → has_only names (table ms) ≡ true → (key : List ℕ) → IsSome (get key (table ms)) → IsNamed names key
has_only-true names ms e = keys_are_named-true names ms e

pub has_only-false : (names : List FieldName) (ms : Members) → has_only names (table ms) ≡ false → (key : List ℕ) × IsSome (get key (table ms)) × ¬ (IsNamed names key)
has_only-false names ms e =
    let (key, some, other) = keys_are_named-false names ms e in
    (key, some, λ named. false≢true (sym other ∙ is_named-from names key named))

pub has_only-from : (names : List FieldName) (ms : Members) → ((key : List ℕ) → IsSome (get key (table ms)) → IsNamed names key) → has_only names (table ms) ≡ true
has_only-from names ms only =
    elim (cases_Bool (has_only names (table ms))) [
      | inl holds ↦ holds
      | inr fails ↦ let (key, some, other) = has_only-false names ms fails in absurd (other (only key some))
    ]

pub has_only-from_other : (names : List FieldName) (ms : Members) (key : List ℕ) → IsSome (get key (table ms)) × ¬ (IsNamed names key) → has_only names (table ms) ≡ false
has_only-from_other names ms key other =
    elim (cases_Bool (has_only names (table ms))) [
      | inl holds ↦ absurd (other.1 (has_only-true names ms holds key other.0))
      | inr fails ↦ fails
    ]
