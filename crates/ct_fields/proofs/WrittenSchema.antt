-- What is written by a schema reads back by it.
use Rattle.std.proofs.Common.{if◌then◌else◌, ◌≡◌, ℕ, ◌≤◌, Bool, true, false, not, ◌&&◌, IsTrue, List, [], ◌∷◌, ◌++◌, fold, nat_cmp, codes, Option, Some, None, IfSome, Result, refl, sym, ap, subst, ◌∙◌, arith}
use Rattle.std.specs.Prelude.{All, option_map}
use Rattle.std.specs.Option.{option_map_or}
use Rattle.std.specs.List.{list_all}
use Rattle.std.specs.Ordering.{is_eq}
use Rattle.std.specs.Cmp.Lexicographic.{slice_cmp}
use Rattle.std.specs.Str.{bytes_eq}
use Rattle.std.proofs.lemmas.Bool.{and_parts}
use Rattle.std.proofs.lemmas.List.Elements.{All-head, All-tail}
use Rattle.std.proofs.lemmas.Map.Text.{is_eq-slice_cmp}
use Rattle.toml.specs.Data.{Data, string, table, Members, member, no_members, get, get_member, depth, members_depth}
use Rattle.ct_fields.specs.Field.{field_text}
use Rattle.ct_fields.specs.Fields.{is_named, keys_are_named}
use Rattle.ct_fields.specs.Written.{put}
use Rattle.ct_fields.specs.Schema.{Form, Schema, states, needs, may_have, asks, checks, needed, optional, read_by, MayHave}
use Rattle.ct_fields.specs.WrittenSchema.{put_some, written_table}
use Rattle.ct_fields.specs.declared.field.FieldName.{FieldName}
use Rattle.ct_fields.specs.declared.field.FieldName.TheVariants.{Format}
use Rattle.ct_fields.specs.declared.fault.DocumentFault.{DocumentFault}
use Rattle.ct_fields.proofs.StepLemmas.{bind-at}
use Rattle.ct_fields.proofs.FieldLemmas.{bytes_eq-true}
use Rattle.ct_fields.proofs.MemberLemmas.{get_member-same, get_member-other, keys_are_named-put, members_depth-put}
use Rattle.ct_fields.proofs.LastLemmas.{AreOwn, own-more, not_there, HasLast-own, last_fields-from}
use Rattle.ct_fields.proofs.SchemaLemmas.{AreForms, needed-from, optional-from}

-- the value at a field, if one is written there
abbrev pub value_at : FieldName → List (FieldName × Option Data) → Option Data
value_at name [] = None
value_at name (f ∷ fs) = if bytes_eq (field_text name) (field_text f.0) then f.1 else value_at name fs

-- whether none of the fields has the name
abbrev is_new : FieldName → List (FieldName × Option Data) → Bool
is_new name fields = list_all (λ f. not (bytes_eq (field_text name) (field_text f.0))) fields

-- whether the fields are different, and each has one of the names
abbrev pub are_written : List FieldName → List (FieldName × Option Data) → Bool
are_written names [] = true
are_written names (f ∷ fs) = is_named names (field_text f.0) && is_new f.0 fs && are_written names fs

-- the values are right by the schema, whose fields up to here have these names, and state this
abbrev pub Writes : {R : Type 0} → List FieldName → Schema R → List (FieldName × Option Data) → Result R DocumentFault → Type 0
Writes names (states stated) fields answer = (are_written names fields ≡ true) × (stated ≡ answer)
Writes names (needs {A} form next) fields answer =
    (x : A) × (value_at form.name fields ≡ Some (form.written x)) × IsTrue (form.is_right x) × Writes (names ++ form.name ∷ []) (next x) fields answer
Writes names (may_have {A} form next) fields answer =
    (x : Option A) × (value_at form.name fields ≡ option_map form.written x) × IfSome x (λ v. IsTrue (form.is_right v))
    × Writes (names ++ form.name ∷ []) (next x) fields answer
Writes names (asks name test next) fields answer = Writes names (next (option_map_or test (value_at name fields) false)) fields answer
Writes names (checks holds fault next) fields answer = (holds ≡ true) × Writes names next fields answer

-- ---- the table

-- the members with fields
abbrev with_fields : Members → List (FieldName × Option Data) → Members
with_fields ms fields = fold (λ ms f. put_some f.0 f.1 ms) ms fields

-- a value does not change what is at another key
get-other : (name : FieldName) (f : FieldName × Option Data) (ms : Members) → bytes_eq (field_text name) (field_text f.0) ≡ false
    → get_member (field_text name) (put_some f.0 f.1 ms) ≡ get_member (field_text name) ms
get-other name (field, None) ms other = refl
get-other name (field, Some d) ms other =
    get_member-other (field_text name) (field_text field) d ms (is_eq-slice_cmp (field_text name) (field_text field) ∙ other)

not_is : (b : Bool) → not b ≡ true → b ≡ false
not_is false is = refl
not_is true is = absurd cc

get-new : (name : FieldName) (fields : List (FieldName × Option Data)) (ms : Members) → is_new name fields ≡ true
    → get_member (field_text name) (with_fields ms fields) ≡ get_member (field_text name) ms
get-new name [] ms new = refl
get-new name (f ∷ fs) ms new =
    let (here, rest) = and_parts (not (bytes_eq (field_text name) (field_text f.0))) (is_new name fs) new in
    get-new name fs (put_some f.0 f.1 ms) rest ∙ get-other name f ms (not_is _ here)

-- what is at a key of which there is nothing before
get-all : (names : List FieldName) (name : FieldName) (fields : List (FieldName × Option Data)) (ms : Members) → are_written names fields ≡ true
    → get_member (field_text name) ms ≡ None → get_member (field_text name) (with_fields ms fields) ≡ value_at name fields
get-all names name [] ms written none = none
get-all names name ((field, value) ∷ fs) ms written none =
    let (front, rest) = and_parts (is_named names (field_text field) && is_new field fs) (are_written names fs) written in
    at (bytes_eq (field_text name) (field_text field)) refl value (and_parts (is_named names (field_text field)) (is_new field fs) front).1
    (λ other. get-all names name fs (put_some field value ms) rest (get-other name (field, value) ms other ∙ none))
  where
    new : bytes_eq (field_text name) (field_text field) ≡ true → is_new field fs ≡ true → is_new name fs ≡ true
    new same is = subst (λ (key : List ℕ). list_all (λ f. not (bytes_eq key (field_text f.0))) fs ≡ true) (sym (bytes_eq-true _ _ same)) is

    at : (b : Bool) → bytes_eq (field_text name) (field_text field) ≡ b → (v : Option Data) → is_new field fs ≡ true
        → (bytes_eq (field_text name) (field_text field) ≡ false → get_member (field_text name) (with_fields (put_some field v ms) fs) ≡ value_at name fs)
        → get_member (field_text name) (with_fields (put_some field v ms) fs) ≡ (if b then v else value_at name fs)
    at true same None is later = get-new name fs ms (new same is) ∙ none
    at true same (Some d) is later =
        get-new name fs (put field d ms) (new same is)
        ∙ subst (λ (key : List ℕ). get_member key (put field d ms) ≡ Some d) (sym (bytes_eq-true _ _ same)) (get_member-same (field_text field) d ms)
    at false other v is later = later other

-- no field has the key `kind`
not_kind : (name : FieldName) (kind : List ℕ) → get_member (field_text name) (member (codes "kind") (string kind) no_members) ≡ None
not_kind Format kind = refl
not_kind name kind = refl

pub get-written : (names : List FieldName) (kind : List ℕ) (name : FieldName) (fields : List (FieldName × Option Data)) → are_written names fields ≡ true
    → get (field_text name) (table (written_table kind fields)) ≡ value_at name fields
get-written names kind name fields written =
    get-all names name fields (member (codes "kind") (string kind) no_members) written (not_kind name kind)

-- it is of the kind
kind-all : (fields : List (FieldName × Option Data)) (ms : Members) → get_member (codes "kind") (with_fields ms fields) ≡ get_member (codes "kind") ms
kind-all [] ms = refl
kind-all ((field, None) ∷ fs) ms = kind-all fs ms
kind-all ((field, Some d) ∷ fs) ms = kind-all fs (put field d ms) ∙ get_member-other (codes "kind") (field_text field) d ms (other field)
  where
    other : (name : FieldName) → is_eq (slice_cmp nat_cmp (codes "kind") (field_text name)) ≡ false
    other Format = refl
    other name = refl

pub kind-written : (kind : List ℕ) (fields : List (FieldName × Option Data)) → get (codes "kind") (table (written_table kind fields)) ≡ Some (string kind)
kind-written kind fields = kind-all fields (member (codes "kind") (string kind) no_members)

-- its keys are those of the fields
keys-all : (names : List FieldName) (fields : List (FieldName × Option Data)) (ms : Members) → are_written names fields ≡ true
    → keys_are_named names ms ≡ true → keys_are_named names (with_fields ms fields) ≡ true
keys-all names [] ms written all = all
keys-all names ((field, value) ∷ fs) ms written all =
    let (front, rest) = and_parts (is_named names (field_text field) && is_new field fs) (are_written names fs) written in
    keys-all names fs (put_some field value ms) rest (at (and_parts (is_named names (field_text field)) (is_new field fs) front).0 value)
  where
    at : is_named names (field_text field) ≡ true → (v : Option Data) → keys_are_named names (put_some field v ms) ≡ true
    at here None = all
    at here (Some d) = keys_are_named-put names (field_text field) d ms here all

-- it is no deeper than its values
depth-all : (m : ℕ) (fields : List (FieldName × Option Data)) (ms : Members) → All (λ f. IfSome f.1 (λ d. depth d ≤ m)) fields → members_depth ms ≤ m
    → members_depth (with_fields ms fields) ≤ m
depth-all m [] ms flat all = all
depth-all m ((field, None) ∷ fs) ms flat all = depth-all m fs ms (All-tail (λ f. IfSome f.1 (λ d. depth d ≤ m)) (field, None) fs flat) all
depth-all m ((field, Some d) ∷ fs) ms flat all =
    depth-all m fs (put field d ms) (All-tail (λ f. IfSome f.1 (λ d. depth d ≤ m)) (field, Some d) fs flat)
    (members_depth-put m (field_text field) d ms (All-head (λ f. IfSome f.1 (λ d. depth d ≤ m)) (field, Some d) fs flat) all)

pub depth-written : (m : ℕ) (kind : List ℕ) (fields : List (FieldName × Option Data)) → All (λ f. IfSome f.1 (λ d. depth d ≤ m)) fields
    → members_depth (written_table kind fields) ≤ m
depth-written m kind fields flat = depth-all m fields (member (codes "kind") (string kind) no_members) flat (omega arith)

-- ---- reading it

-- the fields are different, each of the schema
writes-own : {R : Type 0} (names : List FieldName) (schema : Schema R) (fields : List (FieldName × Option Data)) (answer : Result R DocumentFault)
    → AreForms schema → AreOwn names → Writes names schema fields answer → (all : List FieldName) × AreOwn all × (are_written all fields ≡ true)
writes-own names (states stated) fields answer forms own (written, same) = (names, own, written)
writes-own names (needs form next) fields answer forms own (x, at_x, right, more) =
    writes-own (names ++ form.name ∷ []) (next x) fields answer (forms.1 x right) (own-more names form.name own forms.0.own) more
writes-own names (may_have form next) fields answer forms own (x, at_x, right, more) =
    writes-own (names ++ form.name ∷ []) (next x) fields answer (forms.1 x right) (own-more names form.name own forms.0.own) more
writes-own names (asks name test next) fields answer forms own more =
    let there = option_map_or test (value_at name fields) false in writes-own names (next there) fields answer (forms.1 there) own more
writes-own names (checks holds fault next) fields answer forms own (is, more) = writes-own names next fields answer (forms is) own more

-- so the table says no format
pub no_format-written : {R : Type 0} (kind : List ℕ) (names : List FieldName) (schema : Schema R) (fields : List (FieldName × Option Data)) (answer : Result R DocumentFault)
    → AreForms schema → AreOwn names → Writes names schema fields answer → get (field_text Format) (table (written_table kind fields)) ≡ None
no_format-written kind names schema fields answer forms own writes =
    let (all, all_own, written) = writes-own names schema fields answer forms own writes in
    not_there all (written_table kind fields) (field_text Format) (keys-all all fields (member (codes "kind") (string kind) no_members) written refl) all_own.no_format

-- the values of the fields read back
module _ {R : Type 0} (kind : List ℕ) (fields : List (FieldName × Option Data)) (answer : Result R DocumentFault) (all : List FieldName)
    (written : are_written all fields ≡ true) where
  abbrev document : Data
  document = table (written_table kind fields)

  has : {A : Type 0} (form : Form A) (x : Option A) → value_at form.name fields ≡ option_map form.written x → IfSome x (λ v. IsTrue (form.is_right v))
      → MayHave form document x
  has form None at_x right = get-written all kind form.name fields written ∙ at_x
  has form (Some v) at_x right = (get-written all kind form.name fields written ∙ at_x, right)

  reads : (names : List FieldName) (schema : Schema R) → AreForms schema → AreOwn names → Writes names schema fields answer → read_by names schema document ≡ answer
  reads names (states stated) forms own (is_written, same) =
      rw (last_fields-from names _ (HasLast-own names _ own (keys-all names fields (member (codes "kind") (string kind) no_members) is_written refl))) same
  reads names (needs form next) forms own (x, at_x, right, more) =
      bind-at (needed form document) _ x (needed-from form document x forms.0 (get-written all kind form.name fields written ∙ at_x, right))
      ∙ reads (names ++ form.name ∷ []) (next x) (forms.1 x right) (own-more names form.name own forms.0.own) more
  reads names (may_have form next) forms own (x, at_x, right, more) =
      bind-at (optional form document) _ x (optional-from form document x forms.0 (has form x at_x right))
      ∙ reads (names ++ form.name ∷ []) (next x) (forms.1 x right) (own-more names form.name own forms.0.own) more
  reads names (asks name test next) forms own writes =
      subst (λ (b : Bool). read_by names (next b) document ≡ answer) (sym (ap (λ o. option_map_or test o false) (get-written all kind name fields written)))
      (reads names (next (option_map_or test (value_at name fields) false)) (forms.1 (option_map_or test (value_at name fields) false)) own writes)
  reads names (checks holds fault next) forms own (is, writes) = rw is (reads names next (forms is) own writes)

pub reads-back : {R : Type 0} (kind : List ℕ) (names : List FieldName) (schema : Schema R) (fields : List (FieldName × Option Data)) (answer : Result R DocumentFault)
    → AreForms schema → AreOwn names → Writes names schema fields answer → read_by names schema (table (written_table kind fields)) ≡ answer
reads-back kind names schema fields answer forms own writes =
    let (all, all_own, written) = writes-own names schema fields answer forms own writes in reads kind fields answer all written names schema forms own writes
