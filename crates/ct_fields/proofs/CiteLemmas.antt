-- Which format and which cites a table has, where they are read, and where they are not.
use Rattle.std.proofs.Common.{◌≡◌, ℕ, ◌<◌, ◌≤◌, true, false, nat_le, pos, List, [], ◌∷◌, length, map, Option, Some, None, Result, Ok, Err, is_ok, suc, inl, inr, refl, sym, ap, ◌∙◌, subst, le-leb, arith}
use Rattle.std.specs.Prelude.{IsTrue, is_some, if◌then◌else◌}
use Rattle.std.proofs.lemmas.Bool.{cases_Bool, leb-true, lt-leb, false≢true}
use Rattle.toml.specs.Data.{Data, string, integer, float, boolean, datetime, array, table, get}
use Rattle.toml.specs.View.{items_of, items_view}
use Rattle.toml.specs.declared.value.Value.{Value}
use Rattle.ct_names.specs.Cite.{is_cite}
use Rattle.ct_fields.specs.Field.{field_text}
use Rattle.ct_fields.specs.Forms.{all_of}
use Rattle.ct_fields.specs.Format.{format_of, may_cite}
use Rattle.ct_fields.specs.Cites.{IsCites, items_count, cite_in, cites_in, cites_at, cites_of}
use Rattle.ct_fields.specs.HasCites.{HasFormat, HasWrongFormat, IsSecond, HasCites, HasRightCites, HasWrongCites, listed, left_out, no_second}
use Rattle.ct_fields.specs.declared.cites.TheConstants.{MAX_CITES}
use Rattle.ct_fields.specs.declared.field.FieldName.TheVariants.{Format, Cites}
use Rattle.ct_fields.specs.declared.fault.DocumentFault.{DocumentFault}
use Rattle.ct_fields.specs.declared.fault.DocumentFault.TheVariants.{Field}
use Rattle.ct_fields.specs.Fields.{number_field}
use Rattle.ct_fields.proofs.StepLemmas.{ok_or-ok, ok_or-err, only_fault}
use Rattle.ct_fields.proofs.FieldLemmas.{number_field-ok, number_field-from}
use Rattle.ct_fields.proofs.FormLemmas.{ReadsBack, all-some, all-from}
use Rattle.ct_fields.proofs.CiteTexts.{cite_in-some}

-- ---- cites

-- the form of a cite reads just what is written for one
pub cite-reads : ReadsBack cite_in string (λ cite. IsTrue (is_cite cite))
cite-reads = record { some = cite_in-some; from = λ cite is. rw is refl }

-- a list has so many items as it has texts
items_count-map : (cites : List (List ℕ)) → items_count (items_of (map string cites)) ≡ length cites
items_count-map [] = refl
items_count-map (cite ∷ cites) = ap suc (items_count-map cites)

-- a list of more values than may be cited gives none, and a list of no more gives what all of them are
items_count-view : (vs : List Value) → items_count (items_view vs) ≡ length vs
items_count-view [] = refl
items_count-view (v ∷ vs) = ap suc (items_count-view vs)

pub cites_in-many : (vs : List Value) → MAX_CITES < length vs → cites_in (array (items_view vs)) ≡ None
cites_in-many vs many = rw (items_count-view vs, lt-leb (length vs) MAX_CITES many) refl

pub cites_in-few : (vs : List Value) → length vs ≤ MAX_CITES → cites_in (array (items_view vs)) ≡ all_of cite_in (items_view vs)
cites_in-few vs few = rw (items_count-view vs, le-leb (length vs) MAX_CITES few) refl

-- what is read as cites is the list of their texts
pub cites_in-some : (d : Data) (cites : List (List ℕ)) → cites_in d ≡ Some cites → (d ≡ array (items_of (map string cites))) × IsCites cites
cites_in-some (array ds) cites e =
    elim (cases_Bool (nat_le (items_count ds) MAX_CITES)) [
      | inl few ↦
          let (is, each) = all-some cite_in string (λ cite. IsTrue (is_cite cite)) cite-reads ds cites (rw few at e) in
          let count = ap items_count is ∙ items_count-map cites in
          (ap array is, record { few = subst (λ (k : ℕ). k ≤ MAX_CITES) count (leb-true (items_count ds) MAX_CITES few); each = each })
      | inr many ↦ let never = rw many at e in absurd cc
    ]
cites_in-some (string s) cites e = absurd cc
cites_in-some (integer z) cites e = absurd cc
cites_in-some (float x) cites e = absurd cc
cites_in-some (boolean b) cites e = absurd cc
cites_in-some (datetime t) cites e = absurd cc
cites_in-some (table ms) cites e = absurd cc

pub cites_in-from : (cites : List (List ℕ)) → IsCites cites → cites_in (array (items_of (map string cites))) ≡ Some cites
cites_in-from cites h =
    rw (items_count-map cites, le-leb (length cites) MAX_CITES h.few) (all-from cite_in string (λ cite. IsTrue (is_cite cite)) cite-reads cites h.each)

-- ---- formats

-- a number from 2 to 2 is 2
second-number : (document : Data) (k : ℕ) → number_field Format 2 2 document ≡ Ok k → IsSecond document
second-number document k e =
    let h = number_field-ok Format 2 2 document k e in
    let (is, above, below) = h in
    let two : k ≡ 2 = omega (arith, above, below) in
    subst (λ (m : ℕ). get (field_text Format) document ≡ Some (integer (pos m))) two is

-- the test of the format is passed exactly where it is 2
pub may_cite-true : (document : Data) → may_cite document ≡ true → IsSecond document
may_cite-true document e = at (number_field Format 2 2 document) refl e where
  at : (read : Result ℕ DocumentFault) → number_field Format 2 2 document ≡ read → is_ok read ≡ true → IsSecond document
  at (Ok k) is e = second-number document k is
  at (Err fault) is e = absurd cc

pub may_cite-from : (document : Data) → IsSecond document → may_cite document ≡ true
may_cite-from document second = ap is_ok (number_field-from Format 2 2 document 2 (second, omega arith, omega arith))

pub may_cite-false : (document : Data) → may_cite document ≡ false → ¬ (IsSecond document)
may_cite-false document e second = false≢true (sym e ∙ may_cite-from document second)

pub may_cite-no : (document : Data) → ¬ (IsSecond document) → may_cite document ≡ false
may_cite-no document none = elim (cases_Bool (may_cite document)) [ inl second ↦ absurd (none (may_cite-true document second)) | inr fails ↦ fails ]

-- the format is read exactly where the table has it
pub format_of-ok : (document : Data) (f : ℕ) → format_of document ≡ Ok f → HasFormat document f
format_of-ok document f e = at (get (field_text Format) document) refl e where
  at : (found : Option Data) → get (field_text Format) document ≡ found
      → (if is_some found then number_field Format 1 2 document else Ok 1) ≡ Ok f → HasFormat document f
  at None missing read = let same : f ≡ 1 = cc in inl (missing, same)
  at (Some d) found read = inr (number_field-ok Format 1 2 document f read)

pub format_of-from : (document : Data) (f : ℕ) → HasFormat document f → format_of document ≡ Ok f
format_of-from document f (inl (missing, one)) = rw (missing, one) refl
format_of-from document f (inr has) =
    ap (λ (found : Option Data). if is_some found then number_field Format 1 2 document else Ok 1) has.0 ∙ number_field-from Format 1 2 document f has

-- and else its own fault comes
format_of-fault : (document : Data) (fault : DocumentFault) → format_of document ≡ Err fault → Field Format ≡ fault
format_of-fault document fault e = at (get (field_text Format) document) e where
  at : (found : Option Data) → (if is_some found then number_field Format 1 2 document else Ok 1) ≡ Err fault → Field Format ≡ fault
  at None read = absurd cc
  at (Some d) read = (ok_or-err _ (Field Format) fault read).1

pub format_of-err : (document : Data) (fault : DocumentFault) → format_of document ≡ Err fault → (Field Format ≡ fault) × HasWrongFormat document
format_of-err document fault e = (format_of-fault document fault e, λ f has. let never = sym (format_of-from document f has) ∙ e in absurd cc)

pub format_of-wrong : (document : Data) → HasWrongFormat document → format_of document ≡ Err (Field Format)
format_of-wrong document wrong =
    only_fault (format_of document) (Field Format) (λ f read. wrong f (format_of-ok document f read)) (format_of-fault document)

-- ---- the cites of a table

-- they are read exactly where it has them
pub cites_of-ok : (document : Data) (cites : List (List ℕ)) → cites_of document ≡ Ok cites → HasCites document cites
cites_of-ok document cites e =
    elim (cases_Bool (may_cite document)) [
      | inl second ↦ at (get (field_text Cites) document) refl (may_cite-true document second) (rw second at e)
      | inr fails ↦ let read = rw fails at e in let same : [] ≡ cites = cc in no_second (may_cite-false document fails) (sym same)
    ] where
      at : (found : Option Data) → get (field_text Cites) document ≡ found → IsSecond document → cites_at found ≡ Ok cites → HasCites document cites
      at None missing second read = let same : [] ≡ cites = cc in left_out missing (sym same)
      at (Some d) found second read =
          let (is, right) = cites_in-some d cites (ok_or-ok (cites_in d) (Field Cites) cites read) in
          listed second (found ∙ ap Some is) right

pub cites_of-from : (document : Data) (cites : List (List ℕ)) → HasCites document cites → cites_of document ≡ Ok cites
cites_of-from document cites (listed second texts right) = rw (may_cite-from document second, texts, cites_in-from cites right) refl
cites_of-from document cites (left_out missing none) =
    elim (cases_Bool (may_cite document)) [
      | inl second ↦ rw (second, missing, none) refl
      | inr fails ↦ rw (fails, none) refl
    ]
cites_of-from document cites (no_second other none) = rw (may_cite-no document other, none) refl

-- cites that are read are what a document may cite
pub HasCites-right : (document : Data) (cites : List (List ℕ)) → HasCites document cites → IsCites cites
HasCites-right document cites (listed second texts right) = right
HasCites-right document cites (left_out missing none) = subst IsCites (sym none) (record { few = omega arith; each = λ k d within. absurd (omega (arith, within)) })
HasCites-right document cites (no_second other none) = subst IsCites (sym none) (record { few = omega arith; each = λ k d within. absurd (omega (arith, within)) })

-- the test of the cites is passed exactly where they are right
pub are_right-true : (document : Data) → is_ok (cites_of document) ≡ true → HasRightCites document
are_right-true document e = at (cites_of document) refl e where
  at : (read : Result (List (List ℕ)) DocumentFault) → cites_of document ≡ read → is_ok read ≡ true → HasRightCites document
  at (Ok cites) is e = (cites, cites_of-ok document cites is)
  at (Err fault) is e = absurd cc

pub are_right-from : (document : Data) → HasRightCites document → is_ok (cites_of document) ≡ true
are_right-from document (cites, has) = ap is_ok (cites_of-from document cites has)

pub are_right-false : (document : Data) → is_ok (cites_of document) ≡ false → HasWrongCites document
are_right-false document e cites has = false≢true (sym e ∙ are_right-from document (cites, has))

pub are_right-wrong : (document : Data) → HasWrongCites document → is_ok (cites_of document) ≡ false
are_right-wrong document wrong = elim (cases_Bool (is_ok (cites_of document))) [
  | inl right ↦ let (cites, has) = are_right-true document right in absurd (wrong cites has)
  | inr fails ↦ fails
]
