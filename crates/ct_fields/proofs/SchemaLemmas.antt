-- Each answer to a document comes exactly where its schema says.
use Rattle.std.proofs.Common.{if◌then◌else◌, ◌≡◌, inl, inr, ◌↔◌, Bool, true, false, IsTrue, List, [], ◌∷◌, ◌++◌, Option, Some, None, IfSome, Result, Ok, Err, IfErr, refl, sym, ap, subst, ◌∙◌}
use Rattle.std.specs.Prelude.{⊤}
use Rattle.std.specs.Option.{is_some}
use Rattle.std.proofs.lemmas.Option.{option_and_then_some}
use Rattle.toml.specs.Data.{Data, table, Members, get}
use Rattle.ct_fields.specs.Field.{field_text}
use Rattle.ct_fields.specs.Steps.{◌>>=◌, check}
use Rattle.ct_fields.specs.Fields.{has_field}
use Rattle.ct_fields.specs.LastFields.{last_fields}
use Rattle.ct_fields.specs.Schema.{Form, Schema, states, needs, may_have, asks, checks, passes, needed, optional, read_by, Has, MayHave, StatedBy, IsLastAnswer, ends_right, cites_wrong, has_other, IsAnswerBy}
use Rattle.ct_fields.specs.declared.field.FieldName.{FieldName}
use Rattle.ct_fields.specs.declared.field.FieldName.TheVariants.{Cites}
use Rattle.ct_fields.specs.declared.fault.DocumentFault.{DocumentFault}
use Rattle.ct_fields.specs.declared.fault.DocumentFault.TheVariants.{Field, Unknown}
use Rattle.ct_fields.proofs.StepLemmas.{bind-cases, bind-ok, bind-err, bind-at, bind-at_err, check-ok, check-err, ok_or-ok, ok_or-err, no_fault, only_fault}
use Rattle.ct_fields.proofs.FormLemmas.{ReadsBack}
use Rattle.ct_fields.proofs.LastLemmas.{is_of_a_kind, wrong_cites, other_key, last_fields-ok, last_fields-err, last_fields-from, last_fields-wrong, last_fields-other}

-- a form is one of a field of a kind, and reads just what it writes, of the values that are right
pub record IsForm {A : Type 0} (form : Form A) : Type 0 where
  pub own : is_of_a_kind form.name ≡ true
  pub reads : ReadsBack form.value form.written (λ x. IsTrue (form.is_right x))

-- each form does, whatever right values come before it
abbrev pub AreForms : {R : Type 0} → Schema R → Type 0
AreForms (states stated) = ⊤
AreForms (needs {A} form next) = IsForm form × ((x : A) → IsTrue (form.is_right x) → AreForms (next x))
AreForms (may_have {A} form next) = IsForm form × ((x : Option A) → IfSome x (λ v. IsTrue (form.is_right v)) → AreForms (next x))
AreForms (asks name test next) = (is_of_a_kind name ≡ true) × ((b : Bool) → AreForms (next b))
AreForms (checks holds fault next) = holds ≡ true → AreForms next

-- a field is read exactly if it has the value
pub needed-ok : {A : Type 0} (form : Form A) (document : Data) (x : A) → IsForm form → needed form document ≡ Ok x → Has form document x
needed-ok form document x is e =
    option_and_then_some form.value (get (field_text form.name) document) x (ok_or-ok _ (Field form.name) x e) (λ d found h.
    let (same, right) = is.reads.some d x h in (found ∙ ap Some same, right))

pub needed-from : {A : Type 0} (form : Form A) (document : Data) (x : A) → IsForm form → Has form document x → needed form document ≡ Ok x
needed-from form document x is has = rw (has.0, is.reads.from x has.1) refl

-- and its fault is its own
needed-err : {A : Type 0} (form : Form A) (document : Data) (fault : DocumentFault) → needed form document ≡ Err fault → Field form.name ≡ fault
needed-err form document fault e = (ok_or-err _ (Field form.name) fault e).1

-- so it is with a field that may be left out
pub there : {A : Type 0} (form : Form A) (document : Data) (d : Data) → get (field_text form.name) document ≡ Some d
    → optional form document ≡ (needed form document >>= (λ x. Ok (Some x)))
there form document d found = let there : has_field form.name document ≡ true = ap is_some found in rw there refl

pub optional-ok : {A : Type 0} (form : Form A) (document : Data) (x : Option A) → IsForm form → optional form document ≡ Ok x → MayHave form document x
optional-ok {A} form document x is e = at (get (field_text form.name) document) refl where
  at : (o : Option Data) → get (field_text form.name) document ≡ o → MayHave form document x
  at None none = let read = rw none at e in let same : None ≡ x = cc in subst (MayHave form document) same none
  at (Some d) found =
      let (v, v-is, last) = bind-ok (needed form document) (λ v. Ok (Some v)) x (sym (there form document d found) ∙ e) in
      let same : Some v ≡ x = cc in
      subst (MayHave form document) same (needed-ok form document v is v-is)

pub optional-from : {A : Type 0} (form : Form A) (document : Data) (x : Option A) → IsForm form → MayHave form document x → optional form document ≡ Ok x
optional-from form document None is none = rw none refl
optional-from form document (Some x) is has =
    there form document (form.written x) has.0 ∙ bind-at (needed form document) (λ v. Ok (Some v)) x (needed-from form document x is has)

optional-err : {A : Type 0} (form : Form A) (document : Data) (fault : DocumentFault) → optional form document ≡ Err fault → Field form.name ≡ fault
optional-err {A} form document fault e = at (has_field form.name document) e where
  at : (b : Bool) → (if b then (needed form document >>= (λ x. Ok (Some x))) else Ok None) ≡ Err fault → Field form.name ≡ fault
  at true e = elim (bind-err (needed form document) (λ x. Ok (Some x)) fault e) [ inl wrong ↦ needed-err form document fault wrong | inr (x, found, never) ↦ absurd cc ]
  at false e = absurd cc

pub right_if : {A : Type 0} (form : Form A) (document : Data) (x : Option A) → MayHave form document x → IfSome x (λ v. IsTrue (form.is_right v))
right_if form document None none = tt
right_if form document (Some x) has = has.1

-- the answer comes where it is said to come
answer : {R : Type 0} (names : List FieldName) (schema : Schema R) (ms : Members) → AreForms schema
    → IsAnswerBy names schema (table ms) (read_by names schema (table ms))
answer {R} names (states stated) ms forms =
    let P : Result R DocumentFault → Type 0 = IsLastAnswer names stated (table ms) in
    bind-cases P (last_fields names (table ms)) (λ _. stated) (λ passed is. ends_right (last_fields-ok names ms passed is) refl)
    (λ fault is.
    elim (last_fields-err names ms fault is) [
      | wrong_cites same wrong ↦ cites_wrong wrong (ap Err (sym same))
      | other_key same right key other ↦ has_other key right other (ap Err (sym same))
    ])
answer {R} names (needs form next) ms forms =
    let P : Result R DocumentFault → Type 0 = IsAnswerBy names (needs form next) (table ms) in
    bind-cases P (needed form (table ms)) _
    (λ x is. let has = needed-ok form (table ms) x forms.0 is in inl (x, has, answer (names ++ form.name ∷ []) (next x) ms (forms.1 x has.1)))
    (λ fault is. inr (λ x has. no_fault _ x fault (needed-from form (table ms) x forms.0 has) is, ap Err (sym (needed-err form (table ms) fault is))))
answer {R} names (may_have form next) ms forms =
    let P : Result R DocumentFault → Type 0 = IsAnswerBy names (may_have form next) (table ms) in
    bind-cases P (optional form (table ms)) _
    (λ x is.
    let has = optional-ok form (table ms) x forms.0 is in
    inl (x, has, answer (names ++ form.name ∷ []) (next x) ms (forms.1 x (right_if form (table ms) x has))))
    (λ fault is.
    inr (λ x has. no_fault _ x fault (optional-from form (table ms) x forms.0 has) is, ap Err (sym (optional-err form (table ms) fault is))))
answer names (asks name test next) ms forms = answer names (next (passes name test (table ms))) ms (forms.1 (passes name test (table ms)))
answer {R} names (checks holds fault next) ms forms =
    let P : Result R DocumentFault → Type 0 = IsAnswerBy names (checks holds fault next) (table ms) in
    bind-cases P (check holds fault) (λ _. read_by names next (table ms))
    (λ x is. let true_is = check-ok holds fault x is in inl (true_is, answer names next ms (forms true_is)))
    (λ other is. let (fails, same) = check-err holds fault other is in inr (fails, ap Err (sym same)))

-- where an answer is said to come, it comes
answer-from : {R : Type 0} (names : List FieldName) (schema : Schema R) (ms : Members) (said : Result R DocumentFault) → AreForms schema
    → IsAnswerBy names schema (table ms) said → read_by names schema (table ms) ≡ said
answer-from names (states stated) ms said forms (ends_right last same) = rw (last_fields-from names ms last) (sym same)
answer-from names (states stated) ms said forms (cites_wrong wrong same) = rw (last_fields-wrong names (table ms) wrong) (sym same)
answer-from names (states stated) ms said forms (has_other key right other same) = rw (last_fields-other names ms key right other) (sym same)
answer-from names (needs form next) ms said forms (inl (x, has, after)) =
    bind-at (needed form (table ms)) _ x (needed-from form (table ms) x forms.0 has)
    ∙ answer-from (names ++ form.name ∷ []) (next x) ms said (forms.1 x has.1) after
answer-from names (needs form next) ms said forms (inr (none, same)) =
    bind-at_err (needed form (table ms)) _ (Field form.name)
    (only_fault _ (Field form.name) (λ x is. none x (needed-ok form (table ms) x forms.0 is)) (needed-err form (table ms)))
    ∙ sym same
answer-from names (may_have form next) ms said forms (inl (x, has, after)) =
    bind-at (optional form (table ms)) _ x (optional-from form (table ms) x forms.0 has)
    ∙ answer-from (names ++ form.name ∷ []) (next x) ms said (forms.1 x (right_if form (table ms) x has)) after
answer-from names (may_have form next) ms said forms (inr (none, same)) =
    bind-at_err (optional form (table ms)) _ (Field form.name)
    (only_fault _ (Field form.name) (λ x is. none x (optional-ok form (table ms) x forms.0 is)) (optional-err form (table ms)))
    ∙ sym same
answer-from names (asks name test next) ms said forms after = answer-from names (next (passes name test (table ms))) ms said (forms.1 (passes name test (table ms))) after
answer-from names (checks holds fault next) ms said forms (inl (is, after)) = rw is (answer-from names next ms said (forms is) after)
answer-from names (checks holds fault next) ms said forms (inr (fails, same)) = rw fails (sym same)

-- each answer to a table comes exactly where its schema says
pub answers_by : {R : Type 0} (names : List FieldName) (schema : Schema R) (ms : Members) → AreForms schema → (said : Result R DocumentFault)
    → (read_by names schema (table ms) ≡ said) ↔ IsAnswerBy names schema (table ms) said
answers_by names schema ms forms said =
    (λ same. subst (IsAnswerBy names schema (table ms)) same (answer names schema ms forms), answer-from names schema ms said forms)

-- the values of a document that states something are right
pub stated-answer : {R : Type 0} (names : List FieldName) (schema : Schema R) (document : Data) (x : R) → IsAnswerBy names schema document (Ok x)
    → StatedBy schema document x
stated-answer names (states made) document x (ends_right last same) = sym same
stated-answer names (states made) document x (cites_wrong wrong other) = absurd cc
stated-answer names (states made) document x (has_other key right key_is other) = absurd cc
stated-answer names (needs form next) document x (inl (v, has, after)) = (v, has, stated-answer (names ++ form.name ∷ []) (next v) document x after)
stated-answer names (needs form next) document x (inr (none, other)) = absurd cc
stated-answer names (may_have form next) document x (inl (v, has, after)) = (v, has, stated-answer (names ++ form.name ∷ []) (next v) document x after)
stated-answer names (may_have form next) document x (inr (none, other)) = absurd cc
stated-answer names (asks name test next) document x after = stated-answer names (next (passes name test document)) document x after
stated-answer names (checks holds fault next) document x (inl (is, after)) = (is, stated-answer names next document x after)
stated-answer names (checks holds fault next) document x (inr (fails, other)) = absurd cc

pub stated : {R : Type 0} (names : List FieldName) (schema : Schema R) (ms : Members) → AreForms schema → (x : R) → read_by names schema (table ms) ≡ Ok x
    → StatedBy schema (table ms) x
stated names schema ms forms x read = stated-answer names schema (table ms) x ((answers_by names schema ms forms (Ok x)).0 read)

-- the faults of a schema beside those of its fields, its cites and its keys have the property
abbrev pub OtherFaults : {R : Type 0} → (DocumentFault → Type 0) → Schema R → Type 0
OtherFaults P (states made) = IfErr made P
OtherFaults P (needs {A} form next) = (x : A) → OtherFaults P (next x)
OtherFaults P (may_have {A} form next) = (x : Option A) → OtherFaults P (next x)
OtherFaults P (asks name test next) = (b : Bool) → OtherFaults P (next b)
OtherFaults P (checks holds fault next) = P fault × OtherFaults P next

-- and so has each fault, if those do
pub fault-has : {R : Type 0} (P : DocumentFault → Type 0) → ((name : FieldName) → P (Field name)) → P Unknown → (names : List FieldName) (schema : Schema R)
    (document : Data) (fault : DocumentFault) → OtherFaults P schema → IsAnswerBy names schema document (Err fault) → P fault
fault-has {R} P of_field of_keys names schema document fault others answer = at names schema others answer
  where
    same : (own : DocumentFault) → ◌≡◌ {A = Result R DocumentFault} (Err fault) (Err own) → P own → P fault
    same own is has = let is_own : own ≡ fault = cc in subst P is_own has

    at : (names : List FieldName) (schema : Schema R) → OtherFaults P schema → IsAnswerBy names schema document (Err fault) → P fault
    at names (states made) others (ends_right last is) = subst (λ (r : Result R DocumentFault). IfErr r P) (sym is) others
    at names (states made) others (cites_wrong wrong is) = same (Field Cites) is (of_field Cites)
    at names (states made) others (has_other key right key_is is) = same Unknown is of_keys
    at names (needs form next) others (inl (v, has, after)) = at (names ++ form.name ∷ []) (next v) (others v) after
    at names (needs form next) others (inr (none, is)) = same (Field form.name) is (of_field form.name)
    at names (may_have form next) others (inl (v, has, after)) = at (names ++ form.name ∷ []) (next v) (others v) after
    at names (may_have form next) others (inr (none, is)) = same (Field form.name) is (of_field form.name)
    at names (asks name test next) others after = at names (next (passes name test document)) (others (passes name test document)) after
    at names (checks holds own next) others (inl (is_true, after)) = at names next others.1 after
    at names (checks holds own next) others (inr (fails, is)) = same own is others.0
