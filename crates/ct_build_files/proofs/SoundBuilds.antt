-- A build that a document states: its step fits its entry, and its parts are named.
use Rattle.std.proofs.Common.{◌≡◌, ◌≢◌, ℕ, ◌%◌, ◌||◌, ◌&&◌, ◌==◌, not, nat_le, Bool, true, false, IsTrue, List, length, codes, Option, Some, None, IfSome, is_some, is_none, option_map, Ok, refl, sym, ap, subst, ◌∙◌, eqb-true}
use Rattle.std.proofs.lemmas.Bool.{and_parts, and_from, leb-true, false≢true}
use Rattle.std.proofs.lemmas.Option.{same_Some}
use Rattle.toml.specs.Data.{Data}
use Rattle.ct_words.specs.declared.limits.TheConstants.{MAX_N}
use Rattle.ct_words.specs.Text.{word_of}
use Rattle.ct_words.proofs.TextLemmas.{word_from_text}
use Rattle.ct_words.specs.declared.entry.Entry.{Entry}
use Rattle.ct_words.specs.Entry.{IsEntry}
use Rattle.ct_names.specs.Id.{is_id}
use Rattle.ct_build.specs.Build.{FieldsFit, FitsStated}
use Rattle.ct_build.specs.declared.building.TheConstants.{MAX_BUILT}
use Rattle.ct_build.specs.declared.step.Step.{Step}
use Rattle.ct_build.specs.declared.step.Step.TheVariants as step
use Rattle.ct_kind.specs.declared.evidence.Evidence.{Evidence}
use Rattle.ct_kind.specs.declared.evidence.Evidence.TheVariants.{Build}
use Rattle.ct_fields.specs.Fields.{is_text}
use Rattle.ct_fields.specs.Schema.{Schema, states, needs, passes, StatedBy}
use Rattle.ct_fields.specs.declared.field.FieldName.TheVariants as name
use Rattle.ct_fields.proofs.EntryForms.{range_of, any-stated}
use Rattle.ct_fields.proofs.OneAnswer.{same_value}
use Rattle.ct_build_files.specs.Operation.{operation_of, makes_length, takes_weight, takes_other, needs_other}
use Rattle.ct_build_files.specs.BuildFields.{digits_of, operation_form}
use Rattle.ct_build_files.specs.BuildSchema.{step_schema, other_schema, build_of, parts_schema, operation_schema, build_schema}
use Rattle.ct_build_files.specs.declared.operation.Operation.{Operation}
use Rattle.ct_build_files.specs.declared.operation.Operation.TheVariants.{Lengthen, AppendOne, Parity, Puncture, Shorten, Translate, Complement, Select, Uuv, Juxtapose, Trim}
use Rattle.ct_build_files.proofs.BuildFields.{left_out-true, digits_of-some}

-- the evidence is a build whose step fits its entry, and whose parts are named by ids, another one exactly if the step needs one
pub record IsSoundBuild (evidence : Evidence) : Type 0 where
  pub entry : Entry
  pub step : Step
  pub part : List ℕ
  pub other : Option (List ℕ)
  pub is : evidence ≡ Build entry step part other
  pub fits : FitsStated step entry
  pub named : is_some other ≡ needs_other step
  pub part_id : IsTrue (is_id part)
  pub other_id : IfSome other (λ id. IsTrue (is_id id))

-- the step is one of the operation, and fits the entry
abbrev IsStep : Operation → Entry → Step → Type 0
IsStep o e s = (operation_of s ≡ o) × FieldsFit s e

-- the other piece is named exactly if there has to be one
other-stated : (takes : Bool) (next : Option (List ℕ) → Schema Evidence) (document : Data) (x : Evidence) → StatedBy (other_schema takes next) document x
    → (other : Option (List ℕ)) × (is_some other ≡ takes) × IfSome other (λ id. IsTrue (is_id id)) × StatedBy (next other) document x
other-stated true next document x (id, has, rest) = (Some id, refl, has.1, rest)
other-stated false next document x rest = (None, refl, tt, rest)

-- a build of the step that is found is sound if such a step fits
parts-stated : (e : Entry) (o : Operation) (found : Option Step) (document : Data) (x : Evidence) → IsEntry e
    → ((s : Step) → found ≡ Some s → IsStep o e s) → StatedBy (parts_schema e o found) document x → IsSoundBuild x
parts-stated e o found document x entry fits (part, has, rest) = at found refl made
  where
    stated : (other : Option (List ℕ)) × (is_some other ≡ takes_other o) × IfSome other (λ id. IsTrue (is_id id)) × (build_of e found part other ≡ Ok x)
    stated = other-stated (takes_other o) (λ other. states (build_of e found part other)) document x rest

    other : Option (List ℕ)
    other = stated.0

    made : build_of e found part other ≡ Ok x
    made = stated.3

    at : (f : Option Step) → found ≡ f → build_of e f part other ≡ Ok x → IsSoundBuild x
    at None none build = absurd cc
    at (Some s) is build =
        let (same, fields) = fits s is in
        record {
          entry = e;
          step = s;
          part = part;
          other = other;
          is = sym (same_value (Build e s part other) x build);
          fits = record { entry = entry; fields = fields };
          named = stated.1 ∙ sym (ap takes_other same);
          part_id = has.1;
          other_id = stated.2;
        }

-- the only step that is found
only : (o : Operation) (e : Entry) (t : Step) → IsStep o e t → (s : Step) → Some t ≡ Some s → IsStep o e s
only o e t is s found = subst (IsStep o e) (same_Some t s found) is

-- a step that is made of what is found in a text
made_of : {A : Type 0} (make : A → Step) (o : Operation) (e : Entry) (found : Option A) → ((x : A) → found ≡ Some x → IsStep o e (make x)) → (s : Step)
    → option_map make found ≡ Some s → IsStep o e s
made_of make o e None fits s is = absurd cc
made_of make o e (Some x) fits s is = only o e (make x) (fits x refl) s is

-- a weight that is not there, and one that is
no_weight : (w : Option ℕ) → is_none w ≡ true → w ≡ None
no_weight None h = refl
no_weight (Some w) h = absurd (false≢true h)

some_weight : (w : Option ℕ) → is_some w ≡ true → w ≢ None
some_weight w h = λ none. false≢true (sym (ap is_some none) ∙ h)

-- so is a build by an operation that makes words of the length, and takes the weight or none
step-stated : (o : Operation) (e : Entry) (document : Data) (x : Evidence) → IsEntry e → makes_length o e.n ≡ true → takes_weight o e.w ≡ true
    → StatedBy (step_schema o e.n (parts_schema e o)) document x → IsSoundBuild x
unfolding FieldsFit
step-stated Lengthen e document x entry long takes rest =
    parts-stated e Lengthen _ document x entry (only Lengthen e step.Lengthen (refl, leb-true 2 e.n long)) rest
step-stated AppendOne e document x entry long takes rest =
    parts-stated e AppendOne _ document x entry (only AppendOne e step.AppendOne (refl, leb-true 2 e.n long)) rest
step-stated Parity e document x entry long takes rest =
    parts-stated e Parity _ document x entry (only Parity e step.Parity (refl, leb-true 2 e.n long)) rest
step-stated Puncture e document x entry long takes (places, has, rest) =
    let (some, are, few) = left_out-true e.n places has.1 in
    parts-stated e Puncture _ document x entry (only Puncture e (step.Puncture places) (refl, (no_weight e.w takes, some, are, few))) rest
step-stated Shorten e document x entry long takes (places, has, (text, text-has, rest)) =
    let (some, are, few) = left_out-true e.n places has.1 in
    parts-stated e Shorten _ document x entry
    (made_of (step.Shorten places) Shorten e (digits_of (length places) text) (λ digits found.
    let (is, long, small) = digits_of-some (length places) text digits found in (refl, (some, are, few, long, small))))
    rest
step-stated Translate e document x entry long takes (text, has, rest) =
    parts-stated e Translate _ document x entry
    (made_of step.Translate Translate e (word_of e.n text) (λ by found. (refl, (no_weight e.w takes, (word_from_text e.n by text found).0)))) rest
step-stated Complement e document x entry long takes rest =
    parts-stated e Complement _ document x entry (only Complement e step.Complement (refl, tt)) rest
step-stated Select e document x entry long takes (text, has, rest) =
    parts-stated e Select _ document x entry
    (made_of step.Select Select e (word_of e.n text) (λ by found. (refl, (some_weight e.w takes, (word_from_text e.n by text found).0)))) rest
step-stated Uuv e document x entry long takes rest =
    parts-stated e Uuv _ document x entry (only Uuv e step.Uuv (refl, (no_weight e.w takes, eqb-true (e.n % 2) 0 long))) rest
step-stated Juxtapose e document x entry long takes rest =
    parts-stated e Juxtapose _ document x entry (only Juxtapose e step.Juxtapose (refl, leb-true 2 e.n long)) rest
step-stated Trim e document x entry long takes (size, has, rest) =
    parts-stated e Trim _ document x entry (only Trim e (step.Trim size) (refl, range_of 1 MAX_BUILT size has.1)) rest

-- a distance that has to be even for one reason or another
even_for : (a b odd : Bool) → IsTrue (not ((a || b) && odd)) → IsTrue (not (a && odd))
even_for true b odd h = h
even_for false b odd h = refl

-- what a document of kind build states is a sound build
pub build-sound : (document : Data) (x : Evidence) → StatedBy build_schema document x → IsSoundBuild x
build-sound document x (n, n-has, (d, (there, right), (w, w-has, rest))) =
    let weighted = passes name.W (λ v. true) document in
    let selects = passes name.Op (is_text (codes "select")) document in
    let (range, even) = and_parts (nat_le 3 d && nat_le d MAX_N) (not ((weighted || selects) && d % 2 == 1)) right in
    let less = and_from (nat_le 3 d && nat_le d MAX_N) (not (weighted && d % 2 == 1)) range (even_for weighted selects (d % 2 == 1) even) in
    let (e, entry, (o, o-has, (long, (takes, after)))) =
    any-stated (λ e. needs operation_form (operation_schema e)) document x (n, n-has, (d, (there, less), (w, w-has, rest))) in
    step-stated o e document x entry long takes after
