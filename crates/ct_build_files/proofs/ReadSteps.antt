-- The own fields of a build, one after another.
use Rattle.std.proofs.Common.{◌≡◌, ℕ, List, [], ◌∷◌, length, Option, Some, Result, Ok, Err, option_map, sym, ap, subst, ◌∙◌}
use Rattle.toml.specs.Data.{Data}
use Rattle.ct_words.specs.declared.entry.Entry.{Entry}
use Rattle.ct_words.specs.Text.{word_of}
use Rattle.ct_build.specs.declared.step.Step.{Step}
use Rattle.ct_build.specs.declared.step.Step.TheVariants as step
use Rattle.ct_fields.specs.Reads.{Reads}
use Rattle.ct_fields.specs.Schema.{needed, read_by}
use Rattle.ct_fields.specs.declared.field.FieldName.TheVariants as name
use Rattle.ct_fields.specs.declared.fault.DocumentFault.{DocumentFault}
use Rattle.ct_fields.proofs.StepLemmas.{bind-at}
use Rattle.ct_kind.specs.declared.evidence.Evidence.{Evidence}
use Rattle.ct_build_files.specs.Operation.{step_names}
use Rattle.ct_build_files.specs.BuildFields.{digits_of, places_form, text_form}
use Rattle.ct_build_files.specs.BuildSchema.{step_schema, parts_schema}
use Rattle.ct_build_files.specs.declared.operation.Operation.{Operation}
use Rattle.ct_build_files.specs.declared.operation.Operation.TheVariants.{Puncture, Shorten, Translate, Select}

-- the answer is what is read
reads_same : {A : Type 0} (r read : Result A DocumentFault) → r ≡ read → Reads (λ x. x) r read
reads_same (Ok x) read is = sym is
reads_same (Err fault) read is = λ other. sym is

-- the answer is what is read of the parts of a build by the operation, with the step that is found
abbrev IsWith : Entry → Operation → Data → Result Evidence DocumentFault → Option Step → Type 0
IsWith e o document r found = r ≡ read_by (step_names o) (parts_schema e o found) document

-- and so what is read of its own fields and of its parts
abbrev ReadsStep : Entry → Data → Result Evidence DocumentFault → Operation → Type 0
ReadsStep e document r o =
    Reads (λ (evidence : Evidence). evidence) r (read_by (name.N ∷ name.D ∷ name.W ∷ name.Op ∷ []) (step_schema o e.n (parts_schema e o)) document)

pub punctured : (e : Entry) (o : Operation) (document : Data) (r : Result Evidence DocumentFault) (places listed : List ℕ) → o ≡ Puncture
    → needed (places_form e.n) document ≡ Ok places → listed ≡ places → IsWith e o document r (Some (step.Puncture listed)) → ReadsStep e document r o
punctured e o document r places listed is read same with =
    subst (ReadsStep e document r) (sym is)
    (reads_same r _
    (subst (λ (p : Operation). IsWith e p document r (Some (step.Puncture listed))) is with
    ∙ ap (λ (ps : List ℕ). read_by (step_names Puncture) (parts_schema e Puncture (Some (step.Puncture ps))) document) same
    ∙ sym (bind-at (needed (places_form e.n) document) _ places read)))

pub shortened : (e : Entry) (o : Operation) (document : Data) (r : Result Evidence DocumentFault) (places text : List ℕ) (found : Option Step) → o ≡ Shorten
    → needed (places_form e.n) document ≡ Ok places → Ok text ≡ needed (text_form name.Digits) document
    → found ≡ option_map (step.Shorten places) (digits_of (length places) text) → IsWith e o document r found → ReadsStep e document r o
shortened e o document r places text found is read text-is same with =
    subst (ReadsStep e document r) (sym is)
    (reads_same r _
    (subst (λ (p : Operation). IsWith e p document r found) is with
    ∙ ap (λ (f : Option Step). read_by (step_names Shorten) (parts_schema e Shorten f) document) same
    ∙ sym
    (bind-at (needed (places_form e.n) document) _ places read ∙ bind-at (needed (text_form name.Digits) document) _ text (sym text-is))))

pub translated : (e : Entry) (o : Operation) (document : Data) (r : Result Evidence DocumentFault) (text : List ℕ) (found : Option Step) → o ≡ Translate
    → Ok text ≡ needed (text_form name.By) document → found ≡ option_map step.Translate (word_of e.n text) → IsWith e o document r found
    → ReadsStep e document r o
translated e o document r text found is text-is same with =
    subst (ReadsStep e document r) (sym is)
    (reads_same r _
    (subst (λ (p : Operation). IsWith e p document r found) is with
    ∙ ap (λ (f : Option Step). read_by (step_names Translate) (parts_schema e Translate f) document) same
    ∙ sym (bind-at (needed (text_form name.By) document) _ text (sym text-is))))

pub selected : (e : Entry) (o : Operation) (document : Data) (r : Result Evidence DocumentFault) (text : List ℕ) (found : Option Step) → o ≡ Select
    → Ok text ≡ needed (text_form name.By) document → found ≡ option_map step.Select (word_of e.n text) → IsWith e o document r found
    → ReadsStep e document r o
selected e o document r text found is text-is same with =
    subst (ReadsStep e document r) (sym is)
    (reads_same r _
    (subst (λ (p : Operation). IsWith e p document r found) is with
    ∙ ap (λ (f : Option Step). read_by (step_names Select) (parts_schema e Select f) document) same
    ∙ sym (bind-at (needed (text_form name.By) document) _ text (sym text-is))))
