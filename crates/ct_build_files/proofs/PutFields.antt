-- What is put in the table of a build, field by field.
use Rattle.std.proofs.Common.{◌≡◌, ◌≢◌, ℕ, ◌+◌, ◌<◌, ◌^◌, List, [], ◌∷◌, All, Option, Some, None, Result, codes, pos, refl, sym, ap, subst, ◌∙◌, arith}
use Rattle.std.specs.Prelude.{OnOk, option_map}
use Rattle.std.specs.Str.{IsAscii}
use Rattle.std.proofs.lemmas.List.Elements.{All-head, All-tail}
use Rattle.std.proofs.lemmas.Result.{on_ok_weaker}
use Rattle.std.proofs.lemmas.Str.Ascii.{IsAscii-nil, IsAscii-cons}
use Rattle.toml.specs.Data.{Data, string, integer, Members}
use Rattle.ct_words.specs.declared.entry.Entry.{Entry}
use Rattle.ct_build.specs.Build.{FieldsFit}
use Rattle.ct_build.specs.declared.step.Step.{Step}
use Rattle.ct_build.specs.declared.step.Step.TheVariants.{Lengthen, AppendOne, Parity, Puncture, Shorten, Translate, Complement, Select, Uuv, Juxtapose, Trim}
use Rattle.ct_fields.specs.Written.{put, entry_table}
use Rattle.ct_fields.specs.WrittenSchema.{put_some, written_table}
use Rattle.ct_fields.specs.declared.field.FieldName.{FieldName}
use Rattle.ct_fields.specs.declared.field.FieldName.TheVariants as name
use Rattle.ct_build_files.specs.Operation.{operation_text, operation_of}
use Rattle.ct_build_files.specs.WrittenBuild.{number_list, digits_text, step_fields, with_other, build_fields, put_fields}

-- digits written as characters are ASCII
pub IsAscii_digits_text : (digits : List ℕ) → All (λ a. a < 2) digits → IsAscii (digits_text digits)
IsAscii_digits_text [] small = IsAscii-nil
IsAscii_digits_text (a ∷ digits) small =
    let first = All-head (λ b. b < 2) a digits small in
    IsAscii-cons (48 + a) (digits_text digits) (omega arith) (IsAscii_digits_text digits (All-tail (λ b. b < 2) a digits small))

-- a value is put where the same is put
pub put_same : {T E : Type 0} (r : Result T E) (name : FieldName) (d e : Data) (old new : Members) → d ≡ e → OnOk r (new ≡ put name d old)
    → OnOk r (new ≡ put name e old)
put_same r name d e old new same = on_ok_weaker r (λ is. is ∙ ap (λ (x : Data). put name x old) same)

-- the fields of a step are those of the step that it is
pub put_as : {T E : Type 0} (r : Result T E) (s t : Step) (n : ℕ) (old new : Members) → s ≡ t → OnOk r (new ≡ put_fields (step_fields t n) old)
    → OnOk r (new ≡ put_fields (step_fields s n) old)
put_as r s t n old new same = on_ok_weaker r (λ is. is ∙ ap (λ (u : Step). put_fields (step_fields u n) old) (sym same))

-- the places, as they are taken
pub put_punctured : {T E : Type 0} (r : Result T E) (s : Step) (n : ℕ) (places taken : List ℕ) (old new : Members) → s ≡ Puncture places → taken ≡ places
    → OnOk r (new ≡ put name.Places (number_list taken) old) → OnOk r (new ≡ put_fields (step_fields s n) old)
put_punctured r s n places taken old new is taken-is h =
    put_as r s (Puncture places) n old new is (put_same r name.Places (number_list taken) (number_list places) old new (ap number_list taken-is) h)

-- and the digits after them
pub put_shortened : {T E : Type 0} (r : Result T E) (s : Step) (n : ℕ) (places digits taken written : List ℕ) (old middle new : Members)
    → s ≡ Shorten places digits → taken ≡ places → written ≡ digits → middle ≡ put name.Places (number_list taken) old
    → OnOk r (new ≡ put name.Digits (string (digits_text written)) middle) → OnOk r (new ≡ put_fields (step_fields s n) old)
put_shortened r s n places digits taken written old middle new is taken-is written-is first h =
    put_as r s (Shorten places digits) n old new is
    (on_ok_weaker r
    (λ second.
    second ∙ ap (λ (ds : List ℕ). put name.Digits (string (digits_text ds)) middle) written-is
    ∙ ap (put name.Digits (string (digits_text digits))) (first ∙ ap (λ (ps : List ℕ). put name.Places (number_list ps) old) taken-is))
    h)

-- a step of another kind has none
pub put_none : (s : Step) (n : ℕ) (ms : Members) → ((places : List ℕ) → s ≢ Puncture places) → ((places digits : List ℕ) → s ≢ Shorten places digits)
    → ((by : ℕ) → s ≢ Translate by) → ((by : ℕ) → s ≢ Select by) → ((size : ℕ) → s ≢ Trim size) → ms ≡ put_fields (step_fields s n) ms
put_none (Puncture places) n ms p h t l m = absurd (p places refl)
put_none (Shorten places digits) n ms p h t l m = absurd (h places digits refl)
put_none (Translate by) n ms p h t l m = absurd (t by refl)
put_none (Select by) n ms p h t l m = absurd (l by refl)
put_none (Trim size) n ms p h t l m = absurd (m size refl)
put_none Lengthen n ms p h t l m = refl
put_none AppendOne n ms p h t l m = refl
put_none Parity n ms p h t l m = refl
put_none Complement n ms p h t l m = refl
put_none Uuv n ms p h t l m = refl
put_none Juxtapose n ms p h t l m = refl

-- the other piece, if there is one, and what is put after it
put_with : (other : Option (List ℕ)) (fields : List (FieldName × Option Data)) (ms : Members)
    → put_fields fields (put_some name.Other (option_map string other) ms) ≡ put_fields (with_other other fields) ms
put_with None fields ms = refl
put_with (Some id) fields ms = refl

-- the fields of a build, one after another
pub put_build : (e : Entry) (s : Step) (part : List ℕ) (other : Option (List ℕ)) (first second third fourth fifth last : Members)
    → first ≡ entry_table (codes "build") e.n e.d → second ≡ put_some name.W (option_map (λ k. integer (pos k)) e.w) first
    → third ≡ put name.Op (string (operation_text (operation_of s))) second → fourth ≡ put name.Part (string part) third
    → fifth ≡ put_some name.Other (option_map string other) fourth → last ≡ put_fields (step_fields s e.n) fifth
    → last ≡ written_table (codes "build") (build_fields e s part other)
put_build e s part other first second third fourth fifth last entry weight operation id beside own =
    let op = string (operation_text (operation_of s)) in
    let before =
    id ∙ ap (put name.Part (string part)) (operation ∙ ap (put name.Op op) (weight ∙ ap (put_some name.W (option_map (λ k. integer (pos k)) e.w)) entry)) in
    own ∙ ap (put_fields (step_fields s e.n)) (beside ∙ ap (put_some name.Other (option_map string other)) before)
    ∙ put_with other (step_fields s e.n) _

-- the digits of a step that fits are digits, and its word has the length
pub digits_fit : (s : Step) (e : Entry) (places digits : List ℕ) → s ≡ Shorten places digits → FieldsFit s e → All (λ a. a < 2) digits
unfolding FieldsFit
digits_fit s e places digits is fits = let (some, are, within, same, binary) = subst (λ (t : Step). FieldsFit t e) is fits in binary

pub translated_fits : (s : Step) (e : Entry) (by : ℕ) → s ≡ Translate by → FieldsFit s e → by < 2 ^ e.n
unfolding FieldsFit
translated_fits s e by is fits = let (plain, small) = subst (λ (t : Step). FieldsFit t e) is fits in small

pub selected_fits : (s : Step) (e : Entry) (by : ℕ) → s ≡ Select by → FieldsFit s e → by < 2 ^ e.n
unfolding FieldsFit
selected_fits s e by is fits = let (weighted, small) = subst (λ (t : Step). FieldsFit t e) is fits in small
