-- The forms of the own fields of a build are forms, and what their values are.
use Rattle.std.proofs.Common.{◌≡◌, ◌≢◌, ℕ, zero, suc, ◌+◌, ◌-◌, ◌<◌, ◌≤◌, get_or, true, ◌&&◌, ◌==◌, nat_le, nat_lt, pos, List, [], ◌∷◌, length, map, All, Some, None, inl, inr, refl, ap, ◌∙◌, subst, le-leb, eq-eqb, eqb-true, arith}
use Rattle.std.specs.Prelude.{if◌then◌else◌, ⊤}
use Rattle.std.specs.List.{list_all}
use Rattle.std.specs.List.Sorted.{IsStrictlyIncreasing}
use Rattle.std.specs.Str.{bytes_eq}
use Rattle.std.proofs.lemmas.Bool.{and_parts, and_from, cases_Bool, false_from_ne_true, leb-true, ltb-true, lt-ltb}
use Rattle.std.proofs.lemmas.List.Elements.{All-nil, All-cons, All-head, All-tail}
use Rattle.std.proofs.lemmas.Option.{option_and_then_some, cond_some}
use Rattle.toml.specs.Data.{Data, string, integer, float, boolean, datetime, array, table, as_str}
use Rattle.ct_words.specs.declared.limits.TheConstants.{MAX_N}
use Rattle.ct_words.specs.Text.{is_binary_digit}
use Rattle.ct_words.specs.Constructions.Places.{ArePlaces}
use Rattle.ct_fields.specs.Fields.{number_in}
use Rattle.ct_fields.specs.Forms.{all_of}
use Rattle.ct_fields.specs.declared.field.FieldName.{FieldName}
use Rattle.ct_fields.proofs.FieldLemmas.{bytes_eq-true, as_str-some}
use Rattle.ct_fields.proofs.FormLemmas.{all-some, all-from, id-reads, index-reads}
use Rattle.ct_fields.proofs.LastLemmas.{is_of_a_kind}
use Rattle.ct_fields.proofs.SchemaLemmas.{IsForm}
use Rattle.ct_build_files.specs.Operation.{operation_text, operations, named_among, operation_named}
use Rattle.ct_build_files.specs.BuildFields.{operation_in, ascend, are_left_out, places_in, digits_of, operation_form, places_form, text_form, id_form}
use Rattle.ct_build_files.specs.WrittenBuild.{number_list, digits_text}
use Rattle.ct_build_files.specs.declared.operation.Operation.{Operation}
use Rattle.ct_build_files.specs.declared.operation.Operation.TheVariants.{Lengthen, AppendOne, Parity, Puncture, Shorten, Translate, Complement, Select, Uuv, Juxtapose, Trim}

-- an operation that is found has the text
named_among-some : (os : List Operation) (text : List ℕ) (o : Operation) → named_among os text ≡ Some o → text ≡ operation_text o
named_among-some [] text o e = absurd cc
named_among-some (p ∷ os) text o e =
    elim (cases_Bool (bytes_eq text (operation_text p))) [
      | inl here ↦ let found : Some p ≡ Some o = rw here at e in let same : p ≡ o = cc in bytes_eq-true text (operation_text p) here ∙ ap operation_text same
      | inr other ↦ named_among-some os text o (rw other at e)
    ]

-- the text of each operation finds it
pub operation_named-text : (o : Operation) → operation_named (operation_text o) ≡ Some o
unfolding operation_named
operation_named-text Lengthen = refl
operation_named-text AppendOne = refl
operation_named-text Parity = refl
operation_named-text Puncture = refl
operation_named-text Shorten = refl
operation_named-text Translate = refl
operation_named-text Complement = refl
operation_named-text Select = refl
operation_named-text Uuv = refl
operation_named-text Juxtapose = refl
operation_named-text Trim = refl

-- a text of none of these operations, and of none at all
abbrev AreOthers : List Operation → List ℕ → Type 0
AreOthers [] text = ⊤
AreOthers (o ∷ os) text = (text ≢ operation_text o) × AreOthers os text

named_among-none : (os : List Operation) (text : List ℕ) → AreOthers os text → named_among os text ≡ None
named_among-none [] text others = refl
named_among-none (o ∷ os) text (other, others) =
    let unlike = false_from_ne_true (bytes_eq text (operation_text o)) (λ same. other (bytes_eq-true text (operation_text o) same)) in
    ap (λ b. if b then Some o else named_among os text) unlike ∙ named_among-none os text others

pub operation_named-none : (text : List ℕ) → AreOthers operations text → operation_named text ≡ None
unfolding operation_named
operation_named-none text others = named_among-none operations text others

operation_in-some : (d : Data) (o : Operation) → operation_in d ≡ Some o → d ≡ string (operation_text o)
unfolding operation_named
operation_in-some d o e =
    option_and_then_some operation_named (as_str d) o e (λ text is named.
    as_str-some d text is ∙ ap string (named_among-some operations text o named))

-- so the operation is of a form
pub operation-form : IsForm operation_form
operation-form = record {
  own = refl;
  reads = record { some = λ d o e. (operation_in-some d o e, refl); from = λ o right. operation_named-text o };
}

-- and so are texts and ids at the fields of a kind
pub text-form : (name : FieldName) → is_of_a_kind name ≡ true → IsForm (text_form name)
text-form name own = record {
  own = own;
  reads = record { some = λ d text e. (as_str-some d text e, refl); from = λ text right. refl };
}

pub id-form : (name : FieldName) → is_of_a_kind name ≡ true → IsForm (id_form name)
id-form name own = record { own = own; reads = id-reads }

-- numbers that pass the test are below the limit and ascend
ascend-within : (low high : ℕ) (ks : List ℕ) → ascend low high ks ≡ true → All (λ k. k < high) ks
ascend-within low high [] e = All-nil (λ k. k < high)
ascend-within low high (k ∷ ks) e =
    let (front, rest) = and_parts (nat_le low k && nat_lt k high) (ascend (suc k) high ks) e in
    All-cons (λ j. j < high) k ks (ltb-true k high (and_parts (nat_le low k) (nat_lt k high) front).1) (ascend-within (suc k) high ks rest)

ascend-increasing : (low high : ℕ) (ks : List ℕ) → ascend low high ks ≡ true → IsStrictlyIncreasing ks
ascend-increasing low high [] e = λ i within. absurd (omega arith)
ascend-increasing low high (k ∷ []) e = λ i within. absurd (omega arith)
ascend-increasing low high (k ∷ j ∷ js) e = at (ascend-increasing (suc k) high (j ∷ js) rest) where
  rest : ascend (suc k) high (j ∷ js) ≡ true
  rest = (and_parts (nat_le low k && nat_lt k high) (ascend (suc k) high (j ∷ js)) e).1

  above : k < j
  above =
      let front = (and_parts (nat_le (suc k) j && nat_lt j high) (ascend (suc j) high js) rest).0 in
      let far = leb-true (suc k) j (and_parts (nat_le (suc k) j) (nat_lt j high) front).0 in
      omega arith

  at : IsStrictlyIncreasing (j ∷ js) → (i : ℕ) → i + 1 < length (k ∷ j ∷ js) → get_or (k ∷ j ∷ js) i 0 < get_or (k ∷ j ∷ js) (i + 1) 0
  at later zero within = above
  at later (suc i) within =
      let step : suc (i + 1) ≡ suc i + 1 = omega arith in
      subst (λ m. get_or (j ∷ js) i 0 < get_or (k ∷ j ∷ js) m 0) step (later i (omega arith))

-- numbers that ascend below the limit pass the test
ascend-from : (low high : ℕ) (ks : List ℕ) → (0 < length ks → low ≤ get_or ks 0 0) → IsStrictlyIncreasing ks → All (λ k. k < high) ks
    → ascend low high ks ≡ true
ascend-from low high [] least rises below = refl
ascend-from low high (k ∷ ks) least rises below =
    let first : low ≤ k = least (omega arith) in
    let rest = ascend-from (suc k) high ks
    (λ some. let up = rises 0 (omega arith) in up)
    (λ i within.
    let step : suc i + 1 ≡ suc (i + 1) = omega arith in
    subst (λ m. get_or (k ∷ ks) (suc i) 0 < get_or (k ∷ ks) m 0) step (rises (suc i) (omega arith)))
    (All-tail (λ j. j < high) k ks below) in
    rw (le-leb low k first, lt-ltb k high (All-head (λ j. j < high) k ks below)) rest

-- the test of places is passed exactly by places that can be left out
pub left_out-true : (n : ℕ) (places : List ℕ) → are_left_out n places ≡ true
    → (1 ≤ length places) × ArePlaces (n + length places) places × (n + length places ≤ MAX_N)
left_out-true n places e =
    let (front, ascending) = and_parts (nat_le 1 (length places) && nat_le (n + length places) MAX_N) (ascend 0 (n + length places) places) e in
    let (some, few) = and_parts (nat_le 1 (length places)) (nat_le (n + length places) MAX_N) front in (
      leb-true 1 (length places) some,
      record { ascending = ascend-increasing 0 (n + length places) places ascending; within = ascend-within 0 (n + length places) places ascending },
      leb-true (n + length places) MAX_N few,
    )

pub left_out-from : (n : ℕ) (places : List ℕ) → 1 ≤ length places → ArePlaces (n + length places) places → n + length places ≤ MAX_N
    → are_left_out n places ≡ true
left_out-from n places some are few =
    rw (le-leb 1 (length places) some, le-leb (n + length places) MAX_N few)
    (ascend-from 0 (n + length places) places (λ h. omega arith) are.ascending are.within)

-- places are read exactly where the field is the list of them
places_in-some : (n : ℕ) (d : Data) (places : List ℕ) → places_in n d ≡ Some places
    → (d ≡ number_list places) × (are_left_out n places ≡ true)
places_in-some n (array ds) places e =
    option_and_then_some _ (all_of (number_in 0 MAX_N) ds) places e (λ ks ks-are next.
    let (test, same) = cond_some (are_left_out n ks) ks places next in
    (ap array ((all-some (number_in 0 MAX_N) (λ k. integer (pos k)) (λ k. k ≤ MAX_N) index-reads ds ks ks-are).0) ∙ ap number_list same, subst (λ ps. are_left_out n ps ≡ true) same test))
places_in-some n (string s) places e = absurd cc
places_in-some n (integer z) places e = absurd cc
places_in-some n (float x) places e = absurd cc
places_in-some n (boolean b) places e = absurd cc
places_in-some n (datetime t) places e = absurd cc
places_in-some n (table ms) places e = absurd cc

-- places below a limit are no greater than it
places_small : (m : ℕ) (places : List ℕ) → m ≤ MAX_N → All (λ p. p < m) places → All (λ p. p ≤ MAX_N) places
places_small m [] room within = All-nil (λ p. p ≤ MAX_N)
places_small m (p ∷ ps) room within =
    let first = All-head (λ q. q < m) p ps within in
    All-cons (λ q. q ≤ MAX_N) p ps (omega arith) (places_small m ps room (All-tail (λ q. q < m) p ps within))

places_in-from : (n : ℕ) (places : List ℕ) → are_left_out n places ≡ true → places_in n (number_list places) ≡ Some places
places_in-from n places right =
    let (some, are, few) = left_out-true n places right in
    rw (all-from (number_in 0 MAX_N) (λ k. integer (pos k)) (λ k. k ≤ MAX_N) index-reads places (places_small (n + length places) places few are.within), right) refl

pub places-form : (n : ℕ) → IsForm (places_form n)
places-form n = record { own = refl; reads = record { some = places_in-some n; from = places_in-from n } }

-- a binary digit is a digit's character
digit-character : (b : ℕ) → is_binary_digit b ≡ true → (b ≡ 48 + (b - 48)) × (b - 48 < 2)
digit-character b h =
    elim (cases_Bool (b == 48)) [
      | inl none ↦ let is = eqb-true b 48 none in (omega arith, omega arith)
      | inr other ↦ let is = eqb-true b 49 (rw other at h) in (omega arith, omega arith)
    ]

digits-characters : (text : List ℕ) → list_all is_binary_digit text ≡ true
    → (text ≡ map (λ a. 48 + a) (map (λ (b : ℕ). b - 48) text)) × (length (map (λ (b : ℕ). b - 48) text) ≡ length text) × All (λ a. a < 2) (map (λ (b : ℕ). b - 48) text)
digits-characters [] h = (refl, refl, All-nil (λ a. a < 2))
digits-characters (b ∷ bs) h =
    let (first, rest) = and_parts (is_binary_digit b) (list_all is_binary_digit bs) h in
    let (is, small) = digit-character b first in
    let (are, long, others) = digits-characters bs rest in
    (λ i. is i ∷ are i, ap suc long, All-cons (λ a. a < 2) (b - 48) (map (λ (c : ℕ). c - 48) bs) small others)

-- digits are read exactly from their text
pub digits_of-some : (count : ℕ) (text digits : List ℕ) → digits_of count text ≡ Some digits
    → (text ≡ digits_text digits) × (length digits ≡ count) × All (λ a. a < 2) digits
unfolding digits_of
digits_of-some count text digits e =
    let (test, same) = cond_some (length text == count && list_all is_binary_digit text) (map (λ (b : ℕ). b - 48) text) digits e in
    let (long, binary) = and_parts (length text == count) (list_all is_binary_digit text) test in
    let (are, kept, small) = digits-characters text binary in
    subst (λ (ds : List ℕ). (text ≡ map (λ a. 48 + a) ds) × (length ds ≡ count) × All (λ a. a < 2) ds) same
    (are, kept ∙ eqb-true (length text) count long, small)

characters-digits : (digits : List ℕ) → All (λ a. a < 2) digits
    → (list_all is_binary_digit (digits_text digits) ≡ true) × (map (λ (b : ℕ). b - 48) (digits_text digits) ≡ digits) × (length (digits_text digits) ≡ length digits)
characters-digits [] small = (refl, refl, refl)
characters-digits (a ∷ digits) small =
    let first = All-head (λ b. b < 2) a digits small in
    let (binary, same, long) = characters-digits digits (All-tail (λ b. b < 2) a digits small) in
    let back : 48 + a - 48 ≡ a = omega arith in
    (and_from (is_binary_digit (48 + a)) _ (character a first) binary, λ i. back i ∷ same i, ap suc long)
  where
    character : (a : ℕ) → a < 2 → is_binary_digit (48 + a) ≡ true
    character zero h = refl
    character (suc zero) h = refl
    character (suc (suc a)) h = absurd (omega arith)

pub digits_of-text : (count : ℕ) (digits : List ℕ) → length digits ≡ count → All (λ a. a < 2) digits
    → digits_of count (digits_text digits) ≡ Some digits
unfolding digits_of
digits_of-text count digits long small =
    let (binary, same, kept) = characters-digits digits small in
    rw (eq-eqb (length (digits_text digits)) count (kept ∙ long), binary) (ap Some same)
