-- What is written for a build states it, and how large it is.
use Rattle.std.proofs.Common.{◌≡◌, ◌≢◌, ℕ, ◌%◌, ◌<◌, ◌≤◌, ◌||◌, ◌&&◌, ◌==◌, not, nat_le, Bool, true, false, IsTrue, pos, List, [], ◌∷◌, length, map, All, codes, Option, Some, None, IfSome, is_some, is_none, option_map, Ok, refl, sym, ap, subst, le-leb, eq-eqb, lit≤, arith}
use Rattle.std.specs.List.{AllByRecursion}
use Rattle.std.specs.Option.{option_map_or}
use Rattle.std.proofs.lemmas.Bool.{and_from, false≢true}
use Rattle.std.proofs.lemmas.List.Elements.{All-from_recursion}
use Rattle.toml.specs.Data.{Data, string, integer, depth, items_depth, members_depth}
use Rattle.toml.specs.View.{items_of}
use Rattle.ct_words.specs.Text.{word_text}
use Rattle.ct_words.proofs.TextLemmas.{word_of-word_text}
use Rattle.ct_words.specs.declared.limits.TheConstants.{MAX_N}
use Rattle.ct_words.specs.declared.entry.Entry.{Entry}
use Rattle.ct_words.proofs.EntryLemmas.{WeightFits, entry_limits}
use Rattle.ct_names.specs.Id.{is_id}
use Rattle.ct_build.specs.Build.{FieldsFit, FitsStated}
use Rattle.ct_build.specs.declared.building.TheConstants.{MAX_BUILT}
use Rattle.ct_build.specs.declared.step.Step.{Step}
use Rattle.ct_build.specs.declared.step.Step.TheVariants as step
use Rattle.ct_fields.specs.Fields.{is_text}
use Rattle.ct_fields.specs.WrittenSchema.{written_table}
use Rattle.ct_fields.specs.declared.field.FieldName.{FieldName}
use Rattle.ct_fields.specs.declared.field.FieldName.TheVariants as name
use Rattle.ct_fields.proofs.WrittenSchema.{Writes, depth-written}
use Rattle.ct_kind.specs.declared.evidence.Evidence.TheVariants.{Build}
use Rattle.ct_build_files.specs.Operation.{operation_text, operation_of, makes_length, takes_weight, needs_other}
use Rattle.ct_build_files.specs.BuildSchema.{step_schema, parts_schema, build_schema}
use Rattle.ct_build_files.specs.WrittenBuild.{number_list, digits_text, step_fields, with_other, build_fields}
use Rattle.ct_build_files.specs.declared.operation.Operation.TheVariants as operation
use Rattle.ct_build_files.proofs.BuildFields.{left_out-from, digits_of-text}

-- ---- what is written states the build

-- a step that fits the entry is of an operation that makes words of its length, and takes its weight or none
length_made : (s : Step) (e : Entry) → FieldsFit s e → makes_length (operation_of s) e.n ≡ true
unfolding FieldsFit
length_made step.Lengthen e fits = le-leb 2 e.n fits
length_made step.AppendOne e fits = le-leb 2 e.n fits
length_made step.Parity e fits = le-leb 2 e.n fits
length_made step.Uuv e fits = eq-eqb (e.n % 2) 0 fits.1
length_made step.Juxtapose e fits = le-leb 2 e.n fits
length_made s e fits = refl

weight_there : (w : Option ℕ) → w ≢ None → is_some w ≡ true
weight_there None h = absurd (h refl)
weight_there (Some w) h = refl

weight_taken : (s : Step) (e : Entry) → FieldsFit s e → takes_weight (operation_of s) e.w ≡ true
unfolding FieldsFit
weight_taken (step.Puncture places) e fits = ap is_none fits.0
weight_taken (step.Translate by) e fits = ap is_none fits.0
weight_taken (step.Select by) e fits = weight_there e.w fits.0
weight_taken step.Uuv e fits = ap is_none fits.0
weight_taken s e fits = refl

-- a build that is not by `select` may have no weight
not_selected : (s : Step) (e : Entry) → FieldsFit s e → e.w ≡ None → is_text (codes "select") (string (operation_text (operation_of s))) ≡ true → ⊥
unfolding FieldsFit
not_selected (step.Select by) e fits none selects = fits.0 none
not_selected s e fits none selects = false≢true selects

-- the distance is even where it has to be
even_from : (s : Step) (e : Entry) (w : Option ℕ) → FieldsFit s e → WeightFits e w → e.w ≡ w
    → (option_map_or (λ d. true) (option_map (λ k. integer (pos k)) w) false || is_text (codes "select") (string (operation_text (operation_of s)))) ≡ true
    → e.d % 2 ≡ 0
even_from s e None fits light none even = absurd (not_selected s e fits none even)
even_from s e (Some k) fits light is even = light.0

-- a number in a range, and a distance
in_range : (low high k : ℕ) → low ≤ k → k ≤ high → IsTrue (nat_le low k && nat_le k high)
in_range low high k above below = and_from (nat_le low k) (nat_le k high) (le-leb low k above) (le-leb k high below)

distance_right : (even : Bool) (d : ℕ) → 3 ≤ d → d ≤ MAX_N → (even ≡ true → d % 2 ≡ 0) → IsTrue ((nat_le 3 d && nat_le d MAX_N) && not (even && d % 2 == 1))
distance_right false d far near is = and_from (nat_le 3 d && nat_le d MAX_N) true (in_range 3 MAX_N d far near) refl
distance_right true d far near is =
    and_from (nat_le 3 d && nat_le d MAX_N) (not (d % 2 == 1)) (in_range 3 MAX_N d far near) (let zero = is refl in rw zero refl)

weight_right : (e : Entry) (w : Option ℕ) → WeightFits e w → IfSome w (λ k. IsTrue (nat_le 0 k && nat_le k e.n))
weight_right e None light = tt
weight_right e (Some k) light = in_range 0 e.n k (omega arith) light.2

-- the own fields and the parts
step-writes : (e : Entry) (s : Step) (part : List ℕ) (other : Option (List ℕ)) → FieldsFit s e → is_some other ≡ needs_other s → IsTrue (is_id part)
    → IfSome other (λ id. IsTrue (is_id id))
    → Writes (name.N ∷ name.D ∷ name.W ∷ name.Op ∷ []) (step_schema (operation_of s) e.n (parts_schema e (operation_of s))) (build_fields e s part other)
    (Ok (Build e s part other))
unfolding FieldsFit
step-writes e step.Lengthen part None fits named id ids = (part, refl, id, (refl, refl))
step-writes e step.AppendOne part None fits named id ids = (part, refl, id, (refl, refl))
step-writes e step.Parity part None fits named id ids = (part, refl, id, (refl, refl))
step-writes e (step.Puncture places) part None (plain, some, are, few) named id ids =
    (places, refl, left_out-from e.n places some are few, (part, refl, id, (refl, refl)))
step-writes e (step.Shorten places digits) part None (some, are, few, long, small) named id ids =
    let s = step.Shorten places digits in
    let found = ap (option_map (step.Shorten places)) (digits_of-text (length places) digits long small) in (
      places,
      refl,
      left_out-from e.n places some are few,
      (
        digits_text digits,
        refl,
        refl,
        subst (λ (f : Option Step). Writes (name.N ∷ name.D ∷ name.W ∷ name.Op ∷ name.Places ∷ name.Digits ∷ []) (parts_schema e operation.Shorten f)
            (build_fields e s part None) (Ok (Build e s part None))) (sym found) (part, refl, id, (refl, refl)),
      ),
    )
step-writes e (step.Translate by) part None (plain, small) named id ids =
    let s = step.Translate by in
    let found = ap (option_map step.Translate) (word_of-word_text e.n by small) in (
      word_text e.n by,
      refl,
      refl,
      subst (λ (f : Option Step). Writes (name.N ∷ name.D ∷ name.W ∷ name.Op ∷ name.By ∷ []) (parts_schema e operation.Translate f)
          (build_fields e s part None) (Ok (Build e s part None))) (sym found) (part, refl, id, (refl, refl)),
    )
step-writes e step.Complement part None fits named id ids = (part, refl, id, (refl, refl))
step-writes e (step.Select by) part None (weighted, small) named id ids =
    let s = step.Select by in
    let found = ap (option_map step.Select) (word_of-word_text e.n by small) in (
      word_text e.n by,
      refl,
      refl,
      subst (λ (f : Option Step). Writes (name.N ∷ name.D ∷ name.W ∷ name.Op ∷ name.By ∷ []) (parts_schema e operation.Select f)
          (build_fields e s part None) (Ok (Build e s part None))) (sym found) (part, refl, id, (refl, refl)),
    )
step-writes e step.Uuv part (Some beside) fits named id ids = (part, refl, id, (beside, refl, ids, (refl, refl)))
step-writes e step.Juxtapose part (Some beside) fits named id ids = (part, refl, id, (beside, refl, ids, (refl, refl)))
step-writes e (step.Trim size) part None (some, few) named id ids =
    (size, refl, in_range 1 MAX_BUILT size some few, (part, refl, id, (refl, refl)))
step-writes e s part other fits named id ids = absurd cc

pub build-writes : (e : Entry) (s : Step) (part : List ℕ) (other : Option (List ℕ)) → FitsStated s e → is_some other ≡ needs_other s → IsTrue (is_id part)
    → IfSome other (λ id. IsTrue (is_id id)) → Writes [] build_schema (build_fields e s part other) (Ok (Build e s part other))
build-writes e s part other fits named id ids =
    let limits = entry_limits e fits.entry in (
      e.n,
      refl,
      in_range 1 MAX_N e.n limits.length_from limits.length_to,
      (
        e.d,
        refl,
        distance_right _ e.d limits.distance_from limits.distance_to (even_from s e e.w fits.fields limits.weight refl),
        (
          e.w,
          refl,
          weight_right e e.w limits.weight,
          (
            operation_of s,
            refl,
            refl,
            (length_made s e fits.fields, (weight_taken s e fits.fields, step-writes e s part other fits.fields named id ids)),
          ),
        ),
      ),
    )

-- ---- how large it is

-- the values at fields have a property
abbrev pub Have : (Data → Type 0) → List (FieldName × Option Data) → Type 0
Have P fields = AllByRecursion (λ f. IfSome f.1 P) fields

-- those of the own fields have one that numbers, lists of numbers and the texts of words and of digits have
pub steps-have : (P : Data → Type 0) (s : Step) (e : Entry) → FieldsFit s e → ((k : ℕ) → P (integer (pos k))) → ((ks : List ℕ) → P (number_list ks))
    → ((x : ℕ) → P (string (word_text e.n x))) → ((digits : List ℕ) → All (λ a. a < 2) digits → P (string (digits_text digits)))
    → Have P (step_fields s e.n)
unfolding FieldsFit
steps-have P (step.Puncture places) e fits number list word text = (list places, tt)
steps-have P (step.Shorten places digits) e (some, are, few, long, small) number list word text = (list places, (text digits small, tt))
steps-have P (step.Translate by) e fits number list word text = (word by, tt)
steps-have P (step.Select by) e fits number list word text = (word by, tt)
steps-have P (step.Trim size) e fits number list word text = (number size, tt)
steps-have P s e fits number list word text = tt

-- so do those of all fields, if the other texts have it
others-have : (P : Data → Type 0) (other : Option (List ℕ)) (fields : List (FieldName × Option Data)) → IfSome other (λ id. P (string id))
    → Have P fields → Have P (with_other other fields)
others-have P None fields has all = all
others-have P (Some id) fields has all = (has, all)

weight-has : (P : Data → Type 0) (w : Option ℕ) → ((k : ℕ) → P (integer (pos k))) → IfSome (option_map (λ k. integer (pos k)) w) P
weight-has P None number = tt
weight-has P (Some w) number = number w

pub fields-have : (P : Data → Type 0) (e : Entry) (s : Step) (part : List ℕ) (other : Option (List ℕ)) → ((k : ℕ) → P (integer (pos k)))
    → P (string (operation_text (operation_of s))) → P (string part) → IfSome other (λ id. P (string id)) → Have P (step_fields s e.n)
    → All (λ f. IfSome f.1 P) (build_fields e s part other)
fields-have P e s part other number text id ids own =
    All-from_recursion (λ f. IfSome f.1 P) (build_fields e s part other)
    (number e.n, (number e.d, (weight-has P e.w number, (text, (id, others-have P other (step_fields s e.n) ids own)))))

-- numbers don't nest
numbers_depth : (numbers : List ℕ) → depth (number_list numbers) ≤ 80
numbers_depth numbers = rw (flat numbers) (lit≤ tt) where
  flat : (numbers : List ℕ) → items_depth (items_of (map (λ k. integer (pos k)) numbers)) ≡ 0
  flat [] = refl
  flat (k ∷ numbers) = rw (flat numbers) refl

-- the table is no deeper than a document may be
pub build-depth : (e : Entry) (s : Step) (part : List ℕ) (other : Option (List ℕ)) → FitsStated s e
    → members_depth (written_table (codes "build") (build_fields e s part other)) ≤ 80
build-depth e s part other fits =
    depth-written 80 (codes "build") (build_fields e s part other)
    (fields-have (λ d. depth d ≤ 80) e s part other (λ k. lit≤ tt) (lit≤ tt) (lit≤ tt) (beside other)
    (steps-have (λ d. depth d ≤ 80) s e fits.fields (λ k. lit≤ tt) numbers_depth (λ x. lit≤ tt) (λ digits small. lit≤ tt)))
  where
    beside : (o : Option (List ℕ)) → IfSome o (λ id. depth (string id) ≤ 80)
    beside None = tt
    beside (Some id) = lit≤ tt
