-- How many words a step makes, and when nothing is told against it.
use Rattle.std.specs.Prelude.{IfErr, IsOk, OnErr}
use Rattle.std.specs.Option.{option_map, unwrap_or}
use Rattle.std.proofs.Common.{min, mul-le-mul_right, IfSome, ◌&&◌, Result, Ok, Err, ◌≡◌, ◌≢◌, ℕ, zero, suc, ◌*◌, ◌≤◌, ◌==◌, Bool, true, false, nat_lt, if◌then◌else◌, List, [], ◌∷◌, length, take, Option, Some, None, refl, ap, sym, subst, ◌∙◌, arith, ltb-true, ltb-false, length-take, IfOk, IfNone, IsPermutation, Vec, Global}
use Rattle.std.proofs.Math.Nat.{min-eq_right}
use Rattle.std.proofs.lemmas.List.Sorted.{IsPermutation-refl}
use Rattle.std.proofs.lemmas.List.Sums.{length-filter, count_by-le-length}
use Rattle.ct_words.specs.Word.{weight}
use Rattle.ct_words.specs.declared.entry.Entry.{Entry}
use Rattle.ct_words.specs.Code.{CodeValue}
use Rattle.ct_words.specs.Pairs.{first_of}
use Rattle.ct_words.proofs.CheckLemmas.{first_of-None}
use Rattle.ct_words.specs.Constructions.Translation.{translated}
use Rattle.ct_words.specs.Constructions.Shortened.{has_digits, shortened}
use Rattle.ct_words.proofs.Constructions.AppendLemmas.{length-lengthened, length-one_appended, length-with_parity}
use Rattle.ct_words.proofs.Constructions.TranslationLemmas.{length-translated, length-complemented}
use Rattle.ct_words.proofs.Constructions.PuncturedCodes.{length-punctured}
use Rattle.ct_words.proofs.Constructions.ShortenedCodes.{length-shortened}
use Rattle.ct_words.proofs.Constructions.UuvCodes.{length-uuv_words}
use Rattle.ct_words.proofs.Constructions.JuxtaposedCodes.{length-juxtaposed}
use Rattle.ct_build.specs.declared.building.TheConstants.{MAX_BUILT}
use Rattle.ct_build.specs.declared.fault.BuildFault.{BuildFault}
use Rattle.ct_build.specs.declared.fault.BuildFault.TheVariants.{Size, Few, Empty, Memory}
use Rattle.ct_build.specs.declared.shape.Shape.{Shape}
use Rattle.ct_build.specs.declared.step.Step.{Step}
use Rattle.ct_build.specs.declared.step.Step.TheVariants.{Lengthen, AppendOne, Parity, Puncture, Shorten, Translate, Complement, Select, Uuv, Juxtapose, Trim}
use Rattle.ct_build.specs.Build.{FieldsFit, FitsStated, shape_of, is_right_length, is_right_weight, few_fault, size_of, distance_of, other_of, is_right_other, step_distance, result_size, part_fault, other_fault, short_fault, above_limit, selected_of, built, sizes_fault, empty_fault, counted_fault, early_fault, told_empty_fault, told_fault, build_fault}
use Rattle.ct_build.proofs.Failures.{failed}
use Rattle.ct_build.proofs.StepLemmas.{IsReady, ready}

shortened-few : (n : ℕ) (places digits words : List ℕ) → length (shortened n places digits words) ≤ length words
shortened-few n places digits words =
    let is = length-shortened n places digits words in
    let few = count_by-le-length (has_digits n places digits) words in
    omega arith

selected-few : (w : Option ℕ) (n by : ℕ) (words : List ℕ) → length (selected_of w n by words) ≤ length words
selected-few None n by words = omega arith
selected-few (Some w) n by words =
    let is = length-filter (λ x. weight n x == w) (translated by words) in
    let few = count_by-le-length (λ x. weight n x == w) (translated by words) in
    let all = length-translated by words in
    omega arith

-- no step but u | u + v makes more words than the part has
pub built-few : (step : Step) (e : Entry) (part : CodeValue) (other : Option CodeValue) → step ≢ Uuv → length (built step e part other) ≤ length part.words
unfolding built
built-few Lengthen e part other unlike = let is = length-lengthened part.words in omega arith
built-few AppendOne e part other unlike = let is = length-one_appended part.words in omega arith
built-few Parity e part other unlike = let is = length-with_parity part.n part.words in omega arith
built-few (Puncture places) e part other unlike = let is = length-punctured part.n places part.words in omega arith
built-few (Shorten places digits) e part other unlike = shortened-few part.n places digits part.words
built-few (Translate by) e part other unlike = let is = length-translated by part.words in omega arith
built-few Complement e part other unlike = let is = length-complemented part.n part.words in omega arith
built-few (Select by) e part other unlike = selected-few e.w part.n by part.words
built-few Uuv e part other unlike = absurd (unlike refl)
built-few Juxtapose e part None unlike = omega arith
built-few Juxtapose e part (Some o) unlike = let is = length-juxtaposed o.n part.words o.words in omega arith
built-few (Trim size) e part other unlike = let is = length-take size part.words in omega arith

-- and that one a word for each pair
pub built-uuv : (e : Entry) (part : CodeValue) (other : Option CodeValue)
    → length (built Uuv e part other) ≡ length part.words * size_of (option_map shape_of other)
unfolding built
built-uuv e part None = omega arith
built-uuv e part (Some o) = length-uuv_words part.n part.words o.words

built-juxtapose : (e : Entry) (part : CodeValue) (other : Option CodeValue)
    → length (built Juxtapose e part other) ≡ min (length part.words) (size_of (option_map shape_of other))
unfolding built
built-juxtapose e part None = sym (min-eq_right (omega arith))
built-juxtapose e part (Some o) = length-juxtaposed o.n part.words o.words

-- what two options hold, where they are the same
Some-number : (i j : ℕ) → ◌≡◌ {A = Option ℕ} (Some i) (Some j) → i ≡ j
Some-number i j is = cc

-- the shapes tell how many words the step makes, where that does not depend on the words
pub result_size-is : (step : Step) (e : Entry) (part : CodeValue) (other : Option CodeValue) (k : ℕ)
    → result_size step (shape_of part) (option_map shape_of other) ≡ Some k → length (built step e part other) ≡ k
unfolding result_size built
result_size-is Lengthen e part other k is = length-lengthened part.words ∙ Some-number _ k is
result_size-is AppendOne e part other k is = length-one_appended part.words ∙ Some-number _ k is
result_size-is Parity e part other k is = length-with_parity part.n part.words ∙ Some-number _ k is
result_size-is (Puncture places) e part other k is = length-punctured part.n places part.words ∙ Some-number _ k is
result_size-is (Shorten places digits) e part other k is = cc
result_size-is (Translate by) e part other k is = length-translated by part.words ∙ Some-number _ k is
result_size-is Complement e part other k is = length-complemented part.n part.words ∙ Some-number _ k is
result_size-is (Select by) e part other k is = cc
result_size-is Uuv e part other k is = built-uuv e part other ∙ Some-number _ k is
result_size-is Juxtapose e part other k is = built-juxtapose e part other ∙ Some-number _ k is
result_size-is (Trim size) e part other k is = length-take size part.words ∙ Some-number _ k is

-- and where it does, there are no more than the part has
pub result_size-none : (step : Step) (e : Entry) (part : CodeValue) (other : Option CodeValue)
    → result_size step (shape_of part) (option_map shape_of other) ≡ None → length (built step e part other) ≤ length part.words
unfolding result_size
result_size-none step e part other none =
    built-few step e part other (λ is. unlike (subst (λ s. result_size s (shape_of part) (option_map shape_of other) ≡ None) is none))
  where
    unlike : result_size Uuv (shape_of part) (option_map shape_of other) ≡ None → ⊥
    unlike h = cc

pub none_above : (count : ℕ) → count ≤ MAX_BUILT → above_limit count ≡ None
none_above count few = go (nat_lt MAX_BUILT count) refl
  where
    go : (b : Bool) → nat_lt MAX_BUILT count ≡ b → (if b then Some (Size count) else None) ≡ None
    go true h = absurd (omega (arith, ltb-true MAX_BUILT count h))
    go false h = refl

pub few_from : (count : ℕ) → above_limit count ≡ None → count ≤ MAX_BUILT
few_from count none = go (nat_lt MAX_BUILT count) refl none
  where
    go : (b : Bool) → nat_lt MAX_BUILT count ≡ b → (if b then Some (Size count) else None) ≡ None → count ≤ MAX_BUILT
    go true h none' = cc
    go false h none' = ltb-false MAX_BUILT count h

-- where no more words result than the part has, their number gives no reason
size_few : (step : Step) (part : Shape) (other : Option Shape) (count : ℕ) → count ≤ part.size → sizes_fault step part other count ≡ sizes_fault step part other 0
unfolding sizes_fault
size_few step part other count few = go (above_limit part.size) refl
  where
    go : (first : Option BuildFault) → above_limit part.size ≡ first
        → first_of first (first_of (above_limit (size_of (other_of step other))) (above_limit count))
        ≡ first_of first (first_of (above_limit (size_of (other_of step other))) (above_limit 0))
    go (Some f) is = refl
    go None is =
        let within = few_from part.size is in
        ap (λ z. first_of (above_limit (size_of (other_of step other))) z) (none_above count (omega arith) ∙ sym (none_above 0 (omega arith)))

-- so the number of words that result is told early enough
size_early : (step : Step) (e : Entry) (part : CodeValue) (other : Option CodeValue)
    → sizes_fault step (shape_of part) (option_map shape_of other) (length (built step e part other))
    ≡ sizes_fault step (shape_of part) (option_map shape_of other) (unwrap_or (result_size step (shape_of part) (option_map shape_of other)) 0)
size_early step e part other = go (result_size step (shape_of part) (option_map shape_of other)) refl
  where
    go : (r : Option ℕ) → result_size step (shape_of part) (option_map shape_of other) ≡ r
        → sizes_fault step (shape_of part) (option_map shape_of other) (length (built step e part other))
        ≡ sizes_fault step (shape_of part) (option_map shape_of other) (unwrap_or r 0)
    go (Some k) is = ap (sizes_fault step (shape_of part) (option_map shape_of other)) (result_size-is step e part other k is)
    go None is = size_few step (shape_of part) (option_map shape_of other) _ (result_size-none step e part other is)

-- the shapes tell the first reason, but that no word results
pub counted_early : (step : Step) (e : Entry) (part : CodeValue) (other : Option CodeValue)
    → counted_fault step e (shape_of part) (option_map shape_of other) (length (built step e part other))
    ≡ early_fault step e (shape_of part) (option_map shape_of other)
unfolding early_fault
counted_early step e part other =
    ap (λ z. first_of (part_fault step e (shape_of part))
    (first_of (other_fault step e (shape_of part) (option_map shape_of other))
    (first_of (short_fault (step_distance step part.d (distance_of (option_map shape_of other))) e.d) (first_of z (few_fault step (length part.words))))))
    (size_early step e part other)

pub reasons_told : (step : Step) (e : Entry) (part : CodeValue) (other : Option CodeValue)
    → build_fault step e part other ≡ first_of (early_fault step e (shape_of part) (option_map shape_of other)) (empty_fault (built step e part other))
unfolding build_fault
reasons_told step e part other = ap (λ z. first_of z (empty_fault (built step e part other))) (counted_early step e part other)

-- the first reason, told from the earlier ones and the number of words
pub fault_early : (step : Step) (e : Entry) (part : CodeValue) (other : Option CodeValue) (f : BuildFault)
    → early_fault step e (shape_of part) (option_map shape_of other) ≡ Some f
    → build_fault step e part other ≡ Some f
fault_early step e part other f is = reasons_told step e part other ∙ ap (λ z. first_of z (empty_fault (built step e part other))) is

pub fault_empty : (step : Step) (e : Entry) (part : CodeValue) (other : Option CodeValue)
    → early_fault step e (shape_of part) (option_map shape_of other) ≡ None
    → length (built step e part other) ≡ 0 → build_fault step e part other ≡ Some Empty
fault_empty step e part other is none =
    reasons_told step e part other ∙ ap (λ z. first_of z (empty_fault (built step e part other))) is ∙ go (built step e part other) none
  where
    go : (words : List ℕ) → length words ≡ 0 → empty_fault words ≡ Some Empty
    go [] h = refl
    go (x ∷ xs) h = absurd (omega arith)

pub fault_none : (step : Step) (e : Entry) (part : CodeValue) (other : Option CodeValue)
    → early_fault step e (shape_of part) (option_map shape_of other) ≡ None
    → 1 ≤ length (built step e part other) → build_fault step e part other ≡ None
fault_none step e part other is some =
    reasons_told step e part other ∙ ap (λ z. first_of z (empty_fault (built step e part other))) is ∙ go (built step e part other) some
  where
    go : (words : List ℕ) → 1 ≤ length words → empty_fault words ≡ None
    go [] h = absurd (omega arith)
    go (x ∷ xs) h = refl

-- what is known where there is no reason
pub early_none : (step : Step) (e : Entry) (part : CodeValue) (other : Option CodeValue) → build_fault step e part other ≡ None
    → (early_fault step e (shape_of part) (option_map shape_of other) ≡ None) × (empty_fault (built step e part other) ≡ None)
early_none step e part other none =
    first_of-None (early_fault step e (shape_of part) (option_map shape_of other)) (empty_fault (built step e part other))
    (sym (reasons_told step e part other) ∙ none)

pub some_words : (words : List ℕ) → empty_fault words ≡ None → 1 ≤ length words
some_words [] h = cc
some_words (x ∷ xs) h = omega arith

-- no more words result than the limit allows
few_words : (step : Step) (e : Entry) (part : CodeValue) (other : Option CodeValue)
    → early_fault step e (shape_of part) (option_map shape_of other) ≡ None → length (built step e part other) ≤ MAX_BUILT
unfolding sizes_fault
few_words step e part other none =
    let beside = option_map shape_of other in
    let count = length (built step e part other) in
    let one = first_of-None (part_fault step e (shape_of part)) _ (counted_early step e part other ∙ none) in
    let two = first_of-None (other_fault step e (shape_of part) beside) _ one.1 in
    let three = first_of-None (short_fault (step_distance step part.d (distance_of beside)) e.d) _ two.1 in
    let four = first_of-None (sizes_fault step (shape_of part) beside count) _ three.1 in
    let first = first_of-None (above_limit (length part.words)) _ four.0 in
    let second = first_of-None (above_limit (size_of (other_of step beside))) _ first.1 in
    few_from count second.1

-- a step against which there is no reason makes 1 to MAX_BUILT words
pub built-size : (step : Step) (e : Entry) (part : CodeValue) (other : Option CodeValue) → build_fault step e part other ≡ None
    → (1 ≤ length (built step e part other)) × (length (built step e part other) ≤ MAX_BUILT)
built-size step e part other none =
    let both = early_none step e part other none in
    (some_words (built step e part other) both.1, few_words step e part other both.0)

-- a step that needs no other code does not look at one
pub built-alone : (step : Step) (e : Entry) (part : CodeValue) (other : Option CodeValue) → step ≢ Uuv → step ≢ Juxtapose → built step e part other ≡ built step e part None
unfolding built
built-alone Lengthen e part other u j = refl
built-alone AppendOne e part other u j = refl
built-alone Parity e part other u j = refl
built-alone (Puncture places) e part other u j = refl
built-alone (Shorten places digits) e part other u j = refl
built-alone (Translate by) e part other u j = refl
built-alone Complement e part other u j = refl
built-alone (Select by) e part other u j = refl
built-alone Uuv e part other u j = absurd (u refl)
built-alone Juxtapose e part other u j = absurd (j refl)
built-alone (Trim size) e part other u j = refl

pub fault-alone : (step : Step) (e : Entry) (part : CodeValue) (other : Option CodeValue) → step ≢ Uuv → step ≢ Juxtapose
    → build_fault step e part other ≡ build_fault step e part None
unfolding built is_right_other other_of step_distance sizes_fault early_fault build_fault
fault-alone Lengthen e part other u j = refl
fault-alone AppendOne e part other u j = refl
fault-alone Parity e part other u j = refl
fault-alone (Puncture places) e part other u j = refl
fault-alone (Shorten places digits) e part other u j = refl
fault-alone (Translate by) e part other u j = refl
fault-alone Complement e part other u j = refl
fault-alone (Select by) e part other u j = refl
fault-alone Uuv e part other u j = absurd (u refl)
fault-alone Juxtapose e part other u j = absurd (j refl)
fault-alone (Trim size) e part other u j = refl

-- what two options hold, where they are the same
Some-fault : (f g : BuildFault) → ◌≡◌ {A = Option BuildFault} (Some f) (Some g) → f ≡ g
Some-fault f g is = cc

-- no reason is want of memory
NotMemory : Option BuildFault → Type 0
NotMemory o = o ≢ Some Memory

first_NotMemory : (a b : Option BuildFault) → NotMemory a → NotMemory b → NotMemory (first_of a b)
unfolding NotMemory
first_NotMemory None b first second = second
first_NotMemory (Some f) b first second = first

if_NotMemory : (b : Bool) (f : BuildFault) → f ≢ Memory → NotMemory (if b then Some f else None)
unfolding NotMemory
if_NotMemory true f other = λ is. other (Some-fault f Memory is)
if_NotMemory false f other = λ is. cc

unless_NotMemory : (b : Bool) (f : BuildFault) → f ≢ Memory → NotMemory (if b then None else Some f)
unfolding NotMemory
unless_NotMemory true f other = λ is. cc
unless_NotMemory false f other = λ is. other (Some-fault f Memory is)

few_NotMemory : (step : Step) (count : ℕ) → NotMemory (few_fault step count)
unfolding few_fault NotMemory
few_NotMemory (Trim size) count = if_NotMemory (nat_lt count size) (Few count size) (λ is. cc)
few_NotMemory step count = λ is. cc

size_NotMemory : (step : Step) (part : Shape) (other : Option Shape) (result : ℕ) → NotMemory (sizes_fault step part other result)
unfolding sizes_fault
size_NotMemory step part other result =
    first_NotMemory (above_limit part.size) _ (if_NotMemory (nat_lt MAX_BUILT part.size) _ (λ is. cc))
    (first_NotMemory (above_limit (size_of (other_of step other))) _ (if_NotMemory (nat_lt MAX_BUILT (size_of (other_of step other))) _ (λ is. cc))
    (if_NotMemory (nat_lt MAX_BUILT result) _ (λ is. cc)))

pub early_not_memory : (step : Step) (e : Entry) (part : Shape) (other : Option Shape) (f : BuildFault) → early_fault step e part other ≡ Some f → f ≢ Memory
unfolding early_fault NotMemory
early_not_memory step e part other f is memory =
    let have = step_distance step part.d (distance_of other) in
    let never : NotMemory (early_fault step e part other) =
    first_NotMemory (part_fault step e part) _ (unless_NotMemory (is_right_length step e.n part.n && is_right_weight step e.n e.w part.w) _ (λ q. cc))
    (first_NotMemory (other_fault step e part other) _ (unless_NotMemory (is_right_other step e part other) _ (λ q. cc))
    (first_NotMemory (short_fault have e.d) _ (if_NotMemory (nat_lt have e.d) _ (λ q. cc))
    (first_NotMemory (sizes_fault step part other _) _ (size_NotMemory step part other _) (few_NotMemory step part.size)))) in
    never (is ∙ ap Some memory)

-- a list with something in it
pub length_of_some : (words : List ℕ) → words ≢ [] → 1 ≤ length words
length_of_some [] some = absurd (some refl)
length_of_some (x ∷ xs) some = omega arith

-- what holds anyway holds of each error
pub IfErr-anyway : {T E : Type 0} (r : Result T E) (Q : E → Type 0) → ((e : E) → Q e) → IfErr r Q
IfErr-anyway (Ok v) Q each = tt
IfErr-anyway (Err e) Q each = each e

-- and what holds anyway holds where there is none
pub IfNone-anyway : {X : Type 0} (o : Option X) (P : Type 0) → P → IfNone o P
IfNone-anyway (Some x) P here = tt
IfNone-anyway None P here = here

-- words that are made as they are to be are these in an order
pub as_made : {E : Type 0} (r : Result (Vec ℕ Global) E) (words all : List ℕ) → words ≡ all → IfOk r (λ v. v.items ≡ words)
    → IfOk r (λ v. IsPermutation all v.items)
as_made (Ok v) words all same made = subst (λ (ws : List ℕ). IsPermutation ws v.items) (made ∙ same) (IsPermutation-refl v.items)
as_made (Err f) words all same made = tt

-- where none are to be made, nothing fails
pub none_made : {T E : Type 0} (r : Result T E) (words all : List ℕ) → all ≡ words → (words ≡ [] → IsOk r) → OnErr r (all ≢ [])
none_made (Ok v) words all same none = tt
none_made (Err f) words all same none = λ empty. failed (none (sym same ∙ empty))

-- a step that makes a word of each word makes some of some
pub each_some : (step kind : Step) (e : Entry) (part : CodeValue) (other : Option CodeValue) → step ≡ kind
    → length (built kind e part other) ≡ length part.words → 1 ≤ length part.words → built step e part other ≢ []
each_some step kind e part other is same some =
    subst (λ s. built s e part other ≢ []) (sym is) (λ none. let no = ap length none in omega (arith, same, some, no))

-- and so do two codes
pub uuv_some : (e : Entry) (part o : CodeValue) (other : Option CodeValue) → other ≡ Some o → 1 ≤ length part.words → 1 ≤ length o.words
    → built Uuv e part other ≢ []
uuv_some e part o other is some second = subst (λ p. built Uuv e part p ≢ []) (sym is) (λ none.
    let no = ap length none in
    let count = built-uuv e part (Some o) in
    let product = mul-le-mul_right {m = 1} {n = length part.words} (length o.words) some in
    omega (arith, no, count, product, second))

pub juxtapose_some : (e : Entry) (part o : CodeValue) (other : Option CodeValue) → other ≡ Some o → 1 ≤ length part.words → 1 ≤ length o.words
    → built Juxtapose e part other ≢ []
juxtapose_some e part o other is some second = subst (λ p. built Juxtapose e part p ≢ []) (sym is) (λ none.
    let no = ap length none in
    let count = built-juxtapose e part (Some o) in
    omega (arith, no, count, some, second))

-- some words come first where there are some
take_some : (size : ℕ) (words : List ℕ) → 1 ≤ size → 1 ≤ length words → take size words ≢ []
take_some size words positive some is =
    let long = length-take size words in
    let none : length (take size words) ≡ 0 = ap length is in
    omega arith

trimmed_some : (size : ℕ) (e : Entry) (part : CodeValue) (other : Option CodeValue) → FitsStated (Trim size) e → 1 ≤ length part.words → built (Trim size) e part other ≢ []
unfolding FieldsFit built
trimmed_some size e part other fits some = take_some size part.words fits.fields.0 some

pub trim_some : (step : Step) (size : ℕ) (e : Entry) (part : CodeValue) (other : Option CodeValue) → step ≡ Trim size → FitsStated step e → 1 ≤ length part.words
    → built step e part other ≢ []
trim_some step size e part other is fits some =
    subst (λ s. built s e part other ≢ []) (sym is) (trimmed_some size e part other (subst (λ s. FitsStated s e) is fits) some)

-- a step whose shapes tell the number of its words makes one
told_some : (step : Step) (e : Entry) (part : CodeValue) (other : Option CodeValue) → FitsStated step e → 1 ≤ length part.words
    → IfSome other (λ o. 1 ≤ length o.words) → IsReady step e part other
    → result_size step (shape_of part) (option_map shape_of other) ≢ None → 1 ≤ length (built step e part other)
unfolding result_size built FieldsFit is_right_other
told_some Lengthen e part other fits some second is known = let n = length-lengthened part.words in omega arith
told_some AppendOne e part other fits some second is known = let n = length-one_appended part.words in omega arith
told_some Parity e part other fits some second is known = let n = length-with_parity part.n part.words in omega arith
told_some (Puncture places) e part other fits some second is known = let n = length-punctured part.n places part.words in omega arith
told_some (Shorten places digits) e part other fits some second is known = absurd (known refl)
told_some (Translate by) e part other fits some second is known = let n = length-translated by part.words in omega arith
told_some Complement e part other fits some second is known = let n = length-complemented part.n part.words in omega arith
told_some (Select by) e part other fits some second is known = absurd (known refl)
told_some Uuv e part None fits some second is known = absurd (let h = is.beside in cc)
told_some Uuv e part (Some o) fits some second is known =
    let n = length-uuv_words part.n part.words o.words in
    let product = mul-le-mul_right {m = 1} {n = length part.words} (length o.words) some in
    omega arith
told_some Juxtapose e part None fits some second is known = absurd (let h = is.beside in cc)
told_some Juxtapose e part (Some o) fits some second is known = let n = length-juxtaposed o.n part.words o.words in omega arith
told_some (Trim size) e part other fits some second is known = let n = length-take size part.words in let fields = fits.fields.0 in omega arith

pub reasons_alone : (step : Step) (e : Entry) (part : CodeValue) (other : Option CodeValue) → FitsStated step e → 1 ≤ length part.words
    → IfSome other (λ o. 1 ≤ length o.words) → result_size step (shape_of part) (option_map shape_of other) ≢ None
    → build_fault step e part other ≡ early_fault step e (shape_of part) (option_map shape_of other)
reasons_alone step e part other fits some second known = go (early_fault step e (shape_of part) (option_map shape_of other)) refl
  where
    go : (r : Option BuildFault) → early_fault step e (shape_of part) (option_map shape_of other) ≡ r
        → build_fault step e part other ≡ early_fault step e (shape_of part) (option_map shape_of other)
    go (Some f) is = fault_early step e part other f is ∙ sym is
    go None is = fault_none step e part other is (told_some step e part other fits some second (ready step e part other is) known) ∙ sym is

-- a reason that the shapes tell is one against the step
pub fault_of_shapes : (step : Step) (e : Entry) (part : CodeValue) (other : Option CodeValue) (f : BuildFault)
    → told_fault step e (shape_of part) (option_map shape_of other) ≡ Some f → build_fault step e part other ≡ Some f
fault_of_shapes step e part other f is = go (early_fault step e (shape_of part) (option_map shape_of other)) refl is
  where
    sized : (size : Option ℕ) → result_size step (shape_of part) (option_map shape_of other) ≡ size
        → early_fault step e (shape_of part) (option_map shape_of other) ≡ None → told_empty_fault size ≡ Some f → build_fault step e part other ≡ Some f
    sized (Some zero) known none told = fault_empty step e part other none (result_size-is step e part other 0 known) ∙ told
    sized (Some (suc k)) known none told = cc
    sized None known none told = cc

    go : (r : Option BuildFault) → early_fault step e (shape_of part) (option_map shape_of other) ≡ r
        → first_of r (told_empty_fault (result_size step (shape_of part) (option_map shape_of other))) ≡ Some f → build_fault step e part other ≡ Some f
    go (Some g) early told = fault_early step e part other g early ∙ told
    go None early told = sized (result_size step (shape_of part) (option_map shape_of other)) refl early told

-- and where they tell none, and how many words result, there is none
pub none_of_shapes : (step : Step) (e : Entry) (part : CodeValue) (other : Option CodeValue)
    → result_size step (shape_of part) (option_map shape_of other) ≢ None
    → told_fault step e (shape_of part) (option_map shape_of other) ≡ None → build_fault step e part other ≡ None
none_of_shapes step e part other known none =
    let both = first_of-None (early_fault step e (shape_of part) (option_map shape_of other)) (told_empty_fault (result_size step (shape_of part) (option_map shape_of other))) none in
    fault_none step e part other both.0 (go (result_size step (shape_of part) (option_map shape_of other)) refl both.1)
  where
    go : (size : Option ℕ) → result_size step (shape_of part) (option_map shape_of other) ≡ size → told_empty_fault size ≡ None
        → 1 ≤ length (built step e part other)
    go (Some zero) is told = cc
    go (Some (suc k)) is told = let long = result_size-is step e part other (suc k) is in omega arith
    go None is told = absurd (known is)

-- so they tell every reason, where they tell how many words result
pub reasons_of_shapes : (step : Step) (e : Entry) (part : CodeValue) (other : Option CodeValue)
    → result_size step (shape_of part) (option_map shape_of other) ≢ None
    → build_fault step e part other ≡ told_fault step e (shape_of part) (option_map shape_of other)
reasons_of_shapes step e part other known = go (told_fault step e (shape_of part) (option_map shape_of other)) refl
  where
    go : (r : Option BuildFault) → told_fault step e (shape_of part) (option_map shape_of other) ≡ r
        → build_fault step e part other ≡ told_fault step e (shape_of part) (option_map shape_of other)
    go (Some f) is = fault_of_shapes step e part other f is ∙ sym is
    go None is = none_of_shapes step e part other known is ∙ sym is

-- none of them is want of memory
pub told_not_memory : (step : Step) (e : Entry) (part : Shape) (other : Option Shape) (f : BuildFault) → told_fault step e part other ≡ Some f → f ≢ Memory
unfolding NotMemory
told_not_memory step e part other f is memory = go (early_fault step e part other) refl (is ∙ ap Some memory)
  where
    empty : (size : Option ℕ) → told_empty_fault size ≢ Some Memory
    empty (Some zero) = λ q. cc
    empty (Some (suc k)) = λ q. cc
    empty None = λ q. cc

    go : (r : Option BuildFault) → early_fault step e part other ≡ r → first_of r (told_empty_fault (result_size step part other)) ≡ Some Memory → ⊥
    go (Some g) early told = early_not_memory step e part other g early (Some-fault g Memory told)
    go None early told = empty (result_size step part other) told
