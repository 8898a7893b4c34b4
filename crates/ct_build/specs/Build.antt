-- The steps by which a code of a stated entry is built from one or two codes, and why a step is refused.
use Rattle.std.specs.Prelude.{◌≡◌, ◌≢◌, ℕ, zero, ◌+◌, ◌*◌, ◌-◌, ◌%◌, ◌^◌, ◌<◌, ◌≤◌, Bool, true, false, nat_lt, ◌==◌, ◌&&◌, if◌then◌else◌, List, [], ◌∷◌, length, take, count_by, All, min, ⊤, Option, Some, None, option_map, IsTrue}
use Rattle.std.specs.Option.{unwrap_or, ForSome}
use Rattle.ct_words.specs.declared.limits.TheConstants.{MAX_N}
use Rattle.ct_words.specs.declared.entry.Entry.{Entry}
use Rattle.ct_words.specs.Entry.{IsEntry, same_weight}
use Rattle.ct_words.specs.declared.code.TheConstants.{MAX_CODE_DISTANCE}
use Rattle.ct_words.specs.Code.{CodeValue}
use Rattle.ct_words.specs.Pairs.{first_of}
use Rattle.ct_words.specs.Constructions.Even.{even_from}
use Rattle.ct_words.specs.Constructions.Append.{lengthened, one_appended, with_parity}
use Rattle.ct_words.specs.Constructions.Places.{ArePlaces}
use Rattle.ct_words.specs.Constructions.Punctured.{punctured}
use Rattle.ct_words.specs.Constructions.Shortened.{shortened}
use Rattle.ct_words.specs.Constructions.Translation.{translated, complemented, selected}
use Rattle.ct_words.specs.Constructions.Uuv.{uuv_words}
use Rattle.ct_words.specs.Constructions.Juxtaposed.{juxtaposed, added_weights}
use Rattle.ct_build.specs.declared.building.TheConstants.{MAX_BUILT}
use Rattle.ct_build.specs.declared.fault.BuildFault.{BuildFault}
use Rattle.ct_build.specs.declared.fault.BuildFault.TheVariants.{WrongPart, Short, Size, Few, Empty}
use Rattle.ct_build.specs.declared.shape.Shape.{Shape}
use Rattle.ct_build.specs.declared.step.Step.{Step}
use Rattle.ct_build.specs.declared.step.Step.TheVariants.{Lengthen, AppendOne, Parity, Puncture, Shorten, Translate, Complement, Select, Uuv, Juxtapose, Trim}

-- the fields of the step, and whether a weight is stated, are as the step asks for with the stated entry
unfoldable pub FieldsFit : Step → Entry → Type 0
FieldsFit Lengthen e = 2 ≤ e.n
FieldsFit AppendOne e = 2 ≤ e.n
FieldsFit Parity e = 2 ≤ e.n
FieldsFit (Puncture places) e = (e.w ≡ None) × (1 ≤ length places) × ArePlaces (e.n + length places) places × (e.n + length places ≤ MAX_N)
FieldsFit (Shorten places digits) e =
    (1 ≤ length places) × ArePlaces (e.n + length places) places × (e.n + length places ≤ MAX_N) ×
    (length digits ≡ length places) × All (λ a. a < 2) digits
FieldsFit (Translate by) e = (e.w ≡ None) × (by < 2 ^ e.n)
FieldsFit Complement e = ⊤
FieldsFit (Select by) e = (e.w ≢ None) × (by < 2 ^ e.n)
FieldsFit Uuv e = (e.w ≡ None) × (e.n % 2 ≡ 0)
FieldsFit Juxtapose e = 2 ≤ e.n
FieldsFit (Trim size) e = (1 ≤ size) × (size ≤ MAX_BUILT)

-- the stated entry is in the table, and the step fits it
pub record FitsStated (step : Step) (stated : Entry) : Type 0 where
  pub entry : IsEntry stated
  pub fields : FieldsFit step stated

-- what is known of a code without its words
abbrev pub shape_of : CodeValue → Shape
shape_of code = record { n = code.n; d = code.d; w = code.w; size = length code.words }

-- the shape is within the limits of codes
pub record IsShape (shape : Shape) : Type 0 where
  pub length_to : shape.n ≤ MAX_N
  pub distance_to : shape.d ≤ MAX_CODE_DISTANCE
  pub weight_to : ForSome shape.w (λ k. k ≤ MAX_N)

-- whether the step makes words of length n of words of length m
unfoldable pub is_right_length : Step → ℕ → ℕ → Bool
is_right_length Lengthen n m = m + 1 == n
is_right_length AppendOne n m = m + 1 == n
is_right_length Parity n m = m + 1 == n
is_right_length (Puncture places) n m = m == n + length places
is_right_length (Shorten places digits) n m = m == n + length places
is_right_length Uuv n m = 2 * m == n
is_right_length Juxtapose n m = nat_lt m n
is_right_length step n m = m == n

-- whether the step makes words of length n and weight w of a part of weight v; of which weights two parts are put together is told below
unfoldable pub gives_weight : Step → ℕ → ℕ → ℕ → Bool
gives_weight AppendOne n v w = v + 1 == w
gives_weight Parity n v w = even_from v == w
gives_weight (Shorten places digits) n v w = v == w + count_by (λ a. a == 1) digits
gives_weight Complement n v w = v + w == n
gives_weight Juxtapose n v w = true
gives_weight step n v w = v == w

-- whether the step takes a part with such a weight, or none, where the weight w of words of length n is stated, or none: a selection takes a part
-- without a weight, each other step one with a weight
unfoldable pub is_right_weight : Step → ℕ → Option ℕ → Option ℕ → Bool
is_right_weight step n None v = true
is_right_weight (Select by) n (Some w) None = true
is_right_weight (Select by) n (Some w) (Some v) = false
is_right_weight step n (Some w) None = false
is_right_weight step n (Some w) (Some v) = gives_weight step n v w

-- whether two weights add up to the one that is stated, where one is
abbrev pub add_up : Option ℕ → Option ℕ → Option ℕ → Bool
add_up None u v = true
add_up (Some w) u v = same_weight (added_weights u v) (Some w)

-- whether the other code, if one is handed in, is such as the step asks for beside the part
unfoldable pub is_right_other : Step → Entry → Shape → Option Shape → Bool
is_right_other Uuv e part None = false
is_right_other Uuv e part (Some other) = 2 * other.n == e.n
is_right_other Juxtapose e part None = false
is_right_other Juxtapose e part (Some other) = part.n + other.n == e.n && add_up e.w part.w other.w
is_right_other step e part other = true

-- the other code, where the step needs one
unfoldable pub other_of : Step → Option Shape → Option Shape
other_of Uuv other = other
other_of Juxtapose other = other
other_of step other = None

-- the number of words of a code that is handed in
abbrev pub size_of : Option Shape → ℕ
size_of None = 0
size_of (Some code) = code.size

-- the distance of a code that is handed in
abbrev pub distance_of : Option Shape → ℕ
distance_of None = 0
distance_of (Some code) = code.d

-- the distance that the step gives to the words it makes of a part of distance d and another code of distance e
unfoldable pub step_distance : Step → ℕ → ℕ → ℕ
step_distance Parity d e = even_from d
step_distance (Puncture places) d e = d - length places
step_distance (Select by) d e = even_from d
step_distance Uuv d e = min (2 * d) e
step_distance Juxtapose d e = d + e
step_distance step d e = d

-- the words of the part that have the weight w after `by` is added, where w is stated
abbrev pub selected_of : Option ℕ → ℕ → ℕ → List ℕ → List ℕ
selected_of None n by words = []
selected_of (Some w) n by words = selected n by w words

-- the words that the step makes
unfoldable pub built : Step → Entry → CodeValue → Option CodeValue → List ℕ
built Lengthen e part other = lengthened part.words
built AppendOne e part other = one_appended part.words
built Parity e part other = with_parity part.n part.words
built (Puncture places) e part other = punctured part.n places part.words
built (Shorten places digits) e part other = shortened part.n places digits part.words
built (Translate by) e part other = translated by part.words
built Complement e part other = complemented part.n part.words
built (Select by) e part other = selected_of e.w part.n by part.words
built Uuv e part None = []
built Uuv e part (Some other) = uuv_words part.n part.words other.words
built Juxtapose e part None = []
built Juxtapose e part (Some other) = juxtaposed other.n part.words other.words
built (Trim size) e part other = take size part.words

-- the number of words that the step makes of codes of these shapes, none where that depends on their words
unfoldable pub result_size : Step → Shape → Option Shape → Option ℕ
result_size (Shorten places digits) part other = None
result_size (Select by) part other = None
result_size Uuv part other = Some (part.size * size_of other)
result_size Juxtapose part other = Some (min part.size (size_of other))
result_size (Trim size) part other = Some (min size part.size)
result_size step part other = Some part.size

-- the part has another length or weight than the step asks for
abbrev pub part_fault : Step → Entry → Shape → Option BuildFault
part_fault step e part = if is_right_length step e.n part.n && is_right_weight step e.n e.w part.w then None else Some (WrongPart 0)

-- the other code is not such as the step asks for
abbrev pub other_fault : Step → Entry → Shape → Option Shape → Option BuildFault
other_fault step e part other = if is_right_other step e part other then None else Some (WrongPart 1)

-- one distance is below the other, which is wanted
abbrev pub short_fault : ℕ → ℕ → Option BuildFault
short_fault have want = if nat_lt have want then Some (Short have want) else None

-- there are more words than the limit
abbrev pub above_limit : ℕ → Option BuildFault
above_limit count = if nat_lt MAX_BUILT count then Some (Size count) else None

-- the first number of words above the limit: of the part, of the other code where the step needs one, of the result, which is given
unfoldable pub sizes_fault : Step → Shape → Option Shape → ℕ → Option BuildFault
sizes_fault step part other result = first_of (above_limit part.size) (first_of (above_limit (size_of (other_of step other))) (above_limit result))

-- the part has fewer words than are wanted, of so many that it has
unfoldable pub few_fault : Step → ℕ → Option BuildFault
few_fault (Trim size) count = if nat_lt count size then Some (Few count size) else None
few_fault step count = None

-- no word results
abbrev pub empty_fault : List ℕ → Option BuildFault
empty_fault [] = Some Empty
empty_fault (x ∷ xs) = None

-- the first reason against the step over codes of these shapes, where so many words result: a wrong part, a wrong other code, too small a distance,
-- too many words, too few words, in this order
abbrev pub counted_fault : Step → Entry → Shape → Option Shape → ℕ → Option BuildFault
counted_fault step e part other result =
    first_of (part_fault step e part)
    (first_of (other_fault step e part other)
    (first_of (short_fault (step_distance step part.d (distance_of other)) e.d)
    (first_of (sizes_fault step part other result) (few_fault step part.size))))

-- the first reason against the step that the shapes of the codes tell: of the number of words that result only where that does not depend on the words
unfoldable pub early_fault : Step → Entry → Shape → Option Shape → Option BuildFault
early_fault step e part other = counted_fault step e part other (unwrap_or (result_size step part other) 0)

-- no word results, where the shapes tell so
abbrev pub told_empty_fault : Option ℕ → Option BuildFault
told_empty_fault (Some zero) = Some Empty
told_empty_fault size = None

-- the first reason against the step that the shapes of the codes tell, that no word results among them: every reason, where the number of words that
-- result does not depend on the words
abbrev pub told_fault : Step → Entry → Shape → Option Shape → Option BuildFault
told_fault step e part other = first_of (early_fault step e part other) (told_empty_fault (result_size step part other))

-- the first reason against the step, none where there is none: one of these, over the number of words that it makes, or that no word results
unfoldable pub build_fault : Step → Entry → CodeValue → Option CodeValue → Option BuildFault
build_fault step e part other =
    first_of (counted_fault step e (shape_of part) (option_map shape_of other) (length (built step e part other))) (empty_fault (built step e part other))

-- the step is right over these codes: the part has the length and the weight that the step asks for, and the other code those that it asks for
-- beside it; the step gives at least the stated distance; the part, the other code where the step needs one, and the result have no more words than
-- the limit; a trim finds enough words; and some word results
pub record IsRightBuild (step : Step) (e : Entry) (part : CodeValue) (other : Option CodeValue) : Type 0 where
  pub part_length : IsTrue (is_right_length step e.n part.n)
  pub part_weight : IsTrue (is_right_weight step e.n e.w part.w)
  pub beside : IsTrue (is_right_other step e (shape_of part) (option_map shape_of other))
  pub distance : e.d ≤ step_distance step part.d (distance_of (option_map shape_of other))
  pub part_size : length part.words ≤ MAX_BUILT
  pub other_size : size_of (other_of step (option_map shape_of other)) ≤ MAX_BUILT
  pub size : length (built step e part other) ≤ MAX_BUILT
  pub enough : (count : ℕ) → step ≡ Trim count → count ≤ length part.words
  pub some : 1 ≤ length (built step e part other)
