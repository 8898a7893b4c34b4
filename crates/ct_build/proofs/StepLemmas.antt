-- What is known of a step against which nothing is told before it is taken.
use Rattle.std.proofs.Common.{◌≡◌, ℕ, ◌+◌, ◌*◌, ◌-◌, ◌^◌, ◌<◌, ◌≤◌, Bool, true, false, ◌==◌, if◌then◌else◌, List, length, Option, Some, None, IfSome, refl, ap, sym, subst, arith, eqb-true, ltb-false}
use Rattle.std.specs.Prelude.{count_by}
use Rattle.std.specs.Option.{option_map, ForSome}
use Rattle.std.proofs.lemmas.Bool.{and_parts}
use Rattle.ct_words.specs.declared.limits.TheConstants.{MAX_N}
use Rattle.ct_words.specs.declared.entry.Entry.{Entry}
use Rattle.ct_words.specs.Entry.{IsEntry, same_weight}
use Rattle.ct_words.specs.Code.{CodeValue}
use Rattle.ct_words.proofs.CheckLemmas.{first_of-None}
use Rattle.ct_words.proofs.EntryLemmas.{WeightFits, entry_limits}
use Rattle.ct_words.specs.Constructions.Even.{even_from}
use Rattle.ct_words.specs.Constructions.Juxtaposed.{added_weights}
use Rattle.ct_words.specs.Constructions.Shortened.{shortened_weight}
use Rattle.ct_words.specs.Constructions.Places.{ArePlaces}
use Rattle.ct_build.specs.declared.step.Step.{Step}
use Rattle.ct_build.specs.declared.step.Step.TheVariants.{Lengthen, AppendOne, Parity, Puncture, Shorten, Translate, Complement, Select, Uuv, Juxtapose, Trim}
use Rattle.ct_build.specs.Build.{FieldsFit, FitsStated, shape_of, is_right_length, gives_weight, is_right_weight, add_up, is_right_other, distance_of, step_distance, part_fault, other_fault, short_fault, early_fault}

-- the parts are such as the step asks for, and it gives the stated distance
pub record IsReady (step : Step) (e : Entry) (part : CodeValue) (other : Option CodeValue) : Type 0 where
  pub long : is_right_length step e.n part.n ≡ true
  pub heavy : is_right_weight step e.n e.w part.w ≡ true
  pub beside : is_right_other step e (shape_of part) (option_map shape_of other) ≡ true
  pub far : e.d ≤ step_distance step part.d (distance_of (option_map shape_of other))

pub then_true : {X : Type 0} (b : Bool) (f : X) → (if b then None else Some f) ≡ None → b ≡ true
then_true true f h = refl
then_true false f h = cc

pub else_false : {X : Type 0} (b : Bool) (f : X) → (if b then Some f else None) ≡ None → b ≡ false
else_false true f h = cc
else_false false f h = refl

pub ready : (step : Step) (e : Entry) (part : CodeValue) (other : Option CodeValue)
    → early_fault step e (shape_of part) (option_map shape_of other) ≡ None → IsReady step e part other
unfolding early_fault
ready step e part other none =
    let beside = option_map shape_of other in
    let one = first_of-None (part_fault step e (shape_of part)) _ none in
    let two = first_of-None (other_fault step e (shape_of part) beside) _ one.1 in
    let three = first_of-None (short_fault (step_distance step part.d (distance_of beside)) e.d) _ two.1 in
    let both = and_parts (is_right_length step e.n part.n) (is_right_weight step e.n e.w part.w) (then_true _ _ one.0) in
    record {
      long = both.0;
      heavy = both.1;
      beside = then_true (is_right_other step e (shape_of part) beside) _ two.0;
      far = ltb-false (step_distance step part.d (distance_of beside)) e.d (else_false _ _ three.0);
    }

-- where no weight is stated any weight serves
pub no_weight : (w v : Option ℕ) → w ≡ None → IfSome w (λ k. v ≡ Some k)
no_weight None v h = tt
no_weight (Some k) v h = cc

-- the weights that steps give
pub weight_lengthen : (n : ℕ) (w v : Option ℕ) → is_right_weight Lengthen n w v ≡ true → IfSome w (λ k. v ≡ Some k)
unfolding is_right_weight gives_weight
weight_lengthen n None v h = tt
weight_lengthen n (Some w) None h = cc
weight_lengthen n (Some w) (Some v) h = ap Some (eqb-true v w h)

pub weight_append_one : (n : ℕ) (w v : Option ℕ) → is_right_weight AppendOne n w v ≡ true → IfSome w (λ k. option_map (λ j. j + 1) v ≡ Some k)
unfolding is_right_weight gives_weight
weight_append_one n None v h = tt
weight_append_one n (Some w) None h = cc
weight_append_one n (Some w) (Some v) h = ap Some (eqb-true (v + 1) w h)

pub weight_parity : (n : ℕ) (w v : Option ℕ) → is_right_weight Parity n w v ≡ true → IfSome w (λ k. option_map even_from v ≡ Some k)
unfolding is_right_weight gives_weight
weight_parity n None v h = tt
weight_parity n (Some w) None h = cc
weight_parity n (Some w) (Some v) h = ap Some (eqb-true (even_from v) w h)

pub weight_shorten : (n : ℕ) (places digits : List ℕ) (w v : Option ℕ) → is_right_weight (Shorten places digits) n w v ≡ true
    → IfSome w (λ k. shortened_weight digits v ≡ Some k)
unfolding is_right_weight gives_weight
weight_shorten n places digits None v h = tt
weight_shorten n places digits (Some w) None h = cc
weight_shorten n places digits (Some w) (Some v) h =
    let sum = eqb-true v (w + count_by (λ a. a == 1) digits) h in
    let rest : v - count_by (λ a. a == 1) digits ≡ w = omega arith in
    ap Some rest

pub weight_complement : (n m : ℕ) (w v : Option ℕ) → m ≡ n → is_right_weight Complement n w v ≡ true → IfSome w (λ k. option_map (λ j. m - j) v ≡ Some k)
unfolding is_right_weight gives_weight
weight_complement n m None v same h = tt
weight_complement n m (Some w) None same h = cc
weight_complement n m (Some w) (Some v) same h =
    let sum = eqb-true (v + w) n h in
    let rest : m - v ≡ w = omega arith in
    ap Some rest

pub weight_trim : (n size : ℕ) (w v : Option ℕ) → is_right_weight (Trim size) n w v ≡ true → IfSome w (λ k. v ≡ Some k)
unfolding is_right_weight gives_weight
weight_trim n size None v h = tt
weight_trim n size (Some w) None h = cc
weight_trim n size (Some w) (Some v) h = ap Some (eqb-true v w h)

same_is : (v : Option ℕ) (w : ℕ) → same_weight v (Some w) ≡ true → v ≡ Some w
same_is None w h = cc
same_is (Some v) w h = ap Some (eqb-true v w h)

pub weight_juxtapose : (w u v : Option ℕ) → add_up w u v ≡ true → IfSome w (λ k. added_weights u v ≡ Some k)
weight_juxtapose None u v h = tt
weight_juxtapose (Some w) u v h = same_is (added_weights u v) w h

-- the lengths of the parts
pub long_puncture : (places : List ℕ) (e : Entry) (part : CodeValue) (other : Option CodeValue) → IsReady (Puncture places) e part other → part.n ≡ e.n + length places
unfolding is_right_length
long_puncture places e part other ready = eqb-true part.n (e.n + length places) ready.long

pub long_shorten : (places digits : List ℕ) (e : Entry) (part : CodeValue) (other : Option CodeValue) → IsReady (Shorten places digits) e part other
    → part.n ≡ e.n + length places
unfolding is_right_length
long_shorten places digits e part other ready = eqb-true part.n (e.n + length places) ready.long

pub long_select : (by : ℕ) (e : Entry) (part : CodeValue) (other : Option CodeValue) → IsReady (Select by) e part other → part.n ≡ e.n
unfolding is_right_length
long_select by e part other ready = eqb-true part.n e.n ready.long

pub long_translate : (by : ℕ) (e : Entry) (part : CodeValue) (other : Option CodeValue) → IsReady (Translate by) e part other → part.n ≡ e.n
unfolding is_right_length
long_translate by e part other ready = eqb-true part.n e.n ready.long

pub long_complement : (e : Entry) (part : CodeValue) (other : Option CodeValue) → IsReady Complement e part other → part.n ≡ e.n
unfolding is_right_length
long_complement e part other ready = eqb-true part.n e.n ready.long

pub long_trim : (size : ℕ) (e : Entry) (part : CodeValue) (other : Option CodeValue) → IsReady (Trim size) e part other → part.n ≡ e.n
unfolding is_right_length
long_trim size e part other ready = eqb-true part.n e.n ready.long

pub long_uuv : (e : Entry) (part : CodeValue) (other : Option CodeValue) → IsReady Uuv e part other → 2 * part.n ≡ e.n
unfolding is_right_length
long_uuv e part other ready = eqb-true (2 * part.n) e.n ready.long

pub beside_uuv : (e : Entry) (part o : CodeValue) → IsReady Uuv e part (Some o) → 2 * o.n ≡ e.n
unfolding is_right_other
beside_uuv e part o ready = eqb-true (2 * o.n) e.n ready.beside

pub beside_juxtapose : (e : Entry) (part o : CodeValue) → IsReady Juxtapose e part (Some o)
    → (part.n + o.n ≡ e.n) × (add_up e.w part.w o.w ≡ true)
unfolding is_right_other
beside_juxtapose e part o ready =
    let both = and_parts (part.n + o.n == e.n) (add_up e.w part.w o.w) ready.beside in
    (eqb-true (part.n + o.n) e.n both.0, both.1)

-- the same of a step that is told by its kind
pub ready_at : (step kind : Step) (e : Entry) (part : CodeValue) (other : Option CodeValue) → step ≡ kind
    → early_fault step e (shape_of part) (option_map shape_of other) ≡ None → IsReady kind e part other
ready_at step kind e part other is none = subst (λ s. IsReady s e part other) is (ready step e part other none)

pub fits_at : (step kind : Step) (e : Entry) → step ≡ kind → FitsStated step e → FitsStated kind e
fits_at step kind e is fits = subst (λ s. FitsStated s e) is fits

-- what two options hold, where they are the same
Some-same : (p o : CodeValue) → ◌≡◌ {A = Option CodeValue} (Some p) (Some o) → p ≡ o
Some-same p o is = cc

-- the lengths of the parts are within the limits
room_one : (e : Entry) (m : ℕ) → IsEntry e → (m + 1 == e.n) ≡ true → m < MAX_N
room_one e m table long = let same = eqb-true (m + 1) e.n long in let limits = entry_limits e table in let most = limits.length_to in omega arith

pub room_lengthen : (e : Entry) (part : CodeValue) (other : Option CodeValue) → IsEntry e → IsReady Lengthen e part other → part.n < MAX_N
unfolding is_right_length
room_lengthen e part other table ready = room_one e part.n table ready.long

pub room_append_one : (e : Entry) (part : CodeValue) (other : Option CodeValue) → IsEntry e → IsReady AppendOne e part other → part.n < MAX_N
unfolding is_right_length
room_append_one e part other table ready = room_one e part.n table ready.long

pub room_parity : (e : Entry) (part : CodeValue) (other : Option CodeValue) → IsEntry e → IsReady Parity e part other → part.n < MAX_N
unfolding is_right_length
room_parity e part other table ready = room_one e part.n table ready.long

pub places_puncture : (places : List ℕ) (e : Entry) (part : CodeValue) (other : Option CodeValue) → FitsStated (Puncture places) e
    → IsReady (Puncture places) e part other → ArePlaces part.n places
unfolding FieldsFit
places_puncture places e part other fits ready = subst (λ m. ArePlaces m places) (sym (long_puncture places e part other ready)) fits.fields.2

pub places_shorten : (places digits : List ℕ) (e : Entry) (part : CodeValue) (other : Option CodeValue) → FitsStated (Shorten places digits) e
    → IsReady (Shorten places digits) e part other → ArePlaces part.n places
unfolding FieldsFit
places_shorten places digits e part other fits ready =
    subst (λ m. ArePlaces m places) (sym (long_shorten places digits e part other ready)) fits.fields.1

pub below_select : (by : ℕ) (e : Entry) (part : CodeValue) (other : Option CodeValue) → FitsStated (Select by) e → IsReady (Select by) e part other → by < 2 ^ part.n
unfolding FieldsFit
below_select by e part other fits ready = subst (λ m. by < 2 ^ m) (sym (long_select by e part other ready)) fits.fields.1

pub room_uuv : (e : Entry) (part : CodeValue) (other : Option CodeValue) → IsEntry e → IsReady Uuv e part other → 2 * part.n ≤ MAX_N
room_uuv e part other table ready = let same = long_uuv e part other ready in let limits = entry_limits e table in let most = limits.length_to in omega arith

pub same_uuv : (e : Entry) (part : CodeValue) (other : Option CodeValue) → IsReady Uuv e part other → ForSome other (λ o. o.n ≡ part.n)
same_uuv e part None ready o is = cc
same_uuv e part (Some p) ready o is =
    let first = long_uuv e part (Some p) ready in
    let second = beside_uuv e part p ready in
    let same : p.n ≡ part.n = omega arith in
    subst (λ q. q.n ≡ part.n) (Some-same p o is) same

pub room_juxtapose : (e : Entry) (part : CodeValue) (other : Option CodeValue) → IsEntry e → IsReady Juxtapose e part other → ForSome other (λ o. part.n + o.n ≤ MAX_N)
room_juxtapose e part None table ready o is = cc
room_juxtapose e part (Some p) table ready o is =
    let both = beside_juxtapose e part p ready in
    let sum = both.0 in
    let limits = entry_limits e table in
    let most = limits.length_to in
    let within : part.n + p.n ≤ MAX_N = omega arith in
    subst (λ q. part.n + q.n ≤ MAX_N) (Some-same p o is) within

-- a weight that an entry of the table has is at most the greatest length
pub stated_weight : (e : Entry) → IsEntry e → ForSome e.w (λ k. k ≤ MAX_N)
stated_weight e table = let limits = entry_limits e table in go e.w limits.length_to limits.weight
  where
    go : (w : Option ℕ) → e.n ≤ MAX_N → WeightFits e w → ForSome w (λ k. k ≤ MAX_N)
    go None short fits k is = cc
    go (Some v) short fits k is = let same : v ≡ k = cc in let within = fits.2 in omega arith
