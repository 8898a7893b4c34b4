-- The forms of the fields of an entry are forms; the entry that a document states is one of the table, and so it is written.
use Rattle.std.proofs.Common.{if◌then◌else◌, ◌≡◌, ℕ, ◌≤◌, ◌&&◌, ◌==◌, ◌%◌, not, nat_le, Bool, true, false, IsTrue, List, [], ◌∷◌, Option, Some, None, IfSome, option_map, Result, refl, ap, subst, le-leb, arith}
use Rattle.std.specs.Prelude.{pos, IsSome}
use Rattle.std.specs.Option.{option_map_or}
use Rattle.std.proofs.lemmas.Bool.{and_parts, and_from, leb-true}
use Rattle.std.proofs.lemmas.Bool.Decides.{nat_tests}
use Rattle.std.proofs.lemmas.Option.{option_and_then_some, cond_some}
use Rattle.toml.specs.Data.{Data, integer}
use Rattle.ct_words.specs.declared.entry.Entry.{Entry}
use Rattle.ct_words.specs.declared.limits.TheConstants.{MAX_N}
use Rattle.ct_words.specs.Entry.{IsEntry, unrestricted, constant_weight}
use Rattle.ct_words.proofs.EntryLemmas.{WeightFits, Limits, entry_limits, entry_from_limits}
use Rattle.ct_fields.specs.Fields.{number_in}
use Rattle.ct_fields.specs.Schema.{Schema, passes, MayHave, StatedBy}
use Rattle.ct_fields.specs.EntrySchema.{number_form, distance_form, plain_entry, weighted_entry, any_entry}
use Rattle.ct_fields.specs.WrittenSchema.{with_entry, with_plain}
use Rattle.ct_fields.specs.declared.field.FieldName.{FieldName}
use Rattle.ct_fields.specs.declared.field.FieldName.TheVariants.{N, D, W}
use Rattle.ct_fields.specs.declared.fault.DocumentFault.{DocumentFault}
use Rattle.ct_fields.proofs.FieldLemmas.{number_in-some}
use Rattle.ct_fields.proofs.LastLemmas.{is_of_a_kind}
use Rattle.ct_fields.proofs.SchemaLemmas.{IsForm, AreForms}
use Rattle.ct_fields.proofs.WrittenSchema.{Writes}

-- a number in a range passes the test of the range
in_range : (low high k : ℕ) → low ≤ k → k ≤ high → IsTrue (nat_le low k && nat_le k high)
in_range low high k above below = and_from (nat_le low k) (nat_le k high) (le-leb low k above) (le-leb k high below)

-- and is in it
pub range_of : (low high k : ℕ) → IsTrue (nat_le low k && nat_le k high) → (low ≤ k) × (k ≤ high)
range_of low high k right =
    let (above, below) = and_parts (nat_le low k) (nat_le k high) right in
    (leb-true low k above, leb-true k high below)

pub number-form : (name : FieldName) (low high : ℕ) → is_of_a_kind name ≡ true → IsForm (number_form name low high)
number-form name low high own = record {
  own = own;
  reads = record {
    some = λ d k e. let (is, above, below) = number_in-some low high d k e in (is, in_range low high k above below);
    from = λ k right. rw right refl;
  };
}

pub distance-form : (even : Bool) → IsForm (distance_form even)
distance-form even = record {
  own = refl;
  reads = record {
    some = λ d k e.
        option_and_then_some (λ k. if not (even && k % 2 == 1) then Some k else None) (number_in 3 MAX_N d) k e (λ m found h.
        let (test, same) = cond_some (not (even && m % 2 == 1)) m k h in
        let (is, above, below) = number_in-some 3 MAX_N d m found in
        rw (← same) (is, and_from (nat_le 3 m && nat_le m MAX_N) (not (even && m % 2 == 1)) (in_range 3 MAX_N m above below) test));
    from = λ k right.
        let (range, test) = and_parts (nat_le 3 k && nat_le k MAX_N) (not (even && k % 2 == 1)) right in
        rw (range, test) refl;
  };
}

-- the fields of an entry have forms, and those after them too if they have for an entry of a length in the table
pub weighted-forms : {R : Type 0} (next : Entry → Schema R) → ((n d w : ℕ) → n ≤ MAX_N → w ≤ n → AreForms (next (constant_weight n d w))) → AreForms (weighted_entry next)
weighted-forms next are = (
  number-form N 1 MAX_N refl,
  λ n n-right. (
    distance-form true,
    λ d d-right.
        (number-form W 0 n refl, λ w w-right. are n d w (range_of 1 MAX_N n n-right).1 (range_of 0 n w w-right).1),
  ),
)

pub plain-forms : {R : Type 0} (next : Entry → Schema R) → ((n d : ℕ) → n ≤ MAX_N → AreForms (next (unrestricted n d))) → AreForms (plain_entry next)
plain-forms next are =
    (number-form N 1 MAX_N refl, λ n n-right. (number-form D 3 MAX_N refl, λ d d-right. are n d (range_of 1 MAX_N n n-right).1))

pub any-forms : {R : Type 0} (next : Entry → Schema R) → ((n d : ℕ) (w : Option ℕ) → n ≤ MAX_N → IfSome w (λ k. k ≤ n) → AreForms (next (record { n = n; d = d; w = w })))
    → AreForms (any_entry next)
any-forms next are = (
  number-form N 1 MAX_N refl,
  λ n n-right. (
    refl,
    λ weighted. (
      distance-form weighted,
      λ d d-right.
          (number-form W 0 n refl, λ w w-right. are n d w (range_of 1 MAX_N n n-right).1 (light n w w-right)),
    ),
  ),
)
  where
    light : (n : ℕ) (w : Option ℕ) → IfSome w (λ k. IsTrue (nat_le 0 k && nat_le k n)) → IfSome w (λ k. k ≤ n)
    light n None right = tt
    light n (Some w) right = (range_of 0 n w right).1

-- ---- the entry that a document states is one of the table

-- an even distance is no odd one
even_of : (weighted : Bool) (d : ℕ) → weighted ≡ true → IsTrue (not (weighted && d % 2 == 1)) → d % 2 ≡ 0
even_of true d is test = grind (arith, nat_tests, test)
even_of false d is test = absurd cc

-- the range of a distance, and its evenness if a weight is beside it
distance_of : (even : Bool) (d : ℕ) → IsTrue ((nat_le 3 d && nat_le d MAX_N) && not (even && d % 2 == 1)) → ((3 ≤ d) × (d ≤ MAX_N)) × (even ≡ true → d % 2 ≡ 0)
distance_of even d right =
    let (range, test) = and_parts (nat_le 3 d && nat_le d MAX_N) (not (even && d % 2 == 1)) right in
    (range_of 3 MAX_N d range, λ is. even_of even d is test)

-- the weight fits, if there is one
fits_of : (e : Entry) (document : Data) (w : Option ℕ) → 3 ≤ e.d → (passes W (λ d. true) document ≡ true → e.d % 2 ≡ 0)
    → MayHave (number_form W 0 e.n) document w → WeightFits e w
fits_of e document None far even has = tt
fits_of e document (Some k) far even (there, right) =
    let is_even = even (ap (λ o. option_map_or (λ d. true) o false) there) in
    (is_even, omega (arith, far, is_even), (range_of 0 e.n k right).1)

pub any-stated : {R : Type 0} (next : Entry → Schema R) (document : Data) (x : R) → StatedBy (any_entry next) document x
    → (e : Entry) × IsEntry e × StatedBy (next e) document x
any-stated next document x (n, n-has, (d, d-has, (w, w-has, rest))) =
    let e : Entry = record { n = n; d = d; w = w } in
    let length = range_of 1 MAX_N n n-has.1 in
    let (distance, even) = distance_of (passes W (λ d. true) document) d d-has.1 in
    (e, entry_from_limits e length.0 length.1 distance.0 distance.1 (fits_of e document w distance.0 even w-has), rest)

pub plain-stated : {R : Type 0} (next : Entry → Schema R) (document : Data) (x : R) → StatedBy (plain_entry next) document x
    → (e : Entry) × IsEntry e × (e.w ≡ None) × StatedBy (next e) document x
plain-stated next document x (n, n-has, (d, d-has, rest)) =
    let length = range_of 1 MAX_N n n-has.1 in
    let distance = range_of 3 MAX_N d d-has.1 in
    (unrestricted n d, entry_from_limits (unrestricted n d) length.0 length.1 distance.0 distance.1 tt, refl, rest)

pub weighted-stated : {R : Type 0} (next : Entry → Schema R) (document : Data) (x : R) → StatedBy (weighted_entry next) document x
    → (e : Entry) × IsEntry e × IsSome e.w × StatedBy (next e) document x
weighted-stated next document x (n, n-has, (d, d-has, (w, w-has, rest))) =
    let e : Entry = constant_weight n d w in
    let length = range_of 1 MAX_N n n-has.1 in
    let (distance, even) = distance_of true d d-has.1 in
    let is_even = even refl in
    let far = distance.0 in
    (e, entry_from_limits e length.0 length.1 far distance.1 (is_even, omega (arith, far, is_even), (range_of 0 n w w-has.1).1), refl, rest)

-- ---- what is written for an entry of the table states it

-- the test of the distance of an entry
distance_right : (e : Entry) (even : Bool) → Limits e → (even ≡ true → e.d % 2 ≡ 0) → IsTrue ((nat_le 3 e.d && nat_le e.d MAX_N) && not (even && e.d % 2 == 1))
distance_right e even limits is = and_from (nat_le 3 e.d && nat_le e.d MAX_N) _ (in_range 3 MAX_N e.d limits.distance_from limits.distance_to) (at even refl)
  where
    at : (b : Bool) → even ≡ b → IsTrue (not (b && e.d % 2 == 1))
    at false same = refl
    at true same = let zero = is same in rw zero refl

pub any-writes : {R : Type 0} (next : Entry → Schema R) (e : Entry) (fields : List (FieldName × Option Data)) (answer : Result R DocumentFault) → IsEntry e
    → Writes (N ∷ D ∷ W ∷ []) (next e) (with_entry e fields) answer → Writes [] (any_entry next) (with_entry e fields) answer
any-writes next e fields answer entry rest = (
  e.n,
  refl,
  in_range 1 MAX_N e.n limits.length_from limits.length_to,
  (e.d, refl, distance_right e _ limits (even e.w limits.weight), (e.w, refl, light e.w limits.weight, rest)),
)
  where
    limits : Limits e
    limits = entry_limits e entry

    even : (w : Option ℕ) → WeightFits e w → option_map_or (λ d. true) (option_map (λ k. integer (pos k)) w) false ≡ true → e.d % 2 ≡ 0
    even None fits is = absurd cc
    even (Some k) fits is = fits.0

    light : (w : Option ℕ) → WeightFits e w → IfSome w (λ k. IsTrue (nat_le 0 k && nat_le k e.n))
    light None fits = tt
    light (Some k) fits = in_range 0 e.n k (omega arith) fits.2

pub plain-writes : {R : Type 0} (next : Entry → Schema R) (e : Entry) (fields : List (FieldName × Option Data)) (answer : Result R DocumentFault) → IsEntry e → e.w ≡ None
    → Writes (N ∷ D ∷ []) (next e) (with_plain e fields) answer → Writes [] (plain_entry next) (with_plain e fields) answer
plain-writes {R} next e fields answer entry plain rest =
    let limits = entry_limits e entry in (
      e.n,
      refl,
      in_range 1 MAX_N e.n limits.length_from limits.length_to,
      (
        e.d,
        refl,
        in_range 3 MAX_N e.d limits.distance_from limits.distance_to,
        subst (λ (w : Option ℕ). Writes (N ∷ D ∷ []) (next (record { n = e.n; d = e.d; w = w })) (with_plain e fields) answer) plain rest,
      ),
    )

pub weighted-writes : {R : Type 0} (next : Entry → Schema R) (e : Entry) (fields : List (FieldName × Option Data)) (answer : Result R DocumentFault) → IsEntry e → IsSome e.w
    → Writes (N ∷ D ∷ W ∷ []) (next e) (with_entry e fields) answer → Writes [] (weighted_entry next) (with_entry e fields) answer
weighted-writes {R} next e fields answer entry weighted rest = at e.w refl
  where
    limits : Limits e
    limits = entry_limits e entry

    at : (w : Option ℕ) → e.w ≡ w → Writes [] (weighted_entry next) (with_entry e fields) answer
    at None none = let never = subst IsSome none weighted in absurd cc
    at (Some w) is =
        let fits : WeightFits e (Some w) = subst (WeightFits e) is limits.weight in (
          e.n,
          refl,
          in_range 1 MAX_N e.n limits.length_from limits.length_to,
          (
            e.d,
            refl,
            distance_right e true limits (λ _. fits.0),
            (
              w,
              ap (option_map (λ k. integer (pos k))) is,
              in_range 0 e.n w (omega arith) fits.2,
              subst (λ (v : Option ℕ). Writes (N ∷ D ∷ W ∷ []) (next (record { n = e.n; d = e.d; w = v })) (with_entry e fields) answer) is rest,
            ),
          ),
        )
