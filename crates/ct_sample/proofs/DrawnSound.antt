-- The evidence that steps draw has the form of its kind.
use Rattle.std.proofs.Common.{◌≡◌, ℕ, zero, suc, ◌+◌, ◌-◌, ◌/◌, ◌%◌, ◌^◌, ◌<◌, ◌≤◌, Bool, true, false, cond, ◌==◌, nat_le, List, [], ◌∷◌, length, replicate, Option, Some, None, refl, ap, arith, lit≤, lit<, leb-true, length-append, ℤ, pos}
use Rattle.std.specs.Prelude.{All, IfSome, fold, ◌≤ℤ◌, ◌<ℤ◌}
use Rattle.std.specs.Option.{unwrap_or}
use Rattle.std.proofs.Math.Nat.{mod-lt, pow-le-pow_right}
use Rattle.std.proofs.lemmas.Bool.{and_parts}
use Rattle.std.proofs.lemmas.Int.{ints}
use Rattle.std.proofs.lemmas.List.Elements.{All-nil, All-cons, All-push, All-head, All-tail}
use Rattle.ct_words.specs.declared.entry.Entry.{Entry}
use Rattle.ct_words.specs.Entry.{IsEntry, unrestricted, constant_weight}
use Rattle.ct_words.proofs.EntryLemmas.{WeightFits, entry_limits, entry_from_limits}
use Rattle.ct_build.specs.Build.{FieldsFit}
use Rattle.ct_build.specs.declared.step.Step.TheVariants.{Lengthen}
use Rattle.ct_sum_classes.proofs.SumClasses.{sum_class-below}
use Rattle.ct_kind.specs.declared.evidence.Evidence.{Evidence}
use Rattle.ct_files.specs.Evidence.{IsSound}
use Rattle.ct_piece.specs.Piece.{PieceValue}
use Rattle.ct_sample.specs.Drawn.{class_evidence, drawn_words, golay_word, golay_words, drawn_cosets, dual_of_ones, drawn_dual, is_code_kind, may_lengthen, lengthening, last_lengthening, drawn_evidence}
use Rattle.ct_sample.proofs.DrawnClasses.{class_some, class_few}

-- the numbers that are drawn from h for a sum class
pub record ClassNumbers (n w r : ℕ) : Type 0 where
  pub from : 8 ≤ n
  pub to : n ≤ 16
  pub low : 3 ≤ w
  pub high : w ≤ 4
  pub below : r < n

pub class_numbers : (h : ℕ) → ClassNumbers (8 + h / 4 % 9) (3 + h / 64 % 2) (h / 256 % (8 + h / 4 % 9))
class_numbers h =
    let length : h / 4 % 9 < 9 = mod-lt (h / 4) (lit< tt) in
    let weight : h / 64 % 2 < 2 = mod-lt (h / 64) (lit< tt) in
    record {
      from = omega arith;
      to = omega (arith, length);
      low = omega arith;
      high = omega (arith, weight);
      below = mod-lt (h / 256) (omega arith);
    }

class-sound : (n w r : ℕ) → ClassNumbers n w r → IsSound (class_evidence n w r)
class-sound n w r h = (
  entry_from_limits (constant_weight n 4 w) (omega (arith, h.from)) (omega (arith, h.to)) (lit≤ tt) (lit≤ tt) (refl, lit≤ tt, omega (arith, h.from, h.high)),
  sum_class-below n w r,
  class_some n w r h.from h.to h.low h.high h.below,
  class_few n w r h.from h.to h.low h.high h.below,
)

golay_below : (place : ℕ) → golay_word place < 2 ^ 24
golay_below place =
    let low : 12 - place ≤ 12 = omega arith in
    let power : 2 ^ (12 - place) ≤ 2 ^ 12 = pow-le-pow_right (lit≤ tt) low in
    omega (arith, power)

golay-below : (count : ℕ) → All (λ x. x < 2 ^ 24) (golay_words count)
golay-below zero = All-nil (λ x. x < 2 ^ 24)
golay-below (suc count) = All-push (λ x. x < 2 ^ 24) (golay_words count) (golay_word count) (golay-below count) (golay_below count)

golay-length : (count : ℕ) → length (golay_words count) ≡ count
golay-length zero = refl
golay-length (suc count) = let rest = golay-length count in let whole = length-append (golay_words count) (golay_word count ∷ []) in omega (arith, rest, whole)

cosets-sound : (h : ℕ) → IsSound (drawn_cosets h)
cosets-sound h =
    let count = 1 + h / 4 % 8 in
    let few : h / 4 % 8 < 8 = mod-lt (h / 4) (lit< tt) in
    let size = golay-length count in (
      refl,
      refl,
      golay-below count,
      All-cons (λ x. x < 2 ^ 24) 0 [] (lit< tt) (All-nil (λ x. x < 2 ^ 24)),
      omega (arith, size, few),
      lit≤ tt,
      lit≤ tt,
    )

ones-all : (P : ℤ → Type 0) (k : ℕ) → P (pos 1) → All P (replicate k (pos 1))
ones-all P zero one = All-nil P
ones-all P (suc k) one = All-cons P (pos 1) (replicate k (pos 1)) one (ones-all P k one)

ones-length : (k : ℕ) → length (replicate k (pos 1)) ≡ k
ones-length zero = refl
ones-length (suc k) = ap suc (ones-length k)

dual-sound : (n d : ℕ) → IsEntry (unrestricted n d) → IsSound (dual_of_ones n d)
dual-sound n d entry =
    let size = ones-length (suc n) in (
      record {
        entry = entry;
        even_distance = λ e. absurd cc;
        weighted = tt;
        some = omega (arith, size);
        few = omega (arith, size);
        multipliers = ones-all (λ z. pos 0 ≤ℤ z) (suc n) (omega (arith, ints));
        ascending = λ i j e before within. absurd (omega arith);
        allowances = All-nil _;
        signed = (ones-all (λ z. z <ℤ pos (2 ^ 63)) (suc n) (omega (arith, ints)), All-nil _);
      },
      refl,
    )

drawn_dual-sound : (h : ℕ) → IsSound (drawn_dual h)
drawn_dual-sound h =
    let length : h / 4 % 21 < 21 = mod-lt (h / 4) (lit< tt) in
    let distance : h / 128 % 4 < 4 = mod-lt (h / 128) (lit< tt) in
    let e = unrestricted (8 + h / 4 % 21) (3 + h / 128 % 4) in
    dual-sound (8 + h / 4 % 21) (3 + h / 128 % 4) (entry_from_limits e (omega arith) (omega (arith, length)) (omega arith) (omega (arith, distance)) tt)

-- an entry of a length one more
longer_fits : (n d : ℕ) (w : Option ℕ) → WeightFits (record { n = n; d = d; w = w }) w → WeightFits (record { n = n + 1; d = d; w = w }) w
longer_fits n d None h = tt
longer_fits n d (Some k) h = (h.0, h.1, omega (arith, h.2))

fits_longer : (e : Entry) → 2 ≤ e.n → FieldsFit Lengthen e
unfolding FieldsFit
fits_longer e long = long

lengthening-sound : (p : PieceValue) → IsEntry p.entry → may_lengthen p ≡ true → IsSound (lengthening p)
lengthening-sound p entry may =
    let limits = entry_limits p.entry entry in
    let from : 1 ≤ p.entry.n = limits.length_from in
    let short = leb-true p.entry.n 27 (and_parts (is_code_kind p.evidence) (nat_le p.entry.n 27) may).1 in
    let e : Entry = record { n = p.entry.n + 1; d = p.entry.d; w = p.entry.w } in (
      record {
        entry =
            entry_from_limits e (omega arith) (omega (arith, short)) limits.distance_from limits.distance_to
            (longer_fits p.entry.n p.entry.d p.entry.w limits.weight);
        fields = fits_longer e (omega (arith, from));
      },
      refl,
    )

abbrev pub AreEntries : List PieceValue → Type 0
AreEntries pieces = All (λ (p : PieceValue). IsEntry p.entry) pieces

abbrev IsSoundIf : Option Evidence → Type 0
IsSoundIf found = IfSome found IsSound

last-sound : (found : Option Evidence) (ps : List PieceValue) → IsSoundIf found → AreEntries ps
    → IsSoundIf (fold (λ (so_far : Option Evidence) (p : PieceValue). cond (may_lengthen p) (Some (lengthening p)) so_far) found ps)
last-sound found [] sound entries = sound
last-sound found (p ∷ ps) sound entries =
    last-sound (cond (may_lengthen p) (Some (lengthening p)) found) ps (at (may_lengthen p) refl) (All-tail (λ (q : PieceValue). IsEntry q.entry) p ps entries)
  where
    at : (b : Bool) → may_lengthen p ≡ b → IsSoundIf (cond b (Some (lengthening p)) found)
    at true may = lengthening-sound p (All-head (λ (q : PieceValue). IsEntry q.entry) p ps entries) may
    at false may = sound

or_dual-sound : (h : ℕ) (found : Option Evidence) → IsSoundIf found → IsSound (unwrap_or found (drawn_dual h))
or_dual-sound h None sound = drawn_dual-sound h
or_dual-sound h (Some evidence) sound = sound

chosen-sound : (a b c : Bool) (words cosets built dual : Evidence) → IsSound words → IsSound cosets → IsSound built → IsSound dual
    → IsSound (cond a words (cond b cosets (cond c built dual)))
chosen-sound true b c words cosets built dual first second third fourth = first
chosen-sound false true c words cosets built dual first second third fourth = second
chosen-sound false false true words cosets built dual first second third fourth = third
chosen-sound false false false words cosets built dual first second third fourth = fourth

pub drawn-sound : (h : ℕ) (pieces : List PieceValue) → AreEntries pieces → IsSound (drawn_evidence h pieces)
unfolding drawn_evidence
drawn-sound h pieces entries =
    chosen-sound (h % 4 == 0) (h % 4 == 1) (h % 4 == 3) (drawn_words h) (drawn_cosets h) (unwrap_or (last_lengthening pieces) (drawn_dual h)) (drawn_dual h)
    (class-sound (8 + h / 4 % 9) (3 + h / 64 % 2) (h / 256 % (8 + h / 4 % 9)) (class_numbers h)) (cosets-sound h)
    (or_dual-sound h (last_lengthening pieces) (last-sound None pieces tt entries)) (drawn_dual-sound h)
