-- A dual that passes the tests has the form of one.
use Rattle.std.proofs.Common.{◌≡◌, ℕ, suc, ◌%◌, ◌^◌, ◌<◌, ◌≤◌, Bool, true, false, not, ◌&&◌, nat_le, ap, List, [], ◌∷◌, length, refl, arith, leb-true, eqb-true, eq-eqb}
use Rattle.std.specs.Prelude.{ℤ, pos, ◌≤ℤ◌, ◌<ℤ◌, int_le, int_lt, Option, Some, None, IsTrue}
use Rattle.std.specs.List.{All, AllPairs, list_all}
use Rattle.std.proofs.lemmas.Int.{ints}
use Rattle.std.proofs.lemmas.Bool.{and_parts, and_from, le-leb}
use Rattle.std.proofs.lemmas.List.Elements.{All-nil, All-cons, All-head, All-tail, All-weaker}
use Rattle.std.proofs.lemmas.List.Kept.{AllPairs-cons}
use Rattle.ct_words.proofs.Counting.Pairs.{AllPairs-head, AllPairs-tail}
use Rattle.ct_words.specs.declared.entry.Entry.{Entry}
use Rattle.ct_words.specs.Entry.{is_entry}
use Rattle.ct_duals.specs.declared.dual.Dual.{Dual}
use Rattle.ct_duals.specs.Dual.{degree_of, is_in_range, IsMarkOf, AllowsNone, IsDual}
use Rattle.ct_duals.specs.Form.{is_number, are_multipliers, are_allowances_from, are_allowances, is_mark, is_dual}

nonneg : (z : ℤ) → int_le (pos 0) z ≡ true → pos 0 ≤ℤ z
nonneg z h = grind (arith, ints)

below : (z m : ℤ) → int_lt z m ≡ true → z <ℤ m
below z m h = grind (arith, ints)

number-from : (z : ℤ) → is_number z ≡ true → (pos 0 ≤ℤ z) × (z <ℤ pos (2 ^ 63))
number-from z h =
    let both = and_parts (int_le (pos 0) z) (int_lt z (pos (2 ^ 63))) h in
    (nonneg z both.0, below z (pos (2 ^ 63)) both.1)

-- multipliers
numbers-from : (c : List ℤ) → list_all is_number c ≡ true → All (λ z. pos 0 ≤ℤ z) c × All (λ z. z <ℤ pos (2 ^ 63)) c
numbers-from [] h = (All-nil (λ z. pos 0 ≤ℤ z), All-nil (λ z. z <ℤ pos (2 ^ 63)))
numbers-from (z ∷ c) h =
    let both = and_parts (is_number z) (list_all is_number c) h in
    let here = number-from z both.0 in
    let rest = numbers-from c both.1 in
    (All-cons (λ y. pos 0 ≤ℤ y) z c here.0 rest.0, All-cons (λ y. y <ℤ pos (2 ^ 63)) z c here.1 rest.1)

pub multipliers-from : (e : Entry) (c : List ℤ) → are_multipliers e c ≡ true
    → (1 ≤ length c) × (length c ≤ suc (degree_of e)) × All (λ z. pos 0 ≤ℤ z) c × All (λ z. z <ℤ pos (2 ^ 63)) c
multipliers-from e c h =
    let both = and_parts (nat_le 1 (length c) && nat_le (length c) (suc (degree_of e))) (list_all is_number c) h in
    let ends = and_parts (nat_le 1 (length c)) (nat_le (length c) (suc (degree_of e))) both.0 in
    let numbers = numbers-from c both.1 in
    (leb-true 1 (length c) ends.0, leb-true (length c) (suc (degree_of e)) ends.1, numbers.0, numbers.1)

-- allowances
abbrev IsAllowance : Entry → Bool → ℕ × ℤ → Type 0
IsAllowance e even p = IsTrue (is_in_range e even p.0) × (pos 0 ≤ℤ p.1)

pub allowances-from : (e : Entry) (even : Bool) (low : ℕ) (y : List (ℕ × ℤ)) → are_allowances_from e even low y ≡ true
    → All (λ p. low ≤ p.0) y × AllPairs (λ p q. p.0 < q.0) y × All (λ p. IsTrue (is_in_range e even p.0) × (pos 0 ≤ℤ p.1)) y × All (λ p. p.1 <ℤ pos (2 ^ 63)) y
allowances-from e even low [] h = (All-nil (λ (p : ℕ × ℤ). low ≤ p.0), (λ i j d l m. absurd (omega arith)), All-nil (IsAllowance e even), All-nil (λ (p : ℕ × ℤ). p.1 <ℤ pos (2 ^ 63)))
allowances-from e even low (p ∷ y) h =
    let three = and_parts (nat_le low p.0 && is_in_range e even p.0 && is_number p.1) (are_allowances_from e even (suc p.0) y) h in
    let two = and_parts (nat_le low p.0 && is_in_range e even p.0) (is_number p.1) three.0 in
    let one = and_parts (nat_le low p.0) (is_in_range e even p.0) two.0 in
    let rest = allowances-from e even (suc p.0) y three.1 in
    let number = number-from p.1 two.1 in
    let first = leb-true low p.0 one.0 in (
      All-cons (λ (q : ℕ × ℤ). low ≤ q.0) p y first (All-weaker (λ (q : ℕ × ℤ). suc p.0 ≤ q.0) (λ (q : ℕ × ℤ). low ≤ q.0) (λ q l. omega arith) y rest.0),
      AllPairs-cons (λ (q r : ℕ × ℤ). q.0 < r.0) p y rest.0 rest.1,
      All-cons (IsAllowance e even) p y (one.1, number.0) rest.2,
      All-cons (λ (q : ℕ × ℤ). q.1 <ℤ pos (2 ^ 63)) p y number.1 rest.3,
    )

-- marks
even-from : (w : Option ℕ) (d : ℕ) (even : Bool) → is_mark w d even ≡ true → even ≡ true → d % 2 ≡ 0
even-from None d false h is = absurd cc
even-from None d true h is = eqb-true (d % 2) 0 h
even-from (Some w) d false h is = absurd cc
even-from (Some w) d true h is = absurd cc

mark-from : (w : Option ℕ) (d : ℕ) (even : Bool) → is_mark w d even ≡ true → IsMarkOf w even
mark-from None d even h = tt
mark-from (Some w) d true h = absurd cc
mark-from (Some w) d false h = refl

pub form-from : (d : Dual) → is_dual d ≡ true → IsDual d
form-from d h =
    let e = d.entry in
    let three = and_parts (is_entry e && is_mark e.w e.d d.even && are_multipliers e d.c) (are_allowances e d.even d.y) h in
    let two = and_parts (is_entry e && is_mark e.w e.d d.even) (are_multipliers e d.c) three.0 in
    let one = and_parts (is_entry e) (is_mark e.w e.d d.even) two.0 in
    let numbers = multipliers-from e d.c two.1 in
    let pairs = allowances-from e d.even 0 d.y three.1 in
    record {
      entry = one.0;
      even_distance = even-from e.w e.d d.even one.1;
      weighted = mark-from e.w e.d d.even one.1;
      some = numbers.0;
      few = numbers.1;
      multipliers = numbers.2;
      ascending = pairs.1;
      allowances = pairs.2;
      signed = (numbers.3, pairs.3);
    }

-- and what has the form passes the tests
number-to : (z : ℤ) → pos 0 ≤ℤ z → z <ℤ pos (2 ^ 63) → is_number z ≡ true
number-to z least most =
    let first : int_le (pos 0) z ≡ true = grind (arith, ints) in
    let second : int_lt z (pos (2 ^ 63)) ≡ true = grind (arith, ints) in
    and_from (int_le (pos 0) z) (int_lt z (pos (2 ^ 63))) first second

numbers-to : (c : List ℤ) → All (λ z. pos 0 ≤ℤ z) c → All (λ z. z <ℤ pos (2 ^ 63)) c → list_all is_number c ≡ true
numbers-to [] least most = refl
numbers-to (z ∷ c) least most =
    let L = λ (y : ℤ). pos 0 ≤ℤ y in
    let M = λ (y : ℤ). y <ℤ pos (2 ^ 63) in
    and_from (is_number z) (list_all is_number c) (number-to z (All-head L z c least) (All-head M z c most))
    (numbers-to c (All-tail L z c least) (All-tail M z c most))

multipliers-to : (e : Entry) (c : List ℤ) → 1 ≤ length c → length c ≤ suc (degree_of e) → All (λ z. pos 0 ≤ℤ z) c → All (λ z. z <ℤ pos (2 ^ 63)) c
    → are_multipliers e c ≡ true
multipliers-to e c some few least most =
    and_from (nat_le 1 (length c) && nat_le (length c) (suc (degree_of e))) (list_all is_number c)
    (and_from (nat_le 1 (length c)) (nat_le (length c) (suc (degree_of e))) (le-leb 1 (length c) some) (le-leb (length c) (suc (degree_of e)) few))
    (numbers-to c least most)

allowances-to : (e : Entry) (even : Bool) (low : ℕ) (y : List (ℕ × ℤ)) → All (λ p. low ≤ p.0) y → AllPairs (λ p q. p.0 < q.0) y
    → All (IsAllowance e even) y → All (λ p. p.1 <ℤ pos (2 ^ 63)) y → are_allowances_from e even low y ≡ true
allowances-to e even low [] from ascending allowances most = refl
allowances-to e even low (p ∷ y) from ascending allowances most =
    let F = λ (q : ℕ × ℤ). low ≤ q.0 in
    let M = λ (q : ℕ × ℤ). q.1 <ℤ pos (2 ^ 63) in
    let R = λ (q r : ℕ × ℤ). q.0 < r.0 in
    let here = All-head (IsAllowance e even) p y allowances in
    let later = All-weaker (λ (q : ℕ × ℤ). p.0 < q.0) (λ (q : ℕ × ℤ). suc p.0 ≤ q.0) (λ q l. omega arith) y (AllPairs-head R p y ascending) in
    and_from (nat_le low p.0 && is_in_range e even p.0 && is_number p.1) (are_allowances_from e even (suc p.0) y)
    (and_from (nat_le low p.0 && is_in_range e even p.0) (is_number p.1)
    (and_from (nat_le low p.0) (is_in_range e even p.0) (le-leb low p.0 (All-head F p y from)) here.0)
    (number-to p.1 here.1 (All-head M p y most)))
    (allowances-to e even (suc p.0) y later (AllPairs-tail R p y ascending) (All-tail (IsAllowance e even) p y allowances) (All-tail M p y most))

mark-to : (w : Option ℕ) (d : ℕ) (even : Bool) → (even ≡ true → d % 2 ≡ 0) → IsMarkOf w even → is_mark w d even ≡ true
mark-to None d false halved mark = refl
mark-to None d true halved mark = eq-eqb (d % 2) 0 (halved refl)
mark-to (Some w) d even halved mark = ap not mark

pub form-to : (d : Dual) → IsDual d → is_dual d ≡ true
form-to d form =
    let e = d.entry in
    and_from (is_entry e && is_mark e.w e.d d.even && are_multipliers e d.c) (are_allowances e d.even d.y)
    (and_from (is_entry e && is_mark e.w e.d d.even) (are_multipliers e d.c)
    (and_from (is_entry e) (is_mark e.w e.d d.even) form.entry (mark-to e.w e.d d.even form.even_distance form.weighted))
    (multipliers-to e d.c form.some form.few form.multipliers form.signed.0))
    (allowances-to e d.even 0 d.y (λ k p l. omega arith) form.ascending form.allowances form.signed.1)

-- nothing is allowed with a weight where there is none, and where nothing is allowed at all
pub allows_none-plain : (w : Option ℕ) (y : List (ℕ × ℤ)) → w ≡ None → AllowsNone w y
allows_none-plain None y is = tt
allows_none-plain (Some w) y is = absurd cc

pub allows_none-empty : (w : Option ℕ) (y : List (ℕ × ℤ)) → y ≡ [] → AllowsNone w y
allows_none-empty None y empty = tt
allows_none-empty (Some w) y empty = empty
