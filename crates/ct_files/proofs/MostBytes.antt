-- The most bytes of a document of an evidence are within the limit of a document.
use Rattle.std.proofs.Common.{ℕ, suc, ◌<◌, ◌≤◌, ◌&&◌, ◌||◌, ◌==◌, nat_le, not, List, [], ◌∷◌, length, get_or, Option, Some, None, arith}
use Rattle.std.specs.Prelude.{◌+◌, ◌*◌, ◌%◌, ℤ, All, AllPairs, IsTrue}
use Rattle.std.proofs.Math.Nat.{mul-le-mul_left, mul-le-mul_right}
use Rattle.std.proofs.lemmas.Bool.{and_parts, leb-true}
use Rattle.std.proofs.lemmas.List.Elements.{All-head, All-tail}
use Rattle.ct_words.specs.declared.limits.TheConstants.{MAX_N}
use Rattle.ct_words.specs.declared.fault.TheConstants.{MAX_REPRESENTATIVES}
use Rattle.ct_words.specs.declared.entry.Entry.{Entry}
use Rattle.ct_words.specs.Entry.{IsEntry}
use Rattle.ct_words.proofs.EntryLemmas.{entry_limits}
use Rattle.ct_classes.specs.Partition.{words_of_classes}
use Rattle.ct_duals.specs.declared.dual.Dual.{Dual}
use Rattle.ct_duals.specs.Dual.{IsDual, degree_of, greatest_index, as_index, is_in_range}
use Rattle.ct_fields.specs.declared.document.TheConstants.{MAX_DOCUMENT}
use Rattle.ct_partition_files.proofs.CountLemmas.{counts_are_right}
use Rattle.ct_kind.specs.declared.evidence.Evidence.{Evidence}
use Rattle.ct_kind.specs.declared.evidence.Evidence.TheVariants as evidence
use Rattle.ct_files.specs.Evidence.{IsSound}
use Rattle.ct_files.specs.Lengths.{most_bytes}

-- so many words of so many digits take so many bytes
words_within : (n k most : ℕ) → n ≤ MAX_N → k ≤ most → (n + 4) * k ≤ (MAX_N + 4) * most
words_within n k most small few =
    let each = mul-le-mul_right {m = n + 4} {n = MAX_N + 4} k (omega (arith, small)) in
    let all = mul-le-mul_left {m = k} {n = most} (MAX_N + 4) few in
    omega (arith, each, all)

entry-small : (e : Entry) → IsEntry e → e.n ≤ MAX_N
entry-small e entry = (entry_limits e entry).length_to

-- indices that ascend are no more than there are
ascending_few : (y : List (ℕ × ℤ)) (m : ℕ) → m ≤ suc MAX_N → AllPairs (λ p q. p.0 < q.0) y → All (λ p. (m ≤ p.0) × (p.0 ≤ MAX_N)) y → length y + m ≤ suc MAX_N
ascending_few [] m start pairs all = omega (arith, start)
ascending_few (p ∷ y) m start pairs all =
    let (above, below) = All-head (λ q. (m ≤ q.0) × (q.0 ≤ MAX_N)) p y all in
    let rest = ascending_few y (suc p.0) (omega (arith, below)) (λ i j d before within. pairs (suc i) (suc j) d (omega (arith, before)) (omega (arith, within)))
    (λ k d within. (pairs 0 (suc k) d (omega arith) (omega (arith, within)), (All-tail (λ q. (m ≤ q.0) × (q.0 ≤ MAX_N)) p y all k d within).1)) in
    omega (arith, rest, above)

degree_small : (e : Entry) → e.n ≤ MAX_N → degree_of e ≤ MAX_N
degree_small e small = at e.w
  where
    at : (w : Option ℕ) → greatest_index e.n w ≤ MAX_N
    at None = small
    at (Some w) = omega (arith, small)

dual_few : (d : Dual) → IsDual d → (length d.c ≤ suc MAX_N) × (length d.y ≤ suc MAX_N)
dual_few d form =
    let small = entry-small d.entry form.entry in
    let degree = degree_small d.entry small in
    let few = form.few in
    let listed = ascending_few d.y 0 (omega arith) form.ascending (λ k p within. (omega arith, at (get_or d.y k p) ((form.allowances k p within).0) degree)) in
    (omega (arith, few, degree), omega (arith, listed))
  where
    at : (p : ℕ × ℤ) → IsTrue (is_in_range d.entry d.even p.0) → degree_of d.entry ≤ MAX_N → p.0 ≤ MAX_N
    at p within degree =
        let (front, mark) = and_parts (nat_le (as_index d.entry.w d.entry.d) p.0 && nat_le p.0 (degree_of d.entry)) (not d.even || p.0 % 2 == 0) within in
        let (from, to) = and_parts (nat_le (as_index d.entry.w d.entry.d) p.0) (nat_le p.0 (degree_of d.entry)) front in
        let below = leb-true p.0 (degree_of d.entry) to in
        omega (arith, below, degree)

-- it is within the limit, with room for what may be cited
pub most_bytes-room : (e : Evidence) → IsSound e → most_bytes e + 8192 ≤ MAX_DOCUMENT
most_bytes-room (evidence.Words e words) (entry, short, some, few) =
    let room = words_within e.n (length words) 16384 (entry-small e entry) few in omega (arith, room)
most_bytes-room (evidence.Cosets e basis representatives) (entry, plain, short_basis, short, few_basis, some, few) =
    let room = words_within e.n (length basis + length representatives) (MAX_N + MAX_REPRESENTATIVES) (entry-small e entry) (omega (arith, few_basis, few)) in omega (arith, room)
most_bytes-room (evidence.Partition e between classes) (entry, some, nearer, short, right) =
    let counts = counts_are_right classes right in
    let few_classes = counts.count.1 in
    let room = words_within e.n (length (words_of_classes classes)) 16384 (entry-small e entry) counts.few_words in omega (arith, room, few_classes)
most_bytes-room (evidence.Build e step part other) sound = omega arith
most_bytes-room (evidence.Product e pairs) (entry, some, few, one) = omega (arith, few)
most_bytes-room (evidence.Dual d) (form, plain) = let (few, listed) = dual_few d form in omega (arith, few, listed)
most_bytes-room (evidence.JohnsonDual d) (form, some, empty) = let (few, listed) = dual_few d form in omega (arith, few)
most_bytes-room (evidence.Odd d m) (form, plain, size) = let (few, listed) = dual_few d form in omega (arith, few, listed)
most_bytes-room (evidence.JohnsonLocal d) (form, some) = let (few, listed) = dual_few d form in omega (arith, few, listed)
