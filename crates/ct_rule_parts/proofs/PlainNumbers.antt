-- True numbers of entries without weight, from codes and from bounds of codes.
use Rattle.std.proofs.Common.{◌≡◌, ℕ, ◌+◌, ◌%◌, ◌≤◌, length, refl, sym, subst, arith}
use Rattle.ct_words.specs.declared.entry.Entry.{Entry}
use Rattle.ct_words.specs.declared.claim.Side.TheVariants.{Lower, Upper}
use Rattle.ct_words.specs.Entry.{unrestricted}
use Rattle.ct_words.specs.Code.{IsTrueLower, IsTrueUpper}
use Rattle.ct_words.specs.Constructions.Even.{even_from}
use Rattle.ct_rule_parts.proofs.Constructions.{HasCode, HasCode-parity}
use Rattle.ct_rule_parts.proofs.Lawful.{IsTrueNumber}
use Rattle.ct_rule_parts.proofs.PlainEntries.{Weightless}

-- a code of the length and the distance of an entry without weight
pub lower_number : (e : Entry) (v : ℕ) → Weightless e → 1 ≤ v → HasCode e.n e.d v → IsTrueNumber Lower e v
lower_number e v none some code = record {
  some = some;
  truth = subst (λ w. IsTrueLower (record { n = e.n; d = e.d; w = w }) v) (sym none) code;
}

-- a bound of the codes of the length and the distance of an entry without weight
pub upper_number : (e : Entry) (v : ℕ) → Weightless e → 1 ≤ v → IsTrueUpper (unrestricted e.n e.d) v
    → IsTrueNumber Upper e v
upper_number e v none some bound = record {
  some = some;
  truth = subst (λ w. IsTrueUpper (record { n = e.n; d = e.d; w = w }) v) (sym none) bound;
}

-- the length of a code, or its distance, written otherwise
pub of_length : (n m d v : ℕ) → n ≡ m → HasCode n d v → HasCode m d v
of_length n m d v same code = subst (λ k. HasCode k d v) same code

pub of_distance : (n d f v : ℕ) → d ≡ f → HasCode n d v → HasCode n f v
of_distance n d f v same code = subst (λ k. HasCode n k v) same code

-- where each code makes another with as many words, what bounds the others bounds it
pub bounded_by : (n d m f v : ℕ) → ((u : ℕ) → HasCode n d u → HasCode m f u) → IsTrueUpper (unrestricted m f) v
    → IsTrueUpper (unrestricted n d) v
bounded_by n d m f v made bound words code =
    let other = made (length words) (words, code, refl) in
    let most = bound other.0 other.1 in
    let size = other.2 in
    omega arith

-- with the parity of its weight after each word, an odd distance grows
pub HasCode-parity_odd : (n d v : ℕ) → d % 2 ≡ 1 → HasCode n d v → HasCode (n + 1) (d + 1) v
HasCode-parity_odd n d v odd code =
    let farther : even_from d ≡ d + 1 = omega arith in
    of_distance (n + 1) (even_from d) (d + 1) v farther (HasCode-parity n d v code)
