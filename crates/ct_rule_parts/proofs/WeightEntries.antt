-- Entries with weight, and true numbers of them.
use Rattle.std.proofs.Common.{◌≡◌, ℕ, ◌-◌, ◌≤◌, refl, sym, ap, subst, ◌∙◌, arith}
use Rattle.std.specs.Prelude.{Some}
use Rattle.std.specs.Option.{unwrap_or}
use Rattle.ct_words.specs.declared.entry.Entry.{Entry}
use Rattle.ct_words.specs.declared.claim.Side.TheVariants.{Lower, Upper}
use Rattle.ct_words.specs.Entry.{IsEntry, constant_weight}
use Rattle.ct_words.specs.Code.{IsCode, IsTrueLower, IsTrueUpper}
use Rattle.ct_words.proofs.EntryLemmas.{WeightFits, entry_limits}
use Rattle.ct_words.specs.Constructions.Translation.{complemented}
use Rattle.ct_words.proofs.Constructions.TranslationLemmas.{IsCode-complemented, length-complemented}
use Rattle.ct_rule_parts.specs.Parts.{weight_of}
use Rattle.ct_rule_parts.proofs.Lawful.{IsTrueNumber}
use Rattle.ct_rule_parts.proofs.PlainEntries.{Weighted}

-- the weight of an entry that has one
pub weight_is : (e : Entry) → Weighted e → e.w ≡ Some (weight_of e)
weight_is e (w, is) = is ∙ sym (ap (λ o. Some (unwrap_or o 0)) is)

-- it is at most the length
pub weight_within : (e : Entry) → IsEntry e → Weighted e → weight_of e ≤ e.n
weight_within e entry weighted =
    let limits = entry_limits e entry in
    let fits : WeightFits e (Some (weight_of e)) = subst (WeightFits e) (weight_is e weighted) limits.weight in
    fits.2

-- an entry with a weight is A(n,d,w), however its weight is written
pub written_weight : (w : ℕ) (e : Entry) → Weighted e → w ≡ weight_of e → constant_weight e.n e.d w ≡ e
written_weight w e weighted same =
    let weights = ap Some same ∙ sym (weight_is e weighted) in
    λ i. record { n = e.n; d = e.d; w = weights i }

-- a code of the length, the distance and the weight of an entry
pub lower_of_weight : (e : Entry) (v : ℕ) → Weighted e → 1 ≤ v
    → IsTrueLower (constant_weight e.n e.d (weight_of e)) v → IsTrueNumber Lower e v
lower_of_weight e v weighted some code = record {
  some = some;
  truth = subst (λ f. IsTrueLower f v) (written_weight (weight_of e) e weighted refl) code;
}

-- a bound of the codes of the length, the distance and the weight of an entry
pub upper_of_weight : (e : Entry) (v : ℕ) → Weighted e → 1 ≤ v
    → IsTrueUpper (constant_weight e.n e.d (weight_of e)) v → IsTrueNumber Upper e v
upper_of_weight e v weighted some bound = record {
  some = some;
  truth = subst (λ f. IsTrueUpper f v) (written_weight (weight_of e) e weighted refl) bound;
}

-- the words of a code of weight n - w with each digit turned are one of weight w
pub turned_code : (n d w v : ℕ) → w ≤ n → IsTrueLower (constant_weight n d (n - w)) v
    → IsTrueLower (constant_weight n d w) v
turned_code n d w v within code =
    let weight : n - (n - w) ≡ w = omega arith in (
      complemented n code.0,
      subst (λ k. IsCode n d (Some k) (complemented n code.0)) weight (IsCode-complemented n d (Some (n - w)) code.0 code.1),
      length-complemented n code.0 ∙ code.2,
    )

-- so what bounds those of weight n - w bounds those of weight w
pub turned_bound : (n d w u : ℕ) → IsTrueUpper (constant_weight n d (n - w)) u → IsTrueUpper (constant_weight n d w) u
turned_bound n d w u bound words code =
    let most = bound (complemented n words) (IsCode-complemented n d (Some w) words code) in
    let size = length-complemented n words in
    omega arith
