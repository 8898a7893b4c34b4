-- Codes of constant weight, without it.
use Rattle.std.proofs.Common.{ℕ, ◌-◌, ◌*◌, ◌%◌, [], ◌∷◌, Contains, refl, inl, inr, arith}
use Rattle.std.specs.Prelude.{Option}
use Rattle.std.proofs.lemmas.Bool.{cases_lt}
use Rattle.ct_words.specs.declared.entry.Entry.{Entry}
use Rattle.ct_words.specs.declared.claim.Side.TheVariants.{Lower}
use Rattle.ct_rule_parts.specs.declared.support.Support.{Support}
use Rattle.ct_rule_parts.specs.Parts.{half_up, first}
use Rattle.ct_rule_parts.proofs.Constructions.{HasCode-nearer, HasCode-unweighted}
use Rattle.ct_rule_parts.proofs.Lawful.{IsLawful, LeadsBack, only_value, same_number, no_worse-other, first-no_better, defined_condition}
use Rattle.ct_rule_parts.proofs.PlainEntries.{Weightless, no_weight, written, one_item, in_front, behind}
use Rattle.ct_rule_parts.proofs.PlainNumbers.{lower_number}
use Rattle.ct_weight_rules.specs.Inside.RestedOn.{by_even_distance}
use Rattle.ct_weight_rules.specs.Neighbours.{even_of_weight, unweighted, unweighted_and_nearer}
use Rattle.ct_weight_rules.specs.WithoutWeight.{without_weight}

-- the entry is among those that rest on what it rests on: at its distance where that is even, else one place nearer
even_back : (w : ℕ) (e f : Entry) → Weightless e → Contains (even_of_weight e w ∷ []) f
    → Contains (by_even_distance f) e
even_back w e f none rests =
    one_item (λ g. Contains (by_even_distance g) e) even f back rests
  where
    even : Entry
    even = even_of_weight e w

    back : Contains (by_even_distance even) e
    back = elim (cases_lt (e.d % 2) 1) [
      | inl is_even ↦
          in_front (unweighted even) e (unweighted_and_nearer even ∷ [])
          (written e.n (2 * half_up e.d) e none refl (omega arith))
      | inr is_odd ↦
          behind (unweighted even) e (unweighted_and_nearer even ∷ [])
          (in_front (unweighted_and_nearer even) e [] (written e.n (2 * half_up e.d - 1) e none refl (omega arith)))
    ]

pub without_weight-lawful : (w : ℕ) (c : Option Support) → IsLawful c (without_weight w)
without_weight-lawful w c = record {
  sound = λ e vs x stand entry plain known is.
      let premise = only_value _ vs known in
      same_number Lower e (first vs) x is
      (lower_number e (first vs) (no_weight e plain) premise.range.0
      (HasCode-nearer e.n (2 * half_up e.d) e.d (first vs) (omega arith)
      (HasCode-unweighted e.n (2 * half_up e.d) w (first vs) premise.truth)));
  monotone = λ e us vs x h is. no_worse-other Lower (first us) (first vs) x (first-no_better Lower us vs h) is;
  few = λ e stand entry. omega arith;
}

pub without_weight-back : (w : ℕ) → LeadsBack (without_weight w) by_even_distance
without_weight-back w e f defined rests =
    even_back w e f (no_weight e (defined_condition (without_weight w) e defined)) rests
