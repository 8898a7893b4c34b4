-- Juxtaposition (MacWilliams and Sloane, chapter 2, section 3): the words of one code followed by those of another, as long as both last.
use Rattle.std.specs.Prelude.{ℕ, ◌-◌, min, ◌∷◌, [], not, Some}
use Rattle.ct_words.specs.declared.claim.Side.TheVariants.{Lower}
use Rattle.ct_words.specs.Entry.{unrestricted}
use Rattle.ct_rule_parts.specs.Parts.{RuleParts, has_weight, first, second}

-- with the length m and the distance c: A(n,d) is at least the least of A(m,c) and A(n-m,d-c)
abbrev pub juxtaposition : ℕ → ℕ → RuleParts
juxtaposition m c = record {
  side = Lower;
  condition = λ e. not (has_weight e);
  rests_on = λ e. unrestricted m c ∷ unrestricted (e.n - m) (e.d - c) ∷ [];
  number = λ e vs. Some (min (first vs) (second vs));
}
