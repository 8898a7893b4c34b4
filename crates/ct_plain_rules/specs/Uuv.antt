-- u followed by u + v (MacWilliams and Sloane, chapter 2, section 9): for all u of a code of length m and distance ⌈d/2⌉, all words of even
-- weight where d is 3 or 4, and all v of a code of length m and distance d, a code of length 2m and distance d.
use Rattle.std.specs.Prelude.{ℕ, ◌-◌, ◌*◌, ◌/◌, ◌%◌, ◌^◌, ◌==◌, ◌&&◌, nat_lt, if◌then◌else◌, List, ◌∷◌, [], not, Some}
use Rattle.ct_words.specs.declared.claim.Side.TheVariants.{Lower}
use Rattle.ct_words.specs.declared.entry.Entry.{Entry}
use Rattle.ct_rule_parts.specs.Parts.{RuleParts, has_weight, half_up, first, second}
use Rattle.ct_plain_rules.specs.Neighbours.{half_as_long}

-- the codes of the v, and from distance 5 on of the u
abbrev pub parts_of_uuv : Entry → List Entry
parts_of_uuv e =
    if nat_lt e.d 5 then half_as_long e e.d ∷ []
    else half_as_long e (half_up e.d) ∷ half_as_long e e.d ∷ []

-- how many sums there are
abbrev pub count_of_uuv : Entry → List ℕ → ℕ
count_of_uuv e vs = if nat_lt e.d 5 then 2 ^ (e.n / 2 - 1) * first vs else first vs * second vs

-- for n = 2m, A(n,d) is at least A(m,⌈d/2⌉)·A(m,d), and 2^(m-1)·A(m,d) where d is 3 or 4
abbrev pub uuv : RuleParts
uuv = record {
  side = Lower;
  condition = λ e. not (has_weight e) && e.n % 2 == 0;
  rests_on = parts_of_uuv;
  number = λ e vs. Some (count_of_uuv e vs);
}
