-- What keeps a line from following from those before it.
use Rattle.std.specs.Prelude.{ℕ, suc, map, ◌-◌, nat_lt, ◌==◌, ◌&&◌, Bool, true, false, if◌then◌else◌, List, [], ◌∷◌, slice_get, Option, Some, None, option_map}
use Rattle.ct_words.specs.declared.entry.Entry.{Entry}
use Rattle.ct_words.specs.declared.claim.Side.{Side}
use Rattle.ct_words.specs.declared.claim.Side.TheVariants.{Lower, Upper}
use Rattle.ct_words.specs.declared.claim.Claim.{Claim}
use Rattle.ct_words.specs.Entry.{same_entry}
use Rattle.ct_rule_parts.specs.declared.support.Support.{Support}
use Rattle.ct_rules.specs.declared.rule.Rule.{Rule}
use Rattle.ct_rules.specs.Rule.{rule_side, applies, parts_over, value_of}
use Rattle.ct_rules.specs.Derivation.{LineValue}
use Rattle.ct_derive.specs.declared.check.LineFault.{LineFault}
use Rattle.ct_derive.specs.declared.check.LineFault.TheVariants.{NoRule, NoPremise, OtherValue}

-- the same side
abbrev pub same_side : Side → Side → Bool
same_side Lower Lower = true
same_side Upper Upper = true
same_side s t = false

-- the claim of the line with a number, counted from 1, none where there is none
abbrev pub claim_numbered : List LineValue → ℕ → Option Claim
claim_numbered lines n = if nat_lt 0 n then option_map (λ l. l.claim) (slice_get lines (n - 1)) else None

-- the value of a claim, where it bounds the entry from this side
abbrev pub value_for : Side → Entry → Option Claim → Option ℕ
value_for side e None = None
value_for side e (Some c) = if same_side c.side side && same_entry c.entry e then Some c.value else None

-- a value before others, none where one is missing
abbrev pub and_values : Option ℕ → Option (List ℕ) → Option (List ℕ)
and_values (Some v) (Some vs) = Some (v ∷ vs)
and_values v vs = None

-- the values of the claims with these numbers, where there are as many as entries and each bounds the entry at its place from this side
abbrev pub values_numbered : Side → List LineValue → List Entry → List ℕ → Option (List ℕ)
values_numbered side lines [] [] = Some []
values_numbered side lines (e ∷ es) (n ∷ ns) = and_values (value_for side e (claim_numbered lines n)) (values_numbered side lines es ns)
values_numbered side lines es ns = None

-- the fault of a stated value, where the rule gives this one
abbrev pub value_fault : ℕ → Option ℕ → Option LineFault
value_fault stated None = Some NoRule
value_fault stated (Some given) = if stated == given then None else Some (OtherValue stated given)

-- the fault of a claim by a rule, where its premises have these values
abbrev pub premise_fault : List Support → Claim → Rule → Option (List ℕ) → Option LineFault
premise_fault supports c r None = Some NoPremise
premise_fault supports c r (Some vs) = value_fault c.value (value_of supports r c.entry vs)

-- the first fault of a line that states a claim, a rule of its side, and the numbers of the lines that hold the premises: the rule is not
-- defined at the entry; the numbers are not those of earlier claims of its premises, in order; the rule gives no value; it gives another
abbrev pub line_fault : List Support → List LineValue → Claim → Rule → List ℕ → Option LineFault
line_fault supports before c r numbers =
    if applies supports r c.entry
    then premise_fault supports c r (values_numbered (rule_side r) before ((parts_over supports r).rests_on c.entry) numbers)
    else Some NoRule

-- the numbers of the lines at these places: lines are counted from 1
abbrev pub numbers_at : List ℕ → List ℕ
numbers_at places = map suc places

-- a line as it is kept: this claim by this rule, from the places of the lines with these numbers
abbrev pub line_by : Claim → Rule → List ℕ → LineValue
line_by c r numbers = record { claim = c; rule = r; from = map (λ n. n - 1) numbers }
