-- The lines of a base, which rest on no support: they are kept well over any supports, and stay where other lines follow.
use Rattle.std.proofs.Common.{◌≡◌, ℕ, List, [], ◌++◌, length, map, take, Option, Some, None, true, refl, sym, ap, subst, ◌∙◌}
use Rattle.std.proofs.lemmas.List.{length-take-le, take_at}
use Rattle.std.proofs.lemmas.Option.{none-some}
use Rattle.ct_words.specs.declared.entry.Entry.{Entry}
use Rattle.ct_rule_parts.specs.declared.support.Support.{Support}
use Rattle.ct_rule_parts.specs.Slot.{slot_of}
use Rattle.ct_rules.specs.declared.rule.Rule.{Rule}
use Rattle.ct_rules.specs.Derivation.{LineValue, claims_at, Follows}
use Rattle.ct_rules.specs.Rule.{named_place, support_at, cited, applies}
use Rattle.ct_rules.proofs.Applied.{applies_from_premises}
use Rattle.ct_rules.proofs.LoweredRules.{support_there, premises_of-alike, value_of-alike}
use Rattle.ct_kept.specs.Kept.{KeptValue, BaseValue, IsKept, IsBase, set_back}

-- a rule that is defined over no supports names none
pub names_nothing : (r : Rule) (e : Entry) → applies [] r e ≡ true → named_place r ≡ None
names_nothing r e h = go (named_place r) refl
  where
    go : (place : Option ℕ) → named_place r ≡ place → place ≡ None
    go None names = refl
    go (Some place) names =
        let there = support_there [] r place e h names in
        absurd (none-some there.0 there.1)

-- so it names none of any
pub cited-nothing : (supports others : List Support) (r : Rule) → named_place r ≡ None → cited supports r ≡ cited others r
cited-nothing supports others r names = ap (support_at supports) names ∙ sym (ap (support_at others) names)

-- a line over no supports names none
pub line_names_nothing : (before : List LineValue) (line : LineValue) → Follows [] before line → named_place line.rule ≡ None
line_names_nothing before line follows =
    names_nothing line.rule line.claim.entry
    (applies_from_premises [] line.rule line.claim.entry (map slot_of (claims_at before line.from)) follows.premises)

-- and follows over any
Follows-over : (supports : List Support) (before : List LineValue) (line : LineValue) → Follows [] before line
    → Follows supports before line
Follows-over supports before line follows =
    let r = line.rule in
    let e = line.claim.entry in
    let same = cited-nothing supports [] r (line_names_nothing before line follows) in
    record {
      earlier = follows.earlier;
      side = follows.side;
      premises = premises_of-alike supports [] r r e (λ c. refl) same ∙ follows.premises;
      value =
          value_of-alike supports [] r r e (map (λ c. c.value) (claims_at before line.from)) (λ c. refl) same
          ∙ follows.value;
    }

-- what is kept well over no supports is kept well over any
pub IsKept-over : (supports : List Support) (kept : KeptValue) → IsKept [] kept → IsKept supports kept
IsKept-over supports kept good = record {
  bound_count = good.bound_count;
  reason_count = good.reason_count;
  base_lines = good.base_lines;
  derivation = λ i line found. Follows-over supports (take i kept.lines) line (good.derivation i line found);
  reasoned = good.reasoned;
  last = good.last;
  rise = good.rise;
  grounded = good.grounded;
}

-- as many of the first lines as the base has
pub base_count : (supports : List Support) (kept : KeptValue) → IsKept supports kept
    → length (take kept.base kept.lines) ≡ kept.base
base_count supports kept good = length-take-le kept.base kept.lines good.base_lines

-- where other lines follow those of the base, it is the base still
pub base_lines_again : (old new : KeptValue) (more : List LineValue) → length (take old.base old.lines) ≡ old.base
    → new.base ≡ old.base → new.lines ≡ take old.base old.lines ++ more
    → take new.base new.lines ≡ take old.base old.lines
base_lines_again old new more count same lines =
    ap (λ (n : ℕ). take n new.lines) same ∙ ap (take old.base) lines
    ∙ take_at (take old.base old.lines) more old.base count

pub set_back_again : (base : BaseValue) (old new : KeptValue) (more : List LineValue)
    → length (take old.base old.lines) ≡ old.base → new.base ≡ old.base
    → new.lines ≡ take old.base old.lines ++ more → set_back base new ≡ set_back base old
set_back_again base old new more count same lines =
    let first = base_lines_again old new more count same lines in
    λ i. record { bounds = base.bounds; reasons = base.reasons; lines = first i; base = same i }

pub IsBase-again : (base : BaseValue) (old new : KeptValue) (more : List LineValue)
    → length (take old.base old.lines) ≡ old.base → IsBase base old → new.base ≡ old.base
    → new.lines ≡ take old.base old.lines ++ more → IsBase base new
IsBase-again base old new more count is same lines =
    subst (IsKept []) (sym (set_back_again base old new more count same lines)) is
