-- What is kept over supports of which some give nothing is kept over those that are left, once its rules are lowered.
use Rattle.std.proofs.Common.{◌≡◌, ℕ, ◌<◌, ◌≤◌, List, [], ◌∷◌, ◌++◌, map, take, drop, Option, Some, None, option_map, slice_get, zero, suc, refl, sym, ap, subst, ◌∙◌}
use Rattle.std.proofs.lemmas.List.{length-map}
use Rattle.std.proofs.lemmas.Option.{slice_get-map, none-some, same_Some}
use Rattle.ct_words.specs.declared.claim.Claim.{Claim}
use Rattle.ct_rule_parts.specs.declared.support.Support.{Support}
use Rattle.ct_rule_parts.specs.Slot.{Slot, slot_of, IsBetter}
use Rattle.ct_rules.specs.declared.rule.Rule.{Rule}
use Rattle.ct_rules.specs.Derivation.{LineValue}
use Rattle.ct_rules.specs.Rule.{named_place}
use Rattle.ct_rules.specs.Removal.{Places, without, lowered, lowered_by, voided, lowered_line}
use Rattle.ct_rules.proofs.LoweredLines.{IsDerivation-lowered}
use Rattle.ct_kept.specs.Kept.{KeptValue, BaseValue, IsKept, IsBase, IsGround, reason_of}
use Rattle.ct_table.proofs.BaseLemmas.{line_names_nothing}

-- with its rules lowered
abbrev pub lowered_kept : Places → KeptValue → KeptValue
lowered_kept gone kept = record {
  bounds = kept.bounds;
  reasons = kept.reasons;
  lines = map (lowered_line gone) kept.lines;
  base = kept.base;
}

-- a rule that names no support is as it was, and a line by it
lowered-same : (gone : Places) (r : Rule) → named_place r ≡ None → lowered gone r ≡ r
lowered-same gone r names = ap (lowered_by gone r) names

lowered_line-same : (gone : Places) (l : LineValue) → named_place l.rule ≡ None → lowered_line gone l ≡ l
lowered_line-same gone l names =
    let rule = lowered-same gone l.rule names in
    λ i. record { claim = l.claim; rule = rule i; from = l.from }

lowered_lines-same : (gone : Places) (lines : List LineValue)
    → ((i : ℕ) (l : LineValue) → slice_get lines i ≡ Some l → named_place l.rule ≡ None)
    → map (lowered_line gone) lines ≡ lines
lowered_lines-same gone [] none = refl
lowered_lines-same gone (l ∷ lines) none =
    ap (λ (m : LineValue). m ∷ map (lowered_line gone) lines) (lowered_line-same gone l (none 0 l refl))
    ∙ ap (λ (ls : List LineValue). l ∷ ls) (lowered_lines-same gone lines (λ i m found. none (suc i) m found))

-- lists in two parts
map-parts : {X Y : Type 0} (f : X → Y) (n : ℕ) (xs : List X) → map f xs ≡ map f (take n xs) ++ map f (drop n xs)
map-parts f zero xs = refl
map-parts f (suc n) [] = refl
map-parts f (suc n) (x ∷ xs) = ap (λ ys. f x ∷ ys) (map-parts f n xs)

-- where the first lines name no support, it is enough to lower the others
pub lowered_later : (gone : Places) (base : BaseValue) (kept : KeptValue) → IsBase base kept
    → take kept.base kept.lines ++ map (lowered_line gone) (drop kept.base kept.lines) ≡ map (lowered_line gone) kept.lines
lowered_later gone base kept is =
    let first : map (lowered_line gone) (take kept.base kept.lines) ≡ take kept.base kept.lines =
    lowered_lines-same gone (take kept.base kept.lines)
    (λ i l found. line_names_nothing (take i (take kept.base kept.lines)) l (is.derivation i l found)) in
    ap (λ ls. ls ++ map (lowered_line gone) (drop kept.base kept.lines)) (sym first)
    ∙ sym (map-parts (lowered_line gone) kept.base kept.lines)

-- the line that is lowered to one
record WasLine (gone : Places) (lines : List LineValue) (i : ℕ) (l : LineValue) : Type 0 where
  line : LineValue
  there : slice_get lines i ≡ Some line
  is : lowered_line gone line ≡ l

was_line : (gone : Places) (lines : List LineValue) (i : ℕ) (l : LineValue)
    → slice_get (map (lowered_line gone) lines) i ≡ Some l → WasLine gone lines i l
was_line gone lines i l found =
    go (slice_get lines i) refl (sym (slice_get-map (lowered_line gone) lines i) ∙ found)
  where
    go : (o : Option LineValue) → slice_get lines i ≡ o → option_map (lowered_line gone) o ≡ Some l
        → WasLine gone lines i l
    go None there is = absurd (none-some l is)
    go (Some m) there is = record { line = m; there = there; is = same_Some (lowered_line gone m) l is }

claim-lowered : (gone : Places) (o : Option LineValue)
    → option_map (λ l. l.claim) (option_map (lowered_line gone) o) ≡ option_map (λ l. l.claim) o
claim-lowered gone None = refl
claim-lowered gone (Some l) = refl

pub IsKept-lowered : (gone : Places) (supports : List Support) (kept : KeptValue) → IsKept (voided gone supports) kept
    → IsKept (without gone supports) (lowered_kept gone kept)
IsKept-lowered gone supports kept good = record {
  bound_count = good.bound_count;
  reason_count = good.reason_count;
  base_lines = subst (λ n. kept.base ≤ n) (sym (length-map kept.lines (lowered_line gone))) good.base_lines;
  derivation = IsDerivation-lowered gone supports kept.lines good.derivation;
  reasoned = λ s entry.
      ap (option_map (λ (l : LineValue). l.claim)) (slice_get-map (lowered_line gone) kept.lines (reason_of kept s))
      ∙ claim-lowered gone (slice_get kept.lines (reason_of kept s)) ∙ good.reasoned s entry;
  last = λ i l found. last i l (was_line gone kept.lines i l found);
  rise = λ i j l m before first second same.
      rise i j l m before (was_line gone kept.lines i l first) (was_line gone kept.lines j m second) same;
  grounded = λ s entry. grounded s (good.grounded s entry);
}
  where
    last : (i : ℕ) (l : LineValue) → WasLine gone kept.lines i l → i ≤ reason_of kept (slot_of l.claim)
    last i l was =
        subst (λ (h : LineValue). i ≤ reason_of kept (slot_of h.claim)) was.is (good.last i was.line was.there)

    rise : (i j : ℕ) (l m : LineValue) → i < j → WasLine gone kept.lines i l → WasLine gone kept.lines j m
        → slot_of l.claim ≡ slot_of m.claim → IsBetter l.claim.side m.claim.value l.claim.value
    rise i j l m before first second same =
        let one = ap (λ (h : LineValue). h.claim) first.is in
        let two = ap (λ (h : LineValue). h.claim) second.is in
        let better =
        good.rise i j first.line second.line before first.there second.there
        (ap slot_of one ∙ same ∙ sym (ap slot_of two)) in
        subst (λ (c : Claim). IsBetter c.side m.claim.value c.value) one
        (subst (λ (c : Claim). IsBetter first.line.claim.side c.value first.line.claim.value) two better)

    grounded : (s : Slot) → ((i : ℕ) × (l : LineValue) × (slice_get kept.lines i ≡ Some l) × (slot_of l.claim ≡ s) × IsGround l)
        → (i : ℕ) × (l : LineValue) × (slice_get (map (lowered_line gone) kept.lines) i ≡ Some l) × (slot_of l.claim ≡ s)
        × IsGround l
    grounded s (i, l, there, slot, ground) = (
      i,
      lowered_line gone l,
      slice_get-map (lowered_line gone) kept.lines i ∙ ap (option_map (lowered_line gone)) there,
      slot,
      record {
        no_lines = ground.no_lines;
        no_support = ap named_place (lowered-same gone l.rule ground.no_support) ∙ ground.no_support;
        best = ground.best;
      },
    )
