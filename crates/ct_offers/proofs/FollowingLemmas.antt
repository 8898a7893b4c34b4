-- Which entries were tested while rules with neither numbers nor a support are followed, one after the other.
use Rattle.std.proofs.Common.{◌≡◌, ℕ, List, [], ◌∷◌, ◌++◌, All, Contains, drop, take, Option, Some, None, refl, sym, subst}
use Rattle.std.proofs.lemmas.List.Elements.{All-nil, All-cons, All-append, All-from_recursion, recursion_from_All}
use Rattle.ct_words.specs.declared.claim.Side.{Side}
use Rattle.ct_words.specs.declared.claim.Side.TheVariants.{Lower, Upper}
use Rattle.ct_words.specs.declared.entry.Entry.{Entry}
use Rattle.ct_rule_parts.specs.declared.support.Support.{Support}
use Rattle.ct_rule_parts.proofs.PlainEntries.{no_item}
use Rattle.ct_rules.specs.declared.rule.Rule.{Rule}
use Rattle.ct_rules.specs.declared.rule.Rule.TheVariants.{L1, L2, M1, M2, U0, U1, U2, U3, V0, V1, V2, V8}
use Rattle.ct_rules.specs.declared.rule.TheConstants.{LOWER_RULES, UPPER_RULES, LOWER_WEIGHT_RULES, UPPER_WEIGHT_RULES}
use Rattle.ct_rules.specs.Listing.{rules_alone}
use Rattle.ct_rules.specs.Inside.RestedOn.{rested_on_by}
use Rattle.ct_slots.specs.Worklist.{WorkValue}
use Rattle.ct_offers.specs.Inside.Marking.{KeepsMarks, IsTestedFrom}
use Rattle.ct_offers.specs.Inside.Pulled.{resting_rules}
use Rattle.ct_offers.proofs.MarkingLemmas.{all_tested_more}

pub followed_none : (supports : List Support) (bounds : List ℕ) (from : Entry) (work : WorkValue) → All (IsTestedFrom supports bounds work from) []
followed_none supports bounds from work = All-nil (IsTestedFrom supports bounds work from)

-- one more rule
pub followed_more : (supports : List Support) (bounds : List ℕ) (from : Entry) (old new : WorkValue) (rules : List Rule) (r : Rule)
    → All (IsTestedFrom supports bounds old from) rules → KeepsMarks old new → IsTestedFrom supports bounds new from r
    → All (IsTestedFrom supports bounds new from) (rules ++ r ∷ [])
followed_more supports bounds from old new rules r before keeps here =
    All-append (IsTestedFrom supports bounds new from) rules (r ∷ [])
    (all_tested_more supports bounds old new from rules keeps before)
    (All-cons (IsTestedFrom supports bounds new from) r [] here (All-nil (IsTestedFrom supports bounds new from)))

-- nothing rests on an entry by a rule that rests on nothing
unrested : (supports : List Support) (bounds : List ℕ) (work : WorkValue) (from : Entry) (r : Rule) → rested_on_by r from ≡ []
    → IsTestedFrom supports bounds work from r
unrested supports bounds work from r nothing e among =
    no_item _ e (subst (λ (es : List Entry). Contains es e) nothing among)

-- so all rules with neither numbers nor a support were followed, where those that rest on a bound were
pub followed_alone : (supports : List Support) (bounds : List ℕ) (work : WorkValue) (from : Entry) (side : Side) (n d : ℕ) (w : Option ℕ)
    → All (IsTestedFrom supports bounds work from) (resting_rules (side, record { n = n; d = d; w = w }))
    → All (IsTestedFrom supports bounds work from) (rules_alone (side, record { n = n; d = d; w = w }))
unfolding rested_on_by
followed_alone supports bounds work from Lower n d None resting =
    let P : Rule → Type 0 = IsTestedFrom supports bounds work from in
    let rest = recursion_from_All P (drop 2 LOWER_RULES) resting in
    All-from_recursion P LOWER_RULES (
      unrested supports bounds work from L1 refl,
      (
        unrested supports bounds work from L2 refl,
        rest,
      ),
    )
followed_alone supports bounds work from Lower n d (Some w) resting =
    let P : Rule → Type 0 = IsTestedFrom supports bounds work from in
    let rest = recursion_from_All P (drop 2 LOWER_WEIGHT_RULES) resting in
    All-from_recursion P LOWER_WEIGHT_RULES (
      unrested supports bounds work from M1 refl,
      (
        unrested supports bounds work from M2 refl,
        rest,
      ),
    )
followed_alone supports bounds work from Upper n d None resting =
    let P : Rule → Type 0 = IsTestedFrom supports bounds work from in
    let rest = recursion_from_All P (drop 4 UPPER_RULES) resting in
    All-from_recursion P UPPER_RULES (
      unrested supports bounds work from U0 refl,
      (
        unrested supports bounds work from U1 refl,
        (
          unrested supports bounds work from U2 refl,
          (
            unrested supports bounds work from U3 refl,
            rest,
          ),
        ),
      ),
    )
followed_alone supports bounds work from Upper n d (Some w) resting =
    let P : Rule → Type 0 = IsTestedFrom supports bounds work from in
    let rest = recursion_from_All P (take 5 (drop 3 UPPER_WEIGHT_RULES)) resting in
    All-from_recursion P UPPER_WEIGHT_RULES (
      unrested supports bounds work from V0 refl,
      (
        unrested supports bounds work from V1 refl,
        (
          unrested supports bounds work from V2 refl,
          (
            rest.0,
            (
              rest.1.0,
              (
                rest.1.1.0,
                (
                  rest.1.1.1.0,
                  (
                    rest.1.1.1.1.0,
                    (
                      unrested supports bounds work from V8 refl,
                      tt,
                    ),
                  ),
                ),
              ),
            ),
          ),
        ),
      ),
    )

-- at the slot whose side and weight are known
pub followed_at : (supports : List Support) (bounds : List ℕ) (work : WorkValue) (side own : Side) (e : Entry) (w : Option ℕ) → side ≡ own → e.w ≡ w
    → All (IsTestedFrom supports bounds work e) (resting_rules (own, record { n = e.n; d = e.d; w = w }))
    → All (IsTestedFrom supports bounds work e) (rules_alone (side, e))
followed_at supports bounds work side own e w same weight resting =
    followed_alone supports bounds work e side e.n e.d e.w
    (subst (λ (s : Side). All (IsTestedFrom supports bounds work e) (resting_rules (s, e))) (sym same)
    (subst (λ (v : Option ℕ). All (IsTestedFrom supports bounds work e) (resting_rules (own, record { n = e.n; d = e.d; w = v }))) (sym weight) resting))
