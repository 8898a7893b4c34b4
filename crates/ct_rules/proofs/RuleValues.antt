-- What a rule gives: true from true premises, no worse from better ones.
use Rattle.std.proofs.Common.{◌≡◌, ℕ, ◌^◌, ◌≤◌, min, List, map, All, refl, sym, ap, subst, ◌∙◌, arith}
use Rattle.std.specs.Prelude.{is_some, Option, Some, None, IsSome}
use Rattle.std.specs.Option.{ForSome}
use Rattle.std.proofs.Math.Nat.{pow-le-pow_right}
use Rattle.std.proofs.lemmas.Option.{same_Some}
use Rattle.ct_words.specs.declared.limits.TheConstants.{MAX_N, MAX_BOUND}
use Rattle.ct_words.specs.declared.entry.Entry.{Entry}
use Rattle.ct_words.specs.declared.claim.Side.{Side}
use Rattle.ct_words.specs.declared.claim.Side.TheVariants.{Lower, Upper}
use Rattle.ct_words.specs.declared.claim.Claim.{Claim}
use Rattle.ct_words.specs.Claim.{IsTrueOn, IsTrueClaim}
use Rattle.ct_words.specs.Entry.{IsEntry}
use Rattle.ct_words.specs.Code.{IsTrueLower}
use Rattle.ct_words.proofs.EntryLemmas.{entry_limits}
use Rattle.ct_words.proofs.CheckLemmas.{code_size-le}
use Rattle.ct_johnson.proofs.Capped.{capped_bound}
use Rattle.ct_rule_parts.specs.declared.support.Support.{Support}
use Rattle.ct_rule_parts.specs.Parts.{slots_on, within_limit}
use Rattle.ct_rule_parts.specs.Slot.{slot_of, claim_at, IsNoBetter, AreNoBetter}
use Rattle.ct_rule_parts.specs.Support.{Stands}
use Rattle.ct_rule_parts.proofs.Lawful.{AreTrueAt, true_values, IsTrueNumber, NoWorse}
use Rattle.ct_rules.specs.declared.rule.Rule.{Rule}
use Rattle.ct_rules.specs.Rule.{rule_side, cited, parts_over, premises_at, value_of}
use Rattle.ct_rules.proofs.Applied.{IsDefined, limit_of, limit_from, value-given, value_where_applies, applies_from_value}
use Rattle.ct_rules.proofs.LawfulRows.{lawful, side_is}

-- a true number of a lower bound is at most the greatest bound
pub number-le : (side : Side) (e : Entry) (x : ℕ) → IsEntry e → IsTrueNumber side e x → side ≡ Lower → x ≤ MAX_BOUND
number-le Lower e x entry number is =
    let limits = entry_limits e entry in
    let code = number.truth in
    let most = code_size-le e.n e.d e.w code.0 code.1 in
    let size = code.2 in
    let power : 2 ^ e.n ≤ 2 ^ MAX_N = pow-le-pow_right (omega arith) limits.length_to in
    omega arith
number-le Upper e x entry number is = absurd cc

-- and of an upper bound it stays true where it is cut there
truth-cut : (side : Side) (e : Entry) (x : ℕ) → IsEntry e → IsTrueNumber side e x
    → IsTrueOn side e (min x MAX_BOUND)
truth-cut Lower e x entry number =
    let few = number-le Lower e x entry number refl in
    let same : x ≡ min x MAX_BOUND = omega arith in
    subst (IsTrueLower e) same number.truth
truth-cut Upper e x entry number =
    let limits = entry_limits e entry in
    capped_bound e.n e.d x e.w limits.length_to number.truth

-- so it is the value of a true claim
pub claim_from_number : (side : Side) (e : Entry) (x v : ℕ) → IsEntry e → IsTrueNumber side e x
    → v ≡ min x MAX_BOUND → IsTrueClaim (claim_at (side, e) v)
claim_from_number side e x v entry number least =
    let some = number.some in
    record {
      entry = entry;
      range = (omega arith, omega arith);
      truth = subst (IsTrueOn side e) (sym least) (truth-cut side e x entry number);
    }

-- the number that a rule gives of true premises is a true number
pub number-sound : (supports : List Support) (r : Rule) (e : Entry) (claims : List Claim) (x : ℕ) → ForSome (cited supports r) Stands
    → IsDefined (parts_over supports r) e → premises_at supports r e ≡ map slot_of claims → All IsTrueClaim claims
    → (parts_over supports r).number e (map (λ c. c.value) claims) ≡ Some x → IsTrueNumber (rule_side r) e x
number-sound supports r e claims x stand is premises each number =
    subst (λ (s : Side). IsTrueNumber s e x) (side_is r c)
    ((lawful r c).sound e values x stand is.entry is.condition
    (subst (λ (s : Side). AreTrueAt (slots_on s ((parts_over supports r).rests_on e)) values) (sym (side_is r c))
    (subst (λ slots. AreTrueAt slots values) (sym premises) (true_values claims each)))
    number)
  where
    c : Option Support
    c = cited supports r

    values : List ℕ
    values = map (λ c. c.value) claims

-- better premises give a number, and none that is worse
number-monotone : (supports : List Support) (r : Rule) (e : Entry) (us vs : List ℕ) (x : ℕ)
    → AreNoBetter (rule_side r) us vs → (parts_over supports r).number e us ≡ Some x
    → NoWorse (rule_side r) ((parts_over supports r).number e vs) x
number-monotone supports r e us vs x worse is =
    let c = cited supports r in
    subst (λ (s : Side). NoWorse s ((parts_over supports r).number e vs) x) (side_is r c)
    ((lawful r c).monotone e us vs x (subst (λ (s : Side). AreNoBetter s us vs) (sym (side_is r c)) worse) is)

-- numbers cut at the greatest bound keep their order
cut-no_better : (side : Side) (x y u v : ℕ) → IsNoBetter side x y → u ≡ min x MAX_BOUND → v ≡ min y MAX_BOUND
    → IsNoBetter side u v
cut-no_better Lower x y u v h cut cut_too = omega arith
cut-no_better Upper x y u v h cut cut_too = omega arith

-- so the second give a value, and that of the first is no better, where the number of the second is within the limits
pub value-no_worse : (supports : List Support) (r : Rule) (e : Entry) (us vs : List ℕ) (u : ℕ)
    → AreNoBetter (rule_side r) us vs
    → value_of supports r e us ≡ Some u
    → ((y : ℕ) → (parts_over supports r).number e vs ≡ Some y → rule_side r ≡ Lower → y ≤ MAX_BOUND)
    → NoWorse (rule_side r) (value_of supports r e vs) u
value-no_worse supports r e us vs u worse value few =
    let number = limit_of (rule_side r) ((parts_over supports r).number e us) u (value-given supports r e us u value) in
    let other = number-monotone supports r e us vs number.0 worse number.1.number in (
      min other.0 MAX_BOUND,
      value_where_applies supports r e vs (applies_from_value supports r e us u value)
          ∙ ap (within_limit (rule_side r)) other.1 ∙ limit_from (rule_side r) other.0 (few other.0 other.1),
      cut-no_better (rule_side r) number.0 other.0 u (min other.0 MAX_BOUND) other.2 number.1.least refl,
    )

-- where both give a value, that from the first is no better
pub value_of-monotone : (supports : List Support) (r : Rule) (e : Entry) (us vs : List ℕ) (u v : ℕ)
    → AreNoBetter (rule_side r) us vs
    → value_of supports r e us ≡ Some u → value_of supports r e vs ≡ Some v → IsNoBetter (rule_side r) u v
value_of-monotone supports r e us vs u v worse value value_too =
    let number = limit_of (rule_side r) ((parts_over supports r).number e vs) v
    (value-given supports r e vs v value_too) in
    let better = value-no_worse supports r e us vs u worse value
    (λ y is lower.
    let same = same_Some number.0 y (sym number.1.number ∙ is) in
    subst (λ x. x ≤ MAX_BOUND) same (number.1.whole lower)) in
    subst (IsNoBetter (rule_side r) u) (same_Some better.0 v (sym better.1 ∙ value_too)) better.2

-- what is there
pub some_value : {X : Type 0} (o : Option X) → IsSome o → (x : X) × (o ≡ Some x)
some_value None h = absurd cc
some_value (Some x) h = (x, refl)

-- an upper rule gives a value wherever it does for worse premises
pub value_of-upper : (supports : List Support) (r : Rule) (e : Entry) (us vs : List ℕ) → rule_side r ≡ Upper
    → AreNoBetter Upper us vs
    → IsSome (value_of supports r e us) → IsSome (value_of supports r e vs)
value_of-upper supports r e us vs upper worse some =
    let value = some_value (value_of supports r e us) some in
    let same_side = subst (λ side. AreNoBetter side us vs) (sym upper) worse in
    let better = value-no_worse supports r e us vs value.0 same_side value.1
    (λ y is lower. absurd (let clash : Upper ≡ Lower = sym upper ∙ lower in cc)) in
    ap is_some better.1
