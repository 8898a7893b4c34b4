-- Lines that rest on nothing: each slot of the table has one, the best that any rule gives that rests on nothing.
use Rattle.std.proofs.Common.{◌≡◌, ℕ, ◌<◌, ◌≤◌, ◌^◌, length, map, min, Bool, ◌==◌, ◌&&◌, true, false, if◌then◌else◌, List, [], ◌∷◌, All, Contains, Option, Some, None, refl, sym, subst, ap, ap₂, ◌∙◌, le-leb, eq-eqb, eqb-true, arith}
use Rattle.std.specs.Prelude.{is_some}
use Rattle.std.proofs.lemmas.Bool.{and_parts, false≢true}
use Rattle.std.proofs.lemmas.Option.{cond_some, none-some, same_Some}
use Rattle.std.proofs.lemmas.List.Elements.{All-nil, All-contains, All-from_recursion}
use Rattle.ct_words.specs.declared.limits.TheConstants.{MAX_BOUND}
use Rattle.ct_words.specs.Counting.Binomials.{choose}
use Rattle.ct_words.specs.declared.claim.Side.{Side}
use Rattle.ct_words.specs.declared.claim.Side.TheVariants.{Lower, Upper}
use Rattle.ct_words.specs.declared.entry.Entry.{Entry}
use Rattle.ct_words.specs.Claim.{IsTrueClaim}
use Rattle.ct_words.specs.Entry.{IsEntry, unrestricted, constant_weight}
use Rattle.ct_words.proofs.EntryLemmas.{entry_limits}
use Rattle.ct_sum_classes.specs.declared.largest_class.LargestClass.{LargestClass}
use Rattle.ct_sum_classes.specs.SumClass.{sum_class, largest_class}
use Rattle.ct_sum_classes.proofs.LargestLemmas.{largest_class-within, largest_class-most, sum_class-few}
use Rattle.ct_weight_rules.specs.GrahamSloane.{sum_class_size}
use Rattle.ct_weight_rules.proofs.LawfulGrahamSloane.{class_given, class_defined}
use Rattle.ct_rule_parts.specs.Parts.{RuleParts, has_weight, weight_of, is_defined, slots_on, within_limit}
use Rattle.ct_rule_parts.specs.declared.support.Support.{Support}
use Rattle.ct_rule_parts.specs.Slot.{Slot, slot_of, IsNoBetter}
use Rattle.ct_rule_parts.specs.Support.{Stands}
use Rattle.ct_rule_parts.proofs.SlotLemmas.{IsNoBetter-self}
use Rattle.ct_rules.specs.declared.rule.Rule.{Rule}
use Rattle.ct_rules.specs.declared.rule.Rule.TheVariants.{L2, M2, M9, U1, U2, U3, V1, V2, V8}
use Rattle.ct_rules.specs.Derivation.{LineValue, Follows, claims_at}
use Rattle.ct_rules.specs.Rule.{row_of, rule_side, named_place, support_at, parts_of, parts_over, premises_at, premises_of, value_of}
use Rattle.ct_rules.proofs.Applied.{applies_from_value, value-given, limit_of, cited-stands}
use Rattle.ct_rules.proofs.ClosedBounds.{no_better-trans}
use Rattle.ct_rules.proofs.RuleLaws.{value_is_sound}
use Rattle.ct_kept.specs.Kept.{RestsOnNothing, IsGroundBound, IsGround}
use Rattle.ct_kept.specs.Inside.Ground.{class_of, GivesGround, IsGroundWithin, first_ground_rule, other_ground_rules, IsGroundLine}

-- a rule without a support is made of the same over any supports, rests on the same, and gives the same
parts_same : (supports : List Support) (r : Rule) → named_place r ≡ None → parts_over supports r ≡ parts_of r None
parts_same supports r none = ap (λ (place : Option ℕ). parts_of r (support_at supports place)) none

pub rests_same : (supports : List Support) (r : Rule) (e : Entry) → RestsOnNothing r e → premises_at supports r e ≡ []
rests_same supports r e nothing =
    ap (λ (p : RuleParts). slots_on (rule_side r) (p.rests_on e)) (parts_same supports r nothing.0)
    ∙ ap (slots_on (rule_side r)) nothing.1

pub value_same : (supports : List Support) (r : Rule) (e : Entry) → RestsOnNothing r e → value_of supports r e [] ≡ value_of [] r e []
value_same supports r e nothing =
    ap (λ (p : RuleParts). if is_defined p e then within_limit (rule_side r) (p.number e []) else None)
    (parts_same supports r nothing.0 ∙ sym (parts_same [] r nothing.0))

-- the line of a slot follows from any lines over any supports
nothing_premises : (supports : List Support) (r : Rule) (e : Entry) (v : ℕ) → RestsOnNothing r e → value_of supports r e [] ≡ Some v
    → premises_of supports r e ≡ Some []
nothing_premises supports r e v nothing value =
    ap (λ (b : Bool). if b then Some (premises_at supports r e) else None) (applies_from_value supports r e [] v value)
    ∙ ap Some (rests_same supports r e nothing)

pub Follows-ground : (supports : List Support) (before : List LineValue) (line : LineValue) → IsGroundLine (slot_of line.claim) line
    → Follows supports before line
Follows-ground supports before line ground =
    let r = line.rule in
    let e = line.claim.entry in
    let none = sym ground.no_lines in
    let value = value_same supports r e ground.given.nothing ∙ ground.given.value in
    record {
      earlier = subst (All (λ p. p < length before)) none (All-nil (λ p. p < length before));
      side = sym ground.given.side;
      premises =
          subst (λ (places : List ℕ). premises_of supports r e ≡ Some (map slot_of (claims_at before places))) none
          (nothing_premises supports r e line.claim.value ground.given.nothing value);
      value =
          subst (λ (places : List ℕ). value_of supports r e (map (λ c. c.value) (claims_at before places)) ≡ Some line.claim.value) none value;
    }

-- and rests on nothing
pub IsGround-line : (s : Slot) (line : LineValue) → IsGroundLine s line → IsGround line
IsGround-line s line ground = record {
  no_lines = ground.no_lines;
  no_support = ground.given.nothing.0;
  best = subst (λ (t : Slot). IsGroundBound t line.claim.value) (sym ground.slot) ground.best;
}

-- what a rule gives is within a bound that is no worse than another within which it is, and within itself
pub ground_within_better : (s : Slot) (u v : ℕ) (r : Rule) → IsNoBetter s.0 u v → IsGroundWithin s u r → IsGroundWithin s v r
ground_within_better s u v r worse within x value = no_better-trans s.0 x u v (within x value) worse

pub own_ground_within : (s : Slot) (r : Rule) (v : ℕ) → value_of [] r s.1 [] ≡ Some v → IsGroundWithin s v r
own_ground_within s r v given u value =
    subst (λ x. IsNoBetter s.0 x v) (same_Some v u (sym given ∙ value)) (IsNoBetter-self s.0 v)

-- the first rule of a slot has its side, rests on nothing, and gives a bound at each entry
pub first_nothing : (side : Side) (n d : ℕ) (w : Option ℕ)
    → (rule_side (first_ground_rule (side, record { n = n; d = d; w = w })) ≡ side)
    × RestsOnNothing (first_ground_rule (side, record { n = n; d = d; w = w })) (record { n = n; d = d; w = w })
unfolding row_of
first_nothing Lower n d None = (refl, (refl, refl))
first_nothing Lower n d (Some w) = (refl, (refl, refl))
first_nothing Upper n d None = (refl, (refl, refl))
first_nothing Upper n d (Some w) = (refl, (refl, refl))

pub first_given : (s : Slot) → IsEntry s.1 → (v : ℕ) × (value_of [] (first_ground_rule s) s.1 [] ≡ Some v)
unfolding row_of
first_given s = given s.0 s.1.n s.1.d s.1.w
  where
    given : (side : Side) (n d : ℕ) (w : Option ℕ) → IsEntry (record { n = n; d = d; w = w })
        → (v : ℕ) × (value_of [] (first_ground_rule (side, record { n = n; d = d; w = w })) (record { n = n; d = d; w = w }) [] ≡ Some v)
    given Lower n d None h = (1, ap (λ b. if b && true && true then Some 1 else None) h)
    given Lower n d (Some w) h = (1, ap (λ b. if b && true && true then Some 1 else None) h)
    given Upper n d None h =
        (min (2 ^ n) MAX_BOUND, ap (λ b. if b && true && true then Some (min (2 ^ n) MAX_BOUND) else None) h)
    given Upper n d (Some w) h =
        (min (choose n w) MAX_BOUND, ap (λ b. if b && true && true then Some (min (choose n w) MAX_BOUND) else None) h)

pub first_gives : (s : Slot) (r : Rule) (v : ℕ) → r ≡ first_ground_rule s → value_of [] r s.1 [] ≡ Some v → GivesGround s r v
first_gives s r v is value =
    let known = first_nothing s.0 s.1.n s.1.d s.1.w in
    record {
      side = ap rule_side is ∙ known.0;
      nothing = subst (λ (q : Rule). RestsOnNothing q s.1) (sym is) known.1;
      value = value;
    }

-- what a rule gives from nothing is a true bound, so from 1 to the greatest
given_range : (r : Rule) (e : Entry) (u : ℕ) → RestsOnNothing r e → value_of [] r e [] ≡ Some u → (1 ≤ u) × (u ≤ MAX_BOUND)
given_range r e u nothing value =
    (value_is_sound [] r e [] u (cited-stands [] r (All-nil Stands)) (nothing_premises [] r e u nothing value) (All-nil IsTrueClaim) value).range

pub least_upper : (side : Side) (e : Entry) → side ≡ Upper → IsGroundBound (side, e) 1
least_upper Upper e up r u same nothing value = (given_range r e u nothing value).0
least_upper Lower e up r u same nothing value = absurd cc

-- the others have the side, and rest on nothing
other_sides : (side : Side) (n d : ℕ) (w : Option ℕ) → All (λ (r : Rule). rule_side r ≡ side) (other_ground_rules (side, record { n = n; d = d; w = w }))
unfolding row_of
other_sides Lower n d None = All-from_recursion (λ (r : Rule). rule_side r ≡ Lower) (L2 ∷ []) (refl, tt)
other_sides Lower n d (Some w) = All-from_recursion (λ (r : Rule). rule_side r ≡ Lower) (M2 ∷ []) (refl, tt)
other_sides Upper n d None = All-from_recursion (λ (r : Rule). rule_side r ≡ Upper) (U1 ∷ U2 ∷ U3 ∷ []) (refl, (refl, (refl, tt)))
other_sides Upper n d (Some w) = All-from_recursion (λ (r : Rule). rule_side r ≡ Upper) (V1 ∷ V2 ∷ V8 ∷ []) (refl, (refl, (refl, tt)))

other_nothing : (side : Side) (n d : ℕ) (w : Option ℕ)
    → All (λ (r : Rule). RestsOnNothing r (record { n = n; d = d; w = w })) (other_ground_rules (side, record { n = n; d = d; w = w }))
unfolding row_of
other_nothing Lower n d None =
    All-from_recursion (λ (r : Rule). RestsOnNothing r (unrestricted n d)) (L2 ∷ []) ((refl, refl), tt)
other_nothing Lower n d (Some w) =
    All-from_recursion (λ (r : Rule). RestsOnNothing r (constant_weight n d w)) (M2 ∷ []) ((refl, refl), tt)
other_nothing Upper n d None =
    All-from_recursion (λ (r : Rule). RestsOnNothing r (unrestricted n d)) (U1 ∷ U2 ∷ U3 ∷ []) ((refl, refl), ((refl, refl), ((refl, refl), tt)))
other_nothing Upper n d (Some w) =
    All-from_recursion (λ (r : Rule). RestsOnNothing r (constant_weight n d w)) (V1 ∷ V2 ∷ V8 ∷ []) ((refl, refl), ((refl, refl), ((refl, refl), tt)))

-- what the sum classes of an entry give: the size of each, and nothing where the entry has no weight or another distance
class_size : (k : ℕ) (e : Entry) (u : ℕ) → value_of [] (M9 k) e [] ≡ Some u → sum_class_size k e ≡ Some u
unfolding row_of
class_size k e u value =
    let limit = limit_of Lower (sum_class_size k e) u (value-given [] (M9 k) e [] u value) in
    let fits = limit.1.whole refl in
    let least = limit.1.least in
    let same : limit.0 ≡ u = omega arith in
    limit.1.number ∙ ap Some same

no_class : (e : Entry) (k v : ℕ) → (has_weight e && e.d == 4) ≡ false → IsGroundWithin (Lower, e) v (M9 k)
no_class e k v none u value =
    let known = (class_given k e u (class_size k e u value)).0 in
    absurd (false≢true (sym none ∙ ap₂ (λ a b. a && b) known.weight (eq-eqb e.d 4 known.distance)))

largest_within : (e : Entry) (k v : ℕ) → length (sum_class e.n (weight_of e) (largest_class e.n (weight_of e))) ≤ v
    → IsGroundWithin (Lower, e) v (M9 k)
largest_within e k v enough u value =
    let given = class_given k e u (class_size k e u value) in
    let most = largest_class-most e.n (weight_of e) k given.0.residue in
    let size = given.1 in
    omega arith

class_gives : (n w v : ℕ) → IsEntry (constant_weight n 4 w) → v < length (sum_class n w (largest_class n w))
    → GivesGround (Lower, constant_weight n 4 w) (M9 (largest_class n w)) (length (sum_class n w (largest_class n w)))
unfolding row_of
class_gives n w v h more =
    let limits = entry_limits (constant_weight n 4 w) h in
    let size = length (sum_class n w (largest_class n w)) in
    let few = sum_class-few n w (largest_class n w) limits.length_to in
    let there : sum_class_size (largest_class n w) (constant_weight n 4 w) ≡ Some size =
    class_defined n w (largest_class n w) (largest_class-within n w limits.length_from) (omega arith) in
    record {
      side = refl;
      nothing = (refl, refl);
      value =
          ap₂ (λ b (o : Option ℕ). if b && is_some o && true then within_limit Lower o else None) h there
          ∙ ap (λ b. if b then Some size else None) (le-leb size MAX_BOUND few);
    }

-- so where no class was found; and where one was, it gives more than a bound, or nothing better
pub without_class : (e : Entry) (found : Option LargestClass) (k v : ℕ)
    → found ≡ (if has_weight e && e.d == 4 then Some (class_of e.n (weight_of e)) else None) → found ≡ None → IsGroundWithin (Lower, e) v (M9 k)
without_class e found k v is none = go (has_weight e && e.d == 4) refl
  where
    go : (b : Bool) → (has_weight e && e.d == 4) ≡ b → IsGroundWithin (Lower, e) v (M9 k)
    go true some =
        let there = ap (λ b. if b then Some (class_of e.n (weight_of e)) else None) some in
        absurd (none-some (class_of e.n (weight_of e)) (sym none ∙ is ∙ there))
    go false fails = no_class e k v fails

-- the class that was found
pub record IsFoundClass (e : Entry) (class : LargestClass) : Type 0 where
  pub weight : has_weight e ≡ true
  pub distance : e.d ≡ 4
  pub class_is : class_of e.n (weight_of e) ≡ class

pub found_class : (e : Entry) (found : Option LargestClass) (class : LargestClass)
    → found ≡ (if has_weight e && e.d == 4 then Some (class_of e.n (weight_of e)) else None) → found ≡ Some class → IsFoundClass e class
found_class e found class is some =
    let both = cond_some (has_weight e && e.d == 4) (class_of e.n (weight_of e)) class (sym is ∙ some) in
    let parts = and_parts (has_weight e) (e.d == 4) both.0 in
    record { weight = parts.0; distance = eqb-true e.d 4 parts.1; class_is = both.1 }

pub found_within : (e : Entry) (class : LargestClass) (k v : ℕ) → IsFoundClass e class → class.size ≤ v → IsGroundWithin (Lower, e) v (M9 k)
found_within e class k v found enough =
    largest_within e k v
    (subst (λ (c : LargestClass). c.size ≤ v → length (sum_class e.n (weight_of e) (largest_class e.n (weight_of e))) ≤ v) found.class_is (λ h. h) enough)

pub found_gives : (e : Entry) (class : LargestClass) (v : ℕ) → IsEntry e → IsFoundClass e class → v < class.size
    → GivesGround (Lower, e) (M9 class.residue) class.size
found_gives e class v entry found more = go e.n e.d e.w entry found
  where
    go : (n d : ℕ) (w : Option ℕ) → IsEntry (record { n = n; d = d; w = w }) → IsFoundClass (record { n = n; d = d; w = w }) class
        → GivesGround (Lower, record { n = n; d = d; w = w }) (M9 class.residue) class.size
    go n d None here found = absurd (false≢true found.weight)
    go n d (Some w) here found =
        subst (λ (c : LargestClass). v < c.size → GivesGround (Lower, constant_weight n d w) (M9 c.residue) c.size) found.class_is
        (subst (λ f. IsEntry (constant_weight n f w) → v < length (sum_class n w (largest_class n w))
        → GivesGround (Lower, constant_weight n f w) (M9 (largest_class n w)) (length (sum_class n w (largest_class n w))))
        (sym found.distance) (class_gives n w v) here)
        more

-- no sum class is at an entry without weight
pub without_weight : (n d k v : ℕ) → IsGroundWithin (Lower, unrestricted n d) v (M9 k)
without_weight n d k v = no_class (unrestricted n d) k v refl

-- one of the others that gives a bound gives it from nothing
pub other_gives : (side : Side) (e : Entry) (r : Rule) (v : ℕ) → Contains (other_ground_rules (side, e)) r → value_of [] r e [] ≡ Some v
    → GivesGround (side, e) r v
other_gives side e r v among value = record {
  side = All-contains (λ (q : Rule). rule_side q ≡ side) (other_ground_rules (side, e)) r (other_sides side e.n e.d e.w) among;
  nothing = All-contains (λ (q : Rule). RestsOnNothing q e) (other_ground_rules (side, e)) r (other_nothing side e.n e.d e.w) among;
  value = value;
}
