-- Lines over some of the pieces: their rules name the places that these pieces have among themselves.
use Rattle.std.proofs.Common.{◌≡◌, ℕ, suc, ◌<◌, Bool, true, false, cond, ◌||◌, List, [], ◌∷◌, map, Option, Some, None, option_map, refl, sym, ap, subst, ◌∙◌, arith, inl, inr}
use Rattle.std.specs.Prelude.{All, Contains, slice_get, ◌==◌}
use Rattle.std.specs.List.{cons_option, filter_map}
use Rattle.std.proofs.lemmas.Bool.Decides.{nat_tests}
use Rattle.std.proofs.lemmas.List.{length-map}
use Rattle.std.proofs.lemmas.List.Elements.{All-head, All-tail, All-contains, All-cons, All-nil, Contains-append_right, Contains-append_cases}
use Rattle.std.proofs.lemmas.Option.{slice_get-map}
use Rattle.ct_words.specs.declared.claim.Claim.{Claim}
use Rattle.ct_rule_parts.specs.declared.support.Support.{Support}
use Rattle.ct_rule_parts.specs.Slot.{slot_of}
use Rattle.ct_rules.specs.declared.rule.Rule.{Rule}
use Rattle.ct_rules.specs.Rule.{named_place, with_place, support_at, cited, parts_of, value_of}
use Rattle.ct_rules.specs.Derivation.{LineValue, claims_at, Follows}
use Rattle.ct_rules.proofs.LawfulRows.{named_place-placed, parts_of-placed}
use Rattle.ct_rules.proofs.LoweredRules.{IsAlike, alike-side, premises_of-alike, value_of-alike}

-- whether the place is one of these
abbrev pub is_among : List ℕ → ℕ → Bool
is_among [] p = false
is_among (q ∷ places) p = (q == p) || is_among places p

-- at which place it is among them
abbrev pub new_place : List ℕ → ℕ → ℕ
new_place [] p = 0
new_place (q ∷ places) p = cond (q == p) 0 (suc (new_place places p))

-- the items at these places
abbrev pub items_at : {X : Type 0} → List X → List ℕ → List X
items_at xs places = filter_map (λ p. slice_get xs p) places

-- the rule over the items at these places
abbrev pub moved_by : List ℕ → Rule → Option ℕ → Rule
moved_by places r None = r
moved_by places r (Some place) = with_place r (new_place places place)

abbrev pub moved_rule : List ℕ → Rule → Rule
moved_rule places r = moved_by places r (named_place r)

abbrev pub moved_line : List ℕ → LineValue → LineValue
moved_line places l = record { claim = l.claim; rule = moved_rule places l.rule; from = l.from }

same_place : (p q : ℕ) → (q == p) ≡ true → q ≡ p
same_place p q h = grind (arith, nat_tests)

own_place : (p q : ℕ) → q ≡ p → (q == p) ≡ true
own_place p q h = grind (arith, nat_tests)

only_place : (q p : ℕ) → Contains (q ∷ []) p → q ≡ p
only_place q p there = All-contains (λ (z : ℕ). q ≡ z) (q ∷ []) p (All-cons (λ (z : ℕ). q ≡ z) q [] refl (All-nil (λ (z : ℕ). q ≡ z))) there

or-right : (a b : Bool) → b ≡ true → (a || b) ≡ true
or-right true b h = refl
or-right false b h = h

or-left : (a b : Bool) → a ≡ true → (a || b) ≡ true
or-left true b h = refl
or-left false b h = absurd cc

pub among_from : (places : List ℕ) (p : ℕ) → Contains places p → is_among places p ≡ true
among_from [] p has = absurd (let within = has.1 in omega (arith, within))
among_from (q ∷ places) p has = elim (Contains-append_cases (q ∷ []) places p has) [
  | inl one ↦ or-left (q == p) (is_among places p) (own_place p q (only_place q p one))
  | inr later ↦ or-right (q == p) (is_among places p) (among_from places p later)
]

pub among_to : (places : List ℕ) (p : ℕ) → is_among places p ≡ true → Contains places p
among_to [] p h = absurd cc
among_to (q ∷ places) p h = at (q == p) refl h (among_to places p) where
  at : (b : Bool) → (q == p) ≡ b → (b || is_among places p) ≡ true → (is_among places p ≡ true → Contains places p) → Contains (q ∷ places) p
  at true same is rest = (0, omega arith, same_place p q same)
  at false other is rest = Contains-append_right (q ∷ []) places p (rest is)

-- all items at these places are there
abbrev pub AreThere : {X : Type 0} → List X → List ℕ → Type 0
AreThere {X} xs places = All (λ p. (x : X) × (slice_get xs p ≡ Some x)) places

-- an item has its place among them
pub moved_item : {X : Type 0} (xs : List X) (places : List ℕ) (p : ℕ) → AreThere xs places → is_among places p ≡ true
    → slice_get (items_at xs places) (new_place places p) ≡ slice_get xs p
moved_item xs [] p there among = absurd cc
moved_item {X} xs (q ∷ places) p there among =
    at (q == p) refl among (moved_item xs places p (All-tail (λ p. (x : X) × (slice_get xs p ≡ Some x)) q places there))
    (All-head (λ p. (x : X) × (slice_get xs p ≡ Some x)) q places there)
  where
    rest : List X
    rest = items_at xs places

    at : (b : Bool) → (q == p) ≡ b → (b || is_among places p) ≡ true → (is_among places p ≡ true → slice_get rest (new_place places p) ≡ slice_get xs p)
        → (x : X) × (slice_get xs q ≡ Some x) → slice_get (cons_option (slice_get xs q) rest) (cond b 0 (suc (new_place places p))) ≡ slice_get xs p
    at true same is later own =
        ap (λ (o : Option X). slice_get (cons_option o rest) 0) own.1 ∙ sym own.1 ∙ ap (slice_get xs) (same_place p q same)
    at false other is later own = ap (λ (o : Option X). slice_get (cons_option o rest) (suc (new_place places p))) own.1 ∙ later is

-- a moved rule says what the rule said
pub IsAlike-moved : (places : List ℕ) (r : Rule) → IsAlike (moved_rule places r) r
IsAlike-moved places r c = go (named_place r) where
  go : (place : Option ℕ) → parts_of (moved_by places r place) c ≡ parts_of r c
  go None = refl
  go (Some place) = parts_of-placed r (new_place places place) c

-- the piece that a rule names is among those at these places
abbrev pub NamesOne : List ℕ → Rule → Type 0
NamesOne places r = (p : ℕ) → named_place r ≡ Some p → is_among places p ≡ true

-- and names the support that it named
pub cited-moved : (supports : List Support) (places : List ℕ) (r : Rule) → AreThere supports places → NamesOne places r
    → cited (items_at supports places) (moved_rule places r) ≡ cited supports r
cited-moved supports places r there names = go (named_place r) refl where
  go : (place : Option ℕ) → named_place r ≡ place → support_at (items_at supports places) (named_place (moved_by places r place)) ≡ support_at supports place
  go None is = ap (support_at (items_at supports places)) is
  go (Some p) is =
      ap (support_at (items_at supports places)) (named_place-placed r p (new_place places p) is)
      ∙ moved_item supports places p there (names p is)

claim-moved : (places : List ℕ) (o : Option LineValue) → option_map (λ l. l.claim) (option_map (moved_line places) o) ≡ option_map (λ l. l.claim) o
claim-moved places None = refl
claim-moved places (Some l) = refl

claims_at-moved : (places : List ℕ) (lines : List LineValue) (from : List ℕ) → claims_at (map (moved_line places) lines) from ≡ claims_at lines from
claims_at-moved places lines [] = refl
claims_at-moved places lines (p ∷ from) =
    ap (λ (o : Option Claim). cons_option o (claims_at (map (moved_line places) lines) from))
    (ap (option_map (λ (l : LineValue). l.claim)) (slice_get-map (moved_line places) lines p) ∙ claim-moved places (slice_get lines p))
    ∙ ap (cons_option (option_map (λ (l : LineValue). l.claim) (slice_get lines p))) (claims_at-moved places lines from)

-- a line that follows still follows
pub Follows-moved : (supports : List Support) (places : List ℕ) (before : List LineValue) (line : LineValue) → AreThere supports places → NamesOne places line.rule
    → Follows supports before line → Follows (items_at supports places) (map (moved_line places) before) (moved_line places line)
Follows-moved supports places before line there names follows =
    let r = line.rule in
    let e = line.claim.entry in
    let same = cited-moved supports places r there names in
    let alike = IsAlike-moved places r in
    record {
      earlier = subst (λ n. All (λ p. p < n) line.from) (sym (length-map before (moved_line places))) follows.earlier;
      side = follows.side ∙ sym (alike-side (moved_rule places r) r alike);
      premises =
          premises_of-alike (items_at supports places) supports (moved_rule places r) r e alike same ∙ follows.premises
          ∙ ap (λ (claims : List Claim). Some (map slot_of claims)) (sym (claims_at-moved places before line.from));
      value =
          value_of-alike (items_at supports places) supports (moved_rule places r) r e _ alike same
          ∙ ap (λ (claims : List Claim). value_of supports r e (map (λ c. c.value) claims)) (claims_at-moved places before line.from)
          ∙ follows.value;
    }
