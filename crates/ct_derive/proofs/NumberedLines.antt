-- Lines that are named by numbers, and what it means that a line has no fault.
use Rattle.std.proofs.Common.{◌≡◌, ℕ, zero, suc, ◌+◌, ◌-◌, ◌<◌, ◌≤◌, Bool, true, false, List, [], ◌∷◌, ◌++◌, length, get_or, drop, map, All, Option, Some, None, option_map, refl, sym, ap, ap₂, subst, ◌∙◌, append_assoc, append-nil, arith}
use Rattle.std.specs.Prelude.{◌&&◌, nat_lt, slice_get, if◌then◌else◌}
use Rattle.std.specs.List.{cons_option}
use Rattle.std.proofs.lemmas.Bool.Decides.{nat_tests}
use Rattle.std.proofs.lemmas.List.{at_drop_more, at_drop_all}
use Rattle.std.proofs.lemmas.List.Elements.{All-nil, All-cons, All-head, All-tail}
use Rattle.std.proofs.lemmas.Option.{none-some, same_Some, slice_get_within, get_or_from_slice_get, cond_some}
use Rattle.ct_words.specs.declared.entry.Entry.{Entry}
use Rattle.ct_words.specs.declared.claim.Side.{Side}
use Rattle.ct_words.specs.declared.claim.Side.TheVariants.{Lower, Upper}
use Rattle.ct_words.specs.declared.claim.Claim.{Claim}
use Rattle.ct_words.specs.Entry.{same_entry}
use Rattle.ct_words.proofs.EntryLemmas.{same_entry_is, same_entry-self}
use Rattle.ct_rules.specs.Derivation.{LineValue, claims_at}
use Rattle.ct_derive.specs.Check.{same_side, claim_numbered, value_for, and_values, values_numbered}
use Rattle.ct_rule_parts.specs.Slot.{Slot, slot_of}
use Rattle.ct_rule_parts.specs.Parts.{slots_on}
use Rattle.ct_derive.proofs.PrunedLines.{some_at}

-- where there is no item, the list has ended
past_end : {X : Type 0} (xs : List X) (j : ℕ) → slice_get xs j ≡ None → length xs ≤ j
past_end [] j none = omega arith
past_end (x ∷ xs) zero none = absurd cc
past_end (x ∷ xs) (suc j) none = let rest = past_end xs j none in omega arith

-- numbers without an entry
pub values-no_entry : (side : Side) (lines : List LineValue) (es : List Entry) (ns : List ℕ) (j : ℕ) → slice_get es j ≡ None
    → j < length ns → values_numbered side lines (drop j es) (drop j ns) ≡ None
values-no_entry side lines es ns j none within =
    at_drop_all (λ (fs : List Entry). values_numbered side lines fs (drop j ns)) es j (past_end es j none)
    ∙ at_drop_more (values_numbered side lines []) ns j 0 within

-- one number and its entry
pub values-next : (side : Side) (lines : List LineValue) (es : List Entry) (ns : List ℕ) (j : ℕ) (e : Entry)
    → slice_get es j ≡ Some e → j < length ns
    → values_numbered side lines (drop j es) (drop j ns)
    ≡ and_values (value_for side e (claim_numbered lines (get_or ns j 0))) (values_numbered side lines (drop (j + 1) es) (drop (j + 1) ns))
values-next side lines es ns j e at within =
    at_drop_more (λ (fs : List Entry). values_numbered side lines fs (drop j ns)) es j e (slice_get_within es j e at)
    ∙ ap (λ (f : Entry). values_numbered side lines (f ∷ drop (j + 1) es) (drop j ns)) (get_or_from_slice_get es j e e at)
    ∙ at_drop_more (values_numbered side lines (e ∷ drop (j + 1) es)) ns j 0 within

-- a value more
pub values-push : (so_far : List ℕ) (v : ℕ) (rest : Option (List ℕ))
    → option_map (λ more. so_far ++ more) (and_values (Some v) rest) ≡ option_map (λ more. (so_far ++ v ∷ []) ++ more) rest
values-push so_far v None = refl
values-push so_far v (Some vs) = ap Some (sym (append_assoc so_far (v ∷ []) vs))

-- fewer numbers than entries
pub values-too_few : (side : Side) (lines : List LineValue) (es : List Entry) (ns : List ℕ) → length ns < length es → values_numbered side lines es ns ≡ None
values-too_few side lines [] ns few = absurd (omega arith)
values-too_few side lines (e ∷ es) [] few = refl
values-too_few side lines (e ∷ es) (n ∷ ns) few =
    ap (and_values (value_for side e (claim_numbered lines n))) (values-too_few side lines es ns (omega arith))
    ∙ none_after (value_for side e (claim_numbered lines n))
  where
    none_after : (v : Option ℕ) → and_values v None ≡ None
    none_after None = refl
    none_after (Some v) = refl

-- all values, from those so far and those that are left: at the start, one value more, where there is none, and at the end
pub values-begin : (whole : Option (List ℕ)) (none : List ℕ) → none ≡ [] → whole ≡ option_map (λ more. none ++ more) whole
values-begin None none is = refl
values-begin (Some vs) none is = ap (λ l. Some (l ++ vs)) (sym is)

module _ (side : Side) (lines : List LineValue) (es : List Entry) (ns : List ℕ) (j : ℕ) (whole : Option (List ℕ)) (so_far : List ℕ)
    (left : whole ≡ option_map (λ more. so_far ++ more) (values_numbered side lines (drop j es) (drop j ns))) where
  pub values-more : (e : Entry) (v : ℕ) (next : List ℕ) → slice_get es j ≡ Some e → j < length ns
      → value_for side e (claim_numbered lines (get_or ns j 0)) ≡ Some v → next ≡ so_far ++ v ∷ []
      → whole ≡ option_map (λ more. next ++ more) (values_numbered side lines (drop (j + 1) es) (drop (j + 1) ns))
  values-more e v next at within value next-is =
      let rest = values_numbered side lines (drop (j + 1) es) (drop (j + 1) ns) in
      left
      ∙ ap (option_map (λ (more : List ℕ). so_far ++ more))
      (values-next side lines es ns j e at within ∙ ap (λ (o : Option ℕ). and_values o rest) value)
      ∙ values-push so_far v rest
      ∙ ap (λ (l : List ℕ). option_map (λ (more : List ℕ). l ++ more) rest) (sym next-is)

  pub values-no_value : (e : Entry) → slice_get es j ≡ Some e → j < length ns → value_for side e (claim_numbered lines (get_or ns j 0)) ≡ None
      → None ≡ whole
  values-no_value e at within none =
      let rest = values_numbered side lines (drop (j + 1) es) (drop (j + 1) ns) in
      sym (left
      ∙ ap (option_map (λ (more : List ℕ). so_far ++ more))
      (values-next side lines es ns j e at within ∙ ap (λ (o : Option ℕ). and_values o rest) none))

  pub values-end : length ns ≤ j → length es ≤ length ns → Some so_far ≡ whole
  values-end ends long =
      sym (left
      ∙ ap (option_map (λ (more : List ℕ). so_far ++ more))
      (at_drop_all (λ (fs : List Entry). values_numbered side lines fs (drop j ns)) es j (omega arith)
      ∙ at_drop_all (values_numbered side lines []) ns j ends)
      ∙ ap Some (append-nil so_far))

-- equal lists have equal first items, and the rest
cons_parts : {X : Type 0} (x y : X) (xs ys : List X) → x ∷ xs ≡ y ∷ ys → (x ≡ y) × (xs ≡ ys)
cons_parts x y xs ys h = (cc, cc)

-- the claims that numbers name, of which each is about the entry at its place
pub record Named (side : Side) (lines : List LineValue) (es : List Entry) (numbers values : List ℕ) : Type 0 where
  pub places : List ℕ
  pub numbered : numbers ≡ map suc places
  pub within : All (λ p. p < length lines) places
  pub slots : map slot_of (claims_at lines places) ≡ slots_on side es
  pub same : map (λ c. c.value) (claims_at lines places) ≡ values

-- the claim with the number after a place
positive : (p : ℕ) → nat_lt 0 (suc p) ≡ true
positive p = grind (arith, nat_tests)

claim_after : (lines : List LineValue) (p : ℕ) → claim_numbered lines (suc p) ≡ option_map (λ l. l.claim) (slice_get lines p)
claim_after lines p =
    let less : suc p - 1 ≡ p = omega arith in
    ap (λ (b : Bool). if b then option_map (λ (l : LineValue). l.claim) (slice_get lines (suc p - 1)) else None) (positive p)
    ∙ ap (λ q. option_map (λ (l : LineValue). l.claim) (slice_get lines q)) less

same_side_is : (s t : Side) → same_side s t ≡ true → s ≡ t
same_side_is Lower Lower h = refl
same_side_is Lower Upper h = absurd cc
same_side_is Upper Lower h = absurd cc
same_side_is Upper Upper h = refl

same_side-self : (s : Side) → same_side s s ≡ true
same_side-self Lower = refl
same_side-self Upper = refl

-- one claim that bounds the entry from the side
record NamedOne (side : Side) (lines : List LineValue) (e : Entry) (n v : ℕ) : Type 0 where
  place : ℕ
  line : LineValue
  number : n ≡ suc place
  there : slice_get lines place ≡ Some line
  slot : slot_of line.claim ≡ (side, e)
  value : line.claim.value ≡ v

named_one : (side : Side) (lines : List LineValue) (e : Entry) (n v : ℕ) → value_for side e (claim_numbered lines n) ≡ Some v
    → NamedOne side lines e n v
named_one side lines e zero v h = absurd (none-some v h)
named_one side lines e (suc p) v h = go (slice_get lines p) refl (sym (ap (value_for side e) (claim_after lines p)) ∙ h)
  where
    both : (a b : Bool) → (a && b) ≡ true → (a ≡ true) × (b ≡ true)
    both true true h' = (refl, refl)
    both true false h' = absurd cc
    both false b h' = absurd cc

    go : (o : Option LineValue) → slice_get lines p ≡ o → value_for side e (option_map (λ (l : LineValue). l.claim) o) ≡ Some v
        → NamedOne side lines e (suc p) v
    go None at is = absurd (none-some v is)
    go (Some l) at is =
        let passes = cond_some (same_side l.claim.side side && same_entry l.claim.entry e) l.claim.value v is in
        let tests = both (same_side l.claim.side side) (same_entry l.claim.entry e) passes.0 in
        record {
          place = p;
          line = l;
          number = refl;
          there = at;
          slot = ap₂ (λ (s : Side) (f : Entry). (s, f)) (same_side_is l.claim.side side tests.0) (same_entry_is l.claim.entry e tests.1);
          value = passes.1;
        }

-- the values are those of such claims
pub named_from_values : (side : Side) (lines : List LineValue) (es : List Entry) (numbers values : List ℕ)
    → values_numbered side lines es numbers ≡ Some values → Named side lines es numbers values
named_from_values side lines [] [] values h = record {
  places = [];
  numbered = refl;
  within = All-nil (λ p. p < length lines);
  slots = refl;
  same = same_Some [] values h;
}
named_from_values side lines [] (n ∷ ns) values h = absurd (none-some values h)
named_from_values side lines (e ∷ es) [] values h = absurd (none-some values h)
named_from_values side lines (e ∷ es) (n ∷ ns) values h =
    go (value_for side e (claim_numbered lines n)) refl (values_numbered side lines es ns) refl h
    (λ v is. named_one side lines e n v is) (λ vs is. named_from_values side lines es ns vs is)
  where
    joined : (v : ℕ) (vs : List ℕ) → NamedOne side lines e n v → Named side lines es ns vs → Named side lines (e ∷ es) (n ∷ ns) (v ∷ vs)
    joined v vs one rest = record {
      places = one.place ∷ rest.places;
      numbered = ap₂ (λ (m : ℕ) (ms : List ℕ). m ∷ ms) one.number rest.numbered;
      within = All-cons (λ p. p < length lines) one.place rest.places (slice_get_within lines one.place one.line one.there) rest.within;
      slots =
          ap (λ (o : Option LineValue). map slot_of (cons_option (option_map (λ (l : LineValue). l.claim) o) (claims_at lines rest.places))) one.there
          ∙ ap₂ (λ (s : Slot) (ss : List Slot). s ∷ ss) one.slot rest.slots;
      same =
          ap (λ (o : Option LineValue). map (λ (c : Claim). c.value) (cons_option (option_map (λ (l : LineValue). l.claim) o) (claims_at lines rest.places))) one.there
          ∙ ap₂ (λ (m : ℕ) (ms : List ℕ). m ∷ ms) one.value rest.same;
    }

    go : (a : Option ℕ) → value_for side e (claim_numbered lines n) ≡ a → (b : Option (List ℕ)) → values_numbered side lines es ns ≡ b
        → and_values (value_for side e (claim_numbered lines n)) (values_numbered side lines es ns) ≡ Some values
        → ((v : ℕ) → value_for side e (claim_numbered lines n) ≡ Some v → NamedOne side lines e n v)
        → ((vs : List ℕ) → values_numbered side lines es ns ≡ Some vs → Named side lines es ns vs)
        → Named side lines (e ∷ es) (n ∷ ns) values
    go None a_is b b_is all one rest = absurd (none-some values (ap (λ (o : Option ℕ). and_values o (values_numbered side lines es ns)) (sym a_is) ∙ all))
    go (Some v) a_is None b_is all one rest =
        absurd (none-some values (ap₂ and_values (sym a_is) (sym b_is) ∙ all))
    go (Some v) a_is (Some vs) b_is all one rest =
        subst (λ (ws : List ℕ). Named side lines (e ∷ es) (n ∷ ns) ws)
        (same_Some (v ∷ vs) values (ap₂ and_values (sym a_is) (sym b_is) ∙ all))
        (joined v vs (one v a_is) (rest vs b_is))

-- and such claims have their values
pub values_from_named : (side : Side) (lines : List LineValue) (es : List Entry) (places : List ℕ) → All (λ p. p < length lines) places
    → map slot_of (claims_at lines places) ≡ slots_on side es
    → values_numbered side lines es (map suc places) ≡ Some (map (λ c. c.value) (claims_at lines places))
values_from_named side lines [] [] within same = refl
values_from_named side lines (e ∷ es) [] within same = absurd (let sizes = ap length same in omega arith)
values_from_named side lines es (p ∷ places) within same =
    go es (some_at lines p (All-head (λ q. q < length lines) p places within)) same
    (λ fs rest. values_from_named side lines fs places (All-tail (λ q. q < length lines) p places within) rest)
  where
    head_is : (l : LineValue) → slice_get lines p ≡ Some l → claims_at lines (p ∷ places) ≡ l.claim ∷ claims_at lines places
    head_is l at = ap (λ (o : Option LineValue). cons_option (option_map (λ (m : LineValue). m.claim) o) (claims_at lines places)) at

    own : (l : LineValue) → slice_get lines p ≡ Some l → (e : Entry) → slot_of l.claim ≡ (side, e)
        → value_for side e (claim_numbered lines (suc p)) ≡ Some l.claim.value
    own l at e slot =
        let there = claim_after lines p ∙ ap (option_map (λ (m : LineValue). m.claim)) at in
        let first : same_side l.claim.side side ≡ true = ap (same_side l.claim.side) (sym (ap (λ (s : Slot). s.0) slot)) ∙ same_side-self l.claim.side in
        let second : same_entry l.claim.entry e ≡ true = ap (same_entry l.claim.entry) (sym (ap (λ (s : Slot). s.1) slot)) ∙ same_entry-self l.claim.entry in
        ap (value_for side e) there
        ∙ ap₂ (λ (a b : Bool). if a && b then Some l.claim.value else None) first second

    go : (es : List Entry) → (l : LineValue) × (slice_get lines p ≡ Some l) → map slot_of (claims_at lines (p ∷ places)) ≡ slots_on side es
        → ((fs : List Entry) → map slot_of (claims_at lines places) ≡ slots_on side fs
        → values_numbered side lines fs (map suc places) ≡ Some (map (λ c. c.value) (claims_at lines places)))
        → values_numbered side lines es (suc p ∷ map suc places) ≡ Some (map (λ c. c.value) (claims_at lines (p ∷ places)))
    go [] (l, at) slots rest =
        absurd (let sizes = ap length (sym (ap (map slot_of) (head_is l at)) ∙ slots) in omega arith)
    go (e ∷ es) (l, at) slots rest =
        let parts = cons_parts (slot_of l.claim) (side, e) (map slot_of (claims_at lines places)) (slots_on side es)
        (sym (ap (map slot_of) (head_is l at)) ∙ slots) in
        ap₂ and_values (own l at e parts.0) (rest es parts.1)
        ∙ ap (λ (cs : List Claim). Some (map (λ (c : Claim). c.value) cs)) (sym (head_is l at))
