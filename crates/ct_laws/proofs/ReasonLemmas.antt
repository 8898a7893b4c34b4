-- What keeping reasons says of one slot.
use Rattle.std.proofs.Common.{◌≡◌, ℕ, List, [], ◌∷◌, length, Contains, slice_get, Option, Some, None, option_map, refl, sym, ap, subst, ◌∙◌, arith}
use Rattle.std.specs.Prelude.{false}
use Rattle.std.proofs.lemmas.List.Elements.{All-nil, All-cons, All-contains}
use Rattle.std.proofs.lemmas.Option.{none-some, same_Some}
use Rattle.ct_words.specs.Entry.{IsEntry}
use Rattle.ct_words.specs.declared.claim.Claim.{Claim}
use Rattle.ct_rule_parts.specs.Slot.{Slot}
use Rattle.ct_rules.specs.declared.rule.Rule.{Rule}
use Rattle.ct_rules.specs.Derivation.{LineValue}
use Rattle.ct_rules.specs.Rule.{named_place}
use Rattle.ct_rules.specs.Removal.{Places, lowered, names_one, IsChain, RestsOnPlaces}
use Rattle.ct_table.specs.Removal.{claim_and_rule, claim_and_lowered_rule, KeepsReasons}
use Rattle.ct_table.specs.Table.{TableValue, HasReason, reason_at}

-- a line of a claim by a rule from lines
abbrev pub line_of : Claim → Rule → List ℕ → LineValue
line_of c r from = record { claim = c; rule = r; from = from }

-- a line that names no line, by a rule that names no support of the set, rests on none
pub rests_on_nothing : (lines : List LineValue) (gone : Places) (i : ℕ) (c : Claim) (r : Rule)
    → slice_get lines i ≡ Some (line_of c r []) → names_one gone (named_place r) ≡ false → ¬ RestsOnPlaces lines gone i
rests_on_nothing lines gone i c r found free (chain, is) = go chain is
  where
    go : (chain : List ℕ) → IsChain lines gone i chain → ⊥
    go [] (m, there, names) =
        let one : m ≡ line_of c r [] = same_Some m (line_of c r []) (sym there ∙ found) in
        let none : names_one gone (named_place m.rule) ≡ false = ap (λ (k : LineValue). names_one gone (named_place k.rule)) one ∙ free in
        absurd (cc (sym names ∙ none))
    go (p ∷ ps) ((m, there, has), rest) =
        let one : m ≡ line_of c r [] = same_Some m (line_of c r []) (sym there ∙ found) in
        let none : length m.from ≡ 0 = ap (λ (k : LineValue). length k.from) one in
        absurd (omega (arith, has.1, none))

-- nor does a line that names one such line
pub rests_on_no_line : (lines : List LineValue) (gone : Places) (i j : ℕ) (c : Claim) (r : Rule)
    → slice_get lines i ≡ Some (line_of c r (j ∷ [])) → names_one gone (named_place r) ≡ false
    → ¬ RestsOnPlaces lines gone j → ¬ RestsOnPlaces lines gone i
rests_on_no_line lines gone i j c r found free below (chain, is) = go chain is
  where
    go : (chain : List ℕ) → IsChain lines gone i chain → ⊥
    go [] (m, there, names) =
        let one : m ≡ line_of c r (j ∷ []) = same_Some m (line_of c r (j ∷ [])) (sym there ∙ found) in
        let none : names_one gone (named_place m.rule) ≡ false = ap (λ (k : LineValue). names_one gone (named_place k.rule)) one ∙ free in
        absurd (cc (sym names ∙ none))
    go (p ∷ ps) ((m, there, has), rest) =
        let one : m ≡ line_of c r (j ∷ []) = same_Some m (line_of c r (j ∷ [])) (sym there ∙ found) in
        let among : Contains (j ∷ []) p = subst (λ (k : LineValue). Contains k.from p) one has in
        let same : p ≡ j = All-contains (λ q. q ≡ j) (j ∷ []) p (All-cons (λ q. q ≡ j) j [] refl (All-nil (λ q. q ≡ j))) among in
        below (ps, subst (λ q. IsChain lines gone q ps) same rest)

-- the reason of a slot that did not rest on what is taken out
pub reason_stays : (gone : Places) (old new : TableValue) (s : Slot) (c : Claim) (r : Rule) (from : List ℕ)
    → IsEntry s.1 → KeepsReasons gone old new → HasReason old s (line_of c r from)
    → ¬ RestsOnPlaces old.lines gone (reason_at old s)
    → (after : List ℕ) × HasReason new s (line_of c (lowered gone r) after)
reason_stays gone old new s c r from entry keeps had free =
    go (slice_get new.lines (reason_at new s)) refl
    (keeps s entry free ∙ ap (option_map (claim_and_lowered_rule gone)) had)
  where
    go : (o : Option LineValue) → slice_get new.lines (reason_at new s) ≡ o
        → option_map claim_and_rule o ≡ Some (c, lowered gone r)
        → (after : List ℕ) × HasReason new s (line_of c (lowered gone r) after)
    go None found is = absurd (none-some (c, lowered gone r) is)
    go (Some l) found is =
        let pair = same_Some (claim_and_rule l) (c, lowered gone r) is in
        (l.from, found ∙ ap Some (λ i. line_of (pair i).0 (pair i).1 l.from))

-- a reason that names no line
pub lone_reason_stays : (gone : Places) (old new : TableValue) (s : Slot) (c : Claim) (r : Rule) → IsEntry s.1
    → KeepsReasons gone old new → HasReason old s (line_of c r []) → names_one gone (named_place r) ≡ false
    → (after : List ℕ) × HasReason new s (line_of c (lowered gone r) after)
lone_reason_stays gone old new s c r entry keeps had free =
    reason_stays gone old new s c r [] entry keeps had
    (rests_on_nothing old.lines gone (reason_at old s) c r had free)

-- a slot has one reason
pub one_reason : (table : TableValue) (s : Slot) (l m : LineValue) → HasReason table s l → HasReason table s m → l ≡ m
one_reason table s l m first second = same_Some l m (sym first ∙ second)
