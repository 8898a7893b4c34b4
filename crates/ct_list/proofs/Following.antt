-- The code of a line, made of the codes of the lines that it names.
use Rattle.std.proofs.Common.{◌≡◌, ℕ, ◌<◌, nat_le, List, [], ◌∷◌, length, take, map, All, Option, Some, option_map, refl, sym, ap, ap₂, subst, ◌∙◌}
use Rattle.std.specs.Prelude.{slice_get}
use Rattle.std.specs.List.{cons_option}
use Rattle.std.proofs.lemmas.Option.{cond_some}
use Rattle.std.proofs.lemmas.List.Elements.{All-head, All-tail}
use Rattle.ct_words.specs.declared.limits.TheConstants.{MAX_BOUND}
use Rattle.ct_words.specs.declared.entry.Entry.{Entry}
use Rattle.ct_words.specs.declared.claim.Side.{Side}
use Rattle.ct_words.specs.declared.claim.Side.TheVariants.{Lower}
use Rattle.ct_words.specs.declared.claim.Claim.{Claim}
use Rattle.ct_words.specs.Code.{CodeValue}
use Rattle.ct_rule_parts.specs.declared.support.Support.{Support}
use Rattle.ct_rule_parts.specs.Parts.{slots_on, within_limit}
use Rattle.ct_rule_parts.specs.Slot.{Slot, slot_of}
use Rattle.ct_rules.specs.Rule.{rule_side, parts_over}
use Rattle.ct_rules.specs.Derivation.{LineValue, claims_at, Follows}
use Rattle.ct_rules.proofs.Applied.{applies_from_premises, premises-defined, value-given}
use Rattle.ct_derive.proofs.PrunedLines.{get_of_take}
use Rattle.ct_rule_codes.specs.CodeEntry.{entry_of_code}
use Rattle.ct_list.specs.Inside.Kept.{IsCodeFor, AreCodesFor}
use Rattle.ct_list.specs.Inside.Rows.{sizes, AreParts, IsMadeBy}

-- codes for claims are of their entries, with as many words as they say
record AreOfClaims (claims : List Claim) (codes : List CodeValue) : Type 0 where
  entries : map entry_of_code codes ≡ map (λ (c : Claim). c.entry) claims
  values : sizes codes ≡ map (λ (c : Claim). c.value) claims

of_claims : (lines : List LineValue) (places : List ℕ) (codes : List CodeValue) → AreCodesFor lines places codes
    → AreOfClaims (claims_at lines places) codes
of_claims lines [] [] h = record { entries = refl; values = refl }
of_claims lines [] (c ∷ cs) h = absurd h
of_claims lines (p ∷ ps) [] h = absurd h
of_claims lines (p ∷ ps) (c ∷ cs) ((l, at, is), rest) =
    let others = of_claims lines ps cs rest in
    let claims = claims_at lines ps in
    let named : cons_option (Some l.claim) claims ≡ cons_option (option_map (λ (m : LineValue). m.claim) (slice_get lines p)) claims =
    ap (λ (o : Option LineValue). cons_option (option_map (λ (m : LineValue). m.claim) o) claims) (sym at) in
    record {
      entries = ap₂ (λ (e : Entry) (es : List Entry). e ∷ es) is.entry others.entries ∙ ap (map (λ (c : Claim). c.entry)) named;
      values = ap₂ (λ (v : ℕ) (vs : List ℕ). v ∷ vs) is.size others.values ∙ ap (map (λ (c : Claim). c.value)) named;
    }

-- the entries of slots
entries_of_slots : (side : Side) (es : List Entry) → map (λ (s : Slot). s.1) (slots_on side es) ≡ es
entries_of_slots side [] = refl
entries_of_slots side (e ∷ es) = ap (λ (rest : List Entry). e ∷ rest) (entries_of_slots side es)

entries_of_claims : (claims : List Claim) → map (λ (s : Slot). s.1) (map slot_of claims) ≡ map (λ (c : Claim). c.entry) claims
entries_of_claims [] = refl
entries_of_claims (c ∷ claims) = ap (λ (rest : List Entry). c.entry ∷ rest) (entries_of_claims claims)

-- codes for the lines that a line names are the parts of its rule's code
pub parts_of_line : (supports : List Support) (before : List LineValue) (line : LineValue) (codes : List CodeValue) → Follows supports before line
    → AreCodesFor before line.from codes → AreParts (parts_over supports line.rule) line.claim.entry codes
parts_of_line supports before line codes follows known =
    let r = line.rule in
    let e = line.claim.entry in
    let claims = claims_at before line.from in
    let premises = premises-defined supports r e (map slot_of claims) follows.premises in
    let rests = sym (entries_of_slots (rule_side r) ((parts_over supports r).rests_on e)) ∙ ap (map (λ (s : Slot). s.1)) premises.1 ∙ entries_of_claims claims in
    record {
      defined = applies_from_premises supports r e (map slot_of claims) follows.premises;
      entries = (of_claims before line.from codes known).entries ∙ sym rests;
    }

-- a lower bound within the limit is the number itself
within_is : (side : Side) (x v : ℕ) → side ≡ Lower → within_limit side (Some x) ≡ Some v → x ≡ v
within_is side x v lower is =
    (cond_some (nat_le x MAX_BOUND) x v (subst (λ (s : Side). within_limit s (Some x) ≡ Some v) lower is)).1

-- the code of its rule is one for its claim
pub code_of_line : (supports : List Support) (before : List LineValue) (line : LineValue) (codes : List CodeValue) (c : CodeValue)
    → Follows supports before line → rule_side line.rule ≡ Lower → AreCodesFor before line.from codes
    → IsMadeBy (parts_over supports line.rule) line.claim.entry codes c → IsCodeFor line.claim c
code_of_line supports before line codes c follows lower known made =
    let r = line.rule in
    let e = line.claim.entry in
    let values = map (λ (c : Claim). c.value) (claims_at before line.from) in
    let given = value-given supports r e values line.claim.value follows.value in
    let number = ap ((parts_over supports r).number e) (sym (of_claims before line.from codes known).values) ∙ made.size in
    record {
      entry = made.entry;
      size = within_is (rule_side r) (length c.words) line.claim.value lower (sym (ap (within_limit (rule_side r)) number) ∙ given);
    }

-- codes for lines are codes for them among those before a place
pub codes_before : (lines : List LineValue) (n : ℕ) (places : List ℕ) (codes : List CodeValue) → All (λ p. p < n) places → AreCodesFor lines places codes
    → AreCodesFor (take n lines) places codes
codes_before lines n [] [] below h = tt
codes_before lines n [] (c ∷ cs) below h = absurd h
codes_before lines n (p ∷ ps) [] below h = absurd h
codes_before lines n (p ∷ ps) (c ∷ cs) below ((l, at, is), rest) = (
  (l, get_of_take lines n p (All-head (λ q. q < n) p ps below) ∙ at, is),
  codes_before lines n ps cs (All-tail (λ q. q < n) p ps below) rest,
)
