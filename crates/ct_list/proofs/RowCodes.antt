-- The rules whose constructions say which words they make, and not how many: that these are just as many as the rule says.
use Rattle.std.proofs.Common.{◌≡◌, ℕ, ◌+◌, ◌-◌, ◌*◌, ◌/◌, ◌%◌, ◌^◌, ◌==◌, ◌≤◌, min, List, [], ◌∷◌, length, true, Some, None, Result, IfOk, refl, sym, ap, subst, ◌∙◌, arith, eqb-true}
use Rattle.std.specs.Prelude.{not, cond, option_map, IsPermutation}
use Rattle.std.proofs.lemmas.Bool.{and_parts, le-ltb}
use Rattle.ct_words.specs.declared.entry.Entry.{Entry}
use Rattle.ct_words.specs.Code.{CodeValue}
use Rattle.ct_words.specs.Entry.{unrestricted}
use Rattle.ct_words.specs.Constructions.Juxtaposed.{juxtaposed, added_weights}
use Rattle.ct_words.specs.Constructions.Punctured.{punctured}
use Rattle.ct_words.specs.Constructions.Translation.{complemented}
use Rattle.ct_words.specs.Constructions.Uuv.{uuv_words}
use Rattle.ct_words.proofs.Constructions.JuxtaposedCodes.{length-juxtaposed}
use Rattle.ct_words.proofs.Constructions.PuncturedCodes.{length-punctured}
use Rattle.ct_words.proofs.Constructions.TranslationLemmas.{length-complemented}
use Rattle.ct_words.proofs.Constructions.UuvCodes.{length-uuv_words}
use Rattle.ct_rule_parts.specs.declared.support.Support.{Support}
use Rattle.ct_rule_parts.specs.Parts.{has_weight, weight_of, half_up}
use Rattle.ct_rule_parts.proofs.PlainEntries.{Weightless, no_weight, a_weight}
use Rattle.ct_rule_parts.proofs.WeightEntries.{weight_is, weight_within}
use Rattle.ct_plain_rules.specs.Punctured.{punctured_below}
use Rattle.ct_plain_rules.specs.Uuv.{uuv}
use Rattle.ct_plain_rules.specs.Juxtaposition.{juxtaposition}
use Rattle.ct_plain_rules.specs.Neighbours.{longer_and_farther, half_as_long}
use Rattle.ct_weight_rules.specs.Complemented.{complemented_below}
use Rattle.ct_weight_rules.specs.Neighbours.{complementary}
use Rattle.ct_rules.specs.declared.rule.Rule.{Rule}
use Rattle.ct_rules.specs.declared.rule.Rule.TheVariants.{L6, L8, L11, M7}
use Rattle.ct_rules.specs.Rule.{parts_over, row_of}
use Rattle.ct_list.specs.Inside.Rows.{AreParts, IsMadeBy}
use Rattle.ct_list.proofs.Making.{IsRight, made, made_of, parts_are, size_of_words, size_of_moved, one_part, two_parts}

-- L6: without the first place
pub punctured-right : (e : Entry) (part : CodeValue) → AreParts punctured_below e (part ∷ [])
    → IsRight punctured_below e (part ∷ []) (part.n - 1) (part.d - 1) None (length part.words)
punctured-right e part parts =
    let known = one_part punctured_below e (longer_and_farther e) part refl parts in
    let n = known.n in
    let d = known.d in
    record { same_n = omega arith; same_d = omega arith; same_w = sym (no_weight e known.condition); number = refl }

-- L11: side by side
pub juxtaposition-right : (m k : ℕ) (e : Entry) (first second : CodeValue) → AreParts (juxtaposition m k) e (first ∷ second ∷ [])
    → IsRight (juxtaposition m k) e (first ∷ second ∷ []) (first.n + second.n) (first.d + second.d) (added_weights first.w second.w)
    (min (length first.words) (length second.words))
juxtaposition-right m k e first second parts =
    let known = two_parts (juxtaposition m k) e (unrestricted m k) (unrestricted (e.n - m) (e.d - k)) first second refl parts in
    let n = known.first_n in
    let d = known.first_d in
    let other_n = known.second_n in
    let other_d = known.second_d in
    let some = known.other.length_from in
    let far = known.other.distance_from in
    record {
      same_n = omega arith;
      same_d = omega arith;
      same_w = ap (λ w. added_weights w second.w) known.first_w ∙ sym (no_weight e known.condition);
      number = refl;
    }

-- the condition of L8
pub record IsTwice (e : Entry) : Type 0 where
  pub plain : Weightless e
  pub even : 2 * (e.n / 2) ≡ e.n

pub twice : (e : Entry) → uuv.condition e ≡ true → IsTwice e
twice e condition =
    let both = and_parts (not (has_weight e)) (e.n % 2 == 0) condition in
    let even = eqb-true (e.n % 2) 0 both.1 in
    record { plain = no_weight e both.0; even = omega arith }

-- L8 from distance 5 on
pub far_rests : (e : Entry) → 5 ≤ e.d → uuv.rests_on e ≡ half_as_long e (half_up e.d) ∷ half_as_long e e.d ∷ []
far_rests e far =
    ap (λ b. cond b (half_as_long e e.d ∷ []) (half_as_long e (half_up e.d) ∷ half_as_long e e.d ∷ [])) (le-ltb e.d 5 far)

pub far_sums-right : (e : Entry) (first second : CodeValue) → 5 ≤ e.d → AreParts uuv e (first ∷ second ∷ [])
    → IsRight uuv e (first ∷ second ∷ []) (2 * first.n) (min (2 * first.d) second.d) None (length first.words * length second.words)
far_sums-right e first second far parts =
    let known = two_parts uuv e (half_as_long e (half_up e.d)) (half_as_long e e.d) first second (far_rests e far) parts in
    let is = twice e known.condition in
    let n = known.first_n in
    let d = known.first_d in
    let other_d = known.second_d in
    let even = is.even in
    record {
      same_n = omega arith;
      same_d = omega arith;
      same_w = sym is.plain;
      number =
          ap (λ b. Some (cond b (2 ^ (e.n / 2 - 1) * length first.words) (length first.words * length second.words))) (le-ltb e.d 5 far);
    }

-- the weight of an entry that has one
pub weight_of_entry : (e : Entry) → has_weight e ≡ true → e.w ≡ Some (weight_of e)
weight_of_entry e has = weight_is e (a_weight e has)

-- M7: each digit turned
pub complemented-right : (e : Entry) (part : CodeValue) → AreParts complemented_below e (part ∷ [])
    → IsRight complemented_below e (part ∷ []) part.n part.d (option_map (λ k. part.n - k) part.w) (length part.words)
complemented-right e part parts =
    let known = one_part complemented_below e (complementary e) part refl parts in
    let few = weight_within e known.is_entry (a_weight e known.condition) in
    let n = known.n in
    let weight : part.n - (e.n - weight_of e) ≡ weight_of e = omega arith in
    record {
      same_n = known.n;
      same_d = known.d;
      same_w = ap (option_map (λ k. part.n - k)) known.w ∙ ap Some weight ∙ sym (weight_of_entry e known.condition);
      number = refl;
    }

-- L6, as the code that its rule says there is
pub punctured_made : {E : Type 0} (supports : List Support) (r : Rule) (e : Entry) (codes : List CodeValue) (part : CodeValue) (res : Result CodeValue E)
    → r ≡ L6 → AreParts (parts_over supports r) e codes → codes ≡ part ∷ []
    → IfOk res (λ (c : CodeValue). c.n ≡ part.n - 1) → IfOk res (λ (c : CodeValue). c.d ≡ part.d - 1) → IfOk res (λ (c : CodeValue). c.w ≡ None)
    → IfOk res (λ (c : CodeValue). IsPermutation (punctured part.n (0 ∷ []) part.words) c.words) → IfOk res (IsMadeBy (parts_over supports r) e codes)
unfolding row_of
punctured_made supports r e codes part res is parts only n d w words =
    subst (λ (q : Rule). IfOk res (IsMadeBy (parts_over supports q) e codes)) (sym is)
    (made_of punctured_below e codes (part ∷ []) res only
    (made punctured_below e (part ∷ []) res (part.n - 1) (part.d - 1) None (length part.words) n d w
    (size_of_moved res (punctured part.n (0 ∷ []) part.words) (length part.words) (length-punctured part.n (0 ∷ []) part.words) words)
    (punctured-right e part
    (parts_are punctured_below e codes (part ∷ []) only (subst (λ (q : Rule). AreParts (parts_over supports q) e codes) is parts)))))

-- L8 from distance 5 on
pub far_sums_made : {E : Type 0} (supports : List Support) (r : Rule) (e : Entry) (codes : List CodeValue) (first second : CodeValue) (res : Result CodeValue E)
    → r ≡ L8 → 5 ≤ e.d → AreParts (parts_over supports r) e codes → codes ≡ first ∷ second ∷ []
    → IfOk res (λ (c : CodeValue). c.n ≡ 2 * first.n) → IfOk res (λ (c : CodeValue). c.d ≡ min (2 * first.d) second.d)
    → IfOk res (λ (c : CodeValue). c.w ≡ None) → IfOk res (λ (c : CodeValue). IsPermutation (uuv_words first.n first.words second.words) c.words)
    → IfOk res (IsMadeBy (parts_over supports r) e codes)
unfolding row_of
far_sums_made supports r e codes first second res is far parts both n d w words =
    subst (λ (q : Rule). IfOk res (IsMadeBy (parts_over supports q) e codes)) (sym is)
    (made_of uuv e codes (first ∷ second ∷ []) res both
    (made uuv e (first ∷ second ∷ []) res (2 * first.n) (min (2 * first.d) second.d) None (length first.words * length second.words) n d w
    (size_of_moved res (uuv_words first.n first.words second.words) (length first.words * length second.words) (length-uuv_words first.n first.words second.words) words)
    (far_sums-right e first second far
    (parts_are uuv e codes (first ∷ second ∷ []) both (subst (λ (q : Rule). AreParts (parts_over supports q) e codes) is parts)))))

-- L11
pub juxtaposition_made : {E : Type 0} (supports : List Support) (r : Rule) (m k : ℕ) (e : Entry) (codes : List CodeValue) (first second : CodeValue)
    (res : Result CodeValue E) → r ≡ L11 m k → AreParts (parts_over supports r) e codes → codes ≡ first ∷ second ∷ []
    → IfOk res (λ (c : CodeValue). c.n ≡ first.n + second.n) → IfOk res (λ (c : CodeValue). c.d ≡ first.d + second.d)
    → IfOk res (λ (c : CodeValue). c.w ≡ added_weights first.w second.w) → IfOk res (λ (c : CodeValue). c.words ≡ juxtaposed second.n first.words second.words)
    → IfOk res (IsMadeBy (parts_over supports r) e codes)
unfolding row_of
juxtaposition_made supports r m k e codes first second res is parts both n d w words =
    subst (λ (q : Rule). IfOk res (IsMadeBy (parts_over supports q) e codes)) (sym is)
    (made_of (juxtaposition m k) e codes (first ∷ second ∷ []) res both
    (made (juxtaposition m k) e (first ∷ second ∷ []) res (first.n + second.n) (first.d + second.d) (added_weights first.w second.w)
    (min (length first.words) (length second.words)) n d w
    (size_of_words res (juxtaposed second.n first.words second.words) (min (length first.words) (length second.words))
    (length-juxtaposed second.n first.words second.words) words)
    (juxtaposition-right m k e first second
    (parts_are (juxtaposition m k) e codes (first ∷ second ∷ []) both (subst (λ (q : Rule). AreParts (parts_over supports q) e codes) is parts)))))

-- M7
pub complemented_made : {E : Type 0} (supports : List Support) (r : Rule) (e : Entry) (codes : List CodeValue) (part : CodeValue) (res : Result CodeValue E)
    → r ≡ M7 → AreParts (parts_over supports r) e codes → codes ≡ part ∷ []
    → IfOk res (λ (c : CodeValue). c.n ≡ part.n) → IfOk res (λ (c : CodeValue). c.d ≡ part.d)
    → IfOk res (λ (c : CodeValue). c.w ≡ option_map (λ k. part.n - k) part.w)
    → IfOk res (λ (c : CodeValue). IsPermutation (complemented part.n part.words) c.words) → IfOk res (IsMadeBy (parts_over supports r) e codes)
unfolding row_of
complemented_made supports r e codes part res is parts only n d w words =
    subst (λ (q : Rule). IfOk res (IsMadeBy (parts_over supports q) e codes)) (sym is)
    (made_of complemented_below e codes (part ∷ []) res only
    (made complemented_below e (part ∷ []) res part.n part.d (option_map (λ k. part.n - k) part.w) (length part.words) n d w
    (size_of_moved res (complemented part.n part.words) (length part.words) (length-complemented part.n part.words) words)
    (complemented-right e part
    (parts_are complemented_below e codes (part ∷ []) only (subst (λ (q : Rule). AreParts (parts_over supports q) e codes) is parts)))))
