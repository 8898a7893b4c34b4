-- The codes of the rules whose constructions say how many words they make, and what constructions ask of the parts.
use Rattle.std.proofs.Common.{◌≡◌, ◌⊎◌, inl, inr, ℕ, ◌+◌, ◌-◌, ◌*◌, ◌/◌, ◌%◌, ◌^◌, ◌==◌, ◌<◌, ◌≤◌, min, List, [], ◌∷◌, length, Option, Some, None, Result, Ok, Err, IfOk, true, refl, sym, ap, ap₂, subst, ◌∙◌, arith, eqb-true, leb-true}
use Rattle.std.specs.Prelude.{not, cond, option_map, nat_le}
use Rattle.std.specs.Int.{div_ceil}
use Rattle.std.proofs.lemmas.Bool.{and_parts, lt-ltb}
use Rattle.ct_words.specs.declared.limits.TheConstants.{MAX_N}
use Rattle.ct_words.specs.declared.code.TheConstants.{MAX_CODE_DISTANCE}
use Rattle.ct_words.specs.declared.entry.Entry.{Entry}
use Rattle.ct_words.specs.Code.{CodeValue}
use Rattle.ct_words.specs.Entry.{unrestricted}
use Rattle.ct_words.specs.Constructions.Even.{even_from}
use Rattle.ct_words.specs.Constructions.Append.{lengthened, one_appended, with_parity}
use Rattle.ct_words.proofs.EntryLemmas.{WeightFits, entry_limits}
use Rattle.ct_words.proofs.Constructions.AppendLemmas.{length-lengthened, length-one_appended, length-with_parity}
use Rattle.ct_rule_parts.specs.declared.support.Support.{Support}
use Rattle.ct_rule_parts.specs.Parts.{RuleParts, has_weight, weight_of, half_up}
use Rattle.ct_rule_parts.proofs.Lawful.{defined_entry, defined_condition}
use Rattle.ct_rule_parts.proofs.PlainEntries.{no_weight, a_weight}
use Rattle.ct_rule_parts.proofs.WeightEntries.{weight_within}
use Rattle.ct_plain_rules.specs.OppositeWords.{opposite_words}
use Rattle.ct_plain_rules.specs.Lengthened.{lengthened_below}
use Rattle.ct_plain_rules.specs.WithParity.{parity_below}
use Rattle.ct_plain_rules.specs.Shortened.{shortened_below}
use Rattle.ct_plain_rules.specs.Uuv.{uuv}
use Rattle.ct_plain_rules.specs.Neighbours.{shorter, longer, farther, shorter_and_nearer, longer_and_farther, half_as_long}
use Rattle.ct_weight_rules.specs.Disjoint.{disjoint_below}
use Rattle.ct_weight_rules.specs.Lengthened.{lengthened_by_zero, lengthened_by_one}
use Rattle.ct_weight_rules.specs.JohnsonOne.{johnson_one_below}
use Rattle.ct_weight_rules.specs.JohnsonZero.{johnson_zero_below}
use Rattle.ct_weight_rules.specs.Neighbours.{zero_less, one_less, zero_more, one_more, two_farther, even_of_weight}
use Rattle.ct_weight_rules.specs.GrahamSloane.{graham_sloane}
use Rattle.ct_rules.specs.declared.rule.Rule.{Rule}
use Rattle.ct_rules.specs.declared.rule.Rule.TheVariants.{L1, L2, L3, L4, L5, L6, L7, L8, L9, L11, M1, M2, M3, M4, M5, M6, M8, M9}
use Rattle.ct_rules.specs.Rule.{parts_over, row_of}
use Rattle.ct_rule_codes.specs.CodeEntry.{entry_of_code}
use Rattle.ct_list.specs.Inside.Rows.{AreParts, IsMadeBy}
use Rattle.ct_list.proofs.Making.{IsRight, HasOnePart, HasTwoParts, made, made_of, parts_are, size_of_words, one_part, two_parts, as_many}
use Rattle.ct_list.proofs.RowCodes.{weight_of_entry, far_rests, twice}

-- what the parts are, as the rule and the parts are known
parts_of_row : (supports : List Support) (r q : Rule) (e : Entry) (codes known : List CodeValue) → r ≡ q → codes ≡ known
    → AreParts (parts_over supports r) e codes → AreParts (parts_over supports q) e known
parts_of_row supports r q e codes known is are parts =
    parts_are (parts_over supports q) e codes known are (subst (λ (s : Rule). AreParts (parts_over supports s) e codes) is parts)

-- what is right for the rule, with as many words as it says, is its code
row_made : {E : Type 0} (supports : List Support) (r q : Rule) (e : Entry) (codes known : List CodeValue) (res : Result CodeValue E) (n d : ℕ) (w : Option ℕ)
    (size : ℕ) → r ≡ q → codes ≡ known → IfOk res (λ (c : CodeValue). c.n ≡ n) → IfOk res (λ (c : CodeValue). c.d ≡ d)
    → IfOk res (λ (c : CodeValue). c.w ≡ w) → IfOk res (λ (c : CodeValue). length c.words ≡ size)
    → IsRight (parts_over supports q) e known n d w size → IfOk res (IsMadeBy (parts_over supports r) e codes)
row_made supports r q e codes known res n d w size is are same_n same_d same_w count right =
    subst (λ (s : Rule). IfOk res (IsMadeBy (parts_over supports s) e codes)) (sym is)
    (made_of (parts_over supports q) e codes known res are (made (parts_over supports q) e known res n d w size same_n same_d same_w count right))

-- what is known of the one part, and of two
part_of_row : (supports : List Support) (r q : Rule) (e x : Entry) (codes : List CodeValue) (part : CodeValue) → r ≡ q
    → (parts_over supports q).rests_on e ≡ x ∷ [] → AreParts (parts_over supports r) e codes → codes ≡ part ∷ []
    → HasOnePart (parts_over supports q) e x part
part_of_row supports r q e x codes part is rests parts only =
    one_part (parts_over supports q) e x part rests (parts_of_row supports r q e codes (part ∷ []) is only parts)

two_of_row : (supports : List Support) (r q : Rule) (e x y : Entry) (codes : List CodeValue) (first second : CodeValue) → r ≡ q
    → (parts_over supports q).rests_on e ≡ x ∷ y ∷ [] → AreParts (parts_over supports r) e codes → codes ≡ first ∷ second ∷ []
    → HasTwoParts (parts_over supports q) e x y first second
two_of_row supports r q e x y codes first second is rests parts both =
    two_parts (parts_over supports q) e x y first second rests (parts_of_row supports r q e codes (first ∷ second ∷ []) is both parts)

-- a part with a digit less leaves room for it
shorter_part : (p : RuleParts) (e x : Entry) (part : CodeValue) → HasOnePart p e x part → x.n ≡ e.n - 1 → part.n < MAX_N
shorter_part p e x part known is =
    let n = known.n in
    let some = known.entry.length_from in
    let most = known.entry.length_to in
    omega arith

-- a part with a digit more has at least two
longer_part : (p : RuleParts) (e x : Entry) (part : CodeValue) → HasOnePart p e x part → x.n ≡ e.n + 1 → 2 ≤ part.n
longer_part p e x part known is =
    let n = known.n in
    let some = known.entry.length_from in
    omega arith

-- L3 and M3: a 0 after each word
pub lengthened_room : (supports : List Support) (r : Rule) (e : Entry) (codes : List CodeValue) (part : CodeValue) → (r ≡ L3) ⊎ (r ≡ M3)
    → AreParts (parts_over supports r) e codes → codes ≡ part ∷ [] → part.n < MAX_N
unfolding row_of
lengthened_room supports r e codes part (inl is) parts only =
    shorter_part lengthened_below e (shorter e) part (part_of_row supports r L3 e (shorter e) codes part is refl parts only) refl
lengthened_room supports r e codes part (inr is) parts only =
    shorter_part lengthened_by_zero e (zero_less e) part (part_of_row supports r M3 e (zero_less e) codes part is refl parts only) refl

pub lengthened_made : {E : Type 0} (supports : List Support) (r : Rule) (e : Entry) (codes : List CodeValue) (part : CodeValue) (res : Result CodeValue E)
    → (r ≡ L3) ⊎ (r ≡ M3) → AreParts (parts_over supports r) e codes → codes ≡ part ∷ []
    → IfOk res (λ (c : CodeValue). c.n ≡ part.n + 1) → IfOk res (λ (c : CodeValue). c.d ≡ part.d) → IfOk res (λ (c : CodeValue). c.w ≡ part.w)
    → IfOk res (λ (c : CodeValue). c.words ≡ lengthened part.words) → IfOk res (IsMadeBy (parts_over supports r) e codes)
unfolding row_of
lengthened_made supports r e codes part res (inl is) parts only n d w words =
    let known = part_of_row supports r L3 e (shorter e) codes part is refl parts only in
    let same = known.n in
    let some = known.entry.length_from in
    row_made supports r L3 e codes (part ∷ []) res (part.n + 1) part.d part.w (length part.words) is only n d w
    (size_of_words res (lengthened part.words) (length part.words) (length-lengthened part.words) words)
    (record { same_n = omega arith; same_d = known.d; same_w = known.w ∙ sym (no_weight e known.condition); number = refl })
lengthened_made supports r e codes part res (inr is) parts only n d w words =
    let known = part_of_row supports r M3 e (zero_less e) codes part is refl parts only in
    let same = known.n in
    let some = known.entry.length_from in
    row_made supports r M3 e codes (part ∷ []) res (part.n + 1) part.d part.w (length part.words) is only n d w
    (size_of_words res (lengthened part.words) (length part.words) (length-lengthened part.words) words)
    (record { same_n = omega arith; same_d = known.d; same_w = known.w ∙ sym (weight_of_entry e known.condition); number = refl })

-- L5: with a parity digit
pub parity_room : (supports : List Support) (r : Rule) (e : Entry) (codes : List CodeValue) (part : CodeValue) → r ≡ L5
    → AreParts (parts_over supports r) e codes → codes ≡ part ∷ [] → part.n < MAX_N
unfolding row_of
parity_room supports r e codes part is parts only =
    shorter_part parity_below e (shorter_and_nearer e) part (part_of_row supports r L5 e (shorter_and_nearer e) codes part is refl parts only) refl

pub parity_made : {E : Type 0} (supports : List Support) (r : Rule) (e : Entry) (codes : List CodeValue) (part : CodeValue) (res : Result CodeValue E)
    → r ≡ L5 → AreParts (parts_over supports r) e codes → codes ≡ part ∷ []
    → IfOk res (λ (c : CodeValue). c.n ≡ part.n + 1) → IfOk res (λ (c : CodeValue). c.d ≡ even_from part.d)
    → IfOk res (λ (c : CodeValue). c.w ≡ option_map even_from part.w) → IfOk res (λ (c : CodeValue). c.words ≡ with_parity part.n part.words)
    → IfOk res (IsMadeBy (parts_over supports r) e codes)
unfolding row_of
parity_made supports r e codes part res is parts only n d w words =
    let known = part_of_row supports r L5 e (shorter_and_nearer e) codes part is refl parts only in
    let same = known.n in
    let same_d = known.d in
    let some = known.entry.length_from in
    let far = known.entry.distance_from in
    let both = and_parts (not (has_weight e)) (e.d % 2 == 0) known.condition in
    let even = eqb-true (e.d % 2) 0 both.1 in
    row_made supports r L5 e codes (part ∷ []) res (part.n + 1) (even_from part.d) (option_map even_from part.w) (length part.words) is only n d w
    (size_of_words res (with_parity part.n part.words) (length part.words) (length-with_parity part.n part.words) words)
    (record { same_n = omega arith; same_d = omega arith; same_w = ap (option_map even_from) known.w ∙ sym (no_weight e both.0); number = refl })

-- M4: a 1 after each word
pub one_more_room : (supports : List Support) (r : Rule) (e : Entry) (codes : List CodeValue) (part : CodeValue) → r ≡ M4
    → AreParts (parts_over supports r) e codes → codes ≡ part ∷ [] → part.n < MAX_N
unfolding row_of
one_more_room supports r e codes part is parts only =
    shorter_part lengthened_by_one e (one_less e) part (part_of_row supports r M4 e (one_less e) codes part is refl parts only) refl

pub one_more_made : {E : Type 0} (supports : List Support) (r : Rule) (e : Entry) (codes : List CodeValue) (part : CodeValue) (res : Result CodeValue E)
    → r ≡ M4 → AreParts (parts_over supports r) e codes → codes ≡ part ∷ []
    → IfOk res (λ (c : CodeValue). c.n ≡ part.n + 1) → IfOk res (λ (c : CodeValue). c.d ≡ part.d)
    → IfOk res (λ (c : CodeValue). c.w ≡ option_map (λ k. k + 1) part.w) → IfOk res (λ (c : CodeValue). c.words ≡ one_appended part.words)
    → IfOk res (IsMadeBy (parts_over supports r) e codes)
unfolding row_of
one_more_made supports r e codes part res is parts only n d w words =
    let known = part_of_row supports r M4 e (one_less e) codes part is refl parts only in
    let same = known.n in
    let some = known.entry.length_from in
    let both = and_parts (has_weight e) (nat_le 1 (weight_of e)) known.condition in
    let least = leb-true 1 (weight_of e) both.1 in
    let weight : weight_of e - 1 + 1 ≡ weight_of e = omega arith in
    row_made supports r M4 e codes (part ∷ []) res (part.n + 1) part.d (option_map (λ k. k + 1) part.w) (length part.words) is only n d w
    (size_of_words res (one_appended part.words) (length part.words) (length-one_appended part.words) words)
    (record {
      same_n = omega arith;
      same_d = known.d;
      same_w = ap (option_map (λ k. k + 1)) known.w ∙ ap Some weight ∙ sym (weight_of_entry e both.0);
      number = refl;
    })

-- L7: those with the commoner digit at a place, without it
pub half_long : (supports : List Support) (r : Rule) (e : Entry) (codes : List CodeValue) (part : CodeValue) → r ≡ L7
    → AreParts (parts_over supports r) e codes → codes ≡ part ∷ [] → 2 ≤ part.n
unfolding row_of
half_long supports r e codes part is parts only =
    longer_part shortened_below e (longer e) part (part_of_row supports r L7 e (longer e) codes part is refl parts only) refl

pub half_made : {E : Type 0} (supports : List Support) (r : Rule) (e : Entry) (codes : List CodeValue) (part : CodeValue) (res : Result CodeValue E)
    → r ≡ L7 → AreParts (parts_over supports r) e codes → codes ≡ part ∷ []
    → IfOk res (λ (c : CodeValue). c.n ≡ part.n - 1) → IfOk res (λ (c : CodeValue). c.d ≡ part.d) → IfOk res (λ (c : CodeValue). c.w ≡ None)
    → IfOk res (λ (c : CodeValue). length c.words ≡ half_up (length part.words)) → IfOk res (IsMadeBy (parts_over supports r) e codes)
unfolding row_of
half_made supports r e codes part res is parts only n d w count =
    let known = part_of_row supports r L7 e (longer e) codes part is refl parts only in
    let same = known.n in
    row_made supports r L7 e codes (part ∷ []) res (part.n - 1) part.d None (half_up (length part.words)) is only n d w count
    (record { same_n = omega arith; same_d = known.d; same_w = sym (no_weight e known.condition); number = refl })

-- M5: those with a one at a place, without it
pub with_one_long : (supports : List Support) (r : Rule) (e : Entry) (codes : List CodeValue) (part : CodeValue) → r ≡ M5
    → AreParts (parts_over supports r) e codes → codes ≡ part ∷ [] → 2 ≤ part.n
unfolding row_of
with_one_long supports r e codes part is parts only =
    longer_part johnson_one_below e (one_more e) part (part_of_row supports r M5 e (one_more e) codes part is refl parts only) refl

pub with_one_made : {E : Type 0} (supports : List Support) (r : Rule) (e : Entry) (codes : List CodeValue) (part : CodeValue) (res : Result CodeValue E) (k : ℕ)
    → r ≡ M5 → AreParts (parts_over supports r) e codes → codes ≡ part ∷ [] → k ≡ weight_of e
    → IfOk res (λ (c : CodeValue). c.n ≡ part.n - 1) → IfOk res (λ (c : CodeValue). c.d ≡ part.d) → IfOk res (λ (c : CodeValue). c.w ≡ Some (k + 1 - 1))
    → IfOk res (λ (c : CodeValue). length c.words ≡ div_ceil ((k + 1) * length part.words) part.n) → IfOk res (IsMadeBy (parts_over supports r) e codes)
unfolding row_of
with_one_made supports r e codes part res k is parts only k_is n d w count =
    let known = part_of_row supports r M5 e (one_more e) codes part is refl parts only in
    let same = known.n in
    let weight : k + 1 - 1 ≡ weight_of e = omega arith in
    row_made supports r M5 e codes (part ∷ []) res (part.n - 1) part.d (Some (k + 1 - 1)) (div_ceil ((k + 1) * length part.words) part.n) is only n d w count
    (record {
      same_n = omega arith;
      same_d = known.d;
      same_w = ap Some weight ∙ sym (weight_of_entry e known.condition);
      number = ap₂ (λ a b. Some (div_ceil ((a + 1) * length part.words) b)) (sym k_is) (sym known.n);
    })

-- M6: those with a zero at a place, without it
pub with_zero_long : (supports : List Support) (r : Rule) (e : Entry) (codes : List CodeValue) (part : CodeValue) → r ≡ M6
    → AreParts (parts_over supports r) e codes → codes ≡ part ∷ [] → 2 ≤ part.n
unfolding row_of
with_zero_long supports r e codes part is parts only =
    longer_part johnson_zero_below e (zero_more e) part (part_of_row supports r M6 e (zero_more e) codes part is refl parts only) refl

pub with_zero_zeros : (supports : List Support) (r : Rule) (e : Entry) (codes : List CodeValue) (part : CodeValue) (k : ℕ) → r ≡ M6
    → AreParts (parts_over supports r) e codes → codes ≡ part ∷ [] → k ≡ weight_of e → k < part.n
unfolding row_of
with_zero_zeros supports r e codes part k is parts only k_is =
    let known = part_of_row supports r M6 e (zero_more e) codes part is refl parts only in
    let same = known.n in
    let few = weight_within e known.is_entry (a_weight e known.condition) in
    omega arith

pub with_zero_made : {E : Type 0} (supports : List Support) (r : Rule) (e : Entry) (codes : List CodeValue) (part : CodeValue) (res : Result CodeValue E)
    (k : ℕ) → r ≡ M6 → AreParts (parts_over supports r) e codes → codes ≡ part ∷ [] → k ≡ weight_of e
    → IfOk res (λ (c : CodeValue). c.n ≡ part.n - 1) → IfOk res (λ (c : CodeValue). c.d ≡ part.d) → IfOk res (λ (c : CodeValue). c.w ≡ Some k)
    → IfOk res (λ (c : CodeValue). length c.words ≡ div_ceil ((part.n - k) * length part.words) part.n)
    → IfOk res (IsMadeBy (parts_over supports r) e codes)
unfolding row_of
with_zero_made supports r e codes part res k is parts only k_is n d w count =
    let known = part_of_row supports r M6 e (zero_more e) codes part is refl parts only in
    let same = known.n in
    row_made supports r M6 e codes (part ∷ []) res (part.n - 1) part.d (Some k) (div_ceil ((part.n - k) * length part.words) part.n) is only n d w count
    (record {
      same_n = omega arith;
      same_d = known.d;
      same_w = ap Some k_is ∙ sym (weight_of_entry e known.condition);
      number = ap₂ (λ a b. Some (div_ceil ((b - a) * length part.words) b)) (sym k_is) (sym known.n);
    })

-- L8 below distance 5
near_rests : (e : Entry) → e.d < 5 → uuv.rests_on e ≡ half_as_long e e.d ∷ []
near_rests e near =
    ap (λ b. cond b (half_as_long e e.d ∷ []) (half_as_long e (half_up e.d) ∷ half_as_long e e.d ∷ [])) (lt-ltb e.d 5 near)

pub near_count : (supports : List Support) (r : Rule) (e : Entry) (codes : List CodeValue) → r ≡ L8 → e.d < 5 → AreParts (parts_over supports r) e codes
    → length codes ≡ 1
unfolding row_of
near_count supports r e codes is near parts = as_many supports r L8 e codes is parts ∙ ap length (near_rests e near)

pub near_sums_made : {E : Type 0} (supports : List Support) (r : Rule) (e : Entry) (codes : List CodeValue) (part : CodeValue) (res : Result CodeValue E)
    → r ≡ L8 → e.d < 5 → AreParts (parts_over supports r) e codes → codes ≡ part ∷ []
    → IfOk res (λ (c : CodeValue). c.n ≡ 2 * part.n) → IfOk res (λ (c : CodeValue). c.d ≡ min 4 part.d) → IfOk res (λ (c : CodeValue). c.w ≡ None)
    → IfOk res (λ (c : CodeValue). length c.words ≡ 2 ^ (part.n - 1) * length part.words) → IfOk res (IsMadeBy (parts_over supports r) e codes)
unfolding row_of
near_sums_made supports r e codes part res is near parts only n d w count =
    let known = part_of_row supports r L8 e (half_as_long e e.d) codes part is (near_rests e near) parts only in
    let doubled = twice e known.condition in
    let even = doubled.even in
    let same = known.n in
    let same_d = known.d in
    let far = known.entry.distance_from in
    row_made supports r L8 e codes (part ∷ []) res (2 * part.n) (min 4 part.d) None (2 ^ (part.n - 1) * length part.words) is only n d w count
    (record {
      same_n = omega arith;
      same_d = omega arith;
      same_w = sym doubled.plain;
      number =
          ap (λ b. Some (cond b (2 ^ (e.n / 2 - 1) * length part.words) (length part.words * 0))) (lt-ltb e.d 5 near)
          ∙ ap (λ m. Some (2 ^ (m - 1) * length part.words)) (sym known.n);
    })

-- L8 from distance 5 on
pub far_count : (supports : List Support) (r : Rule) (e : Entry) (codes : List CodeValue) → r ≡ L8 → 5 ≤ e.d → AreParts (parts_over supports r) e codes
    → length codes ≡ 2
unfolding row_of
far_count supports r e codes is far parts = as_many supports r L8 e codes is parts ∙ ap length (far_rests e far)

pub far_lengths : (supports : List Support) (r : Rule) (e : Entry) (codes : List CodeValue) (first second : CodeValue) → r ≡ L8 → 5 ≤ e.d
    → AreParts (parts_over supports r) e codes → codes ≡ first ∷ second ∷ [] → (first.n ≡ second.n) × (2 * first.n ≤ MAX_N)
unfolding row_of
far_lengths supports r e codes first second is far parts both =
    let known = two_of_row supports r L8 e (half_as_long e (half_up e.d)) (half_as_long e e.d) codes first second is (far_rests e far) parts both in
    let n = known.first_n in
    let most = known.entry.length_to in
    (known.first_n ∙ sym known.second_n, omega arith)

-- L11: side by side
pub side_by_side_limits : (supports : List Support) (r : Rule) (m k : ℕ) (e : Entry) (codes : List CodeValue) (first second : CodeValue) → r ≡ L11 m k
    → AreParts (parts_over supports r) e codes → codes ≡ first ∷ second ∷ []
    → (first.n + second.n ≤ MAX_N) × (first.d + second.d ≤ MAX_CODE_DISTANCE)
unfolding row_of
side_by_side_limits supports r m k e codes first second is parts both =
    let known = two_of_row supports r (L11 m k) e (unrestricted m k) (unrestricted (e.n - m) (e.d - k)) codes first second is refl parts both in
    let n = known.first_n in
    let d = known.first_d in
    let other_n = known.second_n in
    let other_d = known.second_d in
    let some = known.other.length_from in
    let far = known.other.distance_from in
    let most = known.entry.length_to in
    let near = known.entry.distance_to in
    (omega arith, omega arith)

-- L2: two words
pub opposite_made : {E : Type 0} (supports : List Support) (r : Rule) (e : Entry) (codes : List CodeValue) (res : Result CodeValue E) → r ≡ L2
    → AreParts (parts_over supports r) e codes → IfOk res (λ (c : CodeValue). c.n ≡ e.n) → IfOk res (λ (c : CodeValue). c.d ≡ e.d)
    → IfOk res (λ (c : CodeValue). c.w ≡ None) → IfOk res (λ (c : CodeValue). length c.words ≡ 2) → IfOk res (IsMadeBy (parts_over supports r) e codes)
unfolding row_of
opposite_made supports r e codes res is parts n d w count =
    let here = parts_of_row supports r L2 e codes codes is refl parts in
    let both = and_parts (not (has_weight e)) (nat_le e.d e.n) (defined_condition opposite_words e here.defined) in
    row_made supports r L2 e codes codes res e.n e.d None 2 is refl n d w count
    (record { same_n = refl; same_d = refl; same_w = sym (no_weight e both.0); number = refl })

-- M2: words with no one in common
pub disjoint_made : {E : Type 0} (supports : List Support) (r : Rule) (e : Entry) (codes : List CodeValue) (res : Result CodeValue E) → r ≡ M2
    → AreParts (parts_over supports r) e codes → IfOk res (λ (c : CodeValue). c.n ≡ e.n) → IfOk res (λ (c : CodeValue). c.d ≡ 2 * (e.d / 2))
    → IfOk res (λ (c : CodeValue). c.w ≡ Some (e.d / 2)) → IfOk res (λ (c : CodeValue). length c.words ≡ e.n / (e.d / 2))
    → IfOk res (IsMadeBy (parts_over supports r) e codes)
unfolding row_of
disjoint_made supports r e codes res is parts n d w count =
    let here = parts_of_row supports r M2 e codes codes is refl parts in
    let both = and_parts (has_weight e) (weight_of e == e.d / 2) (defined_condition disjoint_below e here.defined) in
    let half = eqb-true (weight_of e) (e.d / 2) both.1 in
    let weighted = weight_of_entry e both.0 in
    let fits : WeightFits e (Some (weight_of e)) = subst (WeightFits e) weighted (entry_limits e (defined_entry disjoint_below e here.defined)).weight in
    let even = fits.0 in
    row_made supports r M2 e codes codes res e.n (2 * (e.d / 2)) (Some (e.d / 2)) (e.n / (e.d / 2)) is refl n d w count
    (record { same_n = refl; same_d = omega arith; same_w = ap Some (sym half) ∙ sym weighted; number = refl })

pub disjoint_limits : (supports : List Support) (r : Rule) (e : Entry) (codes : List CodeValue) → r ≡ M2 → AreParts (parts_over supports r) e codes
    → (1 ≤ e.d / 2) × (e.d / 2 ≤ e.n)
unfolding row_of
disjoint_limits supports r e codes is parts =
    let here = parts_of_row supports r M2 e codes codes is refl parts in
    let both = and_parts (has_weight e) (weight_of e == e.d / 2) (defined_condition disjoint_below e here.defined) in
    let half = eqb-true (weight_of e) (e.d / 2) both.1 in
    let entry = defined_entry disjoint_below e here.defined in
    let few = weight_within e entry (a_weight e both.0) in
    let far = (entry_limits e entry).distance_from in
    (omega arith, omega arith)

-- L6: a part with a digit more, and one place farther
pub punctured_limits : (supports : List Support) (r : Rule) (e : Entry) (codes : List CodeValue) (part : CodeValue) → r ≡ L6
    → AreParts (parts_over supports r) e codes → codes ≡ part ∷ [] → (1 < part.n) × (1 < part.d)
unfolding row_of
punctured_limits supports r e codes part is parts only =
    let known = part_of_row supports r L6 e (longer_and_farther e) codes part is refl parts only in
    let n = known.n in
    let d = known.d in
    let some = known.entry.length_from in
    let far = known.entry.distance_from in
    (omega arith, omega arith)

-- L8 below distance 5: sums are no longer than the entry
pub near_room : (supports : List Support) (r : Rule) (e : Entry) (codes : List CodeValue) (part : CodeValue) → r ≡ L8 → e.d < 5
    → AreParts (parts_over supports r) e codes → codes ≡ part ∷ [] → 2 * part.n ≤ MAX_N
unfolding row_of
near_room supports r e codes part is near parts only =
    let known = part_of_row supports r L8 e (half_as_long e e.d) codes part is (near_rests e near) parts only in
    let n = known.n in
    let most = known.entry.length_to in
    omega arith

-- L4, L9 and M8: a part whose weight is none, or the same
pub nearer_weight : (supports : List Support) (r : Rule) (e : Entry) (codes : List CodeValue) (part : CodeValue)
    → (r ≡ L4) ⊎ (((w : ℕ) × (r ≡ L9 w)) ⊎ (r ≡ M8)) → AreParts (parts_over supports r) e codes → codes ≡ part ∷ [] → (e.w ≡ None) ⊎ (e.w ≡ part.w)
unfolding row_of
nearer_weight supports r e codes part (inl is) parts only =
    let known = part_of_row supports r L4 e (farther e) codes part is refl parts only in
    inl (no_weight e known.condition)
nearer_weight supports r e codes part (inr (inl (w, is))) parts only =
    let known = part_of_row supports r (L9 w) e (even_of_weight e w) codes part is refl parts only in
    inl (no_weight e known.condition)
nearer_weight supports r e codes part (inr (inr is)) parts only =
    let known = part_of_row supports r M8 e (two_farther e) codes part is refl parts only in
    inr (weight_of_entry e known.condition ∙ sym known.w)

-- L1 and M1: one word
pub one_word_made : {E : Type 0} (supports : List Support) (r : Rule) (e : Entry) (codes : List CodeValue) (res : Result CodeValue E)
    → (r ≡ L1) ⊎ (r ≡ M1) → IfOk res (λ (c : CodeValue). entry_of_code c ≡ e) → IfOk res (λ (c : CodeValue). length c.words ≡ 1)
    → IfOk res (IsMadeBy (parts_over supports r) e codes)
unfolding row_of
one_word_made supports r e codes (Ok c) (inl is) entry count =
    subst (λ (s : Rule). IsMadeBy (parts_over supports s) e codes c) (sym is) (record { entry = entry; size = ap Some (sym count) })
one_word_made supports r e codes (Ok c) (inr is) entry count =
    subst (λ (s : Rule). IsMadeBy (parts_over supports s) e codes c) (sym is) (record { entry = entry; size = ap Some (sym count) })
one_word_made supports r e codes (Err fault) is entry count = tt

-- M9: a sum class
pub class_defined : (supports : List Support) (r : Rule) (k : ℕ) (e : Entry) (codes : List CodeValue) → r ≡ M9 k
    → AreParts (parts_over supports r) e codes → (graham_sloane k).condition e ≡ true
unfolding row_of
class_defined supports r k e codes is parts =
    defined_condition (graham_sloane k) e (parts_of_row supports r (M9 k) e codes codes is refl parts).defined

pub class_made : {E : Type 0} (supports : List Support) (r : Rule) (k : ℕ) (e : Entry) (codes : List CodeValue) (res : Result CodeValue E) → r ≡ M9 k
    → IfOk res (λ (c : CodeValue). entry_of_code c ≡ e) → IfOk res (λ (c : CodeValue). (graham_sloane k).number e [] ≡ Some (length c.words))
    → IfOk res (IsMadeBy (parts_over supports r) e codes)
unfolding row_of
class_made supports r k e codes (Ok c) is entry count =
    subst (λ (s : Rule). IsMadeBy (parts_over supports s) e codes c) (sym is) (record { entry = entry; size = count })
class_made supports r k e codes (Err fault) is entry count = tt
