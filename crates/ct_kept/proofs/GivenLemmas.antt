-- What the rules that rest on nothing give, worked out.
use Rattle.std.proofs.Common.{◌≡◌, ℕ, ◌^◌, Bool, true, ◌&&◌, if◌then◌else◌, [], Option, Some, None, refl, sym, ap, ap₂, ◌∙◌}
use Rattle.std.specs.Option.{unwrap_or}
use Rattle.std.specs.Prelude.{not, is_some, nat_le, nat_lt, false}
use Rattle.ct_words.specs.Counting.Binomials.{choose}
use Rattle.ct_words.specs.declared.claim.Side.TheVariants.{Lower, Upper}
use Rattle.ct_words.specs.declared.entry.Entry.{Entry}
use Rattle.ct_words.specs.Entry.{IsEntry, is_entry, unrestricted}
use Rattle.ct_words.proofs.EntryLemmas.{entry_limits, entry_from_limits}
use Rattle.ct_elementary.specs.Bounds.{plotkin_value, sphere_packing_value}
use Rattle.ct_rule_parts.specs.Parts.{has_weight, within_limit}
use Rattle.ct_weight_rules.specs.Disjoint.{has_disjoint_words, count_of_disjoint}
use Rattle.ct_weight_rules.specs.FarWords.{has_no_far_words}
use Rattle.ct_weight_rules.specs.ColumnPairs.{below_too_many}
use Rattle.ct_rules.specs.declared.rule.Rule.TheVariants.{L1, L2, M1, M2, U0, U1, U2, U3, V0, V1, V2, V8}
use Rattle.ct_rules.specs.Rule.{row_of, value_of}

-- where a test passes that another one passes too
through : {X : Type 0} (h b : Bool) (o : Option X) → h ≡ true → (if h && b && true then o else None) ≡ (if b then o else None)
through h true o is = ap (λ a. if a && true && true then o else None) is
through h false o is = ap (λ a. if a && false && true then o else None) is

plain : (e : Entry) (b : Bool) → e.w ≡ None → (not (has_weight e) && b) ≡ b
plain e b none = ap (λ w. not (is_some w) && b) none

weighted : (e : Entry) (k : ℕ) (b : Bool) → e.w ≡ Some k → (has_weight e && b) ≡ b
weighted e k b some = ap (λ w. is_some w && b) some

pub one_given : (e : Entry) → IsEntry e → e.w ≡ None → Some 1 ≡ value_of [] L1 e []
unfolding row_of
one_given e entry none = sym (ap₂ (λ a w. if a && not (is_some w) && true then Some 1 else None) entry none)

pub two_given : (e : Entry) → IsEntry e → e.w ≡ None → (if nat_le e.d e.n then Some 2 else None) ≡ value_of [] L2 e []
unfolding row_of
two_given e entry none =
    sym (ap (λ b. if is_entry e && b && true then Some 2 else None) (plain e (nat_le e.d e.n) none)
    ∙ through (is_entry e) (nat_le e.d e.n) (Some 2) entry)

pub word_given : (e : Entry) (k : ℕ) → IsEntry e → e.w ≡ Some k → Some 1 ≡ value_of [] M1 e []
unfolding row_of
word_given e k entry some = sym (ap₂ (λ a w. if a && is_some w && true then Some 1 else None) entry some)

pub disjoint_given : (e : Entry) → IsEntry e
    → (if has_disjoint_words e then within_limit Lower (Some (count_of_disjoint e)) else None) ≡ value_of [] M2 e []
unfolding row_of
disjoint_given e entry = sym (through (is_entry e) (has_disjoint_words e) (within_limit Lower (Some (count_of_disjoint e))) entry)

pub all_given : (e : Entry) → IsEntry e → e.w ≡ None → within_limit Upper (Some (2 ^ e.n)) ≡ value_of [] U0 e []
unfolding row_of
all_given e entry none = sym (ap₂ (λ a w. if a && not (is_some w) && true then within_limit Upper (Some (2 ^ e.n)) else None) entry none)

far_number : (n d : ℕ) (b : Bool) → nat_lt n d ≡ b
    → (if b then within_limit Upper (if nat_lt n d then Some 1 else None) else None) ≡ (if b then Some 1 else None)
far_number n d true is = ap (λ b. within_limit Upper (if b then Some 1 else None)) is
far_number n d false is = refl

pub far_given : (e : Entry) → IsEntry e → e.w ≡ None → (if nat_lt e.n e.d then Some 1 else None) ≡ value_of [] U1 e []
unfolding row_of
far_given e entry none =
    sym (ap (λ b. if is_entry e && b && true then within_limit Upper (if nat_lt e.n e.d then Some 1 else None) else None) (plain e (nat_lt e.n e.d) none)
    ∙ through (is_entry e) (nat_lt e.n e.d) (within_limit Upper (if nat_lt e.n e.d then Some 1 else None)) entry
    ∙ far_number e.n e.d (nat_lt e.n e.d) refl)

pub choose_given : (e : Entry) (k : ℕ) → IsEntry e → e.w ≡ Some k → within_limit Upper (Some (choose e.n k)) ≡ value_of [] V0 e []
unfolding row_of
choose_given e k entry some =
    sym (ap₂ (λ a (w : Option ℕ). if a && is_some w && true then within_limit Upper (Some (choose e.n (unwrap_or w 0))) else None) entry some)

pub no_far_given : (e : Entry) → IsEntry e → (if has_no_far_words e then Some 1 else None) ≡ value_of [] V1 e []
unfolding row_of
no_far_given e entry = sym (through (is_entry e) (has_no_far_words e) (Some 1) entry)

pub disjoint_above_given : (e : Entry) → IsEntry e
    → (if has_disjoint_words e then within_limit Upper (Some (count_of_disjoint e)) else None) ≡ value_of [] V2 e []
unfolding row_of
disjoint_above_given e entry = sym (through (is_entry e) (has_disjoint_words e) (within_limit Upper (Some (count_of_disjoint e))) entry)

some_number : (o : Option ℕ) → (if is_some o then within_limit Upper o else None) ≡ within_limit Upper o
some_number None = refl
some_number (Some x) = refl

pub pairs_given : (e : Entry) (k : ℕ) → IsEntry e → e.w ≡ Some k → within_limit Upper (below_too_many e) ≡ value_of [] V8 e []
unfolding row_of
pairs_given e k entry some =
    sym (ap (λ b. if is_entry e && b && true then within_limit Upper (below_too_many e) else None) (weighted e k (is_some (below_too_many e)) some)
    ∙ through (is_entry e) (is_some (below_too_many e)) (within_limit Upper (below_too_many e)) entry
    ∙ some_number (below_too_many e))

pub distances_given : (e : Entry) → IsEntry e → e.w ≡ None → within_limit Upper (plotkin_value e.n e.d) ≡ value_of [] U2 e []
unfolding row_of
distances_given e entry none =
    let count = plotkin_value e.n e.d in
    sym (ap (λ b. if is_entry e && b && true then within_limit Upper count else None) (plain e (is_some count) none)
    ∙ through (is_entry e) (is_some count) (within_limit Upper count) entry
    ∙ some_number count)

pub balls_given : (e : Entry) → IsEntry e → e.w ≡ None → within_limit Upper (Some (sphere_packing_value e.n e.d)) ≡ value_of [] U3 e []
unfolding row_of
balls_given e entry none =
    sym (ap₂ (λ a w. if a && not (is_some w) && true then within_limit Upper (Some (sphere_packing_value e.n e.d)) else None) entry none)

-- an entry, without its weight
pub plain_entry : (e : Entry) → IsEntry e → IsEntry (unrestricted e.n e.d)
plain_entry e entry =
    let limits = entry_limits e entry in
    entry_from_limits (unrestricted e.n e.d) limits.length_from limits.length_to limits.distance_from limits.distance_to tt
