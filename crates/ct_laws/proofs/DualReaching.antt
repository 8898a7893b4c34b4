-- A dual that stands is reached by the table's bound of its entry.
use Rattle.std.proofs.Common.{◌≡◌, ℕ, ◌≤◌, List, map, All, Some, option_map, ap, subst, ◌∙◌}
use Rattle.std.specs.Prelude.{slice_get}
use Rattle.std.proofs.lemmas.Option.{slice_get-map, slice_get_within, get_or_from_slice_get}
use Rattle.ct_words.specs.declared.claim.Claim.{Claim}
use Rattle.ct_words.specs.declared.claim.Side.TheVariants.{Upper}
use Rattle.ct_words.specs.Numbers.{numbers_of, combination}
use Rattle.ct_duals.specs.declared.dual.Dual.{Dual}
use Rattle.ct_duals.specs.Bound.{AcceptedValue, dual_premises, dual_bound}
use Rattle.ct_rule_parts.specs.declared.support.Support.{Support}
use Rattle.ct_rule_parts.specs.declared.support.Support.TheVariants.{Bound}
use Rattle.ct_rule_parts.specs.Parts.{slots_on}
use Rattle.ct_rule_parts.specs.Slot.{slot_of}
use Rattle.ct_rule_parts.specs.Support.{Stands}
use Rattle.ct_rules.specs.Derivation.{IsDerived, IsBest}
use Rattle.ct_laws.proofs.GivenDuals.{dual-reached}
use Rattle.ct_kind.specs.declared.evidence.Evidence.TheVariants as evidence
use Rattle.ct_piece.specs.Piece.{PieceValue}
use Rattle.ct_piece.specs.Standing.{AreStanding}
use Rattle.ct_piece.specs.Supports.{support_of, supports_of}
use Rattle.ct_laws.proofs.DualSupports.{gives_bound, gives_johnson_bound}
use Rattle.ct_piece.proofs.SupportLemmas.{supports_stand}

-- what a piece that stands gives is the support at its place, and stands
pub given_there : (ps : List PieceValue) (k : ℕ) (p : PieceValue) (s : Support) → AreStanding ps → slice_get ps k ≡ Some p → support_of p ≡ s
    → (slice_get (supports_of ps) k ≡ Some s) × Stands s
given_there ps k p s h read gives =
    let at : slice_get (supports_of ps) k ≡ Some s =
    slice_get-map support_of ps k ∙ ap (option_map support_of) read ∙ ap (λ (t : Support). Some t) gives in
    let within = slice_get_within (supports_of ps) k s at in
    (at, subst Stands (get_or_from_slice_get (supports_of ps) k s s at) (supports_stand ps h k s within))

-- the best upper bound of the entry of a dual that stands is no greater than the dual's bound, from whatever upper bounds are derived of what it rests on
dual-reached_by : (ps : List PieceValue) (k : ℕ) (p : PieceValue) (a : AcceptedValue) (claims : List Claim) (v : ℕ) → AreStanding ps → slice_get ps k ≡ Some p
    → support_of p ≡ Bound a → map slot_of claims ≡ slots_on Upper (dual_premises a.dual) → All (IsDerived (supports_of ps)) claims
    → IsBest (supports_of ps) (Upper, a.dual.entry) v → v ≤ dual_bound a.dual a.at_zero (map (λ c. c.value) claims)
dual-reached_by ps k p a claims v h read gives premises each best =
    let there = given_there ps k p (Bound a) h read gives in
    dual-reached (supports_of ps) k a claims v there.1 there.0 premises each best

pub bound_reached : (ps : List PieceValue) (k : ℕ) (p : PieceValue) (d : Dual) (claims : List Claim) (v : ℕ) → AreStanding ps → slice_get ps k ≡ Some p
    → p.evidence ≡ evidence.Dual d → map slot_of claims ≡ slots_on Upper (dual_premises d) → All (IsDerived (supports_of ps)) claims
    → IsBest (supports_of ps) (Upper, d.entry) v → v ≤ dual_bound d (combination (numbers_of d.entry) d.c 0) (map (λ c. c.value) claims)
bound_reached ps k p d claims v h read is premises each best =
    dual-reached_by ps k p (record { dual = d; at_zero = combination (numbers_of d.entry) d.c 0 }) claims v h read (gives_bound ps k p d h read is) premises each best

pub johnson_bound_reached : (ps : List PieceValue) (k : ℕ) (p : PieceValue) (d : Dual) (claims : List Claim) (v : ℕ) → AreStanding ps → slice_get ps k ≡ Some p
    → p.evidence ≡ evidence.JohnsonDual d → map slot_of claims ≡ slots_on Upper (dual_premises d) → All (IsDerived (supports_of ps)) claims
    → IsBest (supports_of ps) (Upper, d.entry) v → v ≤ dual_bound d (combination (numbers_of d.entry) d.c 0) (map (λ c. c.value) claims)
johnson_bound_reached ps k p d claims v h read is premises each best =
    dual-reached_by ps k p (record { dual = d; at_zero = combination (numbers_of d.entry) d.c 0 }) claims v h read (gives_johnson_bound ps k p d h read is) premises each best
