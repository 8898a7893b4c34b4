-- A dual that stands gives its bound to the table, or that parity may exclude a number of words by it, or its local bound.
use Rattle.std.proofs.Common.{◌≡◌, ℕ, List, take, get_or, Option, Some, sym, ap, subst, ◌∙◌, codes}
use Rattle.std.specs.Prelude.{slice_get}
use Rattle.std.proofs.lemmas.Option.{slice_get-get_or, slice_get_within}
use Rattle.ct_duals.specs.declared.dual.Dual.{Dual}
use Rattle.ct_duals.specs.declared.fault.DualFault.{DualFault}
use Rattle.ct_duals.specs.Check.{dual_fault}
use Rattle.ct_duals.proofs.Faults.{none-from_below}
use Rattle.ct_words.specs.Numbers.{numbers_of, combination}
use Rattle.ct_rule_parts.specs.declared.support.Support.TheVariants.{Bound, Odd, Local}
use Rattle.ct_kind.specs.declared.evidence.Evidence.{Evidence}
use Rattle.ct_kind.specs.declared.evidence.Evidence.TheVariants as evidence
use Rattle.ct_files.specs.ByKind.{kind_of, IsChecked}
use Rattle.ct_dual_files.specs.DualKind.{with_at_zero, dual_support, IsDualChecked}
use Rattle.ct_laws.proofs.DualReasons.{odd_gives, local_gives}
use Rattle.ct_piece.specs.Piece.{PieceValue}
use Rattle.ct_piece.specs.Codes.{codes_of}
use Rattle.ct_piece.specs.Standing.{AreStanding}
use Rattle.ct_piece.specs.Supports.{support_of}
use Rattle.ct_pieces.proofs.PartLemmas.{IsPlaced, placed, Some-piece}

-- what is known of a piece that stands
pub placed_piece : (ps : List PieceValue) (k : ℕ) (p : PieceValue) → AreStanding ps → slice_get ps k ≡ Some p → IsPlaced ps k p
placed_piece ps k p h read =
    let below = slice_get_within ps k p read in
    placed ps k p h.made below (Some-piece p (get_or ps k p) (sym read ∙ slice_get-get_or ps k p below))

-- what is asked of its evidence, which is this
checked_as : (ps : List PieceValue) (k : ℕ) (p : PieceValue) (e : Evidence) → AreStanding ps → slice_get ps k ≡ Some p → p.evidence ≡ e
    → IsChecked (codes_of (take k ps)) e
checked_as ps k p e h read is = subst (IsChecked (codes_of (take k ps))) is (placed_piece ps k p h read).states.checked

-- what a dual gives that is as the check asks
bound_given : (d : Dual) → IsDualChecked d → dual_support (dual_fault (numbers_of d.entry) d) d ≡ Bound (with_at_zero d)
bound_given d checked = ap (λ (reason : Option DualFault). dual_support reason d) (none-from_below (numbers_of d.entry) d checked.0 checked.1)

pub gives_bound : (ps : List PieceValue) (k : ℕ) (p : PieceValue) (d : Dual) → AreStanding ps → slice_get ps k ≡ Some p
    → p.evidence ≡ evidence.Dual d → support_of p ≡ Bound (record { dual = d; at_zero = combination (numbers_of d.entry) d.c 0 })
gives_bound ps k p d h read is =
    ap (λ (e : Evidence). (kind_of e).gives p.size) is ∙ bound_given d (checked_as ps k p (evidence.Dual d) h read is)

pub gives_johnson_bound : (ps : List PieceValue) (k : ℕ) (p : PieceValue) (d : Dual) → AreStanding ps → slice_get ps k ≡ Some p
    → p.evidence ≡ evidence.JohnsonDual d → support_of p ≡ Bound (record { dual = d; at_zero = combination (numbers_of d.entry) d.c 0 })
gives_johnson_bound ps k p d h read is =
    ap (λ (e : Evidence). (kind_of e).gives p.size) is ∙ bound_given d (checked_as ps k p (evidence.JohnsonDual d) h read is)

pub gives_odd : (ps : List PieceValue) (k : ℕ) (p : PieceValue) (d : Dual) (m : ℕ) → AreStanding ps → slice_get ps k ≡ Some p
    → p.evidence ≡ evidence.Odd d m → support_of p ≡ Odd (record { dual = d; at_zero = combination (numbers_of d.entry) d.c 0 }) m
gives_odd ps k p d m h read is =
    ap (λ (e : Evidence). (kind_of e).gives p.size) is
    ∙ odd_gives (codes "odd") d m p.size (checked_as ps k p (evidence.Odd d m) h read is)

pub gives_local : (ps : List PieceValue) (k : ℕ) (p : PieceValue) (d : Dual) → AreStanding ps → slice_get ps k ≡ Some p
    → p.evidence ≡ evidence.JohnsonLocal d → support_of p ≡ Local (record { dual = d; at_zero = combination (numbers_of d.entry) d.c 0 })
gives_local ps k p d h read is =
    ap (λ (e : Evidence). (kind_of e).gives p.size) is
    ∙ local_gives (codes "jlocal") d p.size (checked_as ps k p (evidence.JohnsonLocal d) h read is)
