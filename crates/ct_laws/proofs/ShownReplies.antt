-- Replies over the same pieces, beside each other.
use Rattle.std.proofs.Common.{◌≡◌, ℕ, List, All, length, Option, Some, None, sym, subst, ◌∙◌}
use Rattle.ct_words.specs.declared.entry.Entry.{Entry}
use Rattle.ct_words.specs.Claim.{IsTrueClaim}
use Rattle.ct_words.specs.Code.{CodeValue, IsSoundCode, IsTrueUpper}
use Rattle.ct_words.specs.declared.claim.Side.{Side}
use Rattle.ct_words.specs.declared.claim.Side.TheVariants.{Lower, Upper}
use Rattle.ct_rules.specs.Derivation.{IsBest}
use Rattle.ct_rules.proofs.ClosedBounds.{best_is_one}
use Rattle.ct_derive.specs.Derivation.{DerivationValue}
use Rattle.ct_derive.specs.Explanation.{IsExplanation}
use Rattle.ct_explain.specs.Explained.{explanation_text}
use Rattle.ct_explain.proofs.ExplainedBounds.{lines_are_true}
use Rattle.ct_piece.specs.Piece.{PieceValue}
use Rattle.ct_piece.specs.Standing.{AreStanding}
use Rattle.ct_piece.specs.Supports.{supports_of}
use Rattle.ct_rule_codes.specs.CodeEntry.{entry_of_code}
use Rattle.ct_session.specs.Reply.{AreBoundsOf, IsShowReply, IsExplainReply, IsListReply}
use Rattle.ct_replies.specs.Text.{listed_text}
use Rattle.ct_replies.specs.declared.reply.Bounds.{Bounds}
use Rattle.ct_replies.specs.declared.reply.Reply.{Reply}
use Rattle.ct_replies.specs.declared.reply.Reply.TheVariants.{Shown, Lines}
use Rattle.ct_laws.specs.GreatestSize.{IsGreatestSize}
use Rattle.ct_laws.specs.Sides.{bound_on}

-- the bounds that are shown are those of the entry
pub bounds_shown : (pieces : List PieceValue) (e : Entry) (b : Bounds) → IsShowReply pieces (Some e) (Shown b) → AreBoundsOf pieces e b
bounds_shown pieces e b h = let same : b ≡ h.bounds = cc in subst (AreBoundsOf pieces e) (sym same) h.of_entry

-- the best bound on a side is the one that is shown
best_shown : (pieces : List PieceValue) (side : Side) (e : Entry) (b : Bounds) (v : ℕ) → AreBoundsOf pieces e b → IsBest (supports_of pieces) (side, e) v → v ≡ bound_on side b
best_shown pieces Lower e b v h best = best_is_one (supports_of pieces) (Lower, e) v b.lower best h.lower.best
best_shown pieces Upper e b v h best = best_is_one (supports_of pieces) (Upper, e) v b.upper best h.upper.best

pub explained_shown : (pieces : List PieceValue) (side : Side) (o : Option Entry) (b : Bounds) (r : Reply) → AreStanding pieces → IsShowReply pieces o (Shown b) → IsExplainReply pieces side o r
    → (d : DerivationValue) × IsExplanation (supports_of pieces) (side, b.entry) (bound_on side b) d.lines × (r ≡ Lines (explanation_text pieces d)) × All (λ l. IsTrueClaim l.claim) d.lines
explained_shown pieces side None b r stand h k = absurd cc
explained_shown pieces side (Some e) b r stand h k =
    let of_entry = bounds_shown pieces e b h in
    let d = k.derivation in
    let same = best_shown pieces side e b k.explains.value of_entry k.explains.best in
    let lines = subst (λ (v : ℕ). IsExplanation (supports_of pieces) (side, e) v d.lines) same k.explains.lines in (
      d,
      subst (λ (f : Entry). IsExplanation (supports_of pieces) (side, f) (bound_on side b) d.lines) (sym of_entry.entry) lines,
      k.shown,
      lines_are_true pieces side e d stand k.explains,
    )

-- a code that is listed is as large as the lower bound that is shown
pub listed_shown : (pieces : List PieceValue) (o : Option Entry) (b : Bounds) (r : Reply) → IsShowReply pieces o (Shown b) → IsListReply pieces o r
    → (c : CodeValue) × IsSoundCode c × (entry_of_code c ≡ b.entry) × (length c.words ≡ b.lower) × (r ≡ Lines (listed_text c))
listed_shown pieces None b r h k = absurd cc
listed_shown pieces (Some e) b r h k =
    let of_entry = bounds_shown pieces e b h in (
      k.code,
      k.listed.sound,
      k.listed.entry ∙ sym of_entry.entry,
      best_shown pieces Lower e b (length k.code.words) of_entry k.listed.best,
      k.shown,
    )

-- bounds that are equal are the greatest size
pub equal_exact : (pieces : List PieceValue) (e : Entry) (b : Bounds) → AreBoundsOf pieces e b → b.lower ≡ b.upper → IsGreatestSize e b.lower
equal_exact pieces e b h same = record {
  reached = h.lower.truth.truth;
  greatest = subst (IsTrueUpper e) (sym same) h.upper.truth.truth;
}

-- where they are shown, those of the entry that they name
pub exact_shown : (pieces : List PieceValue) (o : Option Entry) (b : Bounds) → IsShowReply pieces o (Shown b) → b.lower ≡ b.upper → IsGreatestSize b.entry b.lower
exact_shown pieces None b h same = absurd cc
exact_shown pieces (Some e) b h same =
    let of_entry = bounds_shown pieces e b h in
    subst (λ (f : Entry). IsGreatestSize f b.lower) (sym of_entry.entry) (equal_exact pieces e b of_entry same)
