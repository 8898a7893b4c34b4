-- Bounds that are shown where a lower and an upper bound of one value are derived, and such derivations that are known.
use Rattle.std.proofs.Common.{◌≡◌, ℕ, ◌&&◌, true, cond, List, [], Some, None, refl, ap, ◌∙◌}
use Rattle.std.proofs.lemmas.List.Elements.{All-nil}
use Rattle.ct_words.specs.declared.entry.Entry.{Entry}
use Rattle.ct_words.specs.declared.claim.Side.TheVariants.{Lower, Upper}
use Rattle.ct_words.specs.Entry.{IsEntry, unrestricted, constant_weight}
use Rattle.ct_words.specs.Counting.Binomials.{choose}
use Rattle.ct_rules.specs.declared.rule.Rule.TheVariants.{M1, V0}
use Rattle.ct_rules.specs.Derivation.{IsDerived}
use Rattle.ct_rules.specs.Rule.{row_of, applies}
use Rattle.ct_rules.proofs.JoinedDerivations.{derived_by_rule}
use Rattle.ct_rule_parts.specs.Parts.{within_limit}
use Rattle.ct_rule_parts.specs.Slot.{claim_at}
use Rattle.ct_rule_parts.specs.Support.{Stands, AllStand}
use Rattle.ct_rules.proofs.BestValues.{best_is_true, equal_is_best}
use Rattle.ct_laws.proofs.KnownClaims.{four_from_below, four_from_above}
use Rattle.ct_piece.specs.Piece.{PieceValue}
use Rattle.ct_piece.specs.Supports.{supports_of}
use Rattle.ct_session.specs.Reply.{AreBoundsOf}

-- where both are derived, they are shown
pub equal_bounds : (pieces : List PieceValue) (e : Entry) (v : ℕ) → AllStand (supports_of pieces) → IsDerived (supports_of pieces) (claim_at (Lower, e) v) → IsDerived (supports_of pieces) (claim_at (Upper, e) v)
    → AreBoundsOf pieces e (record { entry = e; lower = v; upper = v })
equal_bounds pieces e v stand lower upper =
    let best = equal_is_best (supports_of pieces) e v stand lower upper in
    record {
      entry = refl;
      lower = record { best = best.0; truth = best_is_true (supports_of pieces) (Lower, e) v stand best.0 };
      upper = record { best = best.1; truth = best_is_true (supports_of pieces) (Upper, e) v stand best.1 };
    }

-- with no support A(5,3) is 4
pub four_at_five : AreBoundsOf [] (unrestricted 5 3) (record { entry = unrestricted 5 3; lower = 4; upper = 4 })
four_at_five = equal_bounds [] (unrestricted 5 3) 4 (All-nil Stands) four_from_below four_from_above

-- with no support A(n,d,w) is 1 where one word alone has the weight
pub one_word_alone : (n d w : ℕ) → IsEntry (constant_weight n d w) → choose n w ≡ 1
    → AreBoundsOf [] (constant_weight n d w) (record { entry = constant_weight n d w; lower = 1; upper = 1 })
unfolding row_of
one_word_alone n d w is alone =
    let e : Entry = constant_weight n d w in
    let here : applies [] M1 e ≡ true = ap (λ b. b && true && true) is in
    let there : applies [] V0 e ≡ true = ap (λ b. b && true && true) is in
    equal_bounds [] e 1 (All-nil Stands)
    (derived_by_rule [] M1 e [] 1 (ap (λ b. cond b (Some []) None) here) (All-nil (IsDerived [])) (ap (λ b. cond b (Some 1) None) here))
    (derived_by_rule [] V0 e [] 1 (ap (λ b. cond b (Some []) None) there) (All-nil (IsDerived []))
    (ap (λ b. cond b (within_limit Upper (Some (choose n w))) None) there ∙ ap (λ (c : ℕ). within_limit Upper (Some c)) alone))
