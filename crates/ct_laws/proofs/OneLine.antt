-- Bounds that one line explains, and pieces that no line needs.
use Rattle.std.proofs.Common.{◌≡◌, ℕ, Option, None, [], ◌∷◌, length, refl, ap, arith}
use Rattle.std.specs.List.{cons_option}
use Rattle.ct_words.specs.declared.entry.Entry.{Entry}
use Rattle.ct_words.specs.declared.claim.Side.{Side}
use Rattle.ct_rule_parts.specs.Slot.{claim_at}
use Rattle.ct_rules.specs.declared.rule.Rule.{Rule}
use Rattle.ct_rules.specs.Rule.{named_place}
use Rattle.ct_rules.specs.Derivation.{LineValue, Follows, IsBest}
use Rattle.ct_rules.proofs.Derivations.{derivation-nil, derivation-push}
use Rattle.ct_derive.specs.Derivation.{DerivationValue}
use Rattle.ct_derive.specs.Pieces.{cited_places, IsNeeded}
use Rattle.ct_derive.specs.Pieces.IsNeeded.{by_line, by_piece}
use Rattle.ct_explain.specs.Explained.{ExplainsBest}

-- a bound of an entry by a rule that rests on nothing
abbrev pub lone_line : Side → Entry → ℕ → Rule → LineValue
lone_line side e v r = record { claim = claim_at (side, e) v; rule = r; from = [] }

-- as a derivation that needs no piece
abbrev pub lone : Side → Entry → ℕ → Rule → DerivationValue
lone side e v r = record { pieces = []; lines = lone_line side e v r ∷ [] }

never_needed : (l : LineValue) (p : ℕ) → named_place l.rule ≡ None → IsNeeded [] (l ∷ []) p → ⊥
never_needed l p none (by_line q has) =
    let within = has.1 in
    let empty : length (cited_places (l ∷ [])) ≡ 0 = ap (λ (o : Option ℕ). length (cons_option o [])) none in
    absurd (omega (arith, within, empty))
never_needed l p none (by_piece q r needed has) = never_needed l q none needed

-- it explains the bound, where this is the best
pub lone_explains : (side : Side) (e : Entry) (v : ℕ) (r : Rule) → named_place r ≡ None → IsBest [] (side, e) v → Follows [] [] (lone_line side e v r)
    → ExplainsBest [] side e (lone side e v r)
lone_explains side e v r none best follows = record {
  value = v;
  best = best;
  lines = record {
    derivation = derivation-push [] [] (lone_line side e v r) (derivation-nil []) follows;
    ends = refl;
    different = λ i j d before within. absurd (omega (arith, before, within));
    named = λ i within. absurd (omega (arith, within));
  };
  needed = record {
    ascending = λ k within. absurd (omega (arith, within));
    needed = λ p. ((λ has. absurd (let within = has.1 in omega (arith, within))), (λ need. absurd (never_needed (lone_line side e v r) p none need)));
  };
}
