-- The rules that lines state are of the sides that the lines state.
use Rattle.std.proofs.Common.{◌≡◌, ℕ, Bool, true, false, cond, List, [], ◌∷◌, drop, Option, Some, None, option_map, refl, sym, ap, ◌∙◌}
use Rattle.std.specs.Option.{option_and_then}
use Rattle.std.specs.Str.{bytes_eq}
use Rattle.std.specs.Prelude.{codes, IfSome}
use Rattle.ct_words.specs.declared.claim.Side.{Side}
use Rattle.ct_words.specs.declared.claim.Claim.{Claim}
use Rattle.ct_text.specs.Number.{number_of}
use Rattle.ct_rule_parts.specs.Parts.{RuleParts}
use Rattle.ct_rules.specs.declared.rule.Rule.{Rule}
use Rattle.ct_rules.specs.declared.arguments.Arguments.{Arguments}
use Rattle.ct_rules.specs.declared.arguments.Arguments.TheVariants.{Nothing, Number, Numbers, Place}
use Rattle.ct_rules.specs.Rule.{rule_side, arguments_of, with_arguments, with_place}
use Rattle.ct_rules.specs.Listing.{rule_named}
use Rattle.ct_rules.proofs.RuleNames.{argued-side, rule_named-is}
use Rattle.ct_rules.proofs.LawfulRows.{parts_of-placed}
use Rattle.ct_piece.specs.Piece.{PieceValue, place_of_id}
use Rattle.ct_verify.specs.Stated.{resolved}
use Rattle.ct_verify.specs.Inside.StatedRule.{first_argument, second_argument, first_id, numbered, citing, with_words, stated_rule}
use Rattle.ct_text.specs.Side.{side_of_word}
use Rattle.ct_verify.specs.Stated.{entry_of_words}
use Rattle.ct_verify.specs.Inside.StatedLine.{StatedLineValue, bound_of_word, premises_of_words, claim_of, line_from, with_rule, with_reason, with_value, line_of}
use Rattle.ct_verify.specs.declared.stated_rule.StatedRule.{StatedRule}

-- nothing is not something
nothing : {X : Type 0} (x : X) → None ≡ Some x → ⊥
nothing x h = absurd cc

-- where something comes of it, there was something
mapped : {X Y : Type 0} (f : X → Y) (o : Option X) (y : Y) → option_map f o ≡ Some y → (x : X) × (f x ≡ y)
mapped f None y h = absurd cc
mapped f (Some x) y h = (x, cc)

side_from : (side : Side) (s r : StatedRule) → s ≡ r → rule_side s.rule ≡ side → rule_side r.rule ≡ side
side_from side s r same of = ap (λ (q : StatedRule). rule_side q.rule) (sym same) ∙ of

same_rule : (s r : StatedRule) → Some s ≡ Some r → s ≡ r
same_rule s r h = cc

-- arguments change no side
with_words-side : (rule : Rule) (arguments : Arguments) (words : List (List ℕ)) (r : StatedRule) → with_words rule arguments words ≡ Some r
    → rule_side r.rule ≡ rule_side rule
with_words-side rule Nothing words r h = side_from (rule_side rule) (numbered 0 rule) r (same_rule (numbered 0 rule) r h) refl
with_words-side rule (Number k) words r h =
    let found = mapped (λ (n : ℕ). numbered 1 (with_arguments rule (Number n))) (first_argument words) r h in
    side_from (rule_side rule) (numbered 1 (with_arguments rule (Number found.0))) r found.1 (argued-side rule (Number found.0))
with_words-side rule (Numbers k m) words r h = go (first_argument words) h where
  go : (o : Option ℕ) → option_and_then (λ (n : ℕ). option_map (λ (m : ℕ). numbered 2 (with_arguments rule (Numbers n m))) (second_argument words)) o ≡ Some r
      → rule_side r.rule ≡ rule_side rule
  go None e = absurd cc
  go (Some n) e =
      let found = mapped (λ (m : ℕ). numbered 2 (with_arguments rule (Numbers n m))) (second_argument words) r e in
      side_from (rule_side rule) (numbered 2 (with_arguments rule (Numbers n found.0))) r found.1 (argued-side rule (Numbers n found.0))
with_words-side rule (Place place) words r h =
    let found = mapped (citing rule) (first_id words) r h in
    side_from (rule_side rule) (citing rule found.0) r found.1 refl

stated_rule-side : (side : Side) (name : List ℕ) (words : List (List ℕ)) (r : StatedRule) → stated_rule side name words ≡ Some r → rule_side r.rule ≡ side
stated_rule-side side name words r h = go (rule_named side name) refl h where
  go : (o : Option Rule) → rule_named side name ≡ o → option_and_then (λ rule. with_words rule (arguments_of rule) words) o ≡ Some r → rule_side r.rule ≡ side
  go None is e = absurd cc
  go (Some rule) is e = with_words-side rule (arguments_of rule) words r e ∙ (rule_named-is side name rule is).1.0

-- a line whose rule is of its side
abbrev pub HasItsSide : StatedLineValue → Type 0
HasItsSide l = rule_side l.rule.rule ≡ l.claim.side

line_from-side : (number : Option ℕ) (claim : Claim) (rule : StatedRule) (from : Option (List ℕ)) (l : StatedLineValue) → rule_side rule.rule ≡ claim.side → line_from number claim rule from ≡ Some l → HasItsSide l
line_from-side None claim rule from l of h = absurd cc
line_from-side (Some number) claim rule None l of h = absurd cc
line_from-side (Some number) claim rule (Some from) l of h =
    let line : StatedLineValue = record { number = number; claim = claim; rule = rule; from = from } in
    let same : line ≡ l = cc in
    ap (λ (k : StatedLineValue). rule_side k.rule.rule) (sym same) ∙ of ∙ ap (λ (k : StatedLineValue). k.claim.side) same

with_rule-side : (number : Option ℕ) (claim : Claim) (rule : Option StatedRule) (words : List (List ℕ)) (l : StatedLineValue) → ((r : StatedRule) → rule ≡ Some r → rule_side r.rule ≡ claim.side)
    → with_rule number claim rule words ≡ Some l → HasItsSide l
with_rule-side number claim None words l of h = absurd cc
with_rule-side number claim (Some rule) words l of h = line_from-side number claim rule (premises_of_words (drop rule.arguments words)) l (of rule refl) h

with_reason-side : (number : Option ℕ) (claim : Option Claim) (words : List (List ℕ)) (l : StatedLineValue) → with_reason number claim words ≡ Some l → HasItsSide l
with_reason-side number None words l h = absurd cc
with_reason-side number (Some claim) [] l h = absurd cc
with_reason-side number (Some claim) (word ∷ []) l h = absurd cc
with_reason-side number (Some claim) (word ∷ name ∷ words) l h = at (bytes_eq word (codes "by")) h where
  at : (b : Bool) → cond b (with_rule number claim (stated_rule claim.side name words) words) None ≡ Some l → HasItsSide l
  at true e = with_rule-side number claim (stated_rule claim.side name words) words l (stated_rule-side claim.side name words) e
  at false e = absurd cc

with_value-side : (number side : List ℕ) (entry words : List (List ℕ)) (l : StatedLineValue) → with_value number side entry words ≡ Some l → HasItsSide l
with_value-side number side entry [] l h = absurd (nothing l h)
with_value-side number side entry (word ∷ []) l h = absurd (nothing l h)
with_value-side number side entry (word ∷ value ∷ words) l h = at (bytes_eq word (codes "value")) h where
  at : (b : Bool) → cond b (with_reason (number_of number) (claim_of (side_of_word side) (entry_of_words entry) (bound_of_word value)) words) None ≡ Some l
      → HasItsSide l
  at true e = with_reason-side (number_of number) (claim_of (side_of_word side) (entry_of_words entry) (bound_of_word value)) words l e
  at false e = absurd (nothing l e)

-- the rule of a stated line is of the side of its claim
pub line_of-side : (words : List (List ℕ)) (l : StatedLineValue) → line_of words ≡ Some l → HasItsSide l
line_of-side [] l h = absurd cc
line_of-side (number ∷ []) l h = absurd cc
line_of-side (number ∷ side ∷ []) l h = absurd cc
line_of-side (number ∷ side ∷ n ∷ []) l h = absurd cc
line_of-side (number ∷ side ∷ n ∷ d ∷ []) l h = absurd cc
line_of-side (number ∷ side ∷ n ∷ d ∷ word ∷ words) l h = at (bytes_eq word (codes "value")) h where
  at : (b : Bool) → cond b (with_value number side (n ∷ d ∷ []) (word ∷ words)) (with_value number side (n ∷ d ∷ word ∷ []) words) ≡ Some l → HasItsSide l
  at true e = with_value-side number side (n ∷ d ∷ []) (word ∷ words) l e
  at false e = with_value-side number side (n ∷ d ∷ word ∷ []) words l e

-- the place of a piece changes no side
pub resolved-side : (pieces : List PieceValue) (rule : Rule) (id : Option (List ℕ)) (r : Rule) → resolved pieces rule id ≡ Some r → rule_side r ≡ rule_side rule
resolved-side pieces rule None r h = let same : rule ≡ r = cc in ap rule_side (sym same)
resolved-side pieces rule (Some id) r h =
    let found = mapped (with_place rule) (place_of_id id pieces) r h in
    ap rule_side (sym found.1) ∙ ap (λ (p : RuleParts). p.side) (parts_of-placed rule found.0 None)

pub resolved-sides : (pieces : List PieceValue) (rule : Rule) (id : Option (List ℕ)) (side : Side) (o : Option Rule) → o ≡ resolved pieces rule id → rule_side rule ≡ side
    → IfSome o (λ r. side ≡ rule_side r)
resolved-sides pieces rule id side None is of = tt
resolved-sides pieces rule id side (Some r) is of = sym (resolved-side pieces rule id r (sym is) ∙ of)

-- so are the rules of all lines that words state
pub line_of-sides : (words : List (List ℕ)) (line : Option StatedLineValue) → line ≡ line_of words → IfSome line HasItsSide
line_of-sides words None is = tt
line_of-sides words (Some l) is = line_of-side words l (sym is)
