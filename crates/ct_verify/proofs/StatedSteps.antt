-- What the words of a line state, as its parts are met.
use Rattle.std.proofs.Common.{◌≡◌, ℕ, ◌-◌, ◌≤◌, Bool, true, cond, List, [], ◌∷◌, length, map, take, drop, take_all, get_or, Option, Some, None, sym, ap, ◌∙◌, arith}
use Rattle.std.specs.Prelude.{codes}
use Rattle.std.specs.Str.{bytes_eq}
use Rattle.ct_words.specs.declared.claim.Claim.{Claim}
use Rattle.ct_text.specs.Number.{number_of}
use Rattle.ct_text.specs.Side.{side_of_word}
use Rattle.ct_verify.specs.Inside.StatedRule.{stated_rule}
use Rattle.ct_verify.specs.declared.stated_rule.StatedRule.{StatedRule}
use Rattle.ct_verify.specs.Stated.{entry_of_words}
use Rattle.ct_verify.specs.Inside.StatedLine.{bound_of_word, claim_of, with_rule, with_reason, with_value}

-- all words but the first two
without_two : {A : Type 0} (first second : A) (words : List A) → take (length (first ∷ second ∷ words) - 2) words ≡ words
without_two first second words = take_all (length (first ∷ second ∷ words) - 2) words (omega arith)

-- where the first of the words is `by`
pub reasoned : {A : Type 0} (number : Option ℕ) (claim : Claim) (given : Option Claim) (words rest : List A) (text : A → List ℕ) (d e : A)
    (rule : Option StatedRule) → given ≡ Some claim → 2 ≤ length words
    → rest ≡ take (length words - 2) (drop 2 words) → bytes_eq (text (get_or words 0 d)) (codes "by") ≡ true
    → rule ≡ stated_rule claim.side (text (get_or words 1 e)) (map text rest)
    → with_rule number claim rule (map text rest) ≡ with_reason number given (map text words)
reasoned number claim given [] rest text d e rule some two is by rule_is = absurd (omega (arith, two))
reasoned number claim given (word ∷ []) rest text d e rule some two is by rule_is = absurd (omega (arith, two))
reasoned {A} number claim given (word ∷ name ∷ words) rest text d e rule some two is by rule_is =
    ap (λ (o : Option StatedRule). with_rule number claim o (map text rest)) rule_is
    ∙ ap (λ (ws : List A). with_rule number claim (stated_rule claim.side (text name) (map text ws)) (map text ws)) (is ∙ without_two word name words)
    ∙ sym (ap (λ (b : Bool). cond b (with_rule number claim (stated_rule claim.side (text name) (map text words)) (map text words)) None) by)
    ∙ ap (λ (o : Option Claim). with_reason number o (map text (word ∷ name ∷ words))) (sym some)

-- where the first of the words is `value`
pub valued : {A : Type 0} (number side : List ℕ) (entry : List (List ℕ)) (words rest : List A) (text : A → List ℕ) (d e : A) (first : Option ℕ)
    (claim : Option Claim) → 2 ≤ length words
    → rest ≡ take (length words - 2) (drop 2 words) → bytes_eq (text (get_or words 0 d)) (codes "value") ≡ true → first ≡ number_of number
    → claim ≡ claim_of (side_of_word side) (entry_of_words entry) (bound_of_word (text (get_or words 1 e)))
    → with_reason first claim (map text rest) ≡ with_value number side entry (map text words)
valued number side entry [] rest text d e first claim two is value first_is claim_is = absurd (omega (arith, two))
valued number side entry (word ∷ []) rest text d e first claim two is value first_is claim_is = absurd (omega (arith, two))
valued {A} number side entry (word ∷ bound ∷ words) rest text d e first claim two is value first_is claim_is =
    ap (λ (ws : List A). with_reason first claim (map text ws)) (is ∙ without_two word bound words)
    ∙ ap (λ (o : Option ℕ). with_reason o claim (map text words)) first_is
    ∙ ap (λ (o : Option Claim). with_reason (number_of number) o (map text words)) claim_is
    ∙ sym (ap (λ (b : Bool). cond b (with_reason (number_of number) (claim_of (side_of_word side) (entry_of_words entry) (bound_of_word (text bound)))
    (map text words)) None) value)
