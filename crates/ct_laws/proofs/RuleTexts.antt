-- Rules as lines print them are stated again.
use Rattle.std.proofs.Common.{◌≡◌, ℕ, ◌-◌, ◌^◌, ◌<◌, Bool, true, false, cond, nat_lt, List, [], ◌∷◌, ◌++◌, length, Option, Some, None, option_map, refl, sym, ap, ap₂, ◌∙◌, append-nil, arith, codes}
use Rattle.std.specs.Prelude.{slice_get}
use Rattle.std.specs.Fmt.{decimal}
use Rattle.std.specs.Option.{option_and_then, unwrap_or}
use Rattle.std.proofs.lemmas.Bool.Decides.{nat_tests}
use Rattle.ct_names.specs.Id.{is_id}
use Rattle.ct_text.specs.Number.{spaced}
use Rattle.ct_text.proofs.Decimals.{printed_is_read}
use Rattle.ct_rules.specs.declared.rule.Rule.{Rule}
use Rattle.ct_rules.specs.declared.rule.Rule.TheVariants.{L9}
use Rattle.ct_rules.specs.declared.arguments.Arguments.{Arguments}
use Rattle.ct_rules.specs.declared.arguments.Arguments.TheVariants.{Nothing, Number, Numbers, Place}
use Rattle.ct_rules.specs.Rule.{row_of, rule_side, name_of, arguments_of, with_arguments, bare}
use Rattle.ct_rules.proofs.RuleNames.{zeros, named_again, argued_again, bare_arguments, with_nothing}
use Rattle.ct_derive.specs.Text.{id_word, argument_words, rule_words}
use Rattle.ct_verify.specs.Stated.{argument_of}
use Rattle.ct_verify.specs.Inside.StatedRule.{numbered, citing, with_words, stated_rule}
use Rattle.ct_verify.specs.declared.stated_rule.StatedRule.{StatedRule}
use Rattle.ct_commands.proofs.SpacedWords.{IsWord, AreWords, spaced_words, known_word, decimal_word, id_is_word}

-- a piece has its place, and its id is one
abbrev pub HasId : List (List ℕ) → ℕ → Type 0
HasId ids place = (id : List ℕ) × (slice_get ids place ≡ Some id) × (is_id id ≡ true)

-- arguments can be printed: numbers below 2^32, and a place whose piece has an id
abbrev pub ArePrintable : List (List ℕ) → Arguments → Type 0
ArePrintable ids Nothing = Unit {0}
ArePrintable ids (Number k) = k < 2 ^ 32
ArePrintable ids (Numbers k m) = (k < 2 ^ 32) × (m < 2 ^ 32)
ArePrintable ids (Place place) = HasId ids place

-- so can those of a rule
abbrev pub IsPrintable : List (List ℕ) → Rule → Type 0
IsPrintable ids r = ArePrintable ids (arguments_of r)

-- a rule that is printed with arguments of this form, as it is stated
abbrev pub stated_as : List (List ℕ) → Rule → Arguments → StatedRule
stated_as ids r Nothing = numbered 0 r
stated_as ids r (Number k) = numbered 1 r
stated_as ids r (Numbers k m) = numbered 2 r
stated_as ids r (Place place) = citing (bare r) (unwrap_or (slice_get ids place) [])

-- a rule that is printed, as it is stated
abbrev pub stated_of : List (List ℕ) → Rule → StatedRule
stated_of ids r = stated_as ids r (arguments_of r)

-- the name and the arguments that a rule is printed as, and that they state it again
pub record IsStatedAgain (ids : List (List ℕ)) (r : Rule) (stated : StatedRule) : Type 0 where
  pub name : List ℕ
  pub arguments : List (List ℕ)
  pub text : rule_words ids r ≡ name ++ spaced_words arguments
  pub named : IsWord name
  pub argued : AreWords arguments
  pub reads : (rest : List (List ℕ)) → stated_rule (rule_side r) name (arguments ++ rest) ≡ Some stated
  pub count : stated.arguments ≡ length arguments

-- a small number is read as an argument
argument : (n : ℕ) → n < 2 ^ 32 → argument_of (decimal n) ≡ Some n
argument n small =
    let whole : n < 2 ^ 64 = omega (arith, small) in
    ap (option_map (λ m. cond (nat_lt m (2 ^ 32)) m (2 ^ 32 - 1))) (printed_is_read (decimal n) n whole refl) ∙ ap Some (below (nat_lt n (2 ^ 32)) refl)
  where
    below : (b : Bool) → nat_lt n (2 ^ 32) ≡ b → cond b n (2 ^ 32 - 1) ≡ n
    below true is = refl
    below false is = absurd (past small is)
      where
        past : n < 2 ^ 32 → nat_lt n (2 ^ 32) ≡ false → ⊥
        past k e = grind (arith, nat_tests)

-- the name of each rule is a word
name_word : (r : Rule) → IsWord (name_of r)
unfolding row_of
name_word (L9 w) = known_word (codes "L9") refl
name_word r = known_word (name_of r) refl

-- what a name and words state, where the arguments of its rule have this form
named_stated : (r : Rule) (arguments : Arguments) (words : List (List ℕ)) → arguments_of r ≡ arguments
    → stated_rule (rule_side r) (name_of r) words ≡ with_words (bare r) (zeros arguments) words
named_stated r arguments words is =
    ap (option_and_then (λ (q : Rule). with_words q (arguments_of q) words)) (named_again r)
    ∙ ap (λ (a : Arguments). with_words (bare r) a words) (bare_arguments r ∙ ap zeros is)

-- with its own arguments in their place a rule is made again
own_arguments : (r : Rule) (arguments : Arguments) → arguments_of r ≡ arguments → with_arguments (bare r) arguments ≡ r
own_arguments r arguments is = ap (with_arguments (bare r)) (sym is) ∙ argued_again r

-- the text of a rule, where its arguments are these
rule_text : (ids : List (List ℕ)) (r : Rule) (arguments : Arguments) (text : List ℕ) → arguments_of r ≡ arguments → argument_words ids arguments ≡ text
    → rule_words ids r ≡ name_of r ++ text
rule_text ids r arguments text is same = ap (λ (a : Arguments). name_of r ++ argument_words ids a) is ∙ ap (λ t. name_of r ++ t) same

-- a rule that can be printed is stated again, where its arguments are these
stated_form : (ids : List (List ℕ)) (r : Rule) (arguments : Arguments) → arguments_of r ≡ arguments → ArePrintable ids arguments
    → IsStatedAgain ids r (stated_as ids r arguments)
stated_form ids r Nothing is h = record {
  name = name_of r;
  arguments = [];
  text = rule_text ids r Nothing [] is refl;
  named = name_word r;
  argued = tt;
  reads = λ rest.
      named_stated r Nothing rest is ∙ ap (λ (q : Rule). Some (numbered 0 q)) (sym (with_nothing (bare r)) ∙ own_arguments r Nothing is);
  count = refl;
}
stated_form ids r (Number k) is h = record {
  name = name_of r;
  arguments = decimal k ∷ [];
  text = rule_text ids r (Number k) (spaced k ++ []) is (sym (append-nil (spaced k)));
  named = name_word r;
  argued = (decimal_word k (omega (arith, h)), tt);
  reads = λ rest.
      named_stated r (Number k) (decimal k ∷ rest) is
      ∙ ap (option_map (λ n. numbered 1 (with_arguments (bare r) (Number n)))) (argument k h)
      ∙ ap (λ (q : Rule). Some (numbered 1 q)) (own_arguments r (Number k) is);
  count = refl;
}
stated_form ids r (Numbers k m) is h = record {
  name = name_of r;
  arguments = decimal k ∷ decimal m ∷ [];
  text = rule_text ids r (Numbers k m) (spaced k ++ (spaced m ++ [])) is (ap (λ t. spaced k ++ t) (sym (append-nil (spaced m))));
  named = name_word r;
  argued = let small = h.0 in let few = h.1 in (decimal_word k (omega (arith, small)), (decimal_word m (omega (arith, few)), tt));
  reads = λ rest.
      named_stated r (Numbers k m) (decimal k ∷ decimal m ∷ rest) is
      ∙ ap₂ (λ (a b : Option ℕ). option_and_then (λ n. option_map (λ o. numbered 2 (with_arguments (bare r) (Numbers n o))) b) a)
      (argument k h.0) (argument m h.1)
      ∙ ap (λ (q : Rule). Some (numbered 2 q)) (own_arguments r (Numbers k m) is);
  count = refl;
}
stated_form ids r (Place place) is has =
    let id = has.0 in
    let own : id ≡ unwrap_or (slice_get ids place) [] = sym (ap (λ (o : Option (List ℕ)). unwrap_or o []) has.1) in
    record {
      name = name_of r;
      arguments = id ∷ [];
      text = rule_text ids r (Place place) (32 ∷ id ++ []) is
          (ap (λ (o : Option (List ℕ)). id_word o) has.1 ∙ sym (append-nil (32 ∷ id)));
      named = name_word r;
      argued = (id_is_word id has.2, tt);
      reads = λ rest.
          named_stated r (Place place) (id ∷ rest) is
          ∙ ap (λ (b : Bool). option_map (citing (bare r)) (cond b (Some id) None)) has.2
          ∙ ap (λ (i : List ℕ). Some (citing (bare r) i)) own;
      count = refl;
    }

-- each rule that can be printed is stated again
pub stated_again : (ids : List (List ℕ)) (r : Rule) → IsPrintable ids r → IsStatedAgain ids r (stated_of ids r)
stated_again ids r h = stated_form ids r (arguments_of r) refl h
