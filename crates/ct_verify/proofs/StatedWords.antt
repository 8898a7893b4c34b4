-- The words of a line are read as the line that they state, and as no other.
use Rattle.std.proofs.Common.{◌≡◌, inl, inr, ℕ, ◌≤◌, Bool, true, false, cond, List, [], ◌∷◌, ◌++◌, length, map, drop, Option, Some, None, option_map, refl, sym, ap, ap₂, subst, ◌∙◌, arith}
use Rattle.std.specs.Prelude.{codes, nat_le, ◌&&◌}
use Rattle.std.specs.Option.{option_and_then}
use Rattle.std.specs.Str.{bytes_eq}
use Rattle.std.proofs.lemmas.Bool.Decides.{nat_tests}
use Rattle.std.proofs.lemmas.Slice.Eq.{bytes_eq-Decides}
use Rattle.std.proofs.lemmas.Option.{same_Some}
use Rattle.ct_words.specs.declared.limits.TheConstants.{MAX_BOUND}
use Rattle.ct_words.specs.declared.claim.Claim.{Claim}
use Rattle.ct_words.specs.declared.claim.Side.{Side}
use Rattle.ct_words.specs.declared.entry.Entry.{Entry}
use Rattle.ct_names.specs.Id.{is_id}
use Rattle.ct_text.specs.Number.{number_of}
use Rattle.ct_text.specs.Side.{side_of_word}
use Rattle.ct_text.specs.EntryNumbers.{weight_from, numbers_from, named_entry}
use Rattle.ct_derive.specs.Check.{and_values}
use Rattle.ct_rules.specs.declared.arguments.Arguments.{Arguments}
use Rattle.ct_rules.specs.declared.arguments.Arguments.TheVariants.{Nothing, Number, Numbers, Place}
use Rattle.ct_rules.specs.declared.rule.Rule.{Rule}
use Rattle.ct_rules.specs.Rule.{arguments_of, with_arguments}
use Rattle.ct_rules.specs.Listing.{rule_named}
use Rattle.ct_verify.specs.Stated.{argument_of}
use Rattle.ct_verify.specs.Inside.StatedRule.{first_argument, numbered, citing, with_words, stated_rule}
use Rattle.ct_verify.specs.declared.stated_rule.StatedRule.{StatedRule}
use Rattle.ct_verify.specs.Stated.{entry_of_words}
use Rattle.ct_verify.specs.Inside.StatedLine.{StatedLineValue, bound_of_word, all_numbers, premises_of_words, claim_of, line_from, with_rule, with_reason, with_value, line_of}
use Rattle.ct_verify.specs.Stated.{AreArguments, ArePremises, IsStated}
use Rattle.ct_verify.specs.Inside.StatedLine.{stated_as}

-- numbers that words write are all of them
all_numbers-read : (words : List (List ℕ)) (ns : List ℕ) → map number_of words ≡ map Some ns → all_numbers words ≡ Some ns
all_numbers-read [] [] h = refl
all_numbers-read [] (n ∷ ns) h = absurd cc
all_numbers-read (w ∷ words) [] h = absurd cc
all_numbers-read (w ∷ words) (n ∷ ns) h =
    let first : number_of w ≡ Some n = cc in
    let rest : map number_of words ≡ map Some ns = cc in
    ap₂ and_values first (all_numbers-read words ns rest)

premises-read : (words : List (List ℕ)) (from : List ℕ) → ArePremises words from → premises_of_words words ≡ Some from
premises-read words from (inl (none, nothing)) = ap premises_of_words none ∙ ap Some (sym nothing)
premises-read words from (inr ([], is, some, numbers)) = absurd (some refl)
premises-read words from (inr (w ∷ ws, is, some, numbers)) = ap premises_of_words is ∙ all_numbers-read (w ∷ ws) from numbers

first-read : (words more : List (List ℕ)) (n : ℕ) → map argument_of words ≡ Some n ∷ [] → first_argument (words ++ more) ≡ Some n
first-read [] more n h = absurd cc
first-read (w ∷ words) more n h = cc

drop-front : (front back : List (List ℕ)) → drop (length front) (front ++ back) ≡ back
drop-front [] back = refl
drop-front (word ∷ front) back = drop-front front back

-- the words that are arguments of a rule are read as them, whatever follows
with_words-read : (named : Rule) (form : Arguments) (words more : List (List ℕ)) (rule : Rule) (id : Option (List ℕ)) → AreArguments named form words rule id
    → with_words named form (words ++ more) ≡ Some (record { rule = rule; id = id; arguments = length words })
with_words-read named Nothing words more rule id (none, is, uncited) =
    ap₂ (λ (r : Rule) (i : Option (List ℕ)). Some (record { rule = r; id = i; arguments = 0 })) (sym is) (sym uncited)
    ∙ ap (λ (ws : List (List ℕ)). Some (record { rule = rule; id = id; arguments = length ws })) (sym none)
with_words-read named (Number k) [] more rule id (n, write, is, uncited) = absurd cc
with_words-read named (Number k) (w ∷ []) more rule id (n, write, is, uncited) =
    let first : argument_of w ≡ Some n = cc in
    ap (option_map (λ n. numbered 1 (with_arguments named (Number n)))) first
    ∙ ap₂ (λ (r : Rule) (i : Option (List ℕ)). Some (record { rule = r; id = i; arguments = 1 })) (sym is) (sym uncited)
with_words-read named (Number k) (w ∷ v ∷ words) more rule id (n, write, is, uncited) = absurd cc
with_words-read named (Numbers k m) [] more rule id (n, o, write, is, uncited) = absurd cc
with_words-read named (Numbers k m) (w ∷ []) more rule id (n, o, write, is, uncited) = absurd cc
with_words-read named (Numbers k m) (w ∷ v ∷ []) more rule id (n, o, write, is, uncited) =
    let first : argument_of w ≡ Some n = cc in
    let second : argument_of v ≡ Some o = cc in
    ap (option_and_then (λ (n : ℕ). option_map (λ (o : ℕ). numbered 2 (with_arguments named (Numbers n o))) (argument_of v))) first
    ∙ ap (option_map (λ (o : ℕ). numbered 2 (with_arguments named (Numbers n o)))) second
    ∙ ap₂ (λ (r : Rule) (i : Option (List ℕ)). Some (record { rule = r; id = i; arguments = 2 })) (sym is) (sym uncited)
with_words-read named (Numbers k m) (w ∷ v ∷ u ∷ words) more rule id (n, o, write, is, uncited) = absurd cc
with_words-read named (Place place) words more rule id (name, are, an_id, is, some) =
    ap (λ (ws : List (List ℕ)). with_words named (Place place) (ws ++ more)) are
    ∙ ap (λ (b : Bool). option_map (citing named) (cond b (Some name) None)) an_id
    ∙ ap₂ (λ (r : Rule) (i : Option (List ℕ)). Some (record { rule = r; id = i; arguments = 1 })) (sym is) (sym some)
    ∙ ap (λ (ws : List (List ℕ)). Some (record { rule = rule; id = id; arguments = length ws })) (sym are)

stated_rule-read : (side : Side) (name : List ℕ) (named : Rule) (words more : List (List ℕ)) (rule : Rule) (id : Option (List ℕ)) → rule_named side name ≡ Some named
    → AreArguments named (arguments_of named) words rule id → stated_rule side name (words ++ more) ≡ Some (record { rule = rule; id = id; arguments = length words })
stated_rule-read side name named words more rule id by argued =
    ap (option_and_then (λ (r : Rule). with_words r (arguments_of r) (words ++ more))) by ∙ with_words-read named (arguments_of named) words more rule id argued

within : (n : ℕ) → 1 ≤ n → n ≤ MAX_BOUND → (nat_le 1 n && nat_le n MAX_BOUND) ≡ true
within n positive small = grind (arith, nat_tests)

bound-read : (word : List ℕ) (n : ℕ) → number_of word ≡ Some n → 1 ≤ n → n ≤ MAX_BOUND → bound_of_word word ≡ Some n
bound-read word n writes positive small =
    ap (option_and_then (λ (m : ℕ). cond (nat_le 1 m && nat_le m MAX_BOUND) (Some m) None)) writes
    ∙ ap (λ (b : Bool). cond b (Some n) None) (within n positive small)

-- `value` is no number
value_no_number : number_of (codes "value") ≡ None
unfolding number_of
value_no_number = refl

no_weight : (w : List ℕ) (e : Entry) (n d : Option ℕ) → w ≡ codes "value" → option_and_then named_entry (numbers_from n d (weight_from (number_of w))) ≡ Some e → ⊥
no_weight w e n d is h = at n d (sym (ap (λ (o : Option ℕ). option_and_then named_entry (numbers_from n d (weight_from o))) (ap number_of is ∙ value_no_number)) ∙ h) where
  at : (n d : Option ℕ) → option_and_then named_entry (numbers_from n d None) ≡ Some e → ⊥
  at None None h = absurd cc
  at None (Some d) h = absurd cc
  at (Some n) None h = absurd cc
  at (Some n) (Some d) h = absurd cc

-- the entry is followed by `value`
entry-read : (number side : List ℕ) (entry words : List (List ℕ)) (e : Entry) → entry_of_words entry ≡ Some e
    → line_of (number ∷ side ∷ (entry ++ codes "value" ∷ words)) ≡ with_value number side entry (codes "value" ∷ words)
entry-read number side [] words e h = absurd cc
entry-read number side (n ∷ []) words e h = absurd cc
entry-read number side (n ∷ d ∷ []) words e h = refl
entry-read number side (n ∷ d ∷ w ∷ []) words e h = at (bytes_eq w (codes "value")) refl where
  at : (b : Bool) → bytes_eq w (codes "value") ≡ b
      → cond (bytes_eq w (codes "value")) (with_value number side (n ∷ d ∷ []) (w ∷ codes "value" ∷ words)) (with_value number side (n ∷ d ∷ w ∷ []) (codes "value" ∷ words))
      ≡ with_value number side (n ∷ d ∷ w ∷ []) (codes "value" ∷ words)
  at true is = absurd (no_weight w e (number_of n) (number_of d) ((bytes_eq-Decides w (codes "value")).0 is) h)
  at false is = ap (λ (b : Bool). cond b (with_value number side (n ∷ d ∷ []) (w ∷ codes "value" ∷ words)) (with_value number side (n ∷ d ∷ w ∷ []) (codes "value" ∷ words))) is
entry-read number side (n ∷ d ∷ w ∷ v ∷ entry) words e h = absurd cc

claim-read : (side : List ℕ) (entry : List (List ℕ)) (value : List ℕ) (c : Claim) → side_of_word side ≡ Some c.side → entry_of_words entry ≡ Some c.entry
    → bound_of_word value ≡ Some c.value → claim_of (side_of_word side) (entry_of_words entry) (bound_of_word value) ≡ Some c
claim-read side entry value c sided entered valued =
    ap₂ (λ (s : Option Side) (e : Option Entry). claim_of s e (bound_of_word value)) sided entered ∙ ap (claim_of (Some c.side) (Some c.entry)) valued

-- words that state a line are read as it
pub line-read : (words : List (List ℕ)) (number : ℕ) (c : Claim) (rule : Rule) (id : Option (List ℕ)) (from : List ℕ) → (h : IsStated words number c rule id from)
    → line_of words ≡ Some (stated_as number c rule id (length h.arguments) from)
line-read words number c rule id from h =
    ap line_of h.written
    ∙ entry-read h.first h.side h.entry (h.value ∷ codes "by" ∷ h.name ∷ (h.arguments ++ h.premises)) c.entry h.entered
    ∙ ap₂ (λ (n : Option ℕ) (o : Option Claim). with_reason n o (codes "by" ∷ h.name ∷ (h.arguments ++ h.premises))) h.numbered
    (claim-read h.side h.entry h.value c h.sided h.entered (bound-read h.value c.value h.valued h.positive h.small))
    ∙ ap (λ (r : Option StatedRule). with_rule (Some number) c r (h.arguments ++ h.premises)) (stated_rule-read c.side h.name h.named h.arguments h.premises rule id h.by h.argued)
    ∙ ap (λ (ws : List (List ℕ)). line_from (Some number) c (record { rule = rule; id = id; arguments = length h.arguments }) (premises_of_words ws)) (drop-front h.arguments h.premises)
    ∙ ap (line_from (Some number) c (record { rule = rule; id = id; arguments = length h.arguments })) (premises-read h.premises from h.from_lines)

all_numbers-written : (words : List (List ℕ)) (ns : List ℕ) → all_numbers words ≡ Some ns → map number_of words ≡ map Some ns
all_numbers-written [] ns h = ap (map Some) (same_Some [] ns h)
all_numbers-written (w ∷ words) ns h = go (number_of w) refl (all_numbers words) refl (all_numbers-written words) h where
  go : (first : Option ℕ) → number_of w ≡ first → (rest : Option (List ℕ)) → all_numbers words ≡ rest → ((ms : List ℕ) → all_numbers words ≡ Some ms → map number_of words ≡ map Some ms)
      → and_values first rest ≡ Some ns → map number_of (w ∷ words) ≡ map Some ns
  go None is rest are more e = absurd cc
  go (Some v) is None are more e = absurd cc
  go (Some v) is (Some vs) are more e =
      ap₂ (λ (o : Option ℕ) (os : List (Option ℕ)). o ∷ os) is (more vs are) ∙ ap (map Some) (same_Some (v ∷ vs) ns e)

premises-written : (words : List (List ℕ)) (from : List ℕ) → premises_of_words words ≡ Some from → ArePremises words from
premises-written [] from h = inl (refl, sym (same_Some [] from h))
premises-written (w ∷ []) from h = absurd cc
premises-written (w ∷ v ∷ words) from h = at (bytes_eq w (codes "from")) refl h where
  at : (b : Bool) → bytes_eq w (codes "from") ≡ b → cond b (all_numbers (v ∷ words)) None ≡ Some from → ArePremises (w ∷ v ∷ words) from
  at true is e =
      inr (v ∷ words, ap (λ (u : List ℕ). u ∷ v ∷ words) ((bytes_eq-Decides w (codes "from")).0 is), λ nothing. absurd cc, all_numbers-written (v ∷ words) from e)
  at false is e = absurd cc

-- words that begin with the arguments of a rule
record BeginWith (named : Rule) (form : Arguments) (words : List (List ℕ)) (r : StatedRule) : Type 0 where
  arguments : List (List ℕ)
  more : List (List ℕ)
  split : words ≡ arguments ++ more
  are : AreArguments named form arguments r.rule r.id
  left : drop r.arguments words ≡ more

with_words-written : (named : Rule) (form : Arguments) (words : List (List ℕ)) (r : StatedRule) → with_words named form words ≡ Some r → BeginWith named form words r
with_words-written named Nothing words r h =
    subst (BeginWith named Nothing words) (same_Some (numbered 0 named) r h)
    (record { arguments = []; more = words; split = refl; are = (refl, refl, refl); left = refl })
with_words-written named (Number k) [] r h = absurd cc
with_words-written named (Number k) (w ∷ words) r h = go (argument_of w) refl h where
  go : (o : Option ℕ) → argument_of w ≡ o → option_map (λ (n : ℕ). numbered 1 (with_arguments named (Number n))) o ≡ Some r → BeginWith named (Number k) (w ∷ words) r
  go None is e = absurd cc
  go (Some n) is e =
      subst (BeginWith named (Number k) (w ∷ words)) (same_Some (numbered 1 (with_arguments named (Number n))) r e)
      (record { arguments = w ∷ []; more = words; split = refl; are = (n, ap (λ (o : Option ℕ). o ∷ []) is, refl, refl); left = refl })
with_words-written named (Numbers k m) [] r h = absurd cc
with_words-written named (Numbers k m) (w ∷ []) r h = go (argument_of w) h where
  go : (o : Option ℕ) → option_and_then (λ (n : ℕ). option_map (λ (o : ℕ). numbered 2 (with_arguments named (Numbers n o))) None) o ≡ Some r
      → BeginWith named (Numbers k m) (w ∷ []) r
  go None e = absurd cc
  go (Some n) e = absurd cc
with_words-written named (Numbers k m) (w ∷ v ∷ words) r h = go (argument_of w) refl (argument_of v) refl h where
  go : (o : Option ℕ) → argument_of w ≡ o → (u : Option ℕ) → argument_of v ≡ u
      → option_and_then (λ (n : ℕ). option_map (λ (o : ℕ). numbered 2 (with_arguments named (Numbers n o))) u) o ≡ Some r → BeginWith named (Numbers k m) (w ∷ v ∷ words) r
  go None is u are e = absurd cc
  go (Some n) is None are e = absurd cc
  go (Some n) is (Some o) are e =
      subst (BeginWith named (Numbers k m) (w ∷ v ∷ words)) (same_Some (numbered 2 (with_arguments named (Numbers n o))) r e)
      (record {
        arguments = w ∷ v ∷ [];
        more = words;
        split = refl;
        are = (n, o, ap₂ (λ (a : Option ℕ) (b : Option ℕ). a ∷ b ∷ []) is are, refl, refl);
        left = refl;
      })
with_words-written named (Place place) [] r h = absurd cc
with_words-written named (Place place) (w ∷ words) r h = go (is_id w) refl h where
  go : (b : Bool) → is_id w ≡ b → option_map (citing named) (cond b (Some w) None) ≡ Some r → BeginWith named (Place place) (w ∷ words) r
  go true is e =
      subst (BeginWith named (Place place) (w ∷ words)) (same_Some (citing named w) r e)
      (record { arguments = w ∷ []; more = words; split = refl; are = (w, refl, is, refl, refl); left = refl })
  go false is e = absurd cc

-- the bound that a word writes
record IsBound (word : List ℕ) (n : ℕ) : Type 0 where
  writes : number_of word ≡ Some n
  positive : 1 ≤ n
  small : n ≤ MAX_BOUND

positive_from : (n : ℕ) → (nat_le 1 n && nat_le n MAX_BOUND) ≡ true → 1 ≤ n
positive_from n h = grind (arith, nat_tests)

small_from : (n : ℕ) → (nat_le 1 n && nat_le n MAX_BOUND) ≡ true → n ≤ MAX_BOUND
small_from n h = grind (arith, nat_tests)

bound-written : (word : List ℕ) (n : ℕ) → bound_of_word word ≡ Some n → IsBound word n
bound-written word n h = go (number_of word) refl h where
  at : (m : ℕ) → number_of word ≡ Some m → (b : Bool) → (nat_le 1 m && nat_le m MAX_BOUND) ≡ b → cond b (Some m) None ≡ Some n → IsBound word n
  at m is true within e = subst (IsBound word) (same_Some m n e) (record { writes = is; positive = positive_from m within; small = small_from m within })
  at m is false within e = absurd cc

  go : (o : Option ℕ) → number_of word ≡ o → option_and_then (λ (m : ℕ). cond (nat_le 1 m && nat_le m MAX_BOUND) (Some m) None) o ≡ Some n → IsBound word n
  go None is e = absurd cc
  go (Some m) is e = at m is (nat_le 1 m && nat_le m MAX_BOUND) refl e

-- the claim that words make
record IsClaim (side : List ℕ) (entry : List (List ℕ)) (value : List ℕ) (c : Claim) : Type 0 where
  sided : side_of_word side ≡ Some c.side
  entered : entry_of_words entry ≡ Some c.entry
  bound : IsBound value c.value

claim-written : (side : List ℕ) (entry : List (List ℕ)) (value : List ℕ) (c : Claim) → claim_of (side_of_word side) (entry_of_words entry) (bound_of_word value) ≡ Some c
    → IsClaim side entry value c
claim-written side entry value c h = go (side_of_word side) refl (entry_of_words entry) refl (bound_of_word value) refl h where
  go : (s : Option Side) → side_of_word side ≡ s → (e : Option Entry) → entry_of_words entry ≡ e → (v : Option ℕ) → bound_of_word value ≡ v
      → claim_of s e v ≡ Some c → IsClaim side entry value c
  go None ss e es v vs h = absurd cc
  go (Some s) ss None es v vs h = absurd cc
  go (Some s) ss (Some e) es None vs h = absurd cc
  go (Some s) ss (Some e) es (Some v) vs h =
      let made : Claim = record { side = s; entry = e; value = v } in
      subst (IsClaim side entry value) (same_Some made c h) (record { sided = ss; entered = es; bound = bound-written value v vs })

-- the words state the line
abbrev States : List (List ℕ) → StatedLineValue → Type 0
States words l = IsStated words l.number l.claim l.rule.rule l.rule.id l.from

rule-written : (first side : List ℕ) (entry : List (List ℕ)) (value name : List ℕ) (rest : List (List ℕ)) (c : Claim) (named : Rule) (r : StatedRule) (l : StatedLineValue)
    → IsClaim side entry value c → rule_named c.side name ≡ Some named → with_words named (arguments_of named) rest ≡ Some r
    → line_from (number_of first) c r (premises_of_words (drop r.arguments rest)) ≡ Some l
    → States (first ∷ side ∷ (entry ++ codes "value" ∷ value ∷ codes "by" ∷ name ∷ rest)) l
rule-written first side entry value name rest c named r l claims by argued h =
    go (number_of first) refl (premises_of_words (drop r.arguments rest)) refl h where
      begin : BeginWith named (arguments_of named) rest r
      begin = with_words-written named (arguments_of named) rest r argued

      go : (number : Option ℕ) → number_of first ≡ number → (from : Option (List ℕ)) → premises_of_words (drop r.arguments rest) ≡ from → line_from number c r from ≡ Some l
          → States (first ∷ side ∷ (entry ++ codes "value" ∷ value ∷ codes "by" ∷ name ∷ rest)) l
      go None is from are e = absurd cc
      go (Some k) is None are e = absurd cc
      go (Some k) is (Some ps) are e =
          let line : StatedLineValue = record { number = k; claim = c; rule = r; from = ps } in
          subst (States (first ∷ side ∷ (entry ++ codes "value" ∷ value ∷ codes "by" ∷ name ∷ rest))) (same_Some line l e)
          (record {
            first = first;
            side = side;
            entry = entry;
            value = value;
            name = name;
            arguments = begin.arguments;
            premises = begin.more;
            written = ap (λ (ws : List (List ℕ)). first ∷ side ∷ (entry ++ codes "value" ∷ value ∷ codes "by" ∷ name ∷ ws)) begin.split;
            numbered = is;
            sided = claims.sided;
            entered = claims.entered;
            valued = claims.bound.writes;
            positive = claims.bound.positive;
            small = claims.bound.small;
            named = named;
            by = by;
            argued = begin.are;
            from_lines = premises-written begin.more ps (sym (ap premises_of_words begin.left) ∙ are);
          })

reason-written : (first side : List ℕ) (entry : List (List ℕ)) (value name : List ℕ) (rest : List (List ℕ)) (c : Claim) (l : StatedLineValue) → IsClaim side entry value c
    → with_rule (number_of first) c (stated_rule c.side name rest) rest ≡ Some l → States (first ∷ side ∷ (entry ++ codes "value" ∷ value ∷ codes "by" ∷ name ∷ rest)) l
reason-written first side entry value name rest c l claims h = go (rule_named c.side name) refl h where
  at : (named : Rule) → rule_named c.side name ≡ Some named → (o : Option StatedRule) → with_words named (arguments_of named) rest ≡ o
      → with_rule (number_of first) c o rest ≡ Some l → States (first ∷ side ∷ (entry ++ codes "value" ∷ value ∷ codes "by" ∷ name ∷ rest)) l
  at named by None is e = absurd cc
  at named by (Some r) is e = rule-written first side entry value name rest c named r l claims by is e

  go : (o : Option Rule) → rule_named c.side name ≡ o → with_rule (number_of first) c (option_and_then (λ (r : Rule). with_words r (arguments_of r) rest) o) rest ≡ Some l
      → States (first ∷ side ∷ (entry ++ codes "value" ∷ value ∷ codes "by" ∷ name ∷ rest)) l
  go None is e = absurd cc
  go (Some named) is e = at named is (with_words named (arguments_of named) rest) refl e

-- no reason follows
no_reason : (number : Option ℕ) (claim : Option Claim) (l : StatedLineValue) → with_reason number claim [] ≡ Some l → ⊥
no_reason number None l h = absurd cc
no_reason number (Some c) l h = absurd cc

no_name : (number : Option ℕ) (claim : Option Claim) (word : List ℕ) (l : StatedLineValue) → with_reason number claim (word ∷ []) ≡ Some l → ⊥
no_name number None word l h = absurd cc
no_name number (Some c) word l h = absurd cc

by-written : (first side : List ℕ) (entry : List (List ℕ)) (value word name : List ℕ) (rest : List (List ℕ)) (l : StatedLineValue)
    → with_reason (number_of first) (claim_of (side_of_word side) (entry_of_words entry) (bound_of_word value)) (word ∷ name ∷ rest) ≡ Some l
    → States (first ∷ side ∷ (entry ++ codes "value" ∷ value ∷ word ∷ name ∷ rest)) l
by-written first side entry value word name rest l h = go (claim_of (side_of_word side) (entry_of_words entry) (bound_of_word value)) refl h where
  at : (c : Claim) → IsClaim side entry value c → (b : Bool) → bytes_eq word (codes "by") ≡ b
      → cond b (with_rule (number_of first) c (stated_rule c.side name rest) rest) None ≡ Some l → States (first ∷ side ∷ (entry ++ codes "value" ∷ value ∷ word ∷ name ∷ rest)) l
  at c claims true is e =
      subst (λ (w : List ℕ). States (first ∷ side ∷ (entry ++ codes "value" ∷ value ∷ w ∷ name ∷ rest)) l) (sym ((bytes_eq-Decides word (codes "by")).0 is))
      (reason-written first side entry value name rest c l claims e)
  at c claims false is e = absurd cc

  go : (o : Option Claim) → claim_of (side_of_word side) (entry_of_words entry) (bound_of_word value) ≡ o → with_reason (number_of first) o (word ∷ name ∷ rest) ≡ Some l
      → States (first ∷ side ∷ (entry ++ codes "value" ∷ value ∷ word ∷ name ∷ rest)) l
  go None is e = absurd cc
  go (Some c) is e = at c (claim-written side entry value c is) (bytes_eq word (codes "by")) refl e

value-written : (first side : List ℕ) (entry words : List (List ℕ)) (l : StatedLineValue) → with_value first side entry words ≡ Some l → States (first ∷ side ∷ (entry ++ words)) l
value-written first side entry [] l h = absurd cc
value-written first side entry (word ∷ []) l h = absurd cc
value-written first side entry (word ∷ value ∷ words) l h = at (bytes_eq word (codes "value")) refl h where
  claim : Option Claim
  claim = claim_of (side_of_word side) (entry_of_words entry) (bound_of_word value)

  more : (ws : List (List ℕ)) → with_reason (number_of first) claim ws ≡ Some l → States (first ∷ side ∷ (entry ++ codes "value" ∷ value ∷ ws)) l
  more [] e = absurd (no_reason (number_of first) claim l e)
  more (by ∷ []) e = absurd (no_name (number_of first) claim by l e)
  more (by ∷ name ∷ rest) e = by-written first side entry value by name rest l e

  at : (b : Bool) → bytes_eq word (codes "value") ≡ b → cond b (with_reason (number_of first) claim words) None ≡ Some l → States (first ∷ side ∷ (entry ++ word ∷ value ∷ words)) l
  at true is e =
      subst (λ (w : List ℕ). States (first ∷ side ∷ (entry ++ w ∷ value ∷ words)) l) (sym ((bytes_eq-Decides word (codes "value")).0 is)) (more words e)
  at false is e = absurd cc

-- words that are read as a line state it
pub line-written : (words : List (List ℕ)) (l : StatedLineValue) → line_of words ≡ Some l → IsStated words l.number l.claim l.rule.rule l.rule.id l.from
line-written [] l h = absurd cc
line-written (number ∷ []) l h = absurd cc
line-written (number ∷ side ∷ []) l h = absurd cc
line-written (number ∷ side ∷ n ∷ []) l h = absurd cc
line-written (number ∷ side ∷ n ∷ d ∷ []) l h = absurd cc
line-written (number ∷ side ∷ n ∷ d ∷ word ∷ words) l h = at (bytes_eq word (codes "value")) h where
  at : (b : Bool) → cond b (with_value number side (n ∷ d ∷ []) (word ∷ words)) (with_value number side (n ∷ d ∷ word ∷ []) words) ≡ Some l
      → IsStated (number ∷ side ∷ n ∷ d ∷ word ∷ words) l.number l.claim l.rule.rule l.rule.id l.from
  at true e = value-written number side (n ∷ d ∷ []) (word ∷ words) l e
  at false e = value-written number side (n ∷ d ∷ word ∷ []) words l e
