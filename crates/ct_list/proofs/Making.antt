-- Codes of rules: what is known of the parts, and when a construction makes the code that a rule says there is.
use Rattle.std.proofs.Common.{◌≡◌, ℕ, List, [], ◌∷◌, length, Option, Some, Result, Ok, Err, IfOk, sym, ap, subst, ◌∙◌}
use Rattle.std.specs.Prelude.{◌&&◌, true, IsPermutation}
use Rattle.std.proofs.lemmas.Bool.{and_parts}
use Rattle.std.proofs.lemmas.List.{length-map}
use Rattle.std.proofs.lemmas.List.Sorted.{length_permutation}
use Rattle.ct_words.specs.declared.entry.Entry.{Entry}
use Rattle.ct_words.specs.Code.{CodeValue}
use Rattle.ct_words.specs.Entry.{IsEntry, is_entry}
use Rattle.ct_words.proofs.EntryLemmas.{Limits, entry_limits}
use Rattle.ct_rule_parts.specs.declared.support.Support.{Support}
use Rattle.ct_rule_parts.specs.Parts.{RuleParts, are_entries}
use Rattle.ct_rule_parts.proofs.Lawful.{defined_entry, defined_condition, defined_premises}
use Rattle.ct_rules.specs.declared.rule.Rule.{Rule}
use Rattle.ct_rules.specs.Rule.{parts_over}
use Rattle.ct_rule_codes.specs.CodeEntry.{entry_of_code}
use Rattle.ct_list.specs.Inside.Rows.{sizes, AreParts, IsMadeBy}

-- a length, a distance, a weight and a number of words are right for the code of a rule
pub record IsRight (p : RuleParts) (e : Entry) (codes : List CodeValue) (n d : ℕ) (w : Option ℕ) (size : ℕ) : Type 0 where
  pub same_n : n ≡ e.n
  pub same_d : d ≡ e.d
  pub same_w : w ≡ e.w
  pub number : p.number e (sizes codes) ≡ Some size

-- what has them is the code of the rule
pub made : {E : Type 0} (p : RuleParts) (e : Entry) (codes : List CodeValue) (r : Result CodeValue E) (n d : ℕ) (w : Option ℕ) (size : ℕ)
    → IfOk r (λ (c : CodeValue). c.n ≡ n) → IfOk r (λ (c : CodeValue). c.d ≡ d) → IfOk r (λ (c : CodeValue). c.w ≡ w)
    → IfOk r (λ (c : CodeValue). length c.words ≡ size) → IsRight p e codes n d w size → IfOk r (IsMadeBy p e codes)
made p e codes (Ok c) n d w size length_is distance_is weight_is size_is right =
    let same_n = length_is ∙ right.same_n in
    let same_d = distance_is ∙ right.same_d in
    let same_w = weight_is ∙ right.same_w in
    record {
      entry = λ i. record { n = same_n i; d = same_d i; w = same_w i };
      size = right.number ∙ ap Some (sym size_is);
    }
made p e codes (Err fault) n d w size length_is distance_is weight_is size_is right = tt

-- as many words as a list has, or one with the same words
pub size_of_words : {E : Type 0} (r : Result CodeValue E) (words : List ℕ) (size : ℕ) → length words ≡ size
    → IfOk r (λ (c : CodeValue). c.words ≡ words) → IfOk r (λ (c : CodeValue). length c.words ≡ size)
size_of_words (Ok c) words size count is = ap length is ∙ count
size_of_words (Err fault) words size count is = tt

pub size_of_moved : {E : Type 0} (r : Result CodeValue E) (words : List ℕ) (size : ℕ) → length words ≡ size
    → IfOk r (λ (c : CodeValue). IsPermutation words c.words) → IfOk r (λ (c : CodeValue). length c.words ≡ size)
size_of_moved (Ok c) words size count moved = length_permutation words c.words moved ∙ count
size_of_moved (Err fault) words size count moved = tt

-- the first of some entries, and the second
abbrev first_entry : Entry → List Entry → Entry
first_entry d [] = d
first_entry d (e ∷ es) = e

abbrev second_entry : Entry → List Entry → Entry
second_entry d [] = d
second_entry d (e ∷ es) = first_entry d es

-- there are as many parts as the rule rests on entries
pub as_many : (supports : List Support) (r q : Rule) (e : Entry) (codes : List CodeValue) → r ≡ q → AreParts (parts_over supports r) e codes
    → length codes ≡ length ((parts_over supports q).rests_on e)
as_many supports r q e codes is parts =
    sym (length-map codes entry_of_code) ∙ ap length parts.entries ∙ ap (λ (s : Rule). length ((parts_over supports s).rests_on e)) is

-- what is known of a rule that rests on one entry, and of the code of it
pub record HasOnePart (p : RuleParts) (e x : Entry) (part : CodeValue) : Type 0 where
  pub is_entry : IsEntry e
  pub entry : Limits e
  pub condition : p.condition e ≡ true
  pub premise : Limits x
  pub n : part.n ≡ x.n
  pub d : part.d ≡ x.d
  pub w : part.w ≡ x.w

pub one_part : (p : RuleParts) (e x : Entry) (part : CodeValue) → p.rests_on e ≡ x ∷ [] → AreParts p e (part ∷ []) → HasOnePart p e x part
one_part p e x part rests parts =
    let is : entry_of_code part ≡ x = ap (first_entry x) (parts.entries ∙ rests) in
    let inside = and_parts (is_entry x) true (subst (λ es. are_entries es ≡ true) rests (defined_premises p e parts.defined)) in
    let within = defined_entry p e parts.defined in
    record {
      is_entry = within;
      entry = entry_limits e within;
      condition = defined_condition p e parts.defined;
      premise = entry_limits x inside.0;
      n = ap (λ (f : Entry). f.n) is;
      d = ap (λ (f : Entry). f.d) is;
      w = ap (λ (f : Entry). f.w) is;
    }

-- and of one that rests on two
pub record HasTwoParts (p : RuleParts) (e x y : Entry) (first second : CodeValue) : Type 0 where
  pub entry : Limits e
  pub condition : p.condition e ≡ true
  pub premise : Limits x
  pub other : Limits y
  pub first_n : first.n ≡ x.n
  pub first_d : first.d ≡ x.d
  pub first_w : first.w ≡ x.w
  pub second_n : second.n ≡ y.n
  pub second_d : second.d ≡ y.d
  pub second_w : second.w ≡ y.w

pub two_parts : (p : RuleParts) (e x y : Entry) (first second : CodeValue) → p.rests_on e ≡ x ∷ y ∷ [] → AreParts p e (first ∷ second ∷ [])
    → HasTwoParts p e x y first second
two_parts p e x y first second rests parts =
    let is : entry_of_code first ≡ x = ap (first_entry x) (parts.entries ∙ rests) in
    let is_too : entry_of_code second ≡ y = ap (second_entry y) (parts.entries ∙ rests) in
    let inside = subst (λ es. are_entries es ≡ true) rests (defined_premises p e parts.defined) in
    let front = and_parts (is_entry x) (is_entry y && true) inside in
    let back = and_parts (is_entry y) true front.1 in
    record {
      entry = entry_limits e (defined_entry p e parts.defined);
      condition = defined_condition p e parts.defined;
      premise = entry_limits x front.0;
      other = entry_limits y back.0;
      first_n = ap (λ (f : Entry). f.n) is;
      first_d = ap (λ (f : Entry). f.d) is;
      first_w = ap (λ (f : Entry). f.w) is;
      second_n = ap (λ (f : Entry). f.n) is_too;
      second_d = ap (λ (f : Entry). f.d) is_too;
      second_w = ap (λ (f : Entry). f.w) is_too;
    }

-- the parts, as they are known one by one
pub parts_are : (p : RuleParts) (e : Entry) (codes known : List CodeValue) → codes ≡ known → AreParts p e codes → AreParts p e known
parts_are p e codes known is parts = subst (AreParts p e) is parts

pub made_of : {E : Type 0} (p : RuleParts) (e : Entry) (codes known : List CodeValue) (r : Result CodeValue E) → codes ≡ known
    → IfOk r (IsMadeBy p e known) → IfOk r (IsMadeBy p e codes)
made_of p e codes known r is made = subst (λ cs. IfOk r (IsMadeBy p e cs)) (sym is) made
