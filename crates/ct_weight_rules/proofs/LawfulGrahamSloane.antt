-- A sum class.
use Rattle.std.proofs.Common.{◌≡◌, ℕ, ◌==◌, ◌&&◌, length, ◌<◌, ◌≤◌, true, if◌then◌else◌, refl, subst, sym, ap₂, eqb-true, lt-ltb, arith}
use Rattle.std.specs.Prelude.{Option, Some, None, is_some, nat_lt}
use Rattle.std.proofs.lemmas.Bool.{and_parts, ltb-true, false≢true}
use Rattle.std.proofs.lemmas.Option.{cond_some}
use Rattle.ct_words.specs.declared.claim.Side.TheVariants.{Lower}
use Rattle.ct_words.specs.declared.entry.Entry.{Entry}
use Rattle.ct_words.specs.Code.{IsTrueLower}
use Rattle.ct_words.specs.Entry.{constant_weight}
use Rattle.ct_sum_classes.specs.SumClass.{sum_class}
use Rattle.ct_sum_classes.proofs.SumClasses.{IsCode-sum_class}
use Rattle.ct_rule_parts.specs.declared.support.Support.{Support}
use Rattle.ct_rule_parts.specs.Parts.{has_weight, weight_of}
use Rattle.ct_rule_parts.proofs.Lawful.{IsLawful, IsTrueNumber, no_worse-same}
use Rattle.ct_rule_parts.proofs.PlainEntries.{a_weight}
use Rattle.ct_rule_parts.proofs.WeightEntries.{lower_of_weight}
use Rattle.ct_weight_rules.specs.GrahamSloane.{sum_class_size, graham_sloane}

-- what is known where a class gives its number
pub record KnownClass (r : ℕ) (e : Entry) : Type 0 where
  pub weight : has_weight e ≡ true
  pub distance : e.d ≡ 4
  pub residue : r < e.n
  pub words : 1 ≤ length (sum_class e.n (weight_of e) r)

pub class_given : (r : ℕ) (e : Entry) (x : ℕ) → sum_class_size r e ≡ Some x → KnownClass r e × (length (sum_class e.n (weight_of e) r) ≡ x)
class_given r e x is =
    let count = length (sum_class e.n (weight_of e) r) in
    let both = cond_some (has_weight e && e.d == 4 && nat_lt r e.n && nat_lt 0 count) count x is in
    let some = and_parts (has_weight e && e.d == 4 && nat_lt r e.n) (nat_lt 0 count) both.0 in
    let known = and_parts (has_weight e && e.d == 4) (nat_lt r e.n) some.0 in
    let weighted = and_parts (has_weight e) (e.d == 4) known.0 in (
      record {
        weight = weighted.0;
        distance = eqb-true e.d 4 weighted.1;
        residue = ltb-true r e.n known.1;
        words = ltb-true 0 count some.1;
      },
      both.1,
    )

-- where it is defined
pub known_class : (r : ℕ) (e : Entry) → is_some (sum_class_size r e) ≡ true → KnownClass r e
known_class r e h = go (sum_class_size r e) refl h
  where
    go : (o : Option ℕ) → sum_class_size r e ≡ o → is_some o ≡ true → KnownClass r e
    go None is none = absurd (false≢true none)
    go (Some x) is some = (class_given r e x is).0

-- a class of distance 4 that has a word is defined
pub class_defined : (n w r : ℕ) → r < n → 1 ≤ length (sum_class n w r)
    → sum_class_size r (constant_weight n 4 w) ≡ Some (length (sum_class n w r))
class_defined n w r within some =
    let count = length (sum_class n w r) in
    ap₂ (λ a b. if a && b then Some count else None) (lt-ltb r n within) (lt-ltb 0 count some)

-- the words of the class are a code of the entry
class_number : (r : ℕ) (e : Entry) (x : ℕ) → sum_class_size r e ≡ Some x → IsTrueNumber Lower e x
class_number r e x is =
    let given = class_given r e x is in
    let known = given.0 in
    let count = length (sum_class e.n (weight_of e) r) in
    let code : IsTrueLower (constant_weight e.n 4 (weight_of e)) count =
    (sum_class e.n (weight_of e) r, IsCode-sum_class e.n (weight_of e) r, refl) in
    subst (IsTrueNumber Lower e) given.1
    (lower_of_weight e count (a_weight e known.weight) known.words
    (subst (λ d. IsTrueLower (constant_weight e.n d (weight_of e)) count) (sym known.distance) code))

pub graham_sloane-lawful : (r : ℕ) (c : Option Support) → IsLawful c (graham_sloane r)
graham_sloane-lawful r c = record {
  sound = λ e vs x stand entry condition known is. class_number r e x is;
  monotone = λ e us vs x h is. no_worse-same Lower (sum_class_size r e) x is;
  few = λ e stand entry. omega arith;
}
