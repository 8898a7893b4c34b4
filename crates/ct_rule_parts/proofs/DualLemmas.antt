-- The dual of a support, and what it rests on.
use Rattle.std.proofs.Common.{◌≡◌, ℕ, List, [], ◌∷◌, All, refl, ap, sym, ◌∙◌, subst}
use Rattle.std.specs.Prelude.{Bool, true, false, cond, if◌then◌else◌, is_some, Option, Some, None, option_map}
use Rattle.std.proofs.lemmas.Bool.{and_from, false≢true}
use Rattle.std.proofs.lemmas.Option.{cond_some, none-some}
use Rattle.std.proofs.lemmas.List.Elements.{All-head, All-tail}
use Rattle.ct_words.specs.declared.entry.Entry.{Entry}
use Rattle.ct_words.specs.Entry.{IsEntry, is_entry, same_entry}
use Rattle.ct_words.proofs.EntryLemmas.{same_entry_is, same_entry-self}
use Rattle.ct_duals.specs.Bound.{AcceptedValue}
use Rattle.ct_rule_parts.specs.declared.support.Support.{Support}
use Rattle.ct_rule_parts.specs.declared.support.Support.TheVariants.{Nothing, Size, Bound, Odd, Local}
use Rattle.ct_rule_parts.specs.Parts.{are_entries}
use Rattle.ct_rule_parts.specs.Support.{OddValue, dual_at, odd_at, local_at, dual_behind}

-- a dual that a support gives at an entry is the support's, and of the entry
pub record HasDual (c : Option Support) (e : Entry) (a : AcceptedValue) : Type 0 where
  pub support : c ≡ Some (Bound a)
  pub entry : a.dual.entry ≡ e

pub dual_there : (c : Option Support) (e : Entry) (a : AcceptedValue) → dual_at c e ≡ Some a → HasDual c e a
dual_there None e a h = absurd (none-some a h)
dual_there (Some Nothing) e a h = absurd (none-some a h)
dual_there (Some (Size f size)) e a h = absurd (none-some a h)
dual_there (Some (Odd b m)) e a h = absurd (none-some a h)
dual_there (Some (Local b)) e a h = absurd (none-some a h)
dual_there (Some (Bound b)) e a h =
    let both = cond_some (same_entry b.dual.entry e) b a h in
    record {
      support = ap (λ (x : AcceptedValue). Some (Bound x)) both.1;
      entry = subst (λ (x : AcceptedValue). x.dual.entry ≡ e) both.1 (same_entry_is b.dual.entry e both.0);
    }

-- so is one by which a support may exclude a number of words
pub record HasOdd (c : Option Support) (e : Entry) (o : OddValue) : Type 0 where
  pub support : c ≡ Some (Odd o.accepted o.m)
  pub entry : o.accepted.dual.entry ≡ e

pub odd_there : (c : Option Support) (e : Entry) (o : OddValue) → odd_at c e ≡ Some o → HasOdd c e o
odd_there None e o h = absurd (none-some o h)
odd_there (Some Nothing) e o h = absurd (none-some o h)
odd_there (Some (Size f size)) e o h = absurd (none-some o h)
odd_there (Some (Bound b)) e o h = absurd (none-some o h)
odd_there (Some (Local b)) e o h = absurd (none-some o h)
odd_there (Some (Odd b m)) e o h =
    let both = cond_some (same_entry b.dual.entry e) (record { accepted = b; m = m }) o h in
    record {
      support = ap (λ (x : OddValue). Some (Odd x.accepted x.m)) both.1;
      entry = subst (λ (x : OddValue). x.accepted.dual.entry ≡ e) both.1 (same_entry_is b.dual.entry e both.0);
    }

-- so is one whose local bound it gives
pub record HasLocal (c : Option Support) (e : Entry) (a : AcceptedValue) : Type 0 where
  pub support : c ≡ Some (Local a)
  pub entry : a.dual.entry ≡ e

pub local_there : (c : Option Support) (e : Entry) (a : AcceptedValue) → local_at c e ≡ Some a → HasLocal c e a
local_there None e a h = absurd (none-some a h)
local_there (Some Nothing) e a h = absurd (none-some a h)
local_there (Some (Size f size)) e a h = absurd (none-some a h)
local_there (Some (Bound b)) e a h = absurd (none-some a h)
local_there (Some (Odd b m)) e a h = absurd (none-some a h)
local_there (Some (Local b)) e a h =
    let both = cond_some (same_entry b.dual.entry e) b a h in
    record {
      support = ap (λ (x : AcceptedValue). Some (Local x)) both.1;
      entry = subst (λ (x : AcceptedValue). x.dual.entry ≡ e) both.1 (same_entry_is b.dual.entry e both.0);
    }

-- what a support gives by a dual at an entry it gives by the one that it has there
pub behind-bound : (c : Option Support) (e : Entry) → is_some (dual_at c e) ≡ true → is_some (dual_behind c e) ≡ true
behind-bound (Some (Bound a)) e is = is
behind-bound None e is = absurd (false≢true is)
behind-bound (Some Nothing) e is = absurd (false≢true is)
behind-bound (Some (Size f size)) e is = absurd (false≢true is)
behind-bound (Some (Odd a m)) e is = absurd (false≢true is)
behind-bound (Some (Local a)) e is = absurd (false≢true is)

pub odd_dual-behind : (a : AcceptedValue) (m : ℕ) (e : Entry)
    → option_map (λ (o : OddValue). o.accepted) (odd_at (Some (Odd a m)) e) ≡ dual_behind (Some (Odd a m)) e
odd_dual-behind a m e = go (same_entry a.dual.entry e)
  where
    go : (b : Bool) → option_map (λ (o : OddValue). o.accepted) (cond b (Some (record { accepted = a; m = m })) None) ≡ cond b (Some a) None
    go true = refl
    go false = refl

pub behind-odd : (c : Option Support) (e : Entry) → is_some (odd_at c e) ≡ true → is_some (dual_behind c e) ≡ true
behind-odd None e is = absurd (false≢true is)
behind-odd (Some Nothing) e is = absurd (false≢true is)
behind-odd (Some (Size f size)) e is = absurd (false≢true is)
behind-odd (Some (Bound a)) e is = absurd (false≢true is)
behind-odd (Some (Local a)) e is = absurd (false≢true is)
behind-odd (Some (Odd a m)) e is =
    ap is_some (sym (odd_dual-behind a m e)) ∙ some_mapped (odd_at (Some (Odd a m)) e) is
  where
    some_mapped : (o : Option OddValue) → is_some o ≡ true → is_some (option_map (λ (x : OddValue). x.accepted) o) ≡ true
    some_mapped None is = absurd (false≢true is)
    some_mapped (Some x) is = refl

pub behind-local : (c : Option Support) (e : Entry) → is_some (local_at c e) ≡ true → is_some (dual_behind c e) ≡ true
behind-local (Some (Local a)) e is = is
behind-local None e is = absurd (false≢true is)
behind-local (Some Nothing) e is = absurd (false≢true is)
behind-local (Some (Size f size)) e is = absurd (false≢true is)
behind-local (Some (Bound a)) e is = absurd (false≢true is)
behind-local (Some (Odd a m)) e is = absurd (false≢true is)

-- a support gives its dual at the dual's own entry
pub dual_at-own : (a : AcceptedValue) → dual_at (Some (Bound a)) a.dual.entry ≡ Some a
dual_at-own a = ap (λ (b : Bool). if b then Some a else None) (same_entry-self a.dual.entry)

-- entries of the table
pub are_entries-from_All : (es : List Entry) → All IsEntry es → are_entries es ≡ true
are_entries-from_All [] h = refl
are_entries-from_All (e ∷ es) h =
    and_from (is_entry e) (are_entries es) (All-head IsEntry e es h) (are_entries-from_All es (All-tail IsEntry e es h))
