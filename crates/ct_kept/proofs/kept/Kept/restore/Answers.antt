use Rattle.std.proofs.Common.{◌≡◌, ℕ, ◌≤◌, ◌-◌, List, ◌++◌, length, take, subst, ap, ◌∙◌, arith}
use Rattle.ct_rules.specs.Derivation.{LineValue}
use Rattle.ct_kept.specs.Kept.{KeptValue, SavedValue}
use Rattle.ct_kept.proofs.LineLemmas.{kept_in, kept_again}
use Rattle.ct_kept.proofs.kept.Kept.restore.Goals as goal

pub returns : goal.returns
returns c =
    let old = c.self.inside in
    let saved = c.saved.inside in
    let count : c.len.result ≡ length old.first.items = c.len.ensures ∙ old.first.ok.0 in
    let new = kept_in saved.bounds saved.reasons.items (old.first.items ++ c.truncate.new.self.items) (length old.first.items) in
    let within : length old.first.items ≤ saved.count =
    subst (λ (k : KeptValue). k.base ≤ saved.count → length old.first.items ≤ saved.count) c.self.view_is (λ h. h)
    (subst (λ (s : SavedValue). c.args.self.now.base ≤ s.count → c.args.self.now.base ≤ saved.count) c.saved.view_is (λ h. h) c.requires.base) in
    subst (λ (s : SavedValue). new ≡ kept_in s.bounds s.reasons (take s.count c.args.self.now.lines) c.args.self.now.base) c.saved.view_is
    (subst (λ (k : KeptValue). new ≡ kept_in saved.bounds saved.reasons.items (take saved.count k.lines) k.base) c.self.view_is
    (kept_again saved.bounds saved.reasons.items old.first.items old.later.items c.truncate.new.self.items saved.count within
    (subst (λ (k : ℕ). c.truncate.new.self.items ≡ take (saved.count - k) old.later.items) count c.truncate.ensures.items)))

pub invariant_of-self : goal.invariant_of-self
invariant_of-self c = c.saved.invariant

-- the lines of the base are among those of that time
base-within : (size count : ℕ) (first : List LineValue) (kept : KeptValue) (saved : SavedValue) → size ≡ length first → length first ≡ kept.base
    → count ≡ saved.count → kept.base ≤ saved.count → size ≤ count
base-within size count first kept saved size-is base-is count-is within = omega (arith, size-is, base-is, count-is, within)

pub overflow_sub-saved-inside : goal.overflow_sub-saved-inside
overflow_sub-saved-inside c =
    let first = c.self.inside.first in
    base-within c.len.result c.saved.inside.count first.items c.args.self.now c.args.saved (c.len.ensures ∙ first.ok.0)
    (ap (λ (k : KeptValue). k.base) c.self.view_is) (ap (λ (s : SavedValue). s.count) c.saved.view_is) c.requires.base
