-- An entry with weight is a neighbour of its neighbours.
use Rattle.std.proofs.Common.{◌≡◌, ℕ, ◌+◌, ◌-◌, ◌≤◌, refl, ap₂, ◌∙◌, arith}
use Rattle.ct_words.specs.declared.entry.Entry.{Entry}
use Rattle.ct_words.specs.Entry.{IsEntry, constant_weight}
use Rattle.ct_words.proofs.EntryLemmas.{entry_limits}
use Rattle.ct_rule_parts.specs.Parts.{weight_of}
use Rattle.ct_rule_parts.proofs.PlainEntries.{Weighted}
use Rattle.ct_rule_parts.proofs.WeightEntries.{written_weight}
use Rattle.ct_weight_rules.specs.Neighbours.{zero_less, zero_more, one_less, one_more, two_nearer, two_farther}

-- an entry with a weight is A(n,d,w), however its length, its distance and its weight are written
pub entry_written : (n d w : ℕ) (e : Entry) → Weighted e → n ≡ e.n → d ≡ e.d → w ≡ weight_of e → constant_weight n d w ≡ e
entry_written n d w e weighted length distance weight =
    ap₂ (λ (m f : ℕ). constant_weight m f w) length distance ∙ written_weight w e weighted weight

pub zero_more-zero_less : (e : Entry) → IsEntry e → Weighted e → zero_more (zero_less e) ≡ e
zero_more-zero_less e entry weighted =
    let limits = entry_limits e entry in
    entry_written (e.n - 1 + 1) e.d (weight_of e) e weighted (omega (arith, limits.length_from)) refl refl

pub zero_less-zero_more : (e : Entry) → Weighted e → zero_less (zero_more e) ≡ e
zero_less-zero_more e weighted = entry_written (e.n + 1 - 1) e.d (weight_of e) e weighted (omega arith) refl refl

pub one_more-one_less : (e : Entry) → IsEntry e → Weighted e → 1 ≤ weight_of e → one_more (one_less e) ≡ e
one_more-one_less e entry weighted some =
    let limits = entry_limits e entry in
    entry_written (e.n - 1 + 1) e.d (weight_of e - 1 + 1) e weighted (omega (arith, limits.length_from)) refl (omega arith)

pub two_farther-two_nearer : (e : Entry) → IsEntry e → Weighted e → two_farther (two_nearer e) ≡ e
two_farther-two_nearer e entry weighted =
    let limits = entry_limits e entry in
    entry_written e.n (e.d - 2 + 2) (weight_of e) e weighted refl (omega (arith, limits.distance_from)) refl

pub two_nearer-two_farther : (e : Entry) → Weighted e → two_nearer (two_farther e) ≡ e
two_nearer-two_farther e weighted = entry_written e.n (e.d + 2 - 2) (weight_of e) e weighted refl (omega arith) refl

pub one_less-one_more : (e : Entry) → Weighted e → one_less (one_more e) ≡ e
one_less-one_more e weighted =
    entry_written (e.n + 1 - 1) e.d (weight_of e + 1 - 1) e weighted (omega arith) refl (omega arith)
