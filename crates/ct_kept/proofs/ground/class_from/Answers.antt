-- The class of the entry's weight, where it has one and the distance 4.
use Rattle.std.proofs.Common.{◌≡◌, ◌≤◌, ℕ, Option, Some, None, sym, ap, subst, ◌∙◌}
use Rattle.std.specs.Prelude.{◌==◌, ◌&&◌, if◌then◌else◌}
use Rattle.std.proofs.lemmas.Option.{none-some, same_Some, slice_get_within, get_or_from_slice_get}
use Rattle.ct_words.specs.declared.entry.Entry.{Entry}
use Rattle.ct_words.proofs.EntryLemmas.{entry_limits}
use Rattle.ct_words.specs.Entry.{IsEntry}
use Rattle.ct_rule_parts.specs.Parts.{has_weight, weight_of}
use Rattle.ct_kept.specs.Inside.Ground.{class_of}
use Rattle.ct_kept.proofs.ground.class_from.Goals as goal

there : (n d : ℕ) (o : Option ℕ) (w : ℕ) → o ≡ Some w → d ≡ 4
    → Some (class_of n w) ≡ (if has_weight (record { n = n; d = d; w = o }) && d == 4 then Some (class_of n (weight_of (record { n = n; d = d; w = o }))) else None)
there n d None w heavy four = absurd (none-some w heavy)
there n d (Some v) w heavy four =
    subst (λ k. Some (class_of n w) ≡ (if k == 4 then Some (class_of n v) else None)) (sym four)
    (ap (λ u. Some (class_of n u)) (sym (same_Some v w heavy)))

light : (n d : ℕ) (w : ℕ) → IsEntry (record { n = n; d = d; w = Some w }) → w ≤ n
light n d w entry = let limits = entry_limits (record { n = n; d = d; w = Some w }) entry in limits.weight.2

weight_within : (e : Entry) (w : ℕ) → IsEntry e → e.w ≡ Some w → w ≤ e.n
weight_within e w entry heavy = light e.n e.d w (subst (λ (o : Option ℕ). IsEntry (record { n = e.n; d = e.d; w = o })) heavy entry)

pub bounds-classes-w : goal.bounds-classes-w
bounds-classes-w c =
    let e = c.args.entry in
    slice_get_within c.args.classes.now c.in_ok-w.w (class_of e.n c.in_ok-w.w)
    (c.requires.classes c.in_ok-w.w (weight_within e c.in_ok-w.w c.requires.entry c.in_ok-w.was))

pub returns-then-entry-eq4 : goal.returns-then-entry-eq4
returns-then-entry-eq4 c =
    let e = c.args.entry in
    let w = c.in_ok-w.w in
    let largest = c.requires.classes w (weight_within e w c.requires.entry c.in_ok-w.was) in
    ap Some (get_or_from_slice_get c.args.classes.now w (class_of e.n w) (record { residue = 0; size = 0 }) largest)
    ∙ there e.n e.d e.w w c.in_ok-w.was c.if-entry-eq4.true
