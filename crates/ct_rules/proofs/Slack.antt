-- Bounds with another at one slot, and how far bounds are from the best that they could be.
use Rattle.std.proofs.Common.{◌≡◌, ℕ, zero, suc, ◌-◌, ◌<◌, ◌≤◌, Bool, true, false, ◌&&◌, if◌then◌else◌, List, [], ◌∷◌, Contains, sum_by, refl, sym, subst, inl, inr, ◌⊎◌, le_refl, arith}
use Rattle.std.proofs.lemmas.Bool.{and_parts, and_from, cases_lt}
use Rattle.std.proofs.lemmas.List.Sums.{sum_by-cons, sum_by-le-sum_by}
use Rattle.ct_words.specs.declared.limits.TheConstants.{MAX_BOUND}
use Rattle.ct_words.specs.declared.claim.Side.{Side}
use Rattle.ct_words.specs.declared.claim.Side.TheVariants.{Lower, Upper}
use Rattle.ct_words.specs.Entry.{same_entry}
use Rattle.ct_words.proofs.EntryLemmas.{same_entry_is, same_entry-self}
use Rattle.ct_rule_parts.specs.Slot.{IsBetter, Slot, IsNoBetter}

-- a bound is better than another or not
pub better_or_not : (side : Side) (u v : ℕ) → IsNoBetter side u v ⊎ IsBetter side u v
better_or_not Lower u v = go (cases_lt v u)
  where
    go : (v < u) ⊎ (u ≤ v) → (u ≤ v) ⊎ (v < u)
    go (inl more) = inr more
    go (inr less) = inl less
better_or_not Upper u v = go (cases_lt u v)
  where
    go : (u < v) ⊎ (v ≤ u) → (v ≤ u) ⊎ (u < v)
    go (inl less) = inr less
    go (inr more) = inl more

-- whether two slots are one
same_side : Side → Side → Bool
same_side Lower Lower = true
same_side Upper Upper = true
same_side s t = false

same_slot : Slot → Slot → Bool
same_slot s t = same_side s.0 t.0 && same_entry s.1 t.1

same_side_is : (s t : Side) → same_side s t ≡ true → s ≡ t
unfolding same_side
same_side_is Lower Lower h = refl
same_side_is Upper Upper h = refl
same_side_is Lower Upper h = absurd cc
same_side_is Upper Lower h = absurd cc

same_side-self : (s : Side) → same_side s s ≡ true
unfolding same_side
same_side-self Lower = refl
same_side-self Upper = refl

same_slot_is : (s t : Slot) → same_slot s t ≡ true → s ≡ t
unfolding same_slot
same_slot_is s t h =
    let parts = and_parts (same_side s.0 t.0) (same_entry s.1 t.1) h in
    let side = same_side_is s.0 t.0 parts.0 in
    let entry = same_entry_is s.1 t.1 parts.1 in
    λ i. (side i, entry i)

same_slot-self : (s : Slot) → same_slot s s ≡ true
unfolding same_slot
same_slot-self s = and_from (same_side s.0 s.0) (same_entry s.1 s.1) (same_side-self s.0) (same_entry-self s.1)

-- the bounds with v at one slot
pub replaced : (Slot → ℕ) → Slot → ℕ → Slot → ℕ
replaced bounds at v s = if same_slot s at then v else bounds s

replaced-same : (bounds : Slot → ℕ) (at : Slot) (v : ℕ) → replaced bounds at v at ≡ v
unfolding replaced
replaced-same bounds at v = rw (same_slot-self at) refl

-- what holds of v at its slot and of the other bounds at theirs holds of the new bounds
pub replaced-each : (P : Slot → ℕ → Type 0) (bounds : Slot → ℕ) (at : Slot) (v : ℕ) (s : Slot) → P at v → P s (bounds s)
    → P s (replaced bounds at v s)
unfolding replaced
replaced-each P bounds at v s new old = go (same_slot s at) refl
  where
    go : (b : Bool) → same_slot s at ≡ b → P s (if b then v else bounds s)
    go true is = subst (λ (t : Slot). P t v) (sym (same_slot_is s at is)) new
    go false is = old

-- how far a bound is from the best that it could be
abbrev pub room : Side → ℕ → ℕ
room Lower v = MAX_BOUND - v
room Upper v = v

-- how far bounds are from the best that they could be, over a list of slots
pub slack : (Slot → ℕ) → List Slot → ℕ
slack bounds slots = sum_by (λ s. room s.0 (bounds s)) slots

less_room : (side : Side) (u v : ℕ) → u ≤ MAX_BOUND → IsBetter side u v → room side u < room side v
less_room Lower u v limit better = omega arith
less_room Upper u v limit better = better

-- a sum of terms none of which is greater, and one of which is less, is less
sum_by-lt : {X : Type 0} (f g : X → ℕ) (xs : List X) (x : X) → ((y : X) → f y ≤ g y) → f x < g x → Contains xs x
    → sum_by f xs < sum_by g xs
sum_by-lt f g [] x all less (k, within, is) = absurd (omega arith)
sum_by-lt f g (y ∷ ys) x all less (zero, within, is) =
    let here : f y < g y = subst (λ z. f z < g z) (sym is) less in
    let rest = sum_by-le-sum_by f g ys all in
    omega (arith, sum_by-cons f y ys, sum_by-cons g y ys)
sum_by-lt f g (y ∷ ys) x all less (suc k, within, is) =
    let here = all y in
    let rest = sum_by-lt f g ys x all less (k, omega arith, is) in
    omega (arith, sum_by-cons f y ys, sum_by-cons g y ys)

-- a better bound leaves less slack
pub slack-replaced : (bounds : Slot → ℕ) (at : Slot) (v : ℕ) (slots : List Slot) → v ≤ MAX_BOUND
    → IsBetter at.0 v (bounds at) → Contains slots at
    → slack (replaced bounds at v) slots < slack bounds slots
unfolding slack
slack-replaced bounds at v slots limit better here =
    sum_by-lt (λ s. room s.0 (replaced bounds at v s)) (λ s. room s.0 (bounds s)) slots at no_more less here
  where
    drop_here : room at.0 v < room at.0 (bounds at)
    drop_here = less_room at.0 v (bounds at) limit better

    less : room at.0 (replaced bounds at v at) < room at.0 (bounds at)
    less = rw (replaced-same bounds at v) drop_here

    no_more : (s : Slot) → room s.0 (replaced bounds at v s) ≤ room s.0 (bounds s)
    no_more s =
        replaced-each (λ t x. room t.0 x ≤ room t.0 (bounds t)) bounds at v s
        (let h = drop_here in omega arith) (le_refl (room s.0 (bounds s)))
