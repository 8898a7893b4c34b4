-- Entries without weight.
use Rattle.std.proofs.Common.{◌≡◌, ℕ, List, [], ◌∷◌, Contains, zero, suc, refl, sym, subst, arith}
use Rattle.std.specs.Prelude.{not, is_some, true, Option, Some, None}
use Rattle.ct_words.specs.declared.entry.Entry.{Entry}
use Rattle.ct_words.specs.Entry.{unrestricted}
use Rattle.ct_rule_parts.specs.Parts.{has_weight}

-- the entry has no weight
abbrev pub Weightless : Entry → Type 0
Weightless e = e.w ≡ None

-- the entry has a weight
abbrev pub Weighted : Entry → Type 0
Weighted e = (w : ℕ) × (e.w ≡ Some w)

pub no_weight : (e : Entry) → not (has_weight e) ≡ true → Weightless e
no_weight e h = go e.w h
  where
    go : (w : Option ℕ) → not (is_some w) ≡ true → w ≡ None
    go None h = refl
    go (Some w) h = absurd cc

pub a_weight : (e : Entry) → has_weight e ≡ true → Weighted e
a_weight e h = go e.w h
  where
    go : (w : Option ℕ) → is_some w ≡ true → (k : ℕ) × (w ≡ Some k)
    go None h = absurd cc
    go (Some w) h = (w, refl)

-- an entry without weight is A(n,d), however its length and its distance are written
pub written : (n d : ℕ) (e : Entry) → Weightless e → n ≡ e.n → d ≡ e.d → unrestricted n d ≡ e
written n d e none length distance = λ i. record { n = length i; d = distance i; w = sym none i }

-- what holds of each item of a list of one, or of two, holds of what stands in it
pub one_item : {X : Type 0} (P : X → Type 0) (x y : X) → P x → Contains (x ∷ []) y → P y
one_item P x y here (zero, within, is) = subst P is here
one_item P x y here (suc k, within, is) = absurd (omega arith)

pub two_items : {X : Type 0} (P : X → Type 0) (x y z : X) → P x → P y → Contains (x ∷ y ∷ []) z → P z
two_items P x y z first second (zero, within, is) = subst P is first
two_items P x y z first second (suc zero, within, is) = subst P is second
two_items P x y z first second (suc (suc k), within, is) = absurd (omega arith)

-- no item stands in no list
pub no_item : {X : Type 0} (P : Type 0) (x : X) → Contains [] x → P
no_item P x h = absurd (omega (arith, h.1))

-- the item in front stands in the list
pub in_front : {X : Type 0} (x y : X) (ys : List X) → x ≡ y → Contains (x ∷ ys) y
in_front x y ys same = (0, omega arith, same)

-- what stands behind the front stands in the list
pub behind : {X : Type 0} (x y : X) (ys : List X) → Contains ys y → Contains (x ∷ ys) y
behind x y ys (k, within, is) = (suc k, omega arith, is)

-- an entry that rests on a neighbour is the neighbour's neighbour on the other side
pub turns_back : (there back : Entry → Entry) (e f : Entry) → back (there e) ≡ e → Contains (there e ∷ []) f
    → Contains (back f ∷ []) e
turns_back there back e f same rests =
    one_item (λ g. Contains (back g ∷ []) e) (there e) f (in_front (back (there e)) e [] same) rests
