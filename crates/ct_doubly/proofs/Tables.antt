-- One round more at a place of a table, from the places of one digit more.
use Rattle.std.proofs.Common.{◌≡◌, ℕ, zero, suc, ◌+◌, ◌-◌, ◌*◌, ◌/◌, ◌<◌, ◌≤◌, min, List, get_or, ap₂, ◌∙◌, arith}
use Rattle.std.proofs.lemmas.Bool.{le-leb}
use Rattle.ct_doubly.specs.declared.parts.Parts.{Parts}
use Rattle.ct_doubly.specs.Doubly.{shortened_bound, doubly_after}
use Rattle.ct_doubly.specs.Inside.Tables.{place_of, IsTable}

-- it matters not what is divided by 0
shortened_bound-same : (n k v v' u u' : ℕ) → (1 ≤ k → v ≡ v') → u ≡ u' → shortened_bound n k v u ≡ shortened_bound n k v' u'
shortened_bound-same n zero v v' u u' same e = e
shortened_bound-same n (suc k) v v' u u' same e =
    let some : 1 ≤ suc k = omega arith in
    rw (le-leb 1 (suc k) some) (ap₂ (λ (x y : ℕ). min (n * x / suc k) y) (same some) e)

-- what stands at a place, told by other numbers
pub at_place : (s d : ℕ) (parts : Parts) (table : List ℕ) (place : ℕ) → IsTable s parts d table → place < 256
    → (a b c e : ℕ) → place ≡ place_of a b c e → a + b + c + e + s ≤ 3
    → a ≤ parts.w1 → b ≤ parts.n1 - parts.w1 → c ≤ parts.w2 → e ≤ parts.n2 - parts.w2
    → (n1 w1 n2 w2 : ℕ) → parts.n1 - (a + b) ≡ n1 → parts.w1 - a ≡ w1 → parts.n2 - (c + e) ≡ n2 → parts.w2 - c ≡ w2
    → get_or table place 0 ≡ doubly_after s n1 w1 n2 w2 d
at_place s d parts table place is within a b c e at few ones zeros last_ones last_zeros n1 w1 n2 w2 f g h k =
    is place within a b c e at few ones zeros last_ones last_zeros
    ∙ ap₂ (λ (n w : ℕ). doubly_after s n w (parts.n2 - (c + e)) (parts.w2 - c) d) f g ∙ ap₂ (λ (n w : ℕ). doubly_after s n1 w1 n w d) h k

-- the four bounds of one round more
pub one_round : (s d : ℕ) (parts : Parts) (table : List ℕ) (place : ℕ) → place < 256 → IsTable s parts d table
    → (a b c e : ℕ) → place ≡ place_of a b c e → a + b + c + e + suc s ≤ 3
    → a ≤ parts.w1 → b ≤ parts.n1 - parts.w1 → c ≤ parts.w2 → e ≤ parts.n2 - parts.w2
    → (n1 w1 n2 w2 : ℕ) → parts.n1 - (a + b) ≡ n1 → parts.w1 - a ≡ w1 → parts.n2 - (c + e) ≡ n2 → parts.w2 - c ≡ w2
    → parts.w1 ≤ parts.n1 → parts.w2 ≤ parts.n2
    → shortened_bound n1 w1 (get_or table (place + 64) 0)
    (shortened_bound n1 (n1 - w1) (get_or table (place + 16) 0)
    (shortened_bound n2 w2 (get_or table (place + 4) 0)
    (shortened_bound n2 (n2 - w2) (get_or table (place + 1) 0)
    (get_or table place 0))))
    ≡ doubly_after (suc s) n1 w1 n2 w2 d
unfolding doubly_after
one_round s d parts table place within is a b c e at few ones zeros last_ones last_zeros n1 w1 n2 w2 f g h k first last =
    shortened_bound-same n1 w1 (get_or table (place + 64) 0) (doubly_after s (n1 - 1) (w1 - 1) n2 w2 d) _ _
    (λ some. at_place s d parts table (place + 64) is (omega arith) (a + 1) b c e (omega arith) (omega arith) (omega arith) zeros last_ones last_zeros
    (n1 - 1) (w1 - 1) n2 w2 (omega arith) (omega arith) h k)
    (shortened_bound-same n1 (n1 - w1) (get_or table (place + 16) 0) (doubly_after s (n1 - 1) w1 n2 w2 d) _ _
    (λ some. at_place s d parts table (place + 16) is (omega arith) a (b + 1) c e (omega arith) (omega arith) ones (omega arith) last_ones last_zeros
    (n1 - 1) w1 n2 w2 (omega arith) g h k)
    (shortened_bound-same n2 w2 (get_or table (place + 4) 0) (doubly_after s n1 w1 (n2 - 1) (w2 - 1) d) _ _
    (λ some. at_place s d parts table (place + 4) is (omega arith) a b (c + 1) e (omega arith) (omega arith) ones zeros (omega arith) last_zeros
    n1 w1 (n2 - 1) (w2 - 1) f g (omega arith) (omega arith))
    (shortened_bound-same n2 (n2 - w2) (get_or table (place + 1) 0) (doubly_after s n1 w1 (n2 - 1) w2 d) _ _
    (λ some. at_place s d parts table (place + 1) is (omega arith) a b c (e + 1) (omega arith) (omega arith) ones zeros last_ones (omega arith)
    n1 w1 (n2 - 1) w2 f g (omega arith) k)
    (at_place s d parts table place is within a b c e at (omega arith) ones zeros last_ones last_zeros n1 w1 n2 w2 f g h k))))
