-- Vectors that were made with room for a number of items, and are filled one by one.
use Rattle.std.proofs.Common.{◌≡◌, ℕ, ◌+◌, ◌<◌, ◌≤◌, Global, ap, sym, subst, ◌∙◌, arith}
use Rattle.std.specs.Prelude.{Vec}
use Rattle.std.specs.Vec.{vec_len, vec_capacity}

-- so many items stand there, and there is room for so many
abbrev pub HasRoom : {T : Type 0} → Vec T Global → ℕ → ℕ → Type 0
HasRoom v count room = (vec_len v ≡ count) × (room ≤ vec_capacity v)

-- one item more fits while there are fewer
pub room_left : {T : Type 0} (v : Vec T Global) (count room : ℕ) → HasRoom v count room → count < room → vec_len v < vec_capacity v
room_left v count room (long, roomy) below = omega arith

-- after it the room is the same
pub room_stays : {T : Type 0} (v new : Vec T Global) (count room : ℕ) → HasRoom v count room → vec_len new ≡ vec_len v + 1
    → vec_capacity new ≡ vec_capacity v → HasRoom new (count + 1) room
room_stays v new count room (long, roomy) longer same = (longer ∙ ap (λ n. n + 1) long, subst (λ n. room ≤ n) (sym same) roomy)
