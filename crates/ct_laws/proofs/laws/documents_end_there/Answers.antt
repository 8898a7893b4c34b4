use Rattle.std.proofs.Common.{◌≡◌, Bool, true, false, ◌||◌, ◌⊎◌, inl, inr, codes, refl}
use Rattle.std.specs.Str.{bytes_eq}
use Rattle.std.proofs.lemmas.Slice.Eq.{bytes_eq-Decides}
use Rattle.ct_laws.proofs.laws.documents_end_there.Goals as goal

either : (a b : Bool) → (a || b) ≡ true → (a ≡ true) ⊎ (b ≡ true)
either true b h = inl refl
either false b h = inr h

left_holds : (a b : Bool) → a ≡ true → (a || b) ≡ true
left_holds true b h = refl
left_holds false b h = absurd cc

right_holds : (a b : Bool) → b ≡ true → (a || b) ≡ true
right_holds true b h = refl
right_holds false b h = h

pub returns : goal.returns
returns c = λ line.
    let plain = bytes_eq-Decides line (codes "end") in
    let returned = bytes_eq-Decides line (codes "end\r") in (
      λ h. elim (either (bytes_eq line (codes "end")) (bytes_eq line (codes "end\r")) h) [ inl e ↦ inl (plain.0 e) | inr e ↦ inr (returned.0 e) ],
      λ same. elim same [ inl e ↦ left_holds (bytes_eq line (codes "end")) (bytes_eq line (codes "end\r")) (plain.1 e) | inr e ↦ right_holds (bytes_eq line (codes "end")) (bytes_eq line (codes "end\r")) (returned.1 e) ],
    )
