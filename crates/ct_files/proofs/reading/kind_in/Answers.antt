use Rattle.std.proofs.Common.{◌≡◌, Bool, true, false, if◌then◌else◌, refl, ap, ◌∙◌}
use Rattle.ct_files.proofs.reading.kind_in.Goals as goal

-- a test that does not hold is passed by, and the first one that holds says the kind
passed : {A : Type 0} {b : Bool} {y z : A} (x : A) → false ≡ b → z ≡ y → z ≡ (if b then x else y)
passed {y = y} x not_so rest = rest ∙ ap (λ (test : Bool). if test then x else y) not_so

met : {A : Type 0} {b : Bool} (x y : A) → true ≡ b → x ≡ (if b then x else y)
met x y so = ap (λ (test : Bool). if test then x else y) so

pub returns-then-is_of_kind : goal.returns-then-is_of_kind
returns-then-is_of_kind c = met _ _ c.if-is_of_kind.ensures

pub returns-then-is_of_kind-2 : goal.returns-then-is_of_kind-2
returns-then-is_of_kind-2 c = passed _ c.if-is_of_kind.ensures (met _ _ c.if-is_of_kind-2.ensures)

pub returns-then-is_of_kind-3 : goal.returns-then-is_of_kind-3
returns-then-is_of_kind-3 c =
    passed _ c.if-is_of_kind.ensures (passed _ c.if-is_of_kind-2.ensures (met _ _ c.if-is_of_kind-3.ensures))

pub returns-then-is_of_kind-4 : goal.returns-then-is_of_kind-4
returns-then-is_of_kind-4 c =
    passed _ c.if-is_of_kind.ensures (passed _ c.if-is_of_kind-2.ensures (passed _ c.if-is_of_kind-3.ensures (met _ _ c.if-is_of_kind-4.ensures)))

pub returns-then-is_of_kind-5 : goal.returns-then-is_of_kind-5
returns-then-is_of_kind-5 c =
    passed _ c.if-is_of_kind.ensures (passed _ c.if-is_of_kind-2.ensures (passed _ c.if-is_of_kind-3.ensures (passed _ c.if-is_of_kind-4.ensures
    (met _ _ c.if-is_of_kind-5.ensures))))

pub returns-then-is_of_kind-6 : goal.returns-then-is_of_kind-6
returns-then-is_of_kind-6 c =
    passed _ c.if-is_of_kind.ensures (passed _ c.if-is_of_kind-2.ensures (passed _ c.if-is_of_kind-3.ensures (passed _ c.if-is_of_kind-4.ensures
    (passed _ c.if-is_of_kind-5.ensures (met _ _ c.if-is_of_kind-6.ensures)))))

pub returns-then-is_of_kind-7 : goal.returns-then-is_of_kind-7
returns-then-is_of_kind-7 c =
    passed _ c.if-is_of_kind.ensures (passed _ c.if-is_of_kind-2.ensures (passed _ c.if-is_of_kind-3.ensures (passed _ c.if-is_of_kind-4.ensures
    (passed _ c.if-is_of_kind-5.ensures (passed _ c.if-is_of_kind-6.ensures (met _ _ c.if-is_of_kind-7.ensures))))))

pub returns-then-is_of_kind-8 : goal.returns-then-is_of_kind-8
returns-then-is_of_kind-8 c =
    passed _ c.if-is_of_kind.ensures (passed _ c.if-is_of_kind-2.ensures (passed _ c.if-is_of_kind-3.ensures (passed _ c.if-is_of_kind-4.ensures
    (passed _ c.if-is_of_kind-5.ensures (passed _ c.if-is_of_kind-6.ensures (passed _ c.if-is_of_kind-7.ensures (met _ _ c.if-is_of_kind-8.ensures)))))))

pub returns-then-is_of_kind-9 : goal.returns-then-is_of_kind-9
returns-then-is_of_kind-9 c =
    passed _ c.if-is_of_kind.ensures (passed _ c.if-is_of_kind-2.ensures (passed _ c.if-is_of_kind-3.ensures (passed _ c.if-is_of_kind-4.ensures
    (passed _ c.if-is_of_kind-5.ensures (passed _ c.if-is_of_kind-6.ensures (passed _ c.if-is_of_kind-7.ensures (passed _ c.if-is_of_kind-8.ensures
    (met _ _ c.if-is_of_kind-9.ensures))))))))

pub returns : goal.returns
returns c =
    passed _ c.if-is_of_kind.ensures (passed _ c.if-is_of_kind-2.ensures (passed _ c.if-is_of_kind-3.ensures (passed _ c.if-is_of_kind-4.ensures
    (passed _ c.if-is_of_kind-5.ensures (passed _ c.if-is_of_kind-6.ensures (passed _ c.if-is_of_kind-7.ensures (passed _ c.if-is_of_kind-8.ensures
    (passed _ c.if-is_of_kind-9.ensures refl))))))))
