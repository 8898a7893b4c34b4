use Rattle.std.proofs.Common.{◌≡◌, ◌++◌, ℕ, List, Result, Ok, Err, if◌then◌else◌, is_ok, refl, sym, ap, ap₂, ◌∙◌}
use Rattle.std.specs.Prelude.{OnOk, codes}
use Rattle.std.proofs.lemmas.Result.{on_ok_weaker}
use Rattle.ct_text.specs.Number.{spaced}
use Rattle.ct_build.specs.declared.fault.BuildFault.{BuildFault}
use Rattle.ct_build.specs.declared.fault.BuildFault.TheVariants.{Short, Size, Few, Empty}
use Rattle.ct_build_files.specs.BuildFaultText.{build_fault_text}
use Rattle.ct_build_files.proofs.build_fault_text.put_build_fault.Goals as goal

-- what is put is the text of the fault that it is
told : {T E : Type 0} (r : Result T E) (fault shown : BuildFault) (t given new : List ℕ) → fault ≡ shown → given ≡ build_fault_text shown
    → OnOk r (new ≡ t ++ given) → OnOk r (new ≡ t ++ build_fault_text fault)
told r fault shown t given new is given-is =
    on_ok_weaker r (λ put. put ∙ ap (λ (l : List ℕ). t ++ l) (given-is ∙ ap build_fault_text (sym is)))

-- and it is put at once, or it is not
at_once : {T E : Type 0} (r : Result T E) (t given new : List ℕ) → new ≡ (if is_ok r then t ++ given else t) → OnOk r (new ≡ t ++ given)
at_once (Ok x) t given new is = is
at_once (Err fault) t given new is = tt

pub returns-in-Short : goal.returns-in-Short
returns-in-Short c =
    told c.put_numbered_pair.result c.args.fault (Short c.in-Short.have c.in-Short.want) c.args.text.now.items
    (codes "short" ++ spaced c.from.result ++ spaced c.from-in-Short.result) c.put_numbered_pair.new.text.items c.in-Short.is
    (ap₂ (λ (have want : ℕ). codes "short" ++ spaced have ++ spaced want) c.from.ensures c.from-in-Short.ensures) c.put_numbered_pair.ensures

pub returns-in-Size : goal.returns-in-Size
returns-in-Size c =
    let shown = Size c.in-Size.count in
    told c.put_numbered.result c.args.fault shown c.args.text.now.items (build_fault_text shown) c.put_numbered.new.text.items c.in-Size.is refl
    c.put_numbered.ensures

pub returns-in-Few : goal.returns-in-Few
returns-in-Few c =
    let shown = Few c.in-Few.have c.in-Few.want in
    told c.put_numbered_pair-in-Few.result c.args.fault shown c.args.text.now.items (build_fault_text shown) c.put_numbered_pair-in-Few.new.text.items
    c.in-Few.is refl c.put_numbered_pair-in-Few.ensures

pub returns-in-Empty : goal.returns-in-Empty
returns-in-Empty c =
    let text = c.args.text.now.items in
    let new = c.extend_from_slice.new.self.items in
    told c.extend_from_slice.result c.args.fault Empty text (codes "empty") new c.in-Empty.is refl
    (at_once c.extend_from_slice.result text (codes "empty") new c.extend_from_slice.ensures.items)
