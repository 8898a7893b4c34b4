use Rattle.std.proofs.Common.{◌≡◌, ◌++◌, ℕ, List, Result, refl, sym, ap, ◌∙◌, rules}
use Rattle.std.specs.Prelude.{OnOk, codes, ℤ}
use Rattle.std.proofs.lemmas.Result.{on_ok_weaker}
use mir.Val.{to_z, of_z}
use mir.Syntax.{w128}
use Rattle.ct_text.specs.Number.{spaced}
use Rattle.ct_duals.specs.declared.fault.DualFault.{DualFault}
use Rattle.ct_duals.specs.declared.fault.DualFault.TheVariants.{Above}
use Rattle.ct_dual_files.specs.DualFaultText.{spaced_integer, dual_fault_text}
use Rattle.ct_dual_files.proofs.TextParts.{onto, onto_on_ok, puts_once}
use Rattle.ct_dual_files.proofs.dual_fault_text.put_dual_fault.Goals as goal

-- the index, the value and what is allowed, one after another
above_text : {T E : Type 0} (r : Result T E) (fault : DualFault) (at k : ℕ) (value limit given allowed : ℤ) (t t1 t2 t3 : List ℕ)
    → fault ≡ Above at value limit → k ≡ at → given ≡ value → allowed ≡ limit → t1 ≡ t ++ (codes "above" ++ spaced k)
    → t2 ≡ t1 ++ spaced_integer given → OnOk r (t3 ≡ t2 ++ spaced_integer allowed) → OnOk r (t3 ≡ t ++ dual_fault_text fault)
above_text r fault at k value limit given allowed t t1 t2 t3 is k-is value-is limit-is one two put =
    let a1 = codes "above" ++ spaced at in
    let first = one ∙ ap (λ n. t ++ (codes "above" ++ spaced n)) k-is in
    on_ok_weaker r (λ all. all ∙ ap (λ (f : DualFault). t ++ dual_fault_text f) (sym is))
    (onto_on_ok r t (a1 ++ spaced_integer value) (spaced_integer limit) t2 t3
    (onto t a1 (spaced_integer value) t1 t2 first (two ∙ ap (λ (z : ℤ). t1 ++ spaced_integer z) value-is))
    (on_ok_weaker r (λ last. last ∙ ap (λ (z : ℤ). t2 ++ spaced_integer z) limit-is) put))

pub returns-in-Lead : goal.returns-in-Lead
returns-in-Lead c =
    let text = c.args.text.now.items in
    on_ok_weaker c.extend_from_slice.result (λ put. put ∙ ap (λ (f : DualFault). text ++ dual_fault_text f) (sym c.in-Lead.is))
    (puts_once c.extend_from_slice.result text (codes "lead") (codes "lead") c.extend_from_slice.new.self.items refl c.extend_from_slice.ensures.items)

pub returns-in_ok-put_spaced_integer-in-Above : goal.returns-in_ok-put_spaced_integer-in-Above
returns-in_ok-put_spaced_integer-in-Above c =
    let value = c.in-Above.value in
    let limit = c.in-Above.allowed in
    let value-is : to_z w128 (of_z w128 value) ≡ value = search rules in
    let limit-is : to_z w128 (of_z w128 limit) ≡ limit = search rules in
    above_text c.put_spaced_integer-in-Above.result c.args.fault c.in-Above.at c.from.result value limit (to_z w128 (of_z w128 value))
    (to_z w128 (of_z w128 limit)) c.args.text.now.items c.put_numbered.new.text.items c.put_spaced_integer.new.text.items
    c.put_spaced_integer-in-Above.new.text.items c.in-Above.is c.from.ensures value-is limit-is c.in_ok-put_numbered-in-Above.ensures
    c.in_ok-put_spaced_integer-in-Above.ensures c.put_spaced_integer-in-Above.ensures
