use Rattle.std.proofs.Common.{◌≡◌, ℕ, List, ◌++◌, append_assoc, codes, OnOk, sym, ap, subst, ◌∙◌}
use Rattle.std.proofs.lemmas.Result.{IfOk-from_err, on_ok_weaker}
use Rattle.ct_classes.specs.declared.fault.PartitionFault.{PartitionFault}
use Rattle.ct_text.specs.Number.{spaced}
use Rattle.ct_text.proofs.GrowingTexts.{puts-four}
use Rattle.ct_partition_files.specs.PartitionFaultText.{partition_fault_text}
use Rattle.ct_partition_files.proofs.partition_fault_text.put_partition_fault.Goals as goal

regrouped : (pair far classes a b need d : List ℕ)
    → ((pair ++ far) ++ ((classes ++ a) ++ b)) ++ (need ++ d) ≡ (((((pair ++ far) ++ classes) ++ a) ++ b) ++ need) ++ d
regrouped pair far classes a b need d =
    let front = pair ++ far in
    sym (append_assoc (front ++ ((classes ++ a) ++ b)) need d)
    ∙ ap (λ l. (l ++ need) ++ d) (sym (append_assoc front (classes ++ a) b) ∙ ap (λ l. l ++ b) (sym (append_assoc front classes a)))

-- a text to which a close pair is put in four steps
puts_close : (text pair far classes a b need d first second third new : List ℕ) → first ≡ text ++ pair → second ≡ first ++ far
    → third ≡ second ++ ((classes ++ a) ++ b) → new ≡ third ++ (need ++ d)
    → new ≡ text ++ ((((((pair ++ far) ++ classes) ++ a) ++ b) ++ need) ++ d)
puts_close text pair far classes a b need d first second third new h i j k =
    puts-four text pair far ((classes ++ a) ++ b) (need ++ d) first second third new h i j k
    ∙ ap (λ l. text ++ l) (regrouped pair far classes a b need d)

pub returns-in_ok-put_numbered_pair-in-Close-2 : goal.returns-in_ok-put_numbered_pair-in-Close-2
returns-in_ok-put_numbered_pair-in-Close-2 c =
    let x = c.in-Close in
    let text = c.args.text.now.items in
    let first = c.put_numbered_pair-in-Close.new.text.items in
    let second = c.put_spaced.new.text.items in
    let third = c.put_numbered_pair-in-Close-2.new.text.items in
    let far = c.in_ok-put_spaced-in-Close.ensures.ok ∙ ap (λ n. first ++ spaced n) c.from.ensures in
    on_ok_weaker c.put_numbered-in-Close.result
    (λ put. puts_close text (codes "close" ++ spaced x.i ++ spaced x.j) (spaced x.distance) (codes " classes") (spaced x.class_i) (spaced x.class_j)
    (codes " need") (spaced x.need) first second third c.put_numbered-in-Close.new.text.items c.in_ok-put_numbered_pair-in-Close.ensures far
    c.in_ok-put_numbered_pair-in-Close-2.ensures (put ∙ ap (λ n. third ++ (codes " need" ++ spaced n)) c.from-in-Close.ensures)
    ∙ ap (λ (f : PartitionFault). text ++ partition_fault_text f) (sym x.is)) c.put_numbered-in-Close.ensures

pub returns-in-Size : goal.returns-in-Size
returns-in-Size c =
    subst (λ (f : PartitionFault). OnOk c.put_numbered.result (c.put_numbered.new.text.items ≡ c.args.text.now.items ++ partition_fault_text f))
    (sym c.in-Size.is) c.put_numbered.ensures

pub returns-in-Weight : goal.returns-in-Weight
returns-in-Weight c =
    subst (λ (f : PartitionFault).
    OnOk c.put_numbered-in-Weight.result (c.put_numbered-in-Weight.new.text.items ≡ c.args.text.now.items ++ partition_fault_text f)) (sym c.in-Weight.is)
    c.put_numbered-in-Weight.ensures

pub returns-in-Repeated : goal.returns-in-Repeated
returns-in-Repeated c =
    subst (λ (f : PartitionFault). OnOk c.put_numbered_pair.result (c.put_numbered_pair.new.text.items ≡ c.args.text.now.items ++ partition_fault_text f))
    (sym c.in-Repeated.is) c.put_numbered_pair.ensures

pub returns-in_err-put_spaced-in-Close : goal.returns-in_err-put_spaced-in-Close
returns-in_err-put_spaced-in-Close c =
    IfOk-from_err c.from_residual-in_err-put_spaced-in-Close.result _ c.from_residual-in_err-put_spaced-in-Close.ensures.0

pub returns-in_err-put_numbered_pair-in-Close-2 : goal.returns-in_err-put_numbered_pair-in-Close-2
returns-in_err-put_numbered_pair-in-Close-2 c =
    IfOk-from_err c.from_residual-in_err-put_numbered_pair-in-Close-2.result _ c.from_residual-in_err-put_numbered_pair-in-Close-2.ensures.0
