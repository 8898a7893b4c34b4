use Rattle.std.proofs.Common.{◌≡◌, ℕ, List, ◌++◌, append_assoc, codes, OnOk, sym, ap, subst, ◌∙◌}
use Rattle.std.proofs.lemmas.Result.{on_ok_weaker}
use Rattle.ct_fields.specs.Field.{field_text}
use Rattle.ct_fields.specs.declared.fault.DocumentFault.{DocumentFault}
use Rattle.ct_files.specs.Refusal.{file_fault_text}
use Rattle.ct_files.proofs.PutTexts.{puts-whole}
use Rattle.ct_files.proofs.refusal.put_file_fault.Goals as goal

pub returns-in-Bytes : goal.returns-in-Bytes
returns-in-Bytes c =
    let put = c.put_numbered in
    subst (λ (f : DocumentFault). OnOk put.result (put.new.text.items ≡ c.args.text.now.items ++ file_fault_text f)) (sym c.in-Bytes.is) put.ensures

pub returns-in-NotToml : goal.returns-in-NotToml
returns-in-NotToml c =
    puts-whole c.extend_from_slice.result c.extend_from_slice.new.self.items c.args.text.now.items (codes "toml") (file_fault_text c.args.fault)
    c.extend_from_slice.ensures.items (ap file_fault_text (sym c.in-NotToml.is))

pub returns-in-Kind : goal.returns-in-Kind
returns-in-Kind c =
    puts-whole c.extend_from_slice-in-Kind.result c.extend_from_slice-in-Kind.new.self.items c.args.text.now.items (codes "kind") (file_fault_text c.args.fault)
    c.extend_from_slice-in-Kind.ensures.items (ap file_fault_text (sym c.in-Kind.is))

pub returns-in_ok-extend_from_slice-in-Field : goal.returns-in_ok-extend_from_slice-in-Field
returns-in_ok-extend_from_slice-in-Field c =
    let text = c.args.text.now.items in
    let key = codes "field " in
    let first = c.extend_from_slice-in-Field.new.self.items in
    let name = field_text c.in-Field.name in
    on_ok_weaker c.extend_from_slice-in-Field-2.result
    (λ put. put ∙ ap (λ (l : List ℕ). l ++ name) c.in_ok-extend_from_slice-in-Field.ensures.items ∙ append_assoc text key name
    ∙ ap (λ (f : DocumentFault). text ++ file_fault_text f) (sym c.in-Field.is))
    (puts-whole c.extend_from_slice-in-Field-2.result c.extend_from_slice-in-Field-2.new.self.items first c.as_bytes.result.now name
    c.extend_from_slice-in-Field-2.ensures.items (c.as_bytes.ensures.value ∙ c.text.ensures))

pub returns-in-Unknown : goal.returns-in-Unknown
returns-in-Unknown c =
    puts-whole c.extend_from_slice-in-Unknown.result c.extend_from_slice-in-Unknown.new.self.items c.args.text.now.items (codes "unknown")
    (file_fault_text c.args.fault) c.extend_from_slice-in-Unknown.ensures.items (ap file_fault_text (sym c.in-Unknown.is))

pub returns-in-Digits : goal.returns-in-Digits
returns-in-Digits c =
    let put = c.put_numbered-in-Digits in
    subst (λ (f : DocumentFault). OnOk put.result (put.new.text.items ≡ c.args.text.now.items ++ file_fault_text f)) (sym c.in-Digits.is) put.ensures

pub returns-in-Size : goal.returns-in-Size
returns-in-Size c =
    let put = c.put_numbered-in-Size in
    subst (λ (f : DocumentFault). OnOk put.result (put.new.text.items ≡ c.args.text.now.items ++ file_fault_text f)) (sym c.in-Size.is) put.ensures
