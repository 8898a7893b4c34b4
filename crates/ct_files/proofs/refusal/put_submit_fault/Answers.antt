use Rattle.std.proofs.Common.{◌≡◌, ◌++◌, codes, OnOk, sym, ap, subst}
use Rattle.ct_kind.specs.declared.fault.SubmitFault.{SubmitFault}
use Rattle.ct_files.specs.Refusal.{submit_fault_text}
use Rattle.ct_files.proofs.PutTexts.{puts-whole}
use Rattle.ct_files.proofs.refusal.put_submit_fault.Goals as goal

pub returns-in-Taken : goal.returns-in-Taken
returns-in-Taken c =
    puts-whole c.extend_from_slice.result c.extend_from_slice.new.self.items c.args.text.now.items (codes "taken") (submit_fault_text c.args.fault)
    c.extend_from_slice.ensures.items (ap submit_fault_text (sym c.in-Taken.is))

pub returns-in-FullPieces : goal.returns-in-FullPieces
returns-in-FullPieces c =
    let put = c.put_numbered in
    subst (λ (f : SubmitFault). OnOk put.result (put.new.text.items ≡ c.args.text.now.items ++ submit_fault_text f)) (sym c.in-FullPieces.is) put.ensures

pub returns-in-File : goal.returns-in-File
returns-in-File c =
    let put = c.put_file_fault in
    subst (λ (f : SubmitFault). OnOk put.result (put.new.text.items ≡ c.args.text.now.items ++ submit_fault_text f)) (sym c.in-File.is) put.ensures

pub returns-in-NoSuch : goal.returns-in-NoSuch
returns-in-NoSuch c =
    let put = c.put_named in
    subst (λ (f : SubmitFault). OnOk put.result (put.new.text.items ≡ c.args.text.now.items ++ submit_fault_text f)) (sym c.in-NoSuch.is) put.ensures

pub returns-in-WrongPart : goal.returns-in-WrongPart
returns-in-WrongPart c =
    let put = c.put_named-in-WrongPart in
    subst (λ (f : SubmitFault). OnOk put.result (put.new.text.items ≡ c.args.text.now.items ++ submit_fault_text f)) (sym c.in-WrongPart.is) put.ensures

pub returns-in-Code : goal.returns-in-Code
returns-in-Code c =
    let put = c.put_code_fault in
    subst (λ (f : SubmitFault). OnOk put.result (put.new.text.items ≡ c.args.text.now.items ++ submit_fault_text f)) (sym c.in-Code.is) put.ensures

pub returns-in-Partition : goal.returns-in-Partition
returns-in-Partition c =
    let put = c.put_partition_fault in
    subst (λ (f : SubmitFault). OnOk put.result (put.new.text.items ≡ c.args.text.now.items ++ submit_fault_text f)) (sym c.in-Partition.is) put.ensures

pub returns-in-Build : goal.returns-in-Build
returns-in-Build c =
    let put = c.put_build_fault in
    subst (λ (f : SubmitFault). OnOk put.result (put.new.text.items ≡ c.args.text.now.items ++ submit_fault_text f)) (sym c.in-Build.is) put.ensures

pub returns-in-Dual : goal.returns-in-Dual
returns-in-Dual c =
    let put = c.put_dual_fault in
    subst (λ (f : SubmitFault). OnOk put.result (put.new.text.items ≡ c.args.text.now.items ++ submit_fault_text f)) (sym c.in-Dual.is) put.ensures

pub returns-in-FullWords : goal.returns-in-FullWords
returns-in-FullWords c =
    let put = c.put_numbered-in-FullWords in
    subst (λ (f : SubmitFault). OnOk put.result (put.new.text.items ≡ c.args.text.now.items ++ submit_fault_text f)) (sym c.in-FullWords.is) put.ensures
