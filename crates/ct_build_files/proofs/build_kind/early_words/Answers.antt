use Rattle.std.proofs.Common.{◌≡◌, Some, None, option_map, sym, ap, ◌∙◌}
use Rattle.ct_build.specs.Build.{shape_of, result_size, told_fault}
use Rattle.ct_build.proofs.BuildFaults.{told_not_memory}
use Rattle.ct_kind.specs.Named.{code_named, other_named}
use Rattle.ct_build_files.proofs.BuildChecks.{early_reason, early_words-is, early-accepted, early-coded}
use Rattle.ct_build_files.proofs.build_kind.early_words.Goals as goal

pub returns-in-Ok-clause-size : goal.returns-in-Ok-clause-size
returns-in-Ok-clause-size g c =
    let b = c.args.build.now in
    let known = g.P.Codes.known c.args.pieces.now in
    let first = code_named b.part known in
    let beside = other_named b.other known in
    let is : option_map shape_of first ≡ Some c.in-Some.shape = sym c.shape.ensures.shape ∙ c.in-Some.is in
    let told : c.in-Ok.size ≡ result_size b.step.now c.in-Some.shape (option_map shape_of beside) =
    c.in-Ok.ensures.size ∙ ap (result_size b.step.now c.in-Some.shape) c.shape_beside-beside.ensures.shape in
    early_words-is b.entry b.step.now first beside c.in-Some.shape c.in-Ok.size is told

pub returns-in-Ok-clause-accepted : goal.returns-in-Ok-clause-accepted
returns-in-Ok-clause-accepted g c =
    let b = c.args.build.now in
    let known = g.P.Codes.known c.args.pieces.now in
    let first = code_named b.part known in
    let beside = other_named b.other known in
    let is : option_map shape_of first ≡ Some c.in-Some.shape = sym c.shape.ensures.shape ∙ c.in-Some.is in
    let told : c.in-Ok.size ≡ result_size b.step.now c.in-Some.shape (option_map shape_of beside) =
    c.in-Ok.ensures.size ∙ ap (result_size b.step.now c.in-Some.shape) c.shape_beside-beside.ensures.shape in
    let none : told_fault b.step.now b.entry c.in-Some.shape (option_map shape_of beside) ≡ None =
    ap (told_fault b.step.now b.entry c.in-Some.shape) (sym c.shape_beside-beside.ensures.shape) ∙ c.in-Ok.ensures.accepted in
    early-accepted b.entry b.step.now b.part b.other first beside c.in-Some.shape c.in-Ok.size is told none

pub returns-in-Err-clause-fault : goal.returns-in-Err-clause-fault
returns-in-Err-clause-fault g c =
    let b = c.args.build.now in
    let known = g.P.Codes.known c.args.pieces.now in
    let first = code_named b.part known in
    let beside = other_named b.other known in
    let is : option_map shape_of first ≡ Some c.in-Some.shape = sym c.shape.ensures.shape ∙ c.in-Some.is in
    let told : told_fault b.step.now b.entry c.in-Some.shape (option_map shape_of beside) ≡ Some c.in-Err.fault =
    ap (told_fault b.step.now b.entry c.in-Some.shape) (sym c.shape_beside-beside.ensures.shape) ∙ c.in-Err.ensures.fault in
    let plain = told_not_memory b.step.now b.entry c.in-Some.shape (option_map shape_of beside) c.in-Err.fault told in
    early_reason b.entry b.step.now b.part b.other first beside c.in-Some.shape c.in-Err.fault is told ∙ ap Some (sym (c.refusal.ensures.refusal plain))

pub returns-in-Ok-clause-coded : goal.returns-in-Ok-clause-coded
returns-in-Ok-clause-coded g c =
    early-coded (code_named c.args.build.now.part (g.P.Codes.known c.args.pieces.now)) c.in-Some.shape (sym c.shape.ensures.shape ∙ c.in-Some.is)
