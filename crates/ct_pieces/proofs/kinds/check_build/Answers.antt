use Rattle.std.proofs.Common.{◌≡◌, ℕ, List, ◌∷◌, length, take_all, Option, Some, None, true, is_some, Ok, refl, sym, ap, subst, ◌∙◌, arith}
use Rattle.std.specs.Prelude.{IfSome, OnSome}
use Rattle.std.specs.Option.{option_to_list}
use Rattle.std.proofs.lemmas.Result.{err_from_is_err_and}
use Rattle.ct_words.specs.Code.{CodeValue}
use Rattle.ct_kind.specs.KindParts.{support_from}
use Rattle.ct_kind.specs.Named.{code_named, first_missing}
use Rattle.ct_kind.specs.declared.evidence.Evidence.TheVariants.{Build}
use Rattle.ct_files.specs.ByKind.{own_reason, size_over}
use Rattle.ct_piece.specs.Piece.{PieceValue}
use Rattle.ct_files.specs.ByKind.{code_over}
use Rattle.ct_piece.specs.Codes.{codes_of}
use Rattle.ct_files.specs.ByKind.{evidence_reason}
use Rattle.ct_files.specs.Checked.{IsKept}
use Rattle.ct_pieces.proofs.BuildPlaces.{code-sized, reason-own}
use Rattle.ct_files.proofs.Checking.{check-sized, check-refused}
use Rattle.ct_pieces.proofs.kinds.check_build.Goals as goal

pub returns-in_err-told-clause-check : goal.returns-in_err-told-clause-check
returns-in_err-told-clause-check c =
    let b = c.args.build.now in
    let f = c.in_err-told.field-0.0 in
    let wrong = subst (λ (ps : List PieceValue). evidence_reason (codes_of ps) (Build b.entry b.step.now b.part b.other) ≡ Some f) c.new.ensures c.in_err-told.ensures.fault in
    let p = err_from_is_err_and c.from_residual.result c.from_residual.ensures.1 in
    rw (p.1, p.2) (check-refused (codes_of c.args.pieces.now) (Build b.entry b.step.now b.part b.other) f (λ other. wrong))

pub returns-in-Some-clause-check : goal.returns-in-Some-clause-check
returns-in-Some-clause-check c =
    let b = c.args.build.now in
    let size = c.in-Some.size in
    let is_told = c.in-Some.is in
    let sized = subst (λ (told : Option ℕ). IfSome told (λ (n : ℕ). size_over (codes_of c.new.result) (Build b.entry b.step.now b.part b.other) ≡ Some n)) is_told c.in_ok-told.ensures.size in
    let right = subst (λ (told : Option ℕ). OnSome told (evidence_reason (codes_of c.new.result) (Build b.entry b.step.now b.part b.other) ≡ None)) is_told c.in_ok-told.ensures.accepted in
    check-sized (codes_of c.args.pieces.now) (Build b.entry b.step.now b.part b.other) (λ n. support_from b.entry (Some n)) (Ok size) c.of_code.result c.of_code.ensures (λ n. refl)
    (subst (λ (ps : List PieceValue). size_over (codes_of ps) (Build b.entry b.step.now b.part b.other) ≡ Some size) c.new.ensures sized)
    (subst (λ (ps : List PieceValue). evidence_reason (codes_of ps) (Build b.entry b.step.now b.part b.other) ≡ None) c.new.ensures right) tt

pub make_code-requires-clause-coded : goal.make_code-requires-clause-coded
make_code-requires-clause-coded c =
    let ps = c.args.pieces.now in
    let part = c.args.build.now.part in
    let coded = subst (λ (qs : List PieceValue). is_some (code_named part (codes_of qs)) ≡ true) c.new.ensures c.in_ok-told.ensures.coded in
    subst (λ (qs : List PieceValue). is_some (code_named part (codes_of qs)) ≡ true) (sym (take_all (length ps) ps (omega arith))) coded

pub returns-in_err-code-clause-check : goal.returns-in_err-code-clause-check
returns-in_err-code-clause-check c =
    let ps = c.args.pieces.now in
    let b = c.args.build.now in
    let f = c.in_err-code.field-0.0 in
    let stand = subst (λ (qs : List PieceValue). first_missing (codes_of qs) (b.part ∷ option_to_list b.other) ≡ None) c.new.ensures c.in_ok-told.ensures.parts in
    let all = take_all (length ps) ps (omega arith) in
    let p = err_from_is_err_and c.from_residual-in_err-code.result c.from_residual-in_err-code.ensures.1 in
    rw (p.1, p.2)
    (check-refused (codes_of ps) (Build b.entry b.step.now b.part b.other) f
    (λ other. reason-own (codes_of ps) b.entry b.step.now b.part b.other stand
    ∙ subst (λ (qs : List PieceValue). own_reason (codes_of qs) (Build b.entry b.step.now b.part b.other) ≡ Some f) all (c.in_err-code.ensures.fault other)))

pub returns-clause-check : goal.returns-clause-check
returns-clause-check c =
    let ps = c.args.pieces.now in
    let known = codes_of ps in
    let b = c.args.build.now in
    let code = c.in_ok-code.code in
    let all = take_all (length ps) ps (omega arith) in
    let made = subst (λ (qs : List PieceValue). code_over (codes_of qs) (Build b.entry b.step.now b.part b.other) ≡ Some code) all c.in_ok-code.ensures.code in
    let right = subst (λ (qs : List PieceValue). own_reason (codes_of qs) (Build b.entry b.step.now b.part b.other) ≡ None) all c.in_ok-code.ensures.accepted in
    let stand = subst (λ (qs : List PieceValue). first_missing (codes_of qs) (b.part ∷ option_to_list b.other) ≡ None) c.new.ensures c.in_ok-told.ensures.parts in
    let said = c.of_build.ensures in
    record {
      size = said.size ∙ sym (code-sized known b.entry b.step.now b.part b.other code made);
      kept = subst (λ (k : Option CodeValue). IsKept k (code_over known (Build b.entry b.step.now b.part b.other))) (sym said.kept) made;
      support = said.support ∙ ap (support_from b.entry) (sym said.size);
      accepted = reason-own known b.entry b.step.now b.part b.other stand ∙ right;
      fault = tt;
    }
