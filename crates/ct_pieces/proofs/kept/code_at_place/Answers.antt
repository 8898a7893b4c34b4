use Rattle.std.proofs.Common.{◌<◌, List, length, [], Some, None, subst, sym, ap, ap₂, ◌∙◌}
use Rattle.std.proofs.lemmas.List.{get_or_read}
use Rattle.std.proofs.lemmas.Result.{IfOk-weaker}
use Rattle.ct_words.specs.Code.{CodeValue}
use Rattle.ct_kind.specs.declared.evidence.Evidence.{Evidence}
use Rattle.ct_piece.specs.Piece.{PieceValue}
use Rattle.ct_piece.specs.Codes.{code_of_place, codes_of}
use Rattle.ct_piece.specs.Standing.{AreMade}
use Rattle.ct_files.specs.ByKind.{listed_code}
use Rattle.ct_piece.proofs.CodeLemmas.{AreMade-take}
use Rattle.ct_piece.proofs.KeptLemmas.{none-some}
use Rattle.ct_pieces.proofs.PartLemmas.{placed, kept-found, kept-none, listed-faultless}
use Rattle.ct_pieces.proofs.kept.code_at_place.Goals as goal

pub bounds-kept-place : goal.bounds-kept-place
bounds-kept-place c = rw c.requires.long c.requires.place

pub returns-in-Some : goal.returns-in-Some
returns-in-Some c =
    let kept = c.args.kept.now in
    let place = c.args.place in
    let within : place < length kept = rw c.requires.long c.requires.place in
    let at = sym (get_or_read kept place c.index-kept-place.result within c.index-kept-place.is None) ∙ c.in-Some.is in
    let found = kept-found c.args.pieces.now place c.in-Some.code c.requires.place (sym c.requires.kept ∙ at) in
    IfOk-weaker c.try_copy.result _ _ (λ (code : CodeValue) same. found ∙ ap Some (sym same)) c.try_copy.ensures

pub new-requires : goal.new-requires
new-requires c =
    record { made = subst (λ (ps : List PieceValue). AreMade [] ps) (sym c.pieces_before.ensures) (AreMade-take [] c.args.pieces.now c.args.place c.requires.made) }

pub listed_code-requires-clause-faultless : goal.listed_code-requires-clause-faultless
listed_code-requires-clause-faultless c =
    let p = c.index-pieces-place.result in
    let at = placed c.args.pieces.now c.args.place p c.requires.made c.requires.place c.index-pieces-place.is in
    rw (c.new.ensures, c.pieces_before.ensures, c.evidence.ensures.evidence) (listed-faultless c.args.pieces.now c.args.place p at)

pub unreachable-requires : goal.unreachable-requires
unreachable-requires c =
    let kept = c.args.kept.now in
    let place = c.args.place in
    let within : place < length kept = rw c.requires.long c.requires.place in
    let at = sym (get_or_read kept place c.index-kept-place.result within c.index-kept-place.is None) ∙ c.in_default.is in
    let found = c.in_ok-made.ensures ∙ ap₂ (λ (ps : List PieceValue) (e : Evidence). listed_code (codes_of ps) e) (c.new.ensures ∙ c.pieces_before.ensures) c.evidence.ensures.evidence
    ∙ kept-none c.args.pieces.now place c.index-pieces-place.result c.requires.place c.index-pieces-place.is (sym c.requires.kept ∙ at) in
    absurd (none-some (code_of_place c.args.pieces.now place) (sym found ∙ c.in_default-made.is) c.requires.coded)

pub returns : goal.returns
returns c =
    let kept = c.args.kept.now in
    let place = c.args.place in
    let within : place < length kept = rw c.requires.long c.requires.place in
    let at = sym (get_or_read kept place c.index-kept-place.result within c.index-kept-place.is None) ∙ c.in_default.is in
    let found = c.in_ok-made.ensures ∙ ap₂ (λ (ps : List PieceValue) (e : Evidence). listed_code (codes_of ps) e) (c.new.ensures ∙ c.pieces_before.ensures) c.evidence.ensures.evidence
    ∙ kept-none c.args.pieces.now place c.index-pieces-place.result c.requires.place c.index-pieces-place.is (sym c.requires.kept ∙ at) in
    sym found ∙ c.in-Some-made.is
