use Rattle.std.proofs.Common.{◌<◌, List, length, [], None, subst, sym, ap₂, ◌∙◌}
use Rattle.std.proofs.lemmas.List.{get_or_read}
use Rattle.ct_kind.specs.declared.evidence.Evidence.{Evidence}
use Rattle.ct_piece.specs.Piece.{PieceValue}
use Rattle.ct_piece.specs.Codes.{codes_of}
use Rattle.ct_piece.specs.Standing.{AreMade}
use Rattle.ct_files.specs.ByKind.{listed_code}
use Rattle.ct_piece.proofs.CodeLemmas.{AreMade-take}
use Rattle.ct_pieces.proofs.PartLemmas.{placed, kept-found, kept-none, listed-faultless}
use Rattle.ct_pieces.proofs.kept.find_code.Goals as goal

pub bounds-kept-place : goal.bounds-kept-place
bounds-kept-place c = rw c.requires.long c.requires.place

pub returns-in-Some : goal.returns-in-Some
returns-in-Some c =
    let kept = c.args.kept.now in
    let place = c.args.place in
    let within : place < length kept = rw c.requires.long c.requires.place in
    let at = sym (get_or_read kept place c.index-kept-place.result within c.index-kept-place.is None) ∙ c.in-Some.is in
    c.kept.ensures ∙ sym (kept-found c.args.pieces.now place c.in-Some.code c.requires.place (sym c.requires.kept ∙ at))

pub new-requires : goal.new-requires
new-requires c =
    record { made = subst (λ (ps : List PieceValue). AreMade [] ps) (sym c.pieces_before.ensures) (AreMade-take [] c.args.pieces.now c.args.place c.requires.made) }

pub listed_code-requires-clause-faultless : goal.listed_code-requires-clause-faultless
listed_code-requires-clause-faultless c =
    let p = c.index-pieces-place.result in
    let at = placed c.args.pieces.now c.args.place p c.requires.made c.requires.place c.index-pieces-place.is in
    rw (c.new.ensures, c.pieces_before.ensures, c.evidence.ensures.evidence) (listed-faultless c.args.pieces.now c.args.place p at)

pub returns : goal.returns
returns c =
    let kept = c.args.kept.now in
    let place = c.args.place in
    let within : place < length kept = rw c.requires.long c.requires.place in
    let at = sym (get_or_read kept place c.index-kept-place.result within c.index-kept-place.is None) ∙ c.in_default.is in
    c.made.ensures ∙ c.in_ok-made.ensures ∙ ap₂ (λ (ps : List PieceValue) (e : Evidence). listed_code (codes_of ps) e) (c.new.ensures ∙ c.pieces_before.ensures) c.evidence.ensures.evidence
    ∙ kept-none c.args.pieces.now place c.index-pieces-place.result c.requires.place c.index-pieces-place.is (sym c.requires.kept ∙ at)
