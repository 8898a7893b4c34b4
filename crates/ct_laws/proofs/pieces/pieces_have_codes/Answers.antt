use Rattle.std.proofs.Common.{[], ◌∙◌, sym}
use Rattle.std.proofs.lemmas.List.Elements.{All-nil}
use Rattle.ct_piece.proofs.CodeLemmas.{ids_of_codes}
use Rattle.ct_piece.proofs.MakingLemmas.{codes_after-sound}
use Rattle.ct_kind.specs.Sound.{HasSoundCode}
use Rattle.ct_pieces.proofs.PartLemmas.{piece-coded}
use Rattle.ct_laws.proofs.pieces.pieces_have_codes.Goals as goal

pub returns-clause-codes : goal.returns-clause-codes
returns-clause-codes c = λ pieces h i d within. (codes_after-sound [] pieces (All-nil HasSoundCode) h.made i d within).code

pub returns-clause-ids : goal.returns-clause-ids
returns-clause-ids c = ids_of_codes []

pub returns-clause-each : goal.returns-clause-each
returns-clause-each c = λ pieces place p h at. let same = piece-coded pieces place p h.made at in (λ some. sym same ∙ some, λ coded. same ∙ coded)
