use Rattle.std.proofs.Common.{[]}
use Rattle.std.proofs.lemmas.List.Elements.{All-nil}
use Rattle.ct_kind.specs.Sound.{HasSoundCode}
use Rattle.ct_piece.proofs.MakingLemmas.{codes_after-sound}
use Rattle.ct_pieces.proofs.standing.are_sound.Goals as goal

pub returns : goal.returns
returns c = codes_after-sound [] c.args.pieces.now (All-nil HasSoundCode) c.requires
