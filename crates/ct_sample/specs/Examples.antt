-- Pieces of a few samples' steps, for commands that are known.
use Rattle.std.specs.Prelude.{[], ◌∷◌, Some, None, codes}
use Rattle.ct_words.specs.Entry.{constant_weight}
use Rattle.ct_build.specs.declared.step.Step.TheVariants.{Lengthen}
use Rattle.ct_kind.specs.declared.evidence.Evidence.TheVariants.{Words, Build}
use Rattle.ct_piece.specs.Piece.{PieceValue}
use Rattle.ct_sample.specs.Drawn.{dual_of_ones}

-- a word of length 16, the piece s7
abbrev pub short_code : PieceValue
short_code = record { id = codes "s7"; document = []; evidence = Words (constant_weight 16 4 3) (7 ∷ []); cites = []; entry = constant_weight 16 4 3; size = Some 1 }

-- the same lengthened, the piece s8
abbrev pub lengthened_code : PieceValue
lengthened_code = record {
  id = codes "s8";
  document = [];
  evidence = Build (constant_weight 17 4 3) Lengthen (codes "s7") None;
  cites = [];
  entry = constant_weight 17 4 3;
  size = Some 1;
}

-- a word of length 28, the piece s10
abbrev pub long_code : PieceValue
long_code = record { id = codes "s10"; document = []; evidence = Words (constant_weight 28 4 3) (7 ∷ []); cites = []; entry = constant_weight 28 4 3; size = Some 1 }

-- a dual, the piece s11
abbrev pub dual_piece : PieceValue
dual_piece = record { id = codes "s11"; document = []; evidence = dual_of_ones 9 4; cites = []; entry = (record { n = 9; d = 4; w = None }); size = None }
