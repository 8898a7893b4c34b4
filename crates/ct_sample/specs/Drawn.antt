-- The evidence that a step of the sample submits, by the number h that it draws.
use Rattle.std.specs.Prelude.{ℕ, zero, suc, ◌+◌, ◌-◌, ◌*◌, ◌/◌, ◌%◌, ◌^◌, nat_le, ◌==◌, ◌&&◌, Bool, true, false, if◌then◌else◌, List, [], ◌∷◌, ◌++◌, fold, replicate, Option, Some, None, pos}
use Rattle.std.specs.Option.{unwrap_or}
use Rattle.ct_words.specs.Entry.{unrestricted, constant_weight}
use Rattle.ct_sum_classes.specs.SumClass.{sum_class}
use Rattle.ct_build.specs.declared.step.Step.TheVariants.{Lengthen}
use Rattle.ct_kind.specs.declared.evidence.Evidence.{Evidence}
use Rattle.ct_kind.specs.declared.evidence.Evidence.TheVariants.{Words, Cosets, Build, Dual}
use Rattle.ct_piece.specs.Piece.{PieceValue}

-- the words of the sum class r of length n and weight w, in ascending order, stated for distance 4
abbrev pub class_evidence : ℕ → ℕ → ℕ → Evidence
class_evidence n w r = Words (constant_weight n 4 w) (sum_class n w r)

-- a sum class: the length is 8 to 16, the weight 3 or 4, the class any of the length's
abbrev pub drawn_words : ℕ → Evidence
drawn_words h = class_evidence (8 + h / 4 % 9) (3 + h / 64 % 2) (h / 256 % (8 + h / 4 % 9))

-- a word of the extended Golay code: the digits 1, 0, 1, 0, 1, 1, 1, 0, 0, 0, 1, 1 of its generator polynomial at the places from this one on, of 24,
-- and a one at the last place (MacWilliams and Sloane, chapter 2)
abbrev pub golay_word : ℕ → ℕ
golay_word place = 0b101011100011 * 2 ^ (12 - place) + 1

-- the words from the places 0, 1 and so on, so many
abbrev pub golay_words : ℕ → List ℕ
golay_words zero = []
golay_words (suc count) = golay_words count ++ golay_word count ∷ []

-- a part of the Golay code: the sums of its first basis words, from 1 to 8 of them, stated for its distance
abbrev pub drawn_cosets : ℕ → Evidence
drawn_cosets h = Cosets (unrestricted 24 8) (golay_words (1 + h / 4 % 8)) (0 ∷ [])

-- the dual of the entry (n,d) with n + 1 ones and nothing allowed
abbrev pub dual_of_ones : ℕ → ℕ → Evidence
dual_of_ones n d = Dual (record { entry = unrestricted n d; even = false; c = replicate (suc n) (pos 1); y = [] })

-- such a dual: the length is 8 to 28, the distance 3 to 6
abbrev pub drawn_dual : ℕ → Evidence
drawn_dual h = dual_of_ones (8 + h / 4 % 21) (3 + h / 128 % 4)

-- whether evidence is words, cosets or a build
abbrev pub is_code_kind : Evidence → Bool
is_code_kind (Words e words) = true
is_code_kind (Cosets e basis representatives) = true
is_code_kind (Build e step part other) = true
is_code_kind evidence = false

-- whether a piece is words, cosets or a build, and its length at most 27
abbrev pub may_lengthen : PieceValue → Bool
may_lengthen p = is_code_kind p.evidence && nat_le p.entry.n 27

-- the code of a piece with a zero after each word: its length is one more, its distance and weight are the same
abbrev pub lengthening : PieceValue → Evidence
lengthening p = Build (record { n = p.entry.n + 1; d = p.entry.d; w = p.entry.w }) Lengthen p.id None

-- that of the last of the pieces which may be lengthened, where there is one
abbrev pub last_lengthening : List PieceValue → Option Evidence
last_lengthening pieces = fold (λ found p. if may_lengthen p then Some (lengthening p) else found) None pieces

-- the evidence of a step over the pieces that stand, by h modulo 4: a sum class; a part of the Golay code; a dual; the last code lengthened, and a dual
-- where there is none
unfoldable pub drawn_evidence : ℕ → List PieceValue → Evidence
drawn_evidence h pieces =
    if h % 4 == 0 then drawn_words h
    else if h % 4 == 1 then drawn_cosets h
    else if h % 4 == 3 then unwrap_or (last_lengthening pieces) (drawn_dual h)
    else drawn_dual h
