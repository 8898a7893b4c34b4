-- Parts of a proposal.
use Rattle.std.specs.Prelude.{ℕ, List, [], ◌∷◌, ◌++◌, codes, flat_map, ℤ, unsigned_abs, Option, Some, None}
use Rattle.std.specs.Fmt.{decimal}
use Rattle.ct_text.specs.declared.document_lines.TheConstants.{LINE_FEED}
use Rattle.ct_duals.specs.declared.dual.Dual.{Dual}
use Rattle.ct_kind.specs.declared.evidence.Evidence.{Evidence}
use Rattle.ct_kind.specs.declared.evidence.Evidence.TheVariants as evidence
use Rattle.ct_finder.specs.declared.found.Stop.{Stop}
use Rattle.ct_find.specs.Proposal.{stop_text}

-- a dual as evidence, by the weight of its entry
abbrev pub dual_evidence : Option ℕ → Dual → Evidence
dual_evidence weight d = elim weight [ None ↦ evidence.Dual d | Some w ↦ evidence.JohnsonDual d ]

-- the comment: the bound of the dual, and how the run stopped
abbrev pub bound_line : ℕ → Stop → List ℕ
bound_line bound stop = codes "# bound " ++ decimal bound ++ codes " " ++ stop_text stop ++ LINE_FEED ∷ []

-- an index of a primal with its number
abbrev pub pair_text : ℕ × ℤ → List ℕ
pair_text u = codes " " ++ decimal u.0 ++ codes ":" ++ decimal (unsigned_abs u.1)

-- indices of a primal with their numbers, one after another
abbrev pub pairs_text : List (ℕ × ℤ) → List ℕ
pairs_text us = flat_map pair_text us

-- a dash and the weight, where there is one
abbrev pub weight_part : Option ℕ → List ℕ
weight_part weight = elim weight [ None ↦ [] | Some w ↦ codes "-" ++ decimal w ]
