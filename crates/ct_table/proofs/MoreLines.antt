-- Lines that are put at the end.
use Rattle.std.proofs.Common.{List, [], ◌∷◌, ◌++◌, Option, Some, None, refl, sym, ap, ◌∙◌, append_assoc, append-nil}
use Rattle.ct_rules.specs.Derivation.{LineValue}
use Rattle.ct_table.specs.Closing.{HasMoreLines}
use Rattle.ct_kept.specs.Kept.{KeptValue}
use Rattle.ct_table.specs.Inside.Walk.{with_moved}

pub HasMoreLines-refl : (kept : KeptValue) → HasMoreLines kept kept
HasMoreLines-refl kept = (refl, ([], sym (append-nil kept.lines)))

pub HasMoreLines-trans : (old middle new : KeptValue) → HasMoreLines old middle → HasMoreLines middle new → HasMoreLines old new
HasMoreLines-trans old middle new first second = (
  second.0 ∙ first.0,
  (
    first.1.0 ++ second.1.0,
    second.1.1 ∙ ap (λ (ls : List LineValue). ls ++ second.1.0) first.1.1 ∙ append_assoc old.lines first.1.0 second.1.0,
  ),
)

pub HasMoreLines-moved : (old kept : KeptValue) (o : Option LineValue) → HasMoreLines old kept → HasMoreLines old (with_moved kept o)
HasMoreLines-moved old kept None more = more
HasMoreLines-moved old kept (Some l) more = (
  more.0,
  (
    more.1.0 ++ l ∷ [],
    ap (λ (ls : List LineValue). ls ++ l ∷ []) more.1.1 ∙ append_assoc old.lines more.1.0 (l ∷ []),
  ),
)
