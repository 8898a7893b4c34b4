use Rattle.std.proofs.Common.{◌∙◌, subst, ap₂, ℕ, List, IsPermutation}
use Rattle.ct_words.specs.Coset.{coset_list}
use Rattle.ct_codes.proofs.CosetLemmas.{sound_listed}
use Rattle.ct_codes.proofs.coset.CosetCode.list.Goals as goal

pub from_sorted-requires : goal.from_sorted-requires
from_sorted-requires c =
    let inside = c.self.inside in
    let made = c.in_ok-words.ensures ∙ ap₂ coset_list c.deref.ensures.value c.deref-2.ensures.value in
    record {
      code = sound_listed (record { entry = inside.entry; basis = inside.basis.items; representatives = inside.representatives.items })
          c.sort_unstable.new.self.items c.self.invariant
          (subst (λ (xs : List ℕ). IsPermutation xs c.sort_unstable.new.self.items) made c.sort_unstable.ensures.permutation) c.sort_unstable.ensures.sorted;
    }
