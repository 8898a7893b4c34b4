use Rattle.ct_slots.proofs.NumberLemmas.{slot_number-bound, slot_number-injective, slot_at}
use Rattle.ct_slots.proofs.number.slots_have_numbers.Goals as goal

pub returns-clause-bound : goal.returns-clause-bound
returns-clause-bound c = slot_number-bound

pub returns-clause-apart : goal.returns-clause-apart
returns-clause-apart c = slot_number-injective

pub returns-clause-dense : goal.returns-clause-dense
returns-clause-dense c = slot_at
