use Rattle.std.proofs.Common.{subst, ◌≡◌, true}
use Rattle.ct_words.specs.Entry.{same_entry}
use Rattle.ct_words.proofs.EntryLemmas.{entry_limits, entry_from_limits, same_entry_is, same_entry-self}
use Rattle.ct_laws.proofs.math.codes.entries_of_the_table.Goals as goal

pub returns-clause-entries : goal.returns-clause-entries
returns-clause-entries c = λ e. (
  λ entry. let limits = entry_limits e entry in (limits.length_from, limits.length_to, limits.distance_from, limits.distance_to, limits.weight),
  λ h. entry_from_limits e h.0 h.1 h.2 h.3 h.4,
)

pub returns-clause-same : goal.returns-clause-same
returns-clause-same c = λ e f. (same_entry_is e f, λ same. subst (λ g. same_entry e g ≡ true) same (same_entry-self e))
