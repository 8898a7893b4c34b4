-- Entries in a row as a list.
use Rattle.std.specs.Prelude.{List, [], ◌∷◌}
use Rattle.ct_words.specs.declared.entry.Entry.{Entry}
use Rattle.ct_duals.specs.Bound.{dual_premises}
use Rattle.ct_rule_parts.specs.declared.entries.Entries.{Entries}
use Rattle.ct_rule_parts.specs.declared.entries.Entries.TheVariants.{Zero, One, Two, Three, OfDual}

-- in order
abbrev pub listed : Entries → List Entry
listed Zero = []
listed (One e) = e ∷ []
listed (Two e f) = e ∷ f ∷ []
listed (Three e f g) = e ∷ f ∷ g ∷ []
listed (OfDual a) = dual_premises a.now.dual
