use Rattle.ct_word_files.proofs.cosets_kind.check.Goals as goal

pub checked_size-requires-clause-basis : goal.checked_size-requires-clause-basis
checked_size-requires-clause-basis c = c.requires.basis

pub checked_size-requires-clause-representatives : goal.checked_size-requires-clause-representatives
checked_size-requires-clause-representatives c = c.requires.representatives
