use Rattle.std.proofs.Common.{ℕ, ◌^◌, ◌<◌, List, sym, subst}
use Rattle.std.specs.Prelude.{All}
use Rattle.ct_word_files.proofs.words_kind.check.Goals as goal

pub checked_size-requires-clause-words : goal.checked_size-requires-clause-words
checked_size-requires-clause-words c =
    subst (λ (ws : List ℕ). All (λ x. x < 2 ^ c.args.entry.n) ws) (sym c.in_ok-listed.ensures.items) c.requires.words
