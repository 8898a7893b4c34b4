use Rattle.std.proofs.Common.{rules, ◌==◌, ◌∙◌, not, length, List, ℕ}
use Rattle.std.specs.Str.Lines.{strip_carriage_return}
use Rattle.std.proofs.lemmas.Iterator.{YieldsList-from_take}
use Rattle.std.proofs.lemmas.Iterator.Consumers.{map_from_collect, YieldsList-at, YieldsList-from_filter}
use Rattle.std.proofs.lemmas.Iterator.Splits.{YieldsList-from_slice_split}
use Rattle.ct_text.specs.Line.{words_of}
use Rattle.ct_text.proofs.line.first_words.Goals as goal

pub returns : goal.returns
unfolding words_of
returns c =
    map_from_collect _ c.collect.ensures.ran
    (YieldsList-from_take c.args.count
    (YieldsList-at c.take.ensures.source
    (YieldsList-from_filter _ (λ (word : List ℕ). not (length word == 0))
    (YieldsList-at c.filter.ensures.source
    (YieldsList-from_slice_split _ (λ (b : ℕ). b == 32) (strip_carriage_return c.args.line.now) (c.split.ensures.rest ∙ c.without_carriage_return.ensures) c.split.ensures.done c.split.ensures.closure (λ x b q k. search rules)))
    c.filter.ensures.closure (λ x b q k. search rules)))
    c.take.ensures.count)
