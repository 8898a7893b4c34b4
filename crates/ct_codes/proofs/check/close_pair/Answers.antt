use Rattle.std.proofs.Common.{◌<◌, ◌^◌, nat_lt, get_or, sym, ◌∙◌}
use Rattle.std.proofs.Math.Facts.{Fits-lt-pow}
use Rattle.std.proofs.lemmas.Bool.{le-ltb}
use Rattle.std.proofs.lemmas.List.Elements.{All-from_get_or}
use Rattle.ct_words.specs.Word.{distance}
use Rattle.ct_words.proofs.PairLemmas.{close_any_length, least_pair-none}
use Rattle.ct_codes.proofs.check.close_pair.Goals as goal

pub returns-then-are_far_by_groups-clause-least : goal.returns-then-are_far_by_groups-clause-least
returns-then-are_far_by_groups-clause-least c = λ n below.
    let words = c.args.words.now in
    let fits = All-from_get_or (λ x. x < 2 ^ 32) c.args.words.now 0 (λ k h. Fits-lt-pow (c.type_inv.words k)) in
    let far = c.are_far_by_groups.ensures c.if-are_far_by_groups.true in
    sym (close_any_length n 32 c.args.d words below fits
    ∙ least_pair-none (λ x y. nat_lt (distance 32 x y) c.args.d) words
    (λ i j order within. le-ltb (distance 32 (get_or words i 0) (get_or words j 0)) c.args.d (far i j 0 order within)))
