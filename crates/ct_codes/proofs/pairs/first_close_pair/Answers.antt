use Rattle.std.proofs.Common.{◌∙◌, ◌<◌, ◌^◌, ℕ, nat_lt}
use Rattle.std.proofs.Math.Facts.{Fits-lt-pow}
use Rattle.std.proofs.lemmas.List.Elements.{All-from_get_or}
use Rattle.ct_words.specs.Word.{distance}
use Rattle.ct_words.proofs.PairLemmas.{close_any_length}
use Rattle.ct_codes.proofs.WithinLemmas.{least_within, places_within}
use Rattle.ct_codes.proofs.pairs.first_close_pair.Goals as goal

pub returns-clause-least : goal.returns-clause-least
returns-clause-least c = λ n below.
    let fits = All-from_get_or (λ x. x < 2 ^ 32) c.args.words.now 0 (λ k h. Fits-lt-pow (c.type_inv.words k)) in
    let close = λ (x y : ℕ). nat_lt (distance 32 x y) c.args.d in
    least_within close c.args.words.now c.with_later.result c.with_later.ensures ∙ close_any_length 32 n c.args.d c.args.words.now fits below

pub returns-clause-places : goal.returns-clause-places
returns-clause-places c = places_within (λ x y. nat_lt (distance 32 x y) c.args.d) c.args.words.now c.with_later.result c.with_later.ensures
