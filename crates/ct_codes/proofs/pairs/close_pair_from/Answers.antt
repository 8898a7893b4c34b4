use Rattle.std.proofs.Common.{◌∙◌, ◌<◌, ◌^◌, ◌-◌, ℕ, nat_lt, length, drop, ap}
use Rattle.std.proofs.Math.Facts.{Fits-lt-pow}
use Rattle.std.proofs.lemmas.List.{take_rest}
use Rattle.std.proofs.lemmas.List.Elements.{All-from_get_or, All-take, All-drop}
use Rattle.ct_words.specs.Word.{distance}
use Rattle.ct_words.specs.Pairs.{least_pair}
use Rattle.ct_codes.specs.Inside.Shifted.{shifted}
use Rattle.ct_codes.proofs.pairs.close_pair_from.Goals as goal

pub returns-in_err-i-clause-least : goal.returns-in_err-i-clause-least
returns-in_err-i-clause-least c =
    let close = λ (x y : ℕ). nat_lt (distance 32 x y) c.args.d in
    let words = c.args.words.now in
    let start = c.args.start in
    let fits = All-from_get_or (λ x. x < 2 ^ 32) words 0 (λ k h. Fits-lt-pow (c.type_inv.words k)) in
    let rest = All-take (λ (x : ℕ). x < 2 ^ 32) (length words - start) (drop start words) (All-drop (λ (x : ℕ). x < 2 ^ 32) start words fits) in
    c.from_residual.ensures ∙ ap (shifted start) (c.in_err-i.ensures.least 32 rest ∙ ap (least_pair close) (take_rest words start))

pub returns-clause-least : goal.returns-clause-least
returns-clause-least c =
    let close = λ (x y : ℕ). nat_lt (distance 32 x y) c.args.d in
    let words = c.args.words.now in
    let start = c.args.start in
    let fits = All-from_get_or (λ x. x < 2 ^ 32) words 0 (λ k h. Fits-lt-pow (c.type_inv.words k)) in
    let rest = All-take (λ (x : ℕ). x < 2 ^ 32) (length words - start) (drop start words) (All-drop (λ (x : ℕ). x < 2 ^ 32) start words fits) in
    ap (shifted start) (c.in_ok-i.ensures.least 32 rest ∙ ap (least_pair close) (take_rest words start))
