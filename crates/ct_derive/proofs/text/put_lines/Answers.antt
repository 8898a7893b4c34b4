use Rattle.std.proofs.Common.{◌≡◌, ◌++◌, ℕ, ◌+◌, ◌<◌, List, length, get_or, drop, refl, append_assoc, append-nil, ap, sym, ◌∙◌, arith}
use Rattle.std.proofs.lemmas.List.{at_drop_more, at_drop_all}
use Rattle.std.proofs.lemmas.List.Elements.{All-weaker}
use Rattle.std.proofs.lemmas.Option.{slice_get_read}
use Rattle.ct_rules.specs.Derivation.{LineValue}
use Rattle.ct_derive.specs.Text.{line_text, lines_text}
use Rattle.ct_derive.proofs.text.put_lines.Goals as goal

-- one more line is put
one_more : (ids : List (List ℕ)) (lines : List LineValue) (i : ℕ) (l : LineValue) (whole text new : List ℕ) → i < length lines → l ≡ get_or lines i l
    → whole ≡ text ++ lines_text ids (i + 1) (drop i lines) → new ≡ text ++ line_text ids (i + 1) l
    → whole ≡ new ++ lines_text ids (i + 1 + 1) (drop (i + 1) lines)
one_more ids lines i l whole text new within at so_far more =
    let rest = lines_text ids (i + 1 + 1) (drop (i + 1) lines) in
    so_far
    ∙ at_drop_more (λ (ls : List LineValue). text ++ lines_text ids (i + 1) ls) lines i l within
    ∙ sym (append_assoc text (line_text ids (i + 1) (get_or lines i l)) rest)
    ∙ ap (λ (m : LineValue). (text ++ line_text ids (i + 1) m) ++ rest) (sym at)
    ∙ ap (λ t. t ++ rest) (sym more)

pub loop-place-init : goal.loop-place-init
loop-place-init c = refl

pub put_line-requires : goal.put_line-requires
put_line-requires c =
    let lines = c.args.lines.now in
    let i = c.loop-place.place in
    let l = c.index-lines-place.result in
    All-weaker (λ p. p < i) (λ p. p < i + 1) (λ p lower. omega (arith, lower)) l.from
    (c.requires i l (slice_get_read lines (length lines) i l refl c.loop-place-test.true c.index-lines-place.is))

pub loop-place-preserved : goal.loop-place-preserved
loop-place-preserved c =
    one_more c.args.ids.now c.args.lines.now c.loop-place.place c.index-lines-place.result
    (c.args.text.now.items ++ lines_text c.args.ids.now 1 c.args.lines.now) c.loop-place.text.items c.put_line.new.text.items c.loop-place-test.true
    c.index-lines-place.is c.loop-place.invariant c.in_ok-put_line.ensures

pub returns : goal.returns
returns c =
    let text = c.loop-place.text.items in
    let ids = c.args.ids.now in
    let place = c.loop-place.place in
    sym (c.loop-place.invariant
    ∙ at_drop_all (λ (ls : List LineValue). text ++ lines_text ids (place + 1) ls) c.args.lines.now place c.loop-place-test.false
    ∙ append-nil text)
