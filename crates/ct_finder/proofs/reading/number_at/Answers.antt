-- The row is of the column, or a later one is; at the end no row is left.
use Rattle.std.proofs.Common.{◌≡◌, ◌<◌, ◌+◌, if◌then◌else◌, [], drop, get_or, length, eq-eqb, ne_eqb, sym, ap, ◌∙◌, List, ℕ, arith}
use Rattle.std.specs.Prelude.{ℤ}
use Rattle.std.proofs.lemmas.List.{drop_all, drop_more}
use Rattle.ct_finder.specs.RunPrimal.{number_at_place, scaled}
use Rattle.ct_finder.proofs.RunPoints.{lines-count}
use Rattle.ct_finder.specs.Ready.{seen}
use Rattle.ct_finder.specs.Reading.{lines_seen, number_over}
use Rattle.ct_finder.specs.declared.reading.Line.{Line}
use Rattle.ct_finder.proofs.reading.number_at.Goals as goal

-- the line at a place is not of the column, or it is
passed : (q place i : ℕ) (lines : List (List ℤ × ℕ)) → i < length lines → ((get_or lines i ([], 0)).1 ≡ place → ⊥)
    → number_at_place q (drop i lines) place ≡ number_at_place q (drop (i + 1) lines) place
passed q place i lines within other =
    let l = get_or lines i ([], 0) in
    ap (λ (ls : List (List ℤ × ℕ)). number_at_place q ls place) (drop_more lines i ([], 0) within)
    ∙ ap (λ b. if b then scaled q l else number_at_place q (drop (i + 1) lines) place) (ne_eqb l.1 place other)

found : (q place i : ℕ) (lines : List (List ℤ × ℕ)) → i < length lines → (get_or lines i ([], 0)).1 ≡ place
    → number_at_place q (drop i lines) place ≡ scaled q (get_or lines i ([], 0))
found q place i lines within same =
    let l = get_or lines i ([], 0) in
    ap (λ (ls : List (List ℤ × ℕ)). number_at_place q ls place) (drop_more lines i ([], 0) within)
    ∙ ap (λ b. if b then scaled q l else number_at_place q (drop (i + 1) lines) place) (eq-eqb l.1 place same)

pub loop-i-preserved : goal.loop-i-preserved
loop-i-preserved c =
    let lines = lines_seen c.args.tableau.now in
    let count = lines-count (seen c.args.tableau.now) c.requires.basic.count in
    let within : c.loop-i.i < length lines = omega (arith, c.loop-i-test.true, c.len-i-end.ensures, count) in
    let place_is = ap (λ (x : Line). x.place) c.line_at-line.ensures.value in
    sym (passed c.args.q c.args.place c.loop-i.i lines within (λ same. c.if-line-place.false (place_is ∙ same))) ∙ c.loop-i.invariant

pub returns-then-line-place : goal.returns-then-line-place
returns-then-line-place c =
    let lines = lines_seen c.args.tableau.now in
    let count = lines-count (seen c.args.tableau.now) c.requires.basic.count in
    let within : c.loop-i.i < length lines = omega (arith, c.loop-i-test.true, c.len-i-end.ensures, count) in
    let place_is = ap (λ (x : Line). x.place) c.line_at-line.ensures.value in
    record {
      value = c.number_over.ensures.value ∙ ap (number_over c.args.q) c.line_at-line.ensures.value
          ∙ sym (found c.args.q c.args.place c.loop-i.i lines within (sym place_is ∙ c.if-line-place.true)) ∙ c.loop-i.invariant;
    }

pub returns : goal.returns
returns c =
    let count = lines-count (seen c.args.tableau.now) c.requires.basic.count in
    record {
      value = ap (λ (ls : List (List ℤ × ℕ)). number_at_place c.args.q ls c.args.place)
          (sym (drop_all c.loop-i.i (lines_seen c.args.tableau.now) (omega (arith, c.loop-i-test.false, c.loop-i.auto, c.len-i-end.ensures, count))))
          ∙ c.loop-i.invariant;
    }
