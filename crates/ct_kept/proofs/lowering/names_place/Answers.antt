use Rattle.std.proofs.Common.{◌≡◌, ◌++◌, ◌∷◌, [], true, false, take, take_all, All, refl, sym, ap, subst, ◌∙◌}
use Rattle.std.proofs.lemmas.Bool.{false≢true}
use Rattle.std.proofs.lemmas.List.{take_more}
use Rattle.std.proofs.lemmas.List.Elements.{All-nil, All-cons, All-append}
use Rattle.ct_rules.specs.Derivation.{LineValue}
use Rattle.ct_rules.specs.Rule.{named_place}
use Rattle.ct_rules.specs.Removal.{names_one, marked}
use Rattle.ct_kept.proofs.lowering.names_place.Goals as goal

pub returns-then-names_one : goal.returns-then-names_one
returns-then-names_one c = (
  λ no. absurd (false≢true (sym no)),
  λ none.
      let named : names_one (marked c.args.gone.now) (named_place c.line-item.result.rule) ≡ true =
      ap (λ (l : LineValue). names_one (marked c.args.gone.now) (named_place l.rule)) (sym c.line.view_is)
      ∙ sym c.names_one.ensures ∙ c.if-names_one.true in
      let apart : names_one (marked c.args.gone.now) (named_place c.line-item.result.rule) ≡ false =
      ap (λ (l : LineValue). names_one (marked c.args.gone.now) (named_place l.rule)) c.line-item.is
      ∙ none c.loop-line.line-index c.line-item.result c.loop-line-test.true in
      absurd (false≢true (sym apart ∙ named)),
)

pub loop-line-preserved : goal.loop-line-preserved
loop-line-preserved c =
    let P : LineValue → Type 0 = λ k. names_one (marked c.args.gone.now) (named_place k.rule) ≡ false in
    let here : P c.line-item.result =
    ap (λ (l : LineValue). names_one (marked c.args.gone.now) (named_place l.rule)) (sym c.line.view_is)
    ∙ sym c.names_one.ensures ∙ c.if-names_one.false in
    subst (All P)
    (ap (λ (k : LineValue). take c.loop-line.line-index c.args.lines.now ++ k ∷ []) c.line-item.is
    ∙ sym (take_more c.args.lines.now c.loop-line.line-index c.line-item.result c.loop-line-test.true))
    (All-append P (take c.loop-line.line-index c.args.lines.now) (c.line-item.result ∷ []) c.loop-line.invariant
    (All-cons P c.line-item.result [] here (All-nil P)))

pub returns : goal.returns
returns c = (
  λ no.
      subst (All (λ (k : LineValue). names_one (marked c.args.gone.now) (named_place k.rule) ≡ false))
      (take_all c.loop-line.line-index c.args.lines.now c.loop-line-test.false) c.loop-line.invariant,
  λ none. refl,
)
