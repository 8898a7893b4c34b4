use Rattle.std.proofs.Common.{◌≡◌, List, drop, false, All, sym, subst, ◌∙◌}
use Rattle.std.specs.Prelude.{◌↔◌}
use Rattle.std.proofs.Math.Seq.{drop-append_seam}
use Rattle.ct_rules.specs.Derivation.{LineValue}
use Rattle.ct_rules.specs.Rule.{named_place}
use Rattle.ct_rules.specs.Removal.{names_one, marked}
use Rattle.ct_kept.specs.Kept.{KeptValue}
use Rattle.ct_kept.proofs.kept.Kept.names.Goals as goal

pub returns : goal.returns
returns c =
    let P : LineValue → Type 0 = λ l. names_one (marked c.args.gone.now) (named_place l.rule) ≡ false in
    let first = c.self.inside.first.items in
    let later = c.self.inside.later.items in
    subst (λ (k : KeptValue). (c.names_place.result ≡ false) ↔ All P (drop k.base k.lines)) c.self.view_is
    (subst (λ (ls : List LineValue). (c.names_place.result ≡ false) ↔ All P ls)
    (c.deref.ensures.value ∙ sym (drop-append_seam first later))
    c.names_place.ensures)
