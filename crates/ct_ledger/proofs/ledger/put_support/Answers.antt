use Rattle.std.proofs.Common.{List, [], ◌∷◌, ◌++◌, ◌≡◌, length, ap, sym, ◌∙◌, subst, rules, arith, length-append}
use Rattle.std.proofs.Math.Seq.{get_or-append_seam}
use Rattle.std.proofs.lemmas.List.{length-map}
use Rattle.ct_rule_parts.specs.declared.support.Support.{Support}
use Rattle.ct_rule_parts.specs.Support.{Stands, AllStand}
use Rattle.ct_piece.specs.Supports.{support_of}
use Rattle.ct_piece.proofs.SupportLemmas.{supports_stand}
use Rattle.ct_ledger.proofs.ledger.put_support.Goals as goal

pub add-requires-clause-stands : goal.add-requires-clause-stands
add-requires-clause-stands c =
    let held = c.args.table.now.supports in
    let last = c.args.support in
    let long = length-append held (last ∷ []) in
    let all = subst AllStand c.requires.last (supports_stand c.args.pieces.now c.requires.standing) in
    subst Stands (get_or-append_seam held last [] last) (all (length held) last (omega (arith, long)))

pub add-requires-clause-few : goal.add-requires-clause-few
add-requires-clause-few c =
    let few = c.requires.standing.few in
    let whole = ap (λ (ss : List Support). length ss) c.requires.last in
    let long = length-append c.args.table.now.supports (c.args.support ∷ []) in
    let same = length-map c.args.pieces.now support_of in
    omega (arith, few, whole, long, same)

pub give_up-requires : goal.give_up-requires
give_up-requires c =
    let whole = ap (λ (ss : List Support). length ss) c.requires.last in
    let long = length-append c.args.table.now.supports (c.args.support ∷ []) in
    let same = length-map c.args.pieces.now support_of in
    omega (arith, whole, long, same)

pub returns-clause-supports : goal.returns-clause-supports
returns-clause-supports c =
    let grown : c.add.new.self.supports ≡ c.args.table.now.supports ++ c.args.support ∷ [] = search rules in
    grown ∙ sym c.requires.last
