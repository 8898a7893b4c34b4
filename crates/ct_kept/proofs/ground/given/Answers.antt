use Rattle.std.proofs.Common.{[], Some, ap, sym, ◌∙◌}
use Rattle.ct_words.specs.declared.claim.Side.TheVariants.{Upper}
use Rattle.ct_rule_parts.specs.Parts.{within_limit}
use Rattle.ct_rules.specs.Rule.{value_of}
use Rattle.ct_kept.proofs.GivenLemmas.{one_given, two_given, word_given, disjoint_given, all_given, far_given, distances_given, balls_given, plain_entry, choose_given, no_far_given, disjoint_above_given, pairs_given}
use Rattle.ct_kept.proofs.ground.given.Goals as goal

pub returns-in-L1-None : goal.returns-in-L1-None
returns-in-L1-None c =
    one_given c.args.entry c.requires c.in-L1-None.is-1 ∙ ap (λ r. value_of [] r c.args.entry []) (sym c.in-L1-None.is-0)

pub returns-in-L2-None : goal.returns-in-L2-None
returns-in-L2-None c =
    c.given_by_two.ensures ∙ two_given c.args.entry c.requires c.in-L2-None.is-1 ∙ ap (λ r. value_of [] r c.args.entry []) (sym c.in-L2-None.is-0)

pub returns-in-M1-Some : goal.returns-in-M1-Some
returns-in-M1-Some c =
    word_given c.args.entry _ c.requires c.in-M1-Some.is-1 ∙ ap (λ r. value_of [] r c.args.entry []) (sym c.in-M1-Some.is-0)

pub returns-in-M2-Some : goal.returns-in-M2-Some
returns-in-M2-Some c =
    c.given_by_disjoint.ensures ∙ disjoint_given c.args.entry c.requires ∙ ap (λ r. value_of [] r c.args.entry []) (sym c.in-M2-Some.is-0)

pub returns-in-U0-None : goal.returns-in-U0-None
returns-in-U0-None c =
    c.given_by_all.ensures ∙ all_given c.args.entry c.requires c.in-U0-None.is-1 ∙ ap (λ r. value_of [] r c.args.entry []) (sym c.in-U0-None.is-0)

pub returns-in-U1-None : goal.returns-in-U1-None
returns-in-U1-None c =
    c.given_by_far.ensures ∙ far_given c.args.entry c.requires c.in-U1-None.is-1 ∙ ap (λ r. value_of [] r c.args.entry []) (sym c.in-U1-None.is-0)

pub given_by_distances-requires : goal.given_by_distances-requires
given_by_distances-requires c = plain_entry c.args.entry c.requires

pub returns-in-U2-None : goal.returns-in-U2-None
returns-in-U2-None c =
    c.given_by_distances.ensures ∙ distances_given c.args.entry c.requires c.in-U2-None.is-1
    ∙ ap (λ r. value_of [] r c.args.entry []) (sym c.in-U2-None.is-0)

pub given_by_balls-requires : goal.given_by_balls-requires
given_by_balls-requires c = plain_entry c.args.entry c.requires

pub returns-in-U3-None : goal.returns-in-U3-None
returns-in-U3-None c =
    c.given_by_balls.ensures ∙ balls_given c.args.entry c.requires c.in-U3-None.is-1
    ∙ ap (λ r. value_of [] r c.args.entry []) (sym c.in-U3-None.is-0)

pub returns-in-V0-Some : goal.returns-in-V0-Some
returns-in-V0-Some c =
    c.within_limit.ensures.value ∙ ap (λ x. within_limit Upper (Some x)) c.binomial.ensures
    ∙ choose_given c.args.entry c.in-V0-Some.k c.requires c.in-V0-Some.is-1 ∙ ap (λ r. value_of [] r c.args.entry []) (sym c.in-V0-Some.is-0)

pub returns-in-V1-Some : goal.returns-in-V1-Some
returns-in-V1-Some c =
    c.given_by_no_far.ensures ∙ no_far_given c.args.entry c.requires ∙ ap (λ r. value_of [] r c.args.entry []) (sym c.in-V1-Some.is-0)

pub returns-in-V2-Some : goal.returns-in-V2-Some
returns-in-V2-Some c =
    c.given_by_disjoint-in-V2-Some.ensures ∙ disjoint_above_given c.args.entry c.requires ∙ ap (λ r. value_of [] r c.args.entry []) (sym c.in-V2-Some.is-0)

pub returns-in-V8-Some : goal.returns-in-V8-Some
returns-in-V8-Some c =
    c.given_by_pairs.ensures ∙ pairs_given c.args.entry _ c.requires c.in-V8-Some.is-1 ∙ ap (λ r. value_of [] r c.args.entry []) (sym c.in-V8-Some.is-0)
