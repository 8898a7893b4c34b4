use Rattle.std.proofs.Common.{if◌then◌else◌, ap, sym, ◌∙◌, lt_trans, eq-eqb, ne_eqb}
use Rattle.ct_classes.specs.Partition.{word_lists}
use Rattle.ct_partitions.specs.Check.{class_at}
use Rattle.ct_partitions.proofs.PairFaults.{no_pair_fault, repeated_pair_fault, close_pair_fault}
use Rattle.ct_partitions.proofs.check.pair_fault.Goals as goal

pub returns-in_err-i : goal.returns-in_err-i
returns-in_err-i c = λ n below.
    c.from_residual.ensures
    ∙ sym (no_pair_fault n c.args.d c.args.between
    (word_lists c.args.classes.now) c.args.words.now c.requires.words c.requires.some c.requires.nearer
    (sym (c.in_err-i.ensures.least n below)))

pub returns-in-Some : goal.returns-in-Some
returns-in-Some c = λ n below.
    sym (repeated_pair_fault n c.args.d c.args.between
    (word_lists c.args.classes.now) c.args.words.now c.in-Some.first c.in-Some.again below
    (sym (c.in-Some.ensures.least n below)))

pub returns-then-class_i-class_j : goal.returns-then-class_i-class_j
returns-then-class_i-class_j c = λ n below.
    let classes = word_lists c.args.classes.now in
    let i = c.in_ok-i.i in
    let j = c.in_ok-i.j in
    let places = c.in_ok-i.ensures.places in
    let same = sym c.class_of-class_i.ensures ∙ c.if-class_i-class_j.true ∙ c.class_of-class_j.ensures in
    close_pair_fault n c.args.d c.args.between classes c.args.words.now i j c.distance.result c.class_of-class_i.result c.class_of-class_j.result c.args.d
    c.requires.words below (sym (c.in_default.ensures.least n below)) (sym (c.in_ok-i.ensures.least n below))
    (c.distance.ensures n (below i 0 (lt_trans places.0 places.1))
    (below j 0 places.1)) c.class_of-class_i.ensures c.class_of-class_j.ensures
    (ap (λ b. if b then c.args.d else c.args.between) (sym (eq-eqb (class_at classes i) (class_at classes j) same)))

pub returns-else-class_i-class_j : goal.returns-else-class_i-class_j
returns-else-class_i-class_j c = λ n below.
    let classes = word_lists c.args.classes.now in
    let i = c.in_ok-i.i in
    let j = c.in_ok-i.j in
    let places = c.in_ok-i.ensures.places in
    close_pair_fault n c.args.d c.args.between classes c.args.words.now i j c.distance.result c.class_of-class_i.result c.class_of-class_j.result c.args.between
    c.requires.words below (sym (c.in_default.ensures.least n below)) (sym (c.in_ok-i.ensures.least n below))
    (c.distance.ensures n (below i 0 (lt_trans places.0 places.1))
    (below j 0 places.1)) c.class_of-class_i.ensures c.class_of-class_j.ensures
    (ap (λ b. if b then c.args.d else c.args.between)
    (sym (ne_eqb (class_at classes i) (class_at classes j) (λ same. c.if-class_i-class_j.false (c.class_of-class_i.ensures ∙ same
    ∙ sym c.class_of-class_j.ensures)))))
