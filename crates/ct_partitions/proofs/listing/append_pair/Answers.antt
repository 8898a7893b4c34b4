use Rattle.std.proofs.Common.{◌-◌, ◌^◌, ◌<◌, List, [], ◌++◌, take, get_or, All, ap, ap₂, sym, subst, ◌∙◌, arith, append_assoc}
use Rattle.std.specs.Prelude.{ℕ}
use Rattle.ct_words.specs.declared.limits.TheConstants.{MAX_N}
use Rattle.ct_words.proofs.Constructions.JoinedLemmas.{words_wider}
use Rattle.ct_partitions.specs.Product.{all_followed, class_products}
use Rattle.ct_partitions.proofs.ProductLemmas.{class_items, class_count, classes_step, classes_all}
use Rattle.ct_partitions.proofs.listing.append_pair.Goals as goal

pub append_class-requires-clause-first : goal.append_class-requires-clause-first
append_class-requires-clause-first c =
    let k = c.loop-class.class in
    let cs = c.args.first.now.classes in
    let n = c.args.first.now.entry.n in
    let m = c.entry-m.result.n in
    let m_is = ap (λ e. e.n) c.entry-m.ensures.value in
    let short = c.requires in
    let count = class_count c.classes-firsts.result.now cs c.classes-firsts.ensures.value in
    let items = c.deref.ensures.value
    ∙ class_items c.classes-firsts.result.now k c.index-firsts-class.result cs c.classes-firsts.ensures.value
    (omega arith) c.index-firsts-class.is in
    let code = c.classes-firsts.ensures.sound.partition.classes_are_codes k [] (omega arith) in
    subst (All (λ (x : ℕ). x < 2 ^ (MAX_N - m))) (sym items) (words_wider n (MAX_N - m) (get_or cs k []) (omega arith) code.lengths)

pub append_class-requires-clause-second : goal.append_class-requires-clause-second
append_class-requires-clause-second c =
    let k = c.loop-class.class in
    let ds = c.args.second.now.classes in
    let m_is = ap (λ e. e.n) c.entry-m.ensures.value in
    let count = class_count c.classes-seconds.result.now ds c.classes-seconds.ensures.value in
    let items = c.deref-in-loop-class.ensures.value
    ∙ class_items c.classes-seconds.result.now k c.index-seconds-class.result ds c.classes-seconds.ensures.value
    (omega arith) c.index-seconds-class.is in
    let code = c.classes-seconds.ensures.sound.partition.classes_are_codes k [] (omega arith) in
    subst (λ (j : ℕ). All (λ (x : ℕ). x < 2 ^ j) c.deref-in-loop-class.result.now) (sym m_is)
    (subst (All (λ (x : ℕ). x < 2 ^ c.args.second.now.entry.n)) (sym items) code.lengths)

pub loop-class-preserved : goal.loop-class-preserved
loop-class-preserved c =
    let k = c.loop-class.class in
    let cs = c.args.first.now.classes in
    let ds = c.args.second.now.classes in
    let m = c.args.second.now.entry.n in
    let m_is = ap (λ e. e.n) c.entry-m.ensures.value in
    let a_count = class_count c.classes-firsts.result.now cs c.classes-firsts.ensures.value in
    let b_count = class_count c.classes-seconds.result.now ds c.classes-seconds.ensures.value in
    let firsts = c.deref.ensures.value
    ∙ class_items c.classes-firsts.result.now k c.index-firsts-class.result cs c.classes-firsts.ensures.value
    (omega arith) c.index-firsts-class.is in
    let seconds = c.deref-in-loop-class.ensures.value
    ∙ class_items c.classes-seconds.result.now k c.index-seconds-class.result ds c.classes-seconds.ensures.value
    (omega arith) c.index-seconds-class.is in
    c.in_ok-append_class.ensures
    ∙ ap₂ (λ (a b : List ℕ). a ++ b) c.loop-class.invariant (λ i. all_followed (m_is i) (firsts i) (seconds i))
    ∙ append_assoc c.args.words.now.items (class_products m (take k cs) (take k ds)) (all_followed m (get_or cs k []) (get_or ds k []))
    ∙ ap (λ ws. c.args.words.now.items ++ ws) (sym (classes_step m cs ds k (omega arith) (omega arith)))

pub returns-clause-words : goal.returns-clause-words
returns-clause-words c =
    let cs = c.args.first.now.classes in
    let ds = c.args.second.now.classes in
    let a_count = class_count c.classes-firsts.result.now cs c.classes-firsts.ensures.value in
    let b_count = class_count c.classes-seconds.result.now ds c.classes-seconds.ensures.value in
    c.loop-class.invariant ∙ ap (λ ws. c.args.words.now.items ++ ws) (classes_all c.args.second.now.entry.n cs ds c.loop-class.class
    (omega arith))
