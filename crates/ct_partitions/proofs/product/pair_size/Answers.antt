use Rattle.std.proofs.Common.{◌≡◌, ◌+◌, ◌*◌, [], length, get_or, rules, ap, ap₂, sym, ◌∙◌, arith}
use Rattle.std.specs.List.{zip}
use Rattle.std.proofs.lemmas.List.{take_all}
use Rattle.std.proofs.lemmas.Slice.Zip.{length-zip}
use Rattle.ct_partitions.proofs.ProductLemmas.{sizes, sizes_step, sizes-small, class_length, class_count}
use Rattle.ct_partitions.proofs.product.pair_size.Goals as goal

pub overflow_mul-size : goal.overflow_mul-size
overflow_mul-size c =
    let k = c.loop-class.class in
    let cs = c.args.first.now.classes in
    let ds = c.args.second.now.classes in
    let first : c.len.result ≡ length c.index-firsts-class.result.items = search rules in
    let second : c.len-in-loop-class.result ≡ length c.index-seconds-class.result.items = search rules in
    let a_count = class_count c.classes-firsts.result.now cs c.classes-firsts.ensures.value in
    let b_count = class_count c.classes-seconds.result.now ds c.classes-seconds.ensures.value in
    let a = class_length c.classes-firsts.result.now k c.index-firsts-class.result cs c.classes-firsts.ensures.value
    (omega arith) c.index-firsts-class.is in
    let b = class_length c.classes-seconds.result.now k c.index-seconds-class.result ds c.classes-seconds.ensures.value
    (omega arith) c.index-seconds-class.is in
    let product : c.len.result * c.len-in-loop-class.result ≡ length (get_or cs k []) * length (get_or ds k []) =
    ap₂ (λ i j. i * j) (first ∙ a) (second ∙ b) in
    let step = sizes_step cs ds k (omega arith) (omega arith) in
    let small = sizes-small c.args.first.now c.args.second.now c.classes-firsts.ensures.sound c.classes-seconds.ensures.sound (k + 1) in
    omega arith

pub overflow_add-size : goal.overflow_add-size
overflow_add-size c =
    let k = c.loop-class.class in
    let cs = c.args.first.now.classes in
    let ds = c.args.second.now.classes in
    let first : c.len.result ≡ length c.index-firsts-class.result.items = search rules in
    let second : c.len-in-loop-class.result ≡ length c.index-seconds-class.result.items = search rules in
    let a_count = class_count c.classes-firsts.result.now cs c.classes-firsts.ensures.value in
    let b_count = class_count c.classes-seconds.result.now ds c.classes-seconds.ensures.value in
    let a = class_length c.classes-firsts.result.now k c.index-firsts-class.result cs c.classes-firsts.ensures.value
    (omega arith) c.index-firsts-class.is in
    let b = class_length c.classes-seconds.result.now k c.index-seconds-class.result ds c.classes-seconds.ensures.value
    (omega arith) c.index-seconds-class.is in
    let product : c.len.result * c.len-in-loop-class.result ≡ length (get_or cs k []) * length (get_or ds k []) =
    ap₂ (λ i j. i * j) (first ∙ a) (second ∙ b) in
    let step = sizes_step cs ds k (omega arith) (omega arith) in
    let so_far = c.loop-class.invariant in
    let small = sizes-small c.args.first.now c.args.second.now c.classes-firsts.ensures.sound c.classes-seconds.ensures.sound (k + 1) in
    omega arith

pub loop-class-preserved : goal.loop-class-preserved
loop-class-preserved c =
    let k = c.loop-class.class in
    let cs = c.args.first.now.classes in
    let ds = c.args.second.now.classes in
    let first : c.len.result ≡ length c.index-firsts-class.result.items = search rules in
    let second : c.len-in-loop-class.result ≡ length c.index-seconds-class.result.items = search rules in
    let a_count = class_count c.classes-firsts.result.now cs c.classes-firsts.ensures.value in
    let b_count = class_count c.classes-seconds.result.now ds c.classes-seconds.ensures.value in
    let a = class_length c.classes-firsts.result.now k c.index-firsts-class.result cs c.classes-firsts.ensures.value
    (omega arith) c.index-firsts-class.is in
    let b = class_length c.classes-seconds.result.now k c.index-seconds-class.result ds c.classes-seconds.ensures.value
    (omega arith) c.index-seconds-class.is in
    let product : c.len.result * c.len-in-loop-class.result ≡ length (get_or cs k []) * length (get_or ds k []) =
    ap₂ (λ i j. i * j) (first ∙ a) (second ∙ b) in
    ap₂ (λ i j. i + j) c.loop-class.invariant product ∙ sym (sizes_step cs ds k (omega arith) (omega arith))

pub returns-clause-value : goal.returns-clause-value
returns-clause-value c =
    let cs = c.args.first.now.classes in
    let ds = c.args.second.now.classes in
    let a_count = class_count c.classes-firsts.result.now cs c.classes-firsts.ensures.value in
    let b_count = class_count c.classes-seconds.result.now ds c.classes-seconds.ensures.value in
    let long = length-zip cs ds in
    c.loop-class.invariant ∙ ap sizes (take_all c.loop-class.class (zip cs ds) (omega arith))

pub returns-clause-small : goal.returns-clause-small
returns-clause-small c =
    let so_far = c.loop-class.invariant in
    let small = sizes-small c.args.first.now c.args.second.now c.classes-firsts.ensures.sound c.classes-seconds.ensures.sound c.loop-class.class in
    omega arith
