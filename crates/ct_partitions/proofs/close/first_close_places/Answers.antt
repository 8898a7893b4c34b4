use Rattle.std.proofs.Common.{◌≡◌, ℕ, ◌+◌, ◌^◌, ◌<◌, nat_lt, List, length, take, get_or, All, ap, ap₂, sym, subst, ◌∙◌, arith, rules, length-append, take_all}
use Rattle.std.proofs.Math.Facts.{Fits-lt-pow}
use Rattle.std.specs.Prelude.{MatchOption}
use Rattle.std.proofs.lemmas.List.Elements.{All-from_get_or}
use Rattle.ct_words.specs.Word.{distance}
use Rattle.ct_words.specs.PairProducts.{all_places}
use Rattle.ct_words.specs.Pairs.{least_pair}
use Rattle.ct_words.proofs.PairLemmas.{least_pair_same, IsLeastPair-from}
use Rattle.ct_classes.specs.Partition.{word_lists, words_of_classes}
use Rattle.ct_partitions.specs.Check.{is_close}
use Rattle.ct_partitions.specs.Inside.Rows.{IsLesser}
use Rattle.ct_partitions.proofs.ClassLemmas.{lists_more, words_up_to}
use Rattle.ct_partitions.proofs.RowLemmas.{close_any_length, places_below}
use Rattle.ct_partitions.proofs.LeastLemmas.{least_of_all, least_of_two, least_of_places, close_between, class_fits, class_passed, class_close, class_covered, lesser_places}
use Rattle.ct_partitions.proofs.close.first_close_places.Goals as goal

-- the least close pair, whatever the length that the words are read at
any_length : (n d between : ℕ) (classes : List (List ℕ)) (words : List ℕ) → words ≡ words_of_classes classes → All (λ x. x < 2 ^ n) words
    → All (λ x. x < 2 ^ 32) words
    → least_pair (is_close 32 d between classes) (all_places (length words)) ≡ least_pair (is_close n d between classes) (all_places
    (length words))
any_length n d between classes words are below fits =
    least_pair_same (λ k. k < length words) (is_close 32 d between classes) (is_close n d between classes)
    (λ i j h l. sym (close_any_length n d between classes (subst (All (λ x. x < 2 ^ n)) are below) (subst (All
    (λ x. x < 2 ^ 32)) are fits) i j
    (let same = ap length are in omega arith) (let same = ap length are in omega arith)))
    (all_places (length words)) (places_below (length words))

pub overflow_add-end : goal.overflow_add-end
overflow_add-end c =
    let size : c.len.result ≡ length c.class-item.result.items = search rules in
    let item = ap (λ v. length v.items) c.class-item.is in
    let most = words_up_to c.args.classes.now c.loop-class.class-index c.class-item.result c.loop-class-test.true in
    let all = ap length c.requires.words in
    let place = c.loop-class.invariant.place in
    omega arith

pub returns-clause-least : goal.returns-clause-least
returns-clause-least c = λ n below.
    let words = c.args.words.now in
    let classes = c.args.classes.now in
    let close = is_close 32 c.args.d c.args.between (word_lists classes) in
    let test = λ (x y : ℕ). nat_lt (distance 32 x y) c.args.between in
    let fits = All-from_get_or (λ x. x < 2 ^ 32) words 0 (λ j h. Fits-lt-pow (c.type_inv.words j)) in
    let all = ap length c.requires.words in
    let taken = ap (λ vs. length (words_of_classes (word_lists vs))) (take_all c.loop-class.class-index classes (omega arith)) in
    let place = c.loop-class.invariant.place in
    let end : c.loop-class.start ≡ length words = omega arith in
    least_of_all test close words c.first_close_pair-across.result (c.first_close_pair-across.ensures.least 32 fits)
    (λ k m order within closer. c.loop-class.invariant.only k m (omega arith) order within closer)
    (close_between c.args.d c.args.between (word_lists classes) words c.requires.words c.requires.nearer)
    ∙ any_length n c.args.d c.args.between (word_lists classes) words c.requires.words below fits

pub loop-class-preserved : goal.loop-class-preserved
loop-class-preserved c =
    let words = c.args.words.now in
    let classes = c.args.classes.now in
    let k = c.loop-class.class-index in
    let item = c.class-item.result in
    let close = λ (x y : ℕ). nat_lt (distance 32 x y) c.args.d in
    let within = c.loop-class-test.true in
    let size : c.len.result ≡ length item.items = search rules in
    let end_is : c.loop-class.start + c.len.result ≡ length (words_of_classes (word_lists (take k classes))) + length (get_or classes k item).items =
    ap₂ (λ i j. i + j) c.loop-class.invariant.place (size ∙ ap (λ v. length v.items) c.class-item.is) in
    let more = ap length (lists_more classes k item within) ∙ length-append (words_of_classes (word_lists (take k classes))) (get_or classes k item).items in
    let fits = All-from_get_or (λ x. x < 2 ^ 32) words 0 (λ j h. Fits-lt-pow (c.type_inv.words j)) in
    let items = c.deref.ensures.value ∙ ap (λ v. v.items) c.class-item.is in
    let none = sym (ap (least_pair close) items)
    ∙ sym (c.first_close_pair.ensures.least 32 (subst (All (λ (x : ℕ). x < 2 ^ 32)) (sym items) (class_fits classes k item words within c.requires.words fits)))
    ∙ c.in_default.is in
    let place = c.loop-class.invariant.place in
    record {
      place = end_is ∙ sym more;
      only = λ i j sooner order below closer.
          class_passed c.args.d c.args.between classes k item words within c.requires.words
          (λ a b early. c.loop-class.invariant.only a b (omega arith)) none i j (omega arith) order below closer;
    }

pub returns-in-Some-clause-least : goal.returns-in-Some-clause-least
returns-in-Some-clause-least c = λ n below.
    let words = c.args.words.now in
    let classes = c.args.classes.now in
    let k = c.loop-class.class-index in
    let item = c.class-item.result in
    let start = length (words_of_classes (word_lists (take k classes))) in
    let close = λ (x y : ℕ). nat_lt (distance 32 x y) c.args.d in
    let test = λ (x y : ℕ). nat_lt (distance 32 x y) c.args.between in
    let within = c.loop-class-test.true in
    let fits = All-from_get_or (λ x. x < 2 ^ 32) words 0 (λ j h. Fits-lt-pow (c.type_inv.words j)) in
    let items = c.deref.ensures.value ∙ ap (λ v. v.items) c.class-item.is in
    let found = sym (ap (least_pair close) items)
    ∙ sym (c.in-Some.ensures.least 32 (subst (All (λ (x : ℕ). x < 2 ^ 32)) (sym items) (class_fits classes k item words within c.requires.words fits))) in
    let least = IsLeastPair-from close (get_or classes k item).items c.in-Some.i c.in-Some.j found in
    let order_is = least.order in
    let within_is = least.within in
    let most = words_up_to classes k item within in
    let all = ap length c.requires.words in
    let place = c.loop-class.invariant.place in
    let other : ◌≡◌ {A = ℕ × ℕ} (c.loop-class.start + c.in-Some.i, c.loop-class.start + c.in-Some.j) (start + c.in-Some.i, start + c.in-Some.j) =
    ap (λ (s : ℕ). (s + c.in-Some.i, s + c.in-Some.j)) place in
    let lesser = subst (λ (o : ℕ × ℕ). MatchOption c.first_close_pair-across.result (c.lesser.result ≡ o) (λ p. IsLesser p o c.lesser.result)) other
    c.lesser.ensures in
    let whole = least_of_two test (is_close 32 c.args.d c.args.between (word_lists classes)) words c.first_close_pair-across.result
    (start + c.in-Some.i, start + c.in-Some.j) c.lesser.result (c.first_close_pair-across.ensures.least 32 fits) lesser (omega arith, omega arith)
    (class_close c.args.d c.args.between classes k item words within c.requires.words c.in-Some.i c.in-Some.j least)
    (class_covered c.args.d c.args.between classes k item words within c.requires.words c.in-Some.i c.in-Some.j least
    (λ a b early. c.loop-class.invariant.only a b (omega arith)))
    (close_between c.args.d c.args.between (word_lists classes) words c.requires.words c.requires.nearer) in
    sym (least_of_places (is_close 32 c.args.d c.args.between (word_lists classes)) (length words) c.lesser.result whole)
    ∙ any_length n c.args.d c.args.between (word_lists classes) words c.requires.words below fits

pub overflow_add-start : goal.overflow_add-start
overflow_add-start c =
    let items = ap length (c.deref.ensures.value ∙ ap (λ v. v.items) c.class-item.is) in
    let most = words_up_to c.args.classes.now c.loop-class.class-index c.class-item.result c.loop-class-test.true in
    let all = ap length c.requires.words in
    let place = c.loop-class.invariant.place in
    let order = c.in-Some.ensures.places.0 in
    let inside = c.in-Some.ensures.places.1 in
    omega arith

pub overflow_add-start-in-Some : goal.overflow_add-start-in-Some
overflow_add-start-in-Some c =
    let items = ap length (c.deref.ensures.value ∙ ap (λ v. v.items) c.class-item.is) in
    let most = words_up_to c.args.classes.now c.loop-class.class-index c.class-item.result c.loop-class-test.true in
    let all = ap length c.requires.words in
    let place = c.loop-class.invariant.place in
    let inside = c.in-Some.ensures.places.1 in
    omega arith

pub returns-in-Some-clause-places : goal.returns-in-Some-clause-places
returns-in-Some-clause-places c =
    let items = ap length (c.deref.ensures.value ∙ ap (λ v. v.items) c.class-item.is) in
    let most = words_up_to c.args.classes.now c.loop-class.class-index c.class-item.result c.loop-class-test.true in
    let all = ap length c.requires.words in
    let place = c.loop-class.invariant.place in
    let order = c.in-Some.ensures.places.0 in
    let inside = c.in-Some.ensures.places.1 in
    lesser_places (length c.args.words.now) c.first_close_pair-across.result (c.loop-class.start + c.in-Some.i, c.loop-class.start + c.in-Some.j)
    c.lesser.result c.first_close_pair-across.ensures.places c.lesser.ensures (omega arith, omega arith)
