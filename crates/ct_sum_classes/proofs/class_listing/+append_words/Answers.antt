use Rattle.std.proofs.Common.{◌≡◌, ℕ, suc, ◌+◌, ◌%◌, ◌^◌, ◌<◌, ◌≤◌, ◌++◌, map, ◌-◌, ◌*◌, [], ap, sym, ◌∙◌, append-nil, arith, pow-suc}
use Rattle.std.proofs.Math.Nat.{pow-le-pow_right, mod-eq_of_lt, mul-le-mul}
use Rattle.std.proofs.lemmas.Result.{on_ok_weaker}
use Rattle.ct_words.specs.declared.limits.TheConstants.{MAX_N}
use Rattle.ct_words.specs.Counting.Binomials.{choose}
use Rattle.ct_sum_classes.specs.Inside.Listing.{words_of_sum}
use Rattle.ct_sum_classes.proofs.ListingLemmas.{words_of_sum-short, words_of_sum-far, appended-only, appended-both}
use Rattle.ct_sum_classes.proofs.class_listing.+append_words.Goals as goal
use Rattle.ct_sum_classes.proofs.class_listing.+append_words.Goals.{then-m-k-via-then-m-k, then-m-k-via-else-m-k+then-k-m}

pub returns-then-m-k : goal.returns-then-m-k
returns-then-m-k t c =
    let none : words_of_sum c.args.n c.args.m c.args.k (choose c.args.k 2 + c.args.excess) ≡ [] = elim c.then-m-k.branch [
      | then-m-k-via-then-m-k w ↦ words_of_sum-short c.args.n c.args.m c.args.k (choose c.args.k 2 + c.args.excess) w.if-m-k.true
      | then-m-k-via-else-m-k+then-k-m w ↦ words_of_sum-far c.args.n c.args.m c.args.k c.args.excess w.if-m-k.false c.requires.excess w.if-k-m.true
    ] in
    sym (ap (λ xs. c.args.words.now.items ++ map (λ x. c.args.beginning + x) xs) none ∙ append-nil _)

pub returns-then-k-le1 : goal.returns-then-k-le1
returns-then-k-le1 t c =
    let some : 1 ≤ c.args.n = let below = c.requires.excess in omega arith in
    appended-only c.args.beginning c.only_word.result c.args.words.now.items c.push.new.self.items
    (words_of_sum c.args.n c.args.m c.args.k (choose c.args.k 2 + c.args.excess)) c.in_ok-push.ensures.items
    (c.only_word.ensures.only c.args.n some c.requires.length.0)

pub append_words-requires : goal.append_words-requires
append_words-requires t c =
    let half : 2 ^ (c.args.m - 1) ≤ 2 ^ c.args.m = pow-le-pow_right (omega arith) (omega arith) in
    (omega arith, ((omega arith, omega arith), (omega arith, (c.difference_modulo-less.ensures.below, omega arith))))

pub returns : goal.returns
returns t c =
    let half : 2 ^ (c.args.m - 1) ≤ 2 ^ c.args.m = pow-le-pow_right (omega arith) (omega arith) in
    let one_is : 1 * 2 ^ (c.args.m - 1) % 2 ^ 32 ≡ 2 ^ (c.args.m - 1) = let room = c.requires.beginning in mod-eq_of_lt (omega arith) ∙ omega arith in
    on_ok_weaker c.append_words-2.result
    (appended-both c.args.beginning c.args.n c.args.m c.args.k c.args.excess c.difference_modulo-less.result (1 * 2 ^ (c.args.m - 1) % 2 ^ 32)
    c.args.words.now.items c.append_words.new.words.items c.append_words-2.new.words.items (omega arith) c.requires.weight (omega arith)
    c.difference_modulo-less.ensures.difference one_is c.in_ok-append_words.ensures)
    c.append_words-2.ensures

-- a one before m - 1 more digits is within the words that the beginning leaves room for
halved : (m b : ℕ) → 1 ≤ m → b + 2 ^ m ≤ 2 ^ MAX_N → b + 1 * 2 ^ (m - 1) % 2 ^ 32 + 2 ^ (m - 1) ≤ 2 ^ MAX_N
halved m b some room =
    let more : 2 ^ suc (m - 1) ≤ 2 ^ m = pow-le-pow_right (omega arith) (omega arith) in
    let twice = pow-suc 2 (m - 1) in
    let one_is : 1 * 2 ^ (m - 1) % 2 ^ 32 ≡ 2 ^ (m - 1) = mod-eq_of_lt (omega arith) ∙ omega arith in
    omega arith

sum_fits : (b x p : ℕ) → b + p ≤ 2 ^ MAX_N → x ≤ p → b + x < 2 ^ 32
sum_fits b x p room below = omega arith

product_fits : (k m : ℕ) → k ≤ MAX_N → m ≤ MAX_N → k * (m - k) < 2 ^ 32
product_fits k m few short = let most = mul-le-mul few (sub-le_of_le m k short) in omega arith
  where
    sub-le_of_le : (m k : ℕ) → m ≤ MAX_N → m - k ≤ MAX_N
    sub-le_of_le m k short = omega arith

pub overflow_mul-k : goal.overflow_mul-k
overflow_mul-k t c =
    let longest = c.requires.length in
    let few = c.requires.weight in
    record { fits = product_fits c.args.k c.args.m (omega arith) (omega arith) }

pub overflow_add-beginning : goal.overflow_add-beginning
overflow_add-beginning t c =
    let below = c.only_word.ensures.length in
    record { fits = sum_fits c.args.beginning c.only_word.result (2 ^ c.args.m) c.requires.beginning (omega (arith, below)) }

pub overflow_add-beginning-2 : goal.overflow_add-beginning-2
overflow_add-beginning-2 t c =
    let room = halved c.args.m c.args.beginning (omega arith) c.requires.beginning in
    record { fits = omega (arith, room) }

pub append_words-requires-2 : goal.append_words-requires-2
append_words-requires-2 t c =
    (omega arith, ((omega arith, c.requires.length.1), (omega arith, (c.requires.excess, halved c.args.m c.args.beginning (omega arith) c.requires.beginning))))
