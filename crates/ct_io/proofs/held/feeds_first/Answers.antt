use Rattle.std.proofs.Common.{◌≡◌, ℕ, zero, suc, ◌+◌, ◌<◌, List, [], ◌∷◌, ◌++◌, length, get_or, take, replicate, add-one, refl, sym, ap, ◌∙◌}
use Rattle.std.proofs.lemmas.List.{take_more}
use Rattle.std.proofs.lemmas.Option.{get_or_from_slice_get}
use Rattle.ct_text.specs.declared.document_lines.TheConstants.{LINE_FEED}
use Rattle.ct_io.proofs.held.feeds_first.Goals as goal

-- one line feed more
feeds-more : (n : ℕ) → replicate n LINE_FEED ++ LINE_FEED ∷ [] ≡ replicate (suc n) LINE_FEED
feeds-more zero = refl
feeds-more (suc n) = ap (λ (l : List ℕ). LINE_FEED ∷ l) (feeds-more n)

all_feeds-more : (bytes : List ℕ) (n : ℕ) → n < length bytes → take n bytes ≡ replicate n LINE_FEED → get_or bytes n 0 ≡ LINE_FEED
    → take (n + 1) bytes ≡ replicate (n + 1) LINE_FEED
all_feeds-more bytes n within feeds feed =
    take_more bytes n 0 within ∙ (λ i. feeds i ++ feed i ∷ []) ∙ feeds-more n ∙ ap (λ (k : ℕ). replicate k LINE_FEED) (sym (add-one n))

pub loop-count-preserved : goal.loop-count-preserved
loop-count-preserved c =
    all_feeds-more c.args.bytes.now c.loop-count.count c.loop-count-test.true c.loop-count.invariant c.if-b-ne-LINE_FEED.false

pub returns-then-b-ne-LINE_FEED-clause-all : goal.returns-then-b-ne-LINE_FEED-clause-all
returns-then-b-ne-LINE_FEED-clause-all c = λ feed.
    c.if-b-ne-LINE_FEED.true (get_or_from_slice_get c.args.bytes.now c.loop-count.count LINE_FEED 0 feed)
