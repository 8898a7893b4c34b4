use Rattle.std.proofs.Common.{◌≡◌, ℕ, List, [], ◌++◌, refl, ap₂, ◌∙◌}
use Rattle.std.specs.Prelude.{codes}
use Rattle.ct_sample.specs.Summary.{named_line}
use Rattle.ct_sample.proofs.summary.summary_text.Goals as goal

-- one line more
line_more : (before t u name : List ℕ) (k n : ℕ) → t ≡ before → u ≡ t ++ named_line name k → k ≡ n → u ≡ before ++ named_line name n
line_more before t u name k n is put same = put ∙ ap₂ (λ l m. l ++ named_line name m) is same

pub returns : goal.returns
returns c =
    let s = c.args.summary.now in
    let one = named_line (codes "commands") s.commands in
    let two = one ++ named_line (codes "accepted") s.accepted in
    let three = two ++ named_line (codes "withdrawn") s.withdrawn in
    let four = three ++ named_line (codes "standing") s.standing in
    let five = four ++ named_line (codes "equal") s.tally.equal in
    let six = five ++ named_line (codes "lower") s.tally.lower in
    let t1 = c.put_line.new.text.items in
    let t2 = c.put_line-2.new.text.items in
    let t3 = c.put_line-3.new.text.items in
    let t4 = c.put_line-4.new.text.items in
    let t5 = c.put_line-5.new.text.items in
    let t6 = c.put_line-6.new.text.items in
    line_more six t6 c.put_line-7.new.text.items (codes "upper") s.tally.upper s.tally.upper
    (line_more five t5 t6 (codes "lower") s.tally.lower s.tally.lower
    (line_more four t4 t5 (codes "equal") c.from-5.result s.tally.equal
    (line_more three t3 t4 (codes "standing") c.from-4.result s.standing
    (line_more two t2 t3 (codes "withdrawn") c.from-3.result s.withdrawn
    (line_more one t1 t2 (codes "accepted") c.from-2.result s.accepted
    (line_more [] c.new-text.result.items t1 (codes "commands") c.from.result s.commands c.new-text.ensures.items c.in_ok-put_line.ensures c.from.ensures)
    c.in_ok-put_line-2.ensures c.from-2.ensures)
    c.in_ok-put_line-3.ensures c.from-3.ensures)
    c.in_ok-put_line-4.ensures c.from-4.ensures)
    c.in_ok-put_line-5.ensures c.from-5.ensures)
    c.in_ok-put_line-6.ensures refl)
    c.in_ok-put_line-7.ensures refl
