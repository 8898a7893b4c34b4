use Rattle.std.proofs.Common.{◌≡◌, ◌-◌, true, get_or, ap}
use Rattle.ct_words.specs.Text.{is_binary_digit}
use Rattle.ct_build_files.proofs.PushedNumbers.{number_pushed, all_numbers_pushed, digits_seen, no_digits_seen, no_such_length, all_digits_seen}
use Rattle.ct_build_files.proofs.build_fields.digits_of.Goals.{else-byte-ne48-via-then-byte-ne48+else-byte-ne49, else-byte-ne48-via-else-byte-ne48}
use Rattle.ct_build_files.proofs.build_fields.digits_of.Goals as goal

pub loop-byte-preserved : goal.loop-byte-preserved
loop-byte-preserved c =
    let i = c.loop-byte.byte-index in
    let text = c.args.text.now in
    let is_digit : is_binary_digit (get_or text i 0) ≡ true =
    elim c.else-byte-ne48.branch [
      | else-byte-ne48-via-then-byte-ne48+else-byte-ne49 w ↦ ap is_binary_digit w.if-byte-ne49.false
      | else-byte-ne48-via-else-byte-ne48 w ↦ ap is_binary_digit w.if-byte-ne48.false
    ] in
    record {
      digits = digits_seen text i c.loop-byte-test.true is_digit c.loop-byte.invariant.digits;
      so_far = number_pushed (λ b. b - 48) c.loop-byte.digits.items c.push.new.self.items _ text i c.loop-byte-test.true c.from.ensures
          c.in_ok-push.ensures.items c.loop-byte.invariant.so_far;
    }

pub returns : goal.returns
returns c =
    all_digits_seen c.args.count c.args.text.now c.loop-byte.digits.items c.loop-byte.byte-index c.if-text-count.false c.loop-byte-test.false
    c.loop-byte.invariant.digits
    (all_numbers_pushed (λ b. b - 48) c.loop-byte.digits.items c.args.text.now c.loop-byte.byte-index c.loop-byte-test.false c.loop-byte.invariant.so_far)

pub returns-then-byte-ne49 : goal.returns-then-byte-ne49
returns-then-byte-ne49 c =
    no_digits_seen c.args.count c.args.text.now c.loop-byte.byte-index c.loop-byte-test.true c.if-byte-ne48.true c.if-byte-ne49.true
    c.loop-byte.invariant.digits

pub returns-then-text-count : goal.returns-then-text-count
returns-then-text-count c = no_such_length c.args.count c.args.text.now c.if-text-count.true
