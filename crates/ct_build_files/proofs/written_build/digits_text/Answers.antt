use Rattle.std.proofs.Common.{ℕ, ◌<◌, ◌+◌, ◌++◌, refl, ap, arith}
use mir.Val.{Fits}
use mir.Syntax.{w8}
use Rattle.ct_build_files.specs.WrittenBuild.{digits_text}
use Rattle.ct_build_files.proofs.PushedNumbers.{number_pushed, all_numbers_pushed}
use Rattle.ct_build_files.proofs.written_build.digits_text.Goals as goal

-- a digit is a byte, and so is its character
digit_byte : (a : ℕ) → a < 2 → Fits w8 a
digit_byte a small = omega arith

character_byte : (a : ℕ) → a < 2 → Fits w8 (48 + a)
character_byte a small = omega arith

pub overflow_cast-digit : goal.overflow_cast-digit
overflow_cast-digit c = digit_byte _ (c.requires c.loop-digit.digit-index 0 c.loop-digit-test.true)

pub overflow_add-digit : goal.overflow_add-digit
overflow_add-digit c = character_byte _ (c.requires c.loop-digit.digit-index 0 c.loop-digit-test.true)

pub loop-digit-init : goal.loop-digit-init
loop-digit-init c = ap (λ l. l ++ digits_text c.args.digits.now) c.in_ok-text.ensures.items

pub loop-digit-preserved : goal.loop-digit-preserved
loop-digit-preserved c =
    number_pushed (λ a. 48 + a) c.loop-digit.text.items c.push.new.self.items _ c.args.digits.now c.loop-digit.digit-index c.loop-digit-test.true refl
    c.in_ok-push.ensures.items c.loop-digit.invariant

pub returns : goal.returns
returns c =
    all_numbers_pushed (λ a. 48 + a) c.loop-digit.text.items c.args.digits.now c.loop-digit.digit-index c.loop-digit-test.false c.loop-digit.invariant
