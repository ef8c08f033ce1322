use Rattle.std.proofs.Common.{◌∙◌, arith, get_or, None}
use Rattle.std.specs.Int.{IsInRange}
use Rattle.std.proofs.lemmas.Str.Parse.{digit_at}
use Rattle.hek_rules.proofs.NumberLemmas.{number_read, value_read, small, more_digits, more_value}
use Rattle.hek_rules.proofs.TextLemmas.{not_empty}
use Rattle.hek_rules.proofs.text.number.Goals as goal

pub returns-then-not-is_ascii_digit : goal.returns-then-not-is_ascii_digit
returns-then-not-is_ascii_digit c =
    number_read c.args.word.now None
    (λ is.
    let in_range = digit_at c.args.word.now c.loop-byte.byte-index is.numeral.1 (omega arith) in
    grind arith)

pub returns : goal.returns
returns c =
    let loop = c.loop-byte.invariant in
    c.ok.ensures.value ∙ value_read c.args.word.now c.loop-byte.byte-index c.loop-byte.value c.try_from.result (not_empty c.args.word.now c.if-is_empty.ensures) (omega arith) (omega arith) loop.digits loop.so_far c.try_from.ensures

pub overflow_mul-value : goal.overflow_mul-value
overflow_mul-value c = omega (arith, small c.args.word.now c.loop-byte.byte-index c.loop-byte.invariant.digits (omega arith) (omega arith))

pub overflow_add-value : goal.overflow_add-value
overflow_add-value c = omega (arith, small c.args.word.now c.loop-byte.byte-index c.loop-byte.invariant.digits (omega arith) (omega arith))

pub loop-byte-preserved : goal.loop-byte-preserved
loop-byte-preserved c =
    let in_range : IsInRange 48 57 (get_or c.args.word.now c.loop-byte.byte-index 0) = grind arith in
    record {
      digits = more_digits c.args.word.now c.loop-byte.byte-index c.loop-byte.invariant.digits (omega arith) in_range;
      so_far = omega (arith, more_value c.args.word.now c.loop-byte.byte-index (omega arith) in_range);
    }
