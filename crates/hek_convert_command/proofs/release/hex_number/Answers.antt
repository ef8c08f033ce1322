use Rattle.std.proofs.Common.{◌<◌, length, get_or, arith, ap}
use Rattle.std.specs.Char.{digit_value}
use Rattle.std.proofs.lemmas.Int.Digits.{digits_more, digits_value_more}
use Rattle.hek_convert_command.proofs.DigitLemmas.{small, digit_below}
use Rattle.hek_convert_command.proofs.release.hex_number.Goals as goal

pub returns-in_default : goal.returns-in_default
returns-in_default c is_word =
    let text = c.args.text.now in
    let below : c.loop-byte.byte-index < length text = grind (arith, ap length c.as_bytes-byte-items.ensures.value) in
    let digit : digit_value (get_or text c.loop-byte.byte-index 0) < 16 = digit_below 16 text c.loop-byte.byte-index is_word.digits below in
    grind (arith, c.in_default.ensures.value, c.as_bytes-byte-items.ensures.value)

pub overflow_mul-value : goal.overflow_mul-value
overflow_mul-value c =
    let below : c.loop-byte.byte-index < length c.args.text.now = grind (arith, ap length c.as_bytes-byte-items.ensures.value) in
    omega (arith, small c.args.text.now c.loop-byte.byte-index c.loop-byte.invariant.digits below (omega arith))

pub overflow_add-value : goal.overflow_add-value
overflow_add-value c =
    let below : c.loop-byte.byte-index < length c.args.text.now = grind (arith, ap length c.as_bytes-byte-items.ensures.value) in
    omega (arith, small c.args.text.now c.loop-byte.byte-index c.loop-byte.invariant.digits below (omega arith), c.in-Some.ensures.value)

pub loop-byte-preserved : goal.loop-byte-preserved
loop-byte-preserved c =
    let text = c.args.text.now in
    let below : c.loop-byte.byte-index < length text = grind (arith, ap length c.as_bytes-byte-items.ensures.value) in
    let digit : digit_value (get_or text c.loop-byte.byte-index 0) < 16 = grind (arith, c.in-Some.ensures.value, c.as_bytes-byte-items.ensures.value) in
    record {
      digits = digits_more 16 text c.loop-byte.byte-index below c.loop-byte.invariant.digits digit;
      so_far = grind (arith, digits_value_more 16 text c.loop-byte.byte-index below, c.in-Some.ensures.value, c.as_bytes-byte-items.ensures.value);
    }
