-- What `number` reads behind a minus, or in the whole field, is the number with its sign.
use Rattle.std.proofs.Common.{◌≡◌, get_or, arith, rules}
use Rattle.numeral.proofs.Numbers.{reads_signed_is}
use Rattle.numeral.proofs.Signs.{negative, behind_minus}
use Rattle.numeral.proofs.signed_number.Goals as goal

pub returns-in-45 : goal.returns-in-45
returns-in-45 c =
    let minus : get_or c.args.field.now 0 0 ≡ 45 = search rules in
    let told = c.and_then.ensures in
    let is : c.and_then.result ≡ negative c.number.result = search rules in
    let reads = behind_minus c.args.max c.from.result c.args.field.now c.number.result c.and_then.result (omega arith) c.from.ensures c.in-45.len_at_least minus c.number.ensures.reads is in
    record { value = reads_signed_is c.args.max c.args.field.now c.and_then.result (omega arith) reads; reads = reads }

pub returns-in_default-clause-value : goal.returns-in_default-clause-value
returns-in_default-clause-value c = reads_signed_is c.args.max c.args.field.now c.map.result (omega arith) (search rules)
