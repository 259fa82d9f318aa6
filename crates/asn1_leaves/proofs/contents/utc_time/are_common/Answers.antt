-- For `contents::utc_time::are_common`: what it returns is right.
use Rattle.std.proofs.Common.{arith}
use Rattle.std.specs.Prelude.{slice_index}
use Rattle.std.proofs.lemmas.Grind.{common_steps}
use Rattle.asn1_leaves.specs.Inner.DigitFields.{PairAt, pair_number}
use Rattle.asn1_leaves.proofs.Leaves.Digits.{IsPair-digits}
use Rattle.asn1_leaves.proofs.Leaves.UtcTime.{UtcTimeContents-of_each_year}
use Rattle.asn1_leaves.proofs.contents.utc_time.are_common.Goals as goal

pub returns : goal.returns
returns c is_true =
    let contents = c.args.contents.now in
    let a = slice_index contents 0 in
    let b = slice_index contents 1 in
    let short : PairAt contents 0 (pair_number a b) =
    IsPair-digits a b (grind (arith, common_steps)) (grind (arith, common_steps)) (grind (arith, common_steps))
    (grind (arith, common_steps)) in
    UtcTimeContents-of_each_year contents (pair_number a b) (grind (arith, common_steps)) (grind (arith, common_steps))
    short (c.are_fields_of_each_year.ensures is_true)
