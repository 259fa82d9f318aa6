-- For `string::write_digits`: its loop keeps its invariant.
use Rattle.std.proofs.Common.{[]}
use Rattle.std.proofs.KnownBytes.{Appends-nil}
use Rattle.dump_json.specs.Grammar.{AreChars}
use Rattle.dump_json.proofs.Chars.{AreChars-pair}
use Rattle.dump_json.proofs.Texts.{AreChars-append}
use Rattle.dump_json.proofs.Written.{IsWritten-trans}
use Rattle.dump_json.proofs.string.write_digits.Goals as goal

pub loop-rest-init : goal.loop-rest-init
loop-rest-init g c = ([], Appends-nil (g.W.Write.contents c.args.out.now), AreChars.none)

pub loop-rest-preserved : goal.loop-rest-preserved
loop-rest-preserved g c =
    let from_h = AreChars-pair _ _ c.high_digit-in-len8-up-7.ensures c.low_digit-in-len8-up-7.ensures _ AreChars.none in
    let from_g = AreChars-pair _ _ c.high_digit-in-len8-up-6.ensures c.low_digit-in-len8-up-6.ensures _ from_h in
    let from_f = AreChars-pair _ _ c.high_digit-in-len8-up-5.ensures c.low_digit-in-len8-up-5.ensures _ from_g in
    let from_e = AreChars-pair _ _ c.high_digit-in-len8-up-4.ensures c.low_digit-in-len8-up-4.ensures _ from_f in
    let from_d = AreChars-pair _ _ c.high_digit-in-len8-up-3.ensures c.low_digit-in-len8-up-3.ensures _ from_e in
    let from_c = AreChars-pair _ _ c.high_digit-in-len8-up-2.ensures c.low_digit-in-len8-up-2.ensures _ from_d in
    let from_b = AreChars-pair _ _ c.high_digit-in-len8-up.ensures c.low_digit-in-len8-up.ensures _ from_c in
    let from_a = AreChars-pair _ _ c.high_digit.ensures c.low_digit.ensures _ from_b in
    IsWritten-trans AreChars AreChars-append _ _ _ c.loop-rest.invariant
    (_, c.in_ok-write_part.ensures.written, from_a)

pub loop-b-init : goal.loop-b-init
loop-b-init g c = c.loop-rest.invariant

pub loop-b-preserved : goal.loop-b-preserved
loop-b-preserved g c =
    IsWritten-trans AreChars AreChars-append _ _ _ c.loop-b.invariant (
      _,
      c.in_ok-write_part-2.ensures.written,
      AreChars-pair _ _ c.high_digit-in-loop-b.ensures c.low_digit-in-loop-b.ensures [] AreChars.none,
    )
