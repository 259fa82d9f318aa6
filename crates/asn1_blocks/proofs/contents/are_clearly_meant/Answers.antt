-- For `contents::are_clearly_meant`: what it returns is right.
use Rattle.std.proofs.Common.{inr, refl}
use Rattle.asn1_numbers.specs.TwosComplement.{signed_number}
use Rattle.asn1_leaves.specs.StringKind.{bmp, ia5, printable, teletex, universal, utf8}
use Rattle.asn1_blocks.specs.Tree.{bit_string, boolean, generalized_time, integer, null, object_identifier, octet_string, text, utc_time}
use Rattle.asn1_blocks.proofs.contents.are_clearly_meant.Goals as goal

pub returns-in-1 : goal.returns-in-1
returns-in-1 c is_true = let m = c.are_clearly_meant.ensures is_true in inr (boolean m.0, c.in-1.is, m.1)

pub returns-in-2 : goal.returns-in-2
returns-in-2 c is_true = inr (integer (signed_number c.args.contents.now), c.in-2.is, refl)

pub returns-in-3 : goal.returns-in-3
returns-in-3 c is_true = let m = c.are_clearly_meant-in-3.ensures is_true in inr (bit_string m.0 m.1, c.in-3.is, m.2)

pub returns-in-4 : goal.returns-in-4
returns-in-4 c is_true = inr (octet_string c.args.contents.now, c.in-4.is, refl)

pub returns-in-5 : goal.returns-in-5
returns-in-5 c is_true = inr (null, c.in-5.is, tt)

pub returns-in-6 : goal.returns-in-6
returns-in-6 c is_true =
    let m = c.are_clearly_meant-in-6.ensures.meant is_true in inr (object_identifier m.0, c.in-6.is, m.1)

pub returns-in-12 : goal.returns-in-12
returns-in-12 c is_true = let m = c.are_clearly_meant-in-12.ensures is_true in inr (text utf8 m.0, c.in-12.is, m.1)

pub returns-in-19 : goal.returns-in-19
returns-in-19 c is_true = let m = c.are_clearly_meant-in-19.ensures is_true in inr (text printable m.0, c.in-19.is, m.1)

pub returns-in-20 : goal.returns-in-20
returns-in-20 c is_true = let m = c.are_clearly_meant-in-20.ensures is_true in inr (text teletex m.0, c.in-20.is, m.1)

pub returns-in-22 : goal.returns-in-22
returns-in-22 c is_true = inr (text ia5 c.args.contents.now, c.in-22.is, refl)

pub returns-in-23 : goal.returns-in-23
returns-in-23 c is_true = let m = c.are_clearly_meant-in-23.ensures is_true in inr (utc_time m.0, c.in-23.is, m.1)

pub returns-in-24 : goal.returns-in-24
returns-in-24 c is_true =
    let m = c.are_clearly_meant-in-24.ensures is_true in inr (generalized_time m.0, c.in-24.is, m.1)

pub returns-in-28 : goal.returns-in-28
returns-in-28 c is_true = let m = c.are_clearly_meant-in-28.ensures is_true in inr (text universal m.0, c.in-28.is, m.1)

pub returns-in-30 : goal.returns-in-30
returns-in-30 c is_true = let m = c.are_clearly_meant-in-30.ensures is_true in inr (text bmp m.0, c.in-30.is, m.1)
