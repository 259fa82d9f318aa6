-- For `canonical::are_clearly_written_of_leaf`: what it returns is right.
use Rattle.std.proofs.Common.{refl, sym, ◌∙◌}
use Rattle.asn1_numbers.specs.TwosComplement.{signed_number}
use Rattle.asn1_leaves.specs.StringKind.{bmp, ia5, printable, teletex, universal, utf8}
use Rattle.asn1_blocks.specs.Tree.{bit_string, boolean, generalized_time, integer, null, object_identifier, octet_string, text, utc_time}
use Rattle.asn1_records.proofs.CanonicalRecords.{nil-no_length}
use Rattle.asn1_records.proofs.canonical.are_clearly_written_of_leaf.Goals as goal

pub returns-then-are_clearly_meant : goal.returns-then-are_clearly_meant
returns-then-are_clearly_meant c is_true =
    let (b, meant) = c.are_clearly_meant.ensures c.if-are_clearly_meant.true in
    (boolean b, c.in-1.is, meant, sym (c.are_clearly_canonical.ensures is_true b meant))

pub returns-in-2 : goal.returns-in-2
returns-in-2 c is_true =
    let n = signed_number c.args.contents.now in
    (integer n, c.in-2.is, refl, sym (c.are_clearly_canonical-in-2.ensures is_true n refl))

pub returns-then-are_clearly_meant-2 : goal.returns-then-are_clearly_meant-2
returns-then-are_clearly_meant-2 c is_true =
    let (n, v, meant) = c.are_clearly_meant-in-3.ensures c.if-are_clearly_meant-2.true in
    (bit_string n v, c.in-3.is, meant, sym (c.are_clearly_canonical-then-are_clearly_meant-2.ensures is_true n v meant))

pub returns-in-4 : goal.returns-in-4
returns-in-4 c is_true = (octet_string c.args.contents.now, c.in-4.is, refl, refl)

pub returns-in-5 : goal.returns-in-5
returns-in-5 c is_true = (null, c.in-5.is, tt, nil-no_length c.args.contents.now (sym c.is_empty.ensures ∙ is_true))

pub returns-in-6 : goal.returns-in-6
returns-in-6 c is_true =
    let (components, meant) = c.are_clearly_shortest.ensures.meant is_true in (
      object_identifier components,
      c.in-6.is,
      meant,
      sym (c.are_clearly_shortest.ensures.shortest is_true components meant),
    )

pub returns-in-12 : goal.returns-in-12
returns-in-12 c is_true =
    let (cs, meant) = c.are_clearly_meant-in-12.ensures is_true in (text utf8 cs, c.in-12.is, meant, meant.1)

pub returns-in-19 : goal.returns-in-19
returns-in-19 c is_true = let (cs, meant) = c.are_clearly_meant-in-19.ensures is_true in
    (text printable cs, c.in-19.is, meant, meant.1)

pub returns-in-20 : goal.returns-in-20
returns-in-20 c is_true =
    let (cs, meant) = c.are_clearly_meant-in-20.ensures is_true in (text teletex cs, c.in-20.is, meant, meant.1)

pub returns-in-22 : goal.returns-in-22
returns-in-22 c is_true = (text ia5 c.args.contents.now, c.in-22.is, refl, refl)

pub returns-in-23 : goal.returns-in-23
returns-in-23 c is_true =
    let (m, meant) = c.are_clearly_meant-in-23.ensures is_true in (utc_time m, c.in-23.is, meant, sym meant.1)

pub returns-then-are_clearly_meant-3 : goal.returns-then-are_clearly_meant-3
returns-then-are_clearly_meant-3 c is_true =
    let (m, meant) = c.are_clearly_meant-in-24.ensures c.if-are_clearly_meant-3.true in (
      generalized_time m,
      c.in-24.is,
      meant,
      sym (c.are_clearly_canonical-then-are_clearly_meant-3.ensures is_true m meant),
    )

pub returns-in-28 : goal.returns-in-28
returns-in-28 c is_true = let (cs, meant) = c.are_clearly_meant-in-28.ensures is_true in
    (text universal cs, c.in-28.is, meant, meant.1)

pub returns-in-30 : goal.returns-in-30
returns-in-30 c is_true =
    let (cs, meant) = c.are_clearly_meant-in-30.ensures is_true in (text bmp cs, c.in-30.is, meant, meant.1)
