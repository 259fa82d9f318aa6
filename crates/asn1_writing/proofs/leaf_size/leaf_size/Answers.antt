-- For `leaf_size::leaf_size`: what it returns is right.
use Rattle.std.proofs.Common.{◌≢◌, inr, length, refl, ap, arith}
use Rattle.std.proofs.lemmas.Grind.{common_steps}
use Rattle.std.proofs.lemmas.Option.{IfSome_then}
use Rattle.asn1_numbers.specs.TwosComplement.{signed_number}
use Rattle.asn1_blocks.specs.Tree.{bit_string, boolean, generalized_time, integer, null, object_identifier, octet_string, utc_time}
use Rattle.asn1_writing.specs.Inner.Sizes.{AreWrittenOfLeaf}
use Rattle.asn1_writing.proofs.LeafSizes.{AreWrittenOfLeaf-text, IfSome-then_some}
use Rattle.asn1_writing.proofs.leaf_size.leaf_size.Goals as goal

pub returns-in-1 : goal.returns-in-1
returns-in-1 c =
    let v = c.args.contents.now in
    IfSome-then_some c.are_clearly_meant.result (length v) (AreWrittenOfLeaf c.args.tag v) c.then_some.result
    c.then_some.ensures
    (λ is_true. let (b, means) = c.are_clearly_meant.ensures is_true in
    inr (boolean b, c.in-1.is, means, ap length means.1))

pub returns-in-2 : goal.returns-in-2
returns-in-2 c = inr (integer (signed_number c.args.contents.now), c.in-2.is, refl, c.integer_size.ensures)

pub returns-in-3 : goal.returns-in-3
returns-in-3 c = IfSome_then c.bit_string_size.result c.bit_string_size.ensures
    (λ size (n, v, means, is). inr (bit_string n v, c.in-3.is, means, is))

pub returns-in-4 : goal.returns-in-4
returns-in-4 c = inr (octet_string c.args.contents.now, c.in-4.is, refl, refl)

pub returns-in-5 : goal.returns-in-5
returns-in-5 c = inr (null, c.in-5.is, tt, refl)

pub returns-in-6 : goal.returns-in-6
returns-in-6 c = IfSome_then c.object_identifier_size.result c.object_identifier_size.ensures
    (λ size (ns, means, is). inr (object_identifier ns, c.in-6.is, means, is))

pub returns-in-23 : goal.returns-in-23
returns-in-23 c =
    let v = c.args.contents.now in
    IfSome-then_some c.are_clearly_meant-in-23.result (length v) (AreWrittenOfLeaf c.args.tag v)
    c.then_some-in-23.result c.then_some-in-23.ensures
    (λ is_true. let (m, means) = c.are_clearly_meant-in-23.ensures is_true in
    inr (utc_time m, c.in-23.is, means, ap length means.1))

pub returns-in-24 : goal.returns-in-24
returns-in-24 c = IfSome_then c.generalized_time_size.result c.generalized_time_size.ensures
    (λ size (m, means, is). inr (generalized_time m, c.in-24.is, means, is))

pub returns-in_default : goal.returns-in_default
returns-in_default c =
    let n = c.args.tag in
    let v = c.args.contents.now in
    let size = c.text_size.ensures.same in
    let o1 : n ≢ 1 = grind (arith, common_steps) in
    let o2 : n ≢ 2 = grind (arith, common_steps) in
    let o3 : n ≢ 3 = grind (arith, common_steps) in
    let o4 : n ≢ 4 = grind (arith, common_steps) in
    let o5 : n ≢ 5 = grind (arith, common_steps) in
    let o6 : n ≢ 6 = grind (arith, common_steps) in
    let o23 : n ≢ 23 = grind (arith, common_steps) in
    let o24 : n ≢ 24 = grind (arith, common_steps) in
    AreWrittenOfLeaf-text n v c.text_size.result o1 o2 o3 o4 o5 o6 o23 o24 c.text_size.ensures.same
    c.text_size.ensures.meant
