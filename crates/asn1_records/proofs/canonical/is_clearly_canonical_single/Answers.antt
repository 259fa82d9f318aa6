-- For `canonical::is_clearly_canonical_single`: what it returns is right.
use Rattle.std.proofs.Common.{◌<◌, ◌^◌, length, ap, sym, ◌∙◌, arith}
use Rattle.std.specs.Prelude.{not}
use Rattle.std.proofs.lemmas.Grind.{common_steps}
use Rattle.asn1_blocks.proofs.Leaves.{IsUnknownTag-iff_not_known, is_group_tag-group}
use Rattle.asn1_records.proofs.CanonicalRecords.{IsCanonicalBlock-empty_group, nil-no_length, IsCanonicalBlock-primitive, IsCanonicalBlock-unknown_tag, IsCanonicalBlock-universal_leaf}
use Rattle.asn1_records.proofs.canonical.is_clearly_canonical_single.Goals as goal

pub returns-then-not-is_known : goal.returns-then-not-is_known
returns-then-not-is_known c is_true =
    let small : length c.args.contents.now < 2 ^ 64 = grind (arith, common_steps) in
    let without =
    (IsUnknownTag-iff_not_known c.args.tag c.is_known.result c.is_known.ensures).0 (ap not c.if-not-is_known.true) in
    IsCanonicalBlock-unknown_tag c.args.class c.args.constructed c.args.tag c.args.contents.now small c.in-Universal.is
    without

pub returns-then-is_group_tag : goal.returns-then-is_group_tag
returns-then-is_group_tag c is_true =
    let (g, is) = is_group_tag-group c.args.tag (sym c.is_group_tag.ensures ∙ c.if-is_group_tag.true) in
    IsCanonicalBlock-empty_group c.args.class c.args.constructed c.args.tag c.args.contents.now c.in-Universal.is
    c.if-constructed.true g is (nil-no_length c.args.contents.now (sym c.is_empty.ensures ∙ is_true))

pub returns-else-constructed : goal.returns-else-constructed
returns-else-constructed c is_true =
    let small : length c.args.contents.now < 2 ^ 64 = grind (arith, common_steps) in
    IsCanonicalBlock-universal_leaf c.args.class c.args.constructed c.args.tag c.args.contents.now small
    c.in-Universal.is c.if-constructed.false (c.are_clearly_written_of_leaf.ensures is_true)

pub returns-in_default : goal.returns-in_default
returns-in_default c is_true =
    let small : length c.args.contents.now < 2 ^ 64 = grind (arith, common_steps) in
    IsCanonicalBlock-primitive c.args.class c.args.constructed c.args.tag c.args.contents.now small
    c.in_default.not-Universal is_true
