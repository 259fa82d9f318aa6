-- For `segments::join_next`: what it returns is right.
use Rattle.std.proofs.Common.{◌≡◌, ◌∙◌, sym, arith, refl, rules}
use Rattle.std.proofs.lemmas.Grind.{common_steps}
use Rattle.asn1_headers.specs.declared.header.ASN1Class.TheVariants.{Universal}
use Rattle.dump_walk.specs.Headers.{HasNoWhole, IsHeaderOfWhole}
use Rattle.dump_walk.specs.Segments.{segment_tag}
use Rattle.dump_walk.proofs.JoinedSegments.{HasNoSegment-no_whole, HasNoSegment-not_joined, HasNoSegment-other_type}
use Rattle.dump_walk.proofs.segments.join_next.Goals as goal

pub returns-in_default : goal.returns-in_default
returns-in_default c =
    let left = c.args.left in
    let none : HasNoWhole left.octets.now = rw c.in_default.is at c.in_ok-header.ensures in
    HasNoSegment-no_whole c.args.tag left.octets.now left.is_indefinite c.args.joined.now.items
    (sym c.begins_with_end.ensures ∙ c.if-begins_with_end.false) none

pub returns-then-not-is_segment : goal.returns-then-not-is_segment
returns-then-not-is_segment c =
    let left = c.args.left in
    let is : IsHeaderOfWhole left.octets.now c.in-Some.header = rw c.in-Some.is at c.in_ok-header.ensures in
    HasNoSegment-other_type c.args.tag left.octets.now left.is_indefinite c.args.joined.now.items
    (sym c.begins_with_end.ensures ∙ c.if-begins_with_end.false) c.in-Some.header is.0
    (λ class tag. grind (arith, common_steps))

pub returns-then-header : goal.returns-then-header
returns-then-header c =
    let header = c.in-Some.header in
    let is : IsHeaderOfWhole c.args.left.octets.now header = rw c.in-Some.is at c.in_ok-header.ensures in
    let type : (header.class ≡ Universal) × (header.tag ≡ segment_tag c.args.tag) = search rules in (
      sym c.begins_with_end.ensures ∙ c.if-begins_with_end.false,
      header,
      (is, type.0, type.1),
      c.if-header.true,
      refl,
      c.size_of-size.ensures,
      refl,
      refl,
    )

pub returns-then-branch : goal.returns-then-branch
returns-then-branch c =
    let header = c.in-Some.header in
    let is : IsHeaderOfWhole c.args.left.octets.now header = rw c.in-Some.is at c.in_ok-header.ensures in
    let type : (header.class ≡ Universal) × (header.tag ≡ segment_tag c.args.tag) = search rules in (
      sym c.begins_with_end.ensures ∙ c.if-begins_with_end.false,
      header,
      (is, type.0, type.1),
      c.if-header.false,
      refl,
      c.in_ok-join.ensures.joined c.if-branch.true,
    )

pub returns : goal.returns
returns c =
    let left = c.args.left in
    let is : IsHeaderOfWhole left.octets.now c.in-Some.header = rw c.in-Some.is at c.in_ok-header.ensures in
    HasNoSegment-not_joined c.args.tag left.octets.now left.is_indefinite c.args.joined.now.items
    (sym c.begins_with_end.ensures ∙ c.if-begins_with_end.false) c.in-Some.header is.0 c.if-header.false
    (c.in_ok-join.ensures.refused c.if-branch.false)
