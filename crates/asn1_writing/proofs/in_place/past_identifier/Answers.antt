-- For `in_place::past_identifier`: what it returns is right.
use Rattle.std.proofs.Common.{◌≡◌, ◌++◌, ◌∷◌, ◌<◌, false, length, refl, subst, sym, arith}
use Rattle.std.proofs.lemmas.Grind.{common_steps}
use Rattle.asn1_headers.specs.declared.header.ASN1Class.TheVariants.{Universal}
use Rattle.asn1_headers.specs.declared.tags.TheConstants.{OBJECT_IDENTIFIER}
use Rattle.asn1_writing.specs.Inner.InPlace.{AreCanonicalContents}
use Rattle.asn1_writing.proofs.InPlace.{LeavesBoth-short_leaf}
use Rattle.asn1_writing.proofs.in_place.past_identifier.Goals as goal

pub returns : goal.returns
returns c =
    let x = c.args.octets.now in
    let own = c.split_at.result.0.now in
    let after = c.split_at.result.1.now in
    let size = length own in
    let front : x ≡ 6 ∷ size ∷ (own ++ after) = grind (arith, common_steps) in
    let keeps : AreCanonicalContents Universal false OBJECT_IDENTIFIER own =
    subst (AreCanonicalContents Universal false OBJECT_IDENTIFIER) (sym c.split_at.ensures.front)
    (c.begin_with_identifier.ensures.canonical c.if-not-begin_with_identifier.false) in
    let short : size < 128 = omega (
      arith,
      c.split_at.ensures.front_len,
      c.begin_with_identifier.ensures.short c.if-not-begin_with_identifier.false,
    ) in
    LeavesBoth-short_leaf x own after 6 size (omega arith) (omega arith) short refl front keeps
