-- For `in_place::past_integer`: what it returns is right.
use Rattle.std.proofs.Common.{◌≡◌, ◌++◌, ◌∷◌, ◌<◌, false, length, refl, subst, sym, arith}
use Rattle.std.proofs.lemmas.Grind.{common_steps}
use Rattle.asn1_headers.specs.declared.header.ASN1Class.TheVariants.{Universal}
use Rattle.asn1_headers.specs.declared.tags.TheConstants.{INTEGER}
use Rattle.asn1_writing.specs.Inner.InPlace.{AreCanonicalContents}
use Rattle.asn1_writing.proofs.InPlace.{LeavesBoth-short_leaf}
use Rattle.asn1_writing.proofs.in_place.past_integer.Goals as goal

pub returns : goal.returns
returns c =
    let x = c.args.octets.now in
    let own = c.split_at.result.0.now in
    let after = c.split_at.result.1.now in
    let size = length own in
    let front : x ≡ 2 ∷ size ∷ (own ++ after) = grind (arith, common_steps) in
    let keeps : AreCanonicalContents Universal false INTEGER own =
    subst (AreCanonicalContents Universal false INTEGER) (sym c.split_at.ensures.front)
    (c.begin_with_integer.ensures.canonical c.if-not-begin_with_integer.false) in
    let short : size < 128 = omega (
      arith,
      c.split_at.ensures.front_len,
      c.begin_with_integer.ensures.short c.if-not-begin_with_integer.false,
    ) in
    LeavesBoth-short_leaf x own after 2 size (omega arith) (omega arith) short refl front keeps
