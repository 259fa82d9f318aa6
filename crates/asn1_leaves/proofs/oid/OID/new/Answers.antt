-- For `oid::OID::new`: what it returns is right and its result keeps the invariant of its type.
use Rattle.std.proofs.Common.{◌≡◌, ap, sym, subst, ◌∙◌}
use Rattle.asn1_leaves.specs.Contents.ObjectIdentifier.{object_identifier_contents}
use Rattle.asn1_leaves.specs.Inner.IdentifierForms.{HaveShortContents, IsShortForm, components_of}
use Rattle.asn1_leaves.proofs.IdentifierForms.{components_of-object_identifier_contents, IsShortForm-written}
use Rattle.asn1_leaves.proofs.oid.OID.new.Goals as goal

pub invariant_of-result : goal.invariant_of-result
invariant_of-result c =
    let short : HaveShortContents c.args.x.items ×
    (c.in-Some.octets.items ≡ object_identifier_contents c.args.x.items) =
    rw (← c.as_slice.ensures.value) c.in-Some.ensures.short in
    subst IsShortForm (sym short.1) (IsShortForm-written c.args.x.items short.0)

pub returns-in-Some : goal.returns-in-Some
returns-in-Some c =
    let short : HaveShortContents c.args.x.items ×
    (c.in-Some.octets.items ≡ object_identifier_contents c.args.x.items) =
    rw (← c.as_slice.ensures.value) c.in-Some.ensures.short in
    let (are_short, written) = short in
    ap components_of written ∙ components_of-object_identifier_contents c.args.x.items are_short.0
