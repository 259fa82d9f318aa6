-- For `oid::OID::from_short`: what it returns is right and its result keeps the invariant of its type.
use Rattle.std.proofs.Common.{arith, ◌≡◌, ◌<◌, sym, subst}
use Rattle.std.proofs.lemmas.List.Elements.{All-from_get_or}
use Rattle.asn1_numbers.specs.Octets.{AreOctets}
use Rattle.asn1_leaves.specs.Inner.IdentifierForms.{IsShortForm}
use Rattle.asn1_leaves.proofs.IdentifierForms.{components_of-contents, IsShortForm-contents}
use Rattle.asn1_leaves.proofs.oid.OID.from_short.Goals as goal

pub invariant_of-result : goal.invariant_of-result
invariant_of-result c =
    let contents = c.args.contents.now in
    let all : AreOctets contents =
    All-from_get_or (λ b. b < 256) contents 0 (λ k h. omega (arith, c.type_inv.contents k)) in
    let meant = c.requires.meant in
    let copied : c.try_extend_from_slice.new.self.items ≡ contents =
    grind (arith, c.new-octets.ensures, c.unwrap.ensures, c.try_extend_from_slice.ensures.ok) in
    subst IsShortForm (sym copied)
    (IsShortForm-contents meant.0 contents all meant.1 (c.requires.shortest meant.0 meant.1) c.requires.short)

pub returns : goal.returns
returns c =
    let contents = c.args.contents.now in
    let meant = c.requires.meant in
    let copied : c.try_extend_from_slice.new.self.items ≡ contents =
    grind (arith, c.new-octets.ensures, c.unwrap.ensures, c.try_extend_from_slice.ensures.ok) in
    rw (copied, components_of-contents meant.0 contents meant.1) meant.1
