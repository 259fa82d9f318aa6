-- For `contents::object_identifier::are_clearly_meant`: what it returns is right (`meant`, `others`).
use Rattle.std.proofs.Common.{◌≡◌, ◌-◌, ◌∷◌, ◌<◌, ◌≤◌, length, get_or, subst, sym, arith}
use Rattle.std.proofs.lemmas.Grind.{common_steps}
use Rattle.asn1_leaves.specs.Contents.ObjectIdentifier.{ObjectIdentifierContents}
use Rattle.asn1_leaves.proofs.Leaves.ObjectIdentifier.{ObjectIdentifierContents-ended, ObjectIdentifierContents-unended}
use Rattle.asn1_leaves.proofs.contents.object_identifier.are_clearly_meant.Goals as goal

pub returns-in-Some-last-clause-meant : goal.returns-in-Some-last-clause-meant
returns-in-Some-last-clause-meant c low =
    let b = c.in-Some.field-0-0.now in
    let rest = c.in-Some.rest.now in
    let e : c.args.contents.now ≡ b ∷ rest = grind (arith, common_steps) in
    let last : get_or rest (length rest - 1) 0 < 128 = grind (arith, common_steps, low) in
    let meant = ObjectIdentifierContents-ended b rest last in
    (meant.0, subst (ObjectIdentifierContents meant.0) (sym e) meant.1)

pub returns-in-Some-last-clause-others : goal.returns-in-Some-last-clause-others
returns-in-Some-last-clause-others c high components p =
    let b = c.in-Some.field-0-0.now in
    let rest = c.in-Some.rest.now in
    let e : c.args.contents.now ≡ b ∷ rest = grind (arith, common_steps) in
    let last : 128 ≤ get_or rest (length rest - 1) 0 = grind (arith, common_steps, high) in
    ObjectIdentifierContents-unended b rest last components (subst (ObjectIdentifierContents components) e p)

pub returns-in-None-clause-meant : goal.returns-in-None-clause-meant
returns-in-None-clause-meant c is_true =
    let b = c.in-Some.field-0-0.now in
    let rest = c.in-Some.rest.now in
    let e : c.args.contents.now ≡ b ∷ rest = grind (arith, common_steps) in
    let last : get_or rest (length rest - 1) 0 < 128 = grind (arith, common_steps) in
    let meant = ObjectIdentifierContents-ended b rest last in
    (meant.0, subst (ObjectIdentifierContents meant.0) (sym e) meant.1)
