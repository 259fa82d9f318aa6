-- For `oid::numbers_of_short`: what it returns is right (`all`) and `push_numbers` may be called.
use Rattle.std.proofs.Common.{◌≡◌, ◌∷◌, [], arith, ap, sym, subst, ◌∙◌}
use Rattle.std.proofs.lemmas.Grind.{common_steps}
use Rattle.asn1_numbers.specs.FittingNumbers.{AreNumbers}
use Rattle.asn1_leaves.specs.Contents.ObjectIdentifier.{ObjectIdentifierContents}
use Rattle.asn1_leaves.specs.Inner.IdentifierForms.{components_of, first_component, numbers_after, second_component}
use Rattle.asn1_leaves.proofs.IdentifierForms.{first_component-AreFirstTwo, second_component-AreFirstTwo, IsShortForm-meant}
use Rattle.asn1_leaves.proofs.PushedNumbers.{ObjectIdentifierContents-rest}
use Rattle.asn1_leaves.proofs.oid.numbers_of_short.Goals as goal

pub push_numbers-requires : goal.push_numbers-requires
push_numbers-requires g c =
    let contents = c.args.contents.now in
    let b = c.in-Some.octet.now in
    let rest = c.in-Some.rest.now in
    let e : contents ≡ b ∷ rest = grind (arith, common_steps) in
    ObjectIdentifierContents-rest (components_of contents) b rest
    (subst (ObjectIdentifierContents (components_of contents)) e (IsShortForm-meant contents c.requires))

pub returns-clause-all : goal.returns-clause-all
returns-clause-all g c =
    let has = g.T.FromBigUint.has in
    let is_number = g.T.FromBigUint.is_number in
    let b = c.in-Some.octet.now in
    let rest = c.in-Some.rest.now in
    let e : c.args.contents.now ≡ b ∷ rest = grind (arith, common_steps) in
    let x = c.in_ok-from_u64.field-0 in
    let y = c.in_ok-from_u64-2.field-0 in
    let first : first_component b ≡ x =
    first_component-AreFirstTwo _ _ b c.first_two-first.ensures ∙ sym c.in_ok-from_u64.ensures in
    let second : second_component b ≡ y =
    second_component-AreFirstTwo _ _ b c.first_two-first.ensures ∙ sym c.in_ok-from_u64-2.ensures in
    let none : AreNumbers has is_number c.in_ok-numbers.numbers.items [] =
    subst (λ xs. AreNumbers has is_number xs []) (sym c.in_ok-numbers.ensures.items) tt in
    let one = c.in_ok-push_number.ensures.pushed [] none in
    let two = c.in_ok-push_number-2.ensures.pushed (x ∷ []) one in
    let all = c.in_ok-push_numbers.ensures.pushed (x ∷ y ∷ []) two in
    let components : x ∷ y ∷ numbers_after 0 rest ≡ components_of c.args.contents.now = sym (ap components_of e ∙ cc) in
    subst (AreNumbers has is_number c.push_numbers.new.numbers.items) components all
