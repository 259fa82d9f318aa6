-- For `contents::object_identifier::begin_without_80`: what it returns is right (`meant`, `shortest`).
use Rattle.std.proofs.Common.{◌≡◌, ◌∷◌, ◌<◌, ◌∙◌, drop, length-drop, arith, subst, sym}
use Rattle.std.proofs.lemmas.Grind.{common_steps}
use Rattle.std.proofs.lemmas.List.Elements.{All-from_get_or}
use Rattle.asn1_numbers.specs.Octets.{AreOctets}
use Rattle.asn1_leaves.specs.Contents.ObjectIdentifier.{ObjectIdentifierContents}
use Rattle.asn1_leaves.proofs.ShortSubidentifiers.{NoneLeads-components, NoneLeads-nil, NoneLeads-object_identifier_contents}
use Rattle.asn1_leaves.proofs.contents.object_identifier.begin_without_80.Goals as goal

pub returns-clause-meant : goal.returns-clause-meant
returns-clause-meant c is_true =
    let contents = c.args.contents.now in
    let b = c.in-Some.field-0-0.now in
    let rest = c.in-Some.rest.now in
    let e : contents ≡ b ∷ rest = grind (arith, common_steps) in
    let left = drop c.loop-octet.octet-index rest in
    let none = c.loop-octet.invariant (NoneLeads-nil left c.loop-octet.begins (omega (
      arith,
      length-drop c.loop-octet.octet-index rest,
      c.loop-octet-test.false,
    )) is_true) in
    let meant = NoneLeads-components b rest none in
    (meant.0, subst (ObjectIdentifierContents meant.0) (sym e) meant.1)

pub returns-clause-shortest : goal.returns-clause-shortest
returns-clause-shortest c is_true components p =
    let contents = c.args.contents.now in
    let b = c.in-Some.field-0-0.now in
    let rest = c.in-Some.rest.now in
    let e : contents ≡ b ∷ rest = grind (arith, common_steps) in
    let all : AreOctets contents =
    All-from_get_or (λ b. b < 256) contents 0 (λ k h. omega (arith, c.type_inv.contents k)) in
    let left = drop c.loop-octet.octet-index rest in
    let none = c.loop-octet.invariant (NoneLeads-nil left c.loop-octet.begins (omega (
      arith,
      length-drop c.loop-octet.octet-index rest,
      c.loop-octet-test.false,
    )) is_true) in
    e ∙ NoneLeads-object_identifier_contents components b rest (subst AreOctets e all) none
    (subst (ObjectIdentifierContents components) e p)
