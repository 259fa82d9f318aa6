-- For `contents::object_identifier::are_clearly_shortest`: what it returns is right (`meant`, `shortest`).
use Rattle.std.proofs.Common.{◌≡◌, ◌≢◌, ℕ, ◌∷◌, ◌∙◌, ◌-◌, ◌<◌, IsTrue, get_or, length, sym, subst, arith, true}
use Rattle.std.proofs.lemmas.Grind.{common_steps}
use Rattle.std.proofs.lemmas.List.Elements.{All-from_get_or}
use Rattle.asn1_numbers.specs.Octets.{AreOctets}
use Rattle.asn1_leaves.specs.Contents.ObjectIdentifier.{ObjectIdentifierContents}
use Rattle.asn1_leaves.proofs.ShortSubidentifiers.{NoneLeads, NoneLeads-components, NoneLeads-object_identifier_contents, NoneLeads-without_80}
use Rattle.asn1_leaves.proofs.contents.object_identifier.are_clearly_shortest.Goals as goal

pub returns-then-is_empty-clause-meant : goal.returns-then-is_empty-clause-meant
returns-then-is_empty-clause-meant c is_true =
    let contents = c.args.contents.now in
    let b = c.in-Some.field-0-0.now in
    let rest = c.in-Some.rest.now in
    let e : contents ≡ b ∷ rest = grind (arith, common_steps) in
    let before : (k : ℕ) → k < length rest →
    get_or rest k 0 ≢ 128 = λ k h. c.loop-octet.invariant k (omega (arith, h, c.loop-octet-test.false)) in
    let ends : IsTrue true = grind (arith) in
    let empty : length rest ≡ 0 = grind (arith, common_steps) in
    let none : NoneLeads true rest =
    NoneLeads-without_80 true rest before (λ _. ends) (λ some. absurd (omega (arith, some, empty))) in
    let meant = NoneLeads-components b rest none in
    (meant.0, subst (ObjectIdentifierContents meant.0) (sym e) meant.1)

pub returns-then-is_empty-clause-shortest : goal.returns-then-is_empty-clause-shortest
returns-then-is_empty-clause-shortest c is_true components p =
    let contents = c.args.contents.now in
    let all : AreOctets contents =
    All-from_get_or (λ b. b < 256) contents 0 (λ k h. omega (arith, c.type_inv.contents k)) in
    let b = c.in-Some.field-0-0.now in
    let rest = c.in-Some.rest.now in
    let e : contents ≡ b ∷ rest = grind (arith, common_steps) in
    let before : (k : ℕ) → k < length rest →
    get_or rest k 0 ≢ 128 = λ k h. c.loop-octet.invariant k (omega (arith, h, c.loop-octet-test.false)) in
    let ends : IsTrue true = grind (arith) in
    let empty : length rest ≡ 0 = grind (arith, common_steps) in
    let none : NoneLeads true rest =
    NoneLeads-without_80 true rest before (λ _. ends) (λ some. absurd (omega (arith, some, empty))) in
    e ∙ NoneLeads-object_identifier_contents components b rest (subst AreOctets e all) none
    (subst (ObjectIdentifierContents components) e p)

pub returns-clause-meant : goal.returns-clause-meant
returns-clause-meant c is_true =
    let contents = c.args.contents.now in
    let b = c.in-Some.field-0-0.now in
    let rest = c.in-Some.rest.now in
    let e : contents ≡ b ∷ rest = grind (arith, common_steps) in
    let before : (k : ℕ) → k < length rest →
    get_or rest k 0 ≢ 128 = λ k h. c.loop-octet.invariant k (omega (arith, h, c.loop-octet-test.false)) in
    let ends : IsTrue true = grind (arith) in
    let last : get_or rest (length rest - 1) 0 < 128 = grind (arith, common_steps, is_true) in
    let none : NoneLeads true rest = NoneLeads-without_80 true rest before (λ _. ends) (λ some. last) in
    let meant = NoneLeads-components b rest none in
    (meant.0, subst (ObjectIdentifierContents meant.0) (sym e) meant.1)

pub returns-clause-shortest : goal.returns-clause-shortest
returns-clause-shortest c is_true components p =
    let contents = c.args.contents.now in
    let all : AreOctets contents =
    All-from_get_or (λ b. b < 256) contents 0 (λ k h. omega (arith, c.type_inv.contents k)) in
    let b = c.in-Some.field-0-0.now in
    let rest = c.in-Some.rest.now in
    let e : contents ≡ b ∷ rest = grind (arith, common_steps) in
    let before : (k : ℕ) → k < length rest →
    get_or rest k 0 ≢ 128 = λ k h. c.loop-octet.invariant k (omega (arith, h, c.loop-octet-test.false)) in
    let ends : IsTrue true = grind (arith) in
    let last : get_or rest (length rest - 1) 0 < 128 = grind (arith, common_steps, is_true) in
    let none : NoneLeads true rest = NoneLeads-without_80 true rest before (λ _. ends) (λ some. last) in
    e ∙ NoneLeads-object_identifier_contents components b rest (subst AreOctets e all) none
    (subst (ObjectIdentifierContents components) e p)
