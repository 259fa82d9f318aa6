-- For `contents::same_own`: what it returns is right.
use Rattle.std.proofs.Common.{◌≡◌, ℕ, List, rules, sym, ap, ◌∙◌}
use Rattle.std.proofs.lemmas.Bool.Decides.{Decides-eqb}
use Rattle.std.proofs.lemmas.Slice.Eq.{slice_eq-Decides}
use Rattle.asn1_blocks.specs.declared.block.ASN1Block.{ObjectIdentifier, the_lemmas}
use Rattle.asn1_blocks.specs.Tree.{Tree, leaf, object_identifier}
use Rattle.asn1_blocks.specs.Inner.TreeOrder.{own_shape}
use Rattle.asn1_blocks.specs.View.{view}
use Rattle.asn1_blocks.proofs.contents.same_own.Goals as goal

-- the shape of an object identifier
abbrev oid_shape : List ℕ → Tree (Unit {0})
oid_shape ns = leaf tt (object_identifier ns)

-- the shape of an OBJECT IDENTIFIER is that of its numbers
own_shape-oid : (o : ℕ) (ns : List ℕ) → own_shape (view (ObjectIdentifier o ns)) ≡ oid_shape ns
own_shape-oid o ns = search (rules, the_lemmas)

-- object identifiers of the same shape are equal
oid_shape-injective : (ms ns : List ℕ) → oid_shape ms ≡ oid_shape ns → ms ≡ ns
oid_shape-injective ms ns e = cc

pub returns-in-ObjectIdentifier-ObjectIdentifier : goal.returns-in-ObjectIdentifier-ObjectIdentifier
returns-in-ObjectIdentifier-ObjectIdentifier c =
    let r = c.in-ObjectIdentifier-ObjectIdentifier in
    let d = slice_eq-Decides Decides-eqb r.s r.t c.eq-in-ObjectIdentifier-ObjectIdentifier.result
    c.eq-in-ObjectIdentifier-ObjectIdentifier.ensures in
    let a : own_shape (view c.args.a.now) ≡ oid_shape r.s =
    ap (λ b. own_shape (view b)) r.is-0 ∙ own_shape-oid r.field-0-0 r.s in
    let b : own_shape (view c.args.b.now) ≡ oid_shape r.t =
    ap (λ b. own_shape (view b)) r.is-1 ∙ own_shape-oid r.field-0-1 r.t in
    (λ h. a ∙ (ap oid_shape (d.0 h) ∙ sym b), λ e. d.1 (oid_shape-injective r.s r.t (sym a ∙ (e ∙ b))))
