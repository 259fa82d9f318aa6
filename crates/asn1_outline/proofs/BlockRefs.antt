-- The block at an index of an outline is that of the tree there, for `outline::Outline::block` and the methods of
-- `BlockRef`.
use Rattle.std.proofs.Common.{◌≡◌, ℕ, zero, suc, ◌<◌, List, get_or, length, refl, sym, ap, subst, ◌∙◌}
use Rattle.std.proofs.Props.{props}
use Rattle.std.proofs.lemmas.Grind.{merely}
use mathlib.Core.HLevel.{collapsible→set}
use mathlib.Core.Logic.{∥∥₁_elim}
use Rattle.asn1_headers.specs.Header.{Encoding}
use Rattle.asn1_headers.specs.declared.header.ASN1Class.{ASN1Class}
use Rattle.asn1_headers.specs.declared.header.ASN1Class.TheVariants.{Application, ContextSpecific, Private, Universal}
use Rattle.asn1_blocks.specs.Places.{EncodingAt}
use Rattle.asn1_blocks.specs.Tree.{Tree}
use Rattle.asn1_outline.specs.Entries.{IsOutline, no_entry}
use Rattle.asn1_outline.specs.Shapes.{IsWithin}
use Rattle.asn1_outline.specs.Structure.{IsStructure, Nodes, node_at, node_items, tree_at}
use Rattle.asn1_outline.specs.Values.{IsEntryOf, IsOfSomeTree}
use Rattle.asn1_outline.specs.declared.entry.Entry.{Entry}
use Rattle.asn1_outline.proofs.Fields.{HasItsFields, HasItsFields-entry}
use Rattle.asn1_outline.proofs.Lent.{IsEntryOf-implies, items-node_count, nodes-within}
use Rattle.asn1_outline.proofs.Standing.{EncodingAt-encoded, Holds-node_items, IsStanding-structure}
use Rattle.asn1_outline.proofs.Values.{EachIsOfItsTree-structure, IsEntryOf-within}

-- numbers of the classes
abbrev class_code : ASN1Class → ℕ
class_code Universal = 0
class_code Application = 1
class_code ContextSpecific = 2
class_code Private = 3

-- the class with a number
abbrev class_with : ℕ → ASN1Class
class_with zero = Universal
class_with (suc zero) = Application
class_with (suc (suc zero)) = ContextSpecific
class_with (suc (suc (suc n))) = Private

-- a class has a number of its own
class_with-class_code : (c : ASN1Class) → class_with (class_code c) ≡ c
class_with-class_code Universal = refl
class_with-class_code Application = refl
class_with-class_code ContextSpecific = refl
class_with-class_code Private = refl

-- classes are equal in one way
ASN1Class-set : IsSet ASN1Class
ASN1Class-set =
    let set : IsSet ℕ = hlevel props in
    collapsible→set (λ c d p. sym (class_with-class_code c) ∙ ap class_with (ap class_code p) ∙ class_with-class_code d)
    (λ c d p q. ap (λ z. sym (class_with-class_code c) ∙ ap class_with z ∙ class_with-class_code d)
    (set (class_code c) (class_code d) (ap class_code p) (ap class_code q)))

-- an entry at an index is of some tree
pub IsEntryOf-some : (x : List ℕ) (es : List Entry) (k : ℕ) → ∥ IsOutline x es ∥₁ → k < length es →
    ∥ IsOfSomeTree x (get_or es k no_entry) ∥₁
IsEntryOf-some x es k lent h =
    let prop : IsProp ∥ IsOfSomeTree x (get_or es k no_entry) ∥₁ = hlevel props in
    ∥∥₁_elim lent prop (λ o.
    let (bs, d, are) = o in
    merely (tree_at are.nodes k, EachIsOfItsTree-structure x bs es d are k h))

-- the entry at an index is of the tree there
pub IsEntryOf-structure : (x : List ℕ) (es : List Entry) (ns : Nodes) (k : ℕ) → ∥ IsOutline x es ∥₁ → IsStructure x ns →
    k < length es → IsEntryOf x (tree_at ns k) (get_or es k no_entry)
IsEntryOf-structure x es ns k lent d h =
    let t = tree_at ns k in
    let r = get_or es k no_entry in
    let (y, s, is) = IsStanding-structure x ns d k (nodes-within x es ns k lent d h) in
    let at = EncodingAt-encoded x t y s in
    let own = at.encoding in
    let Fields = HasItsFields t r own.class own.constructed own.tag own.contents own.header in
    let prop : IsProp Fields = hlevel (props, ASN1Class-set) in
    let (offset, class, constructed, tag, contents, header) =
    IsEntryOf-implies x es ns k lent d Fields prop h (λ e.
    HasItsFields-entry x t r y own.class own.constructed own.tag own.contents own.header e s own.encoding) in
    let one = subst (λ z. Encoding y z own.constructed own.tag own.contents own.header) (sym class) own.encoding in
    let two = subst (λ z. Encoding y r.class z own.tag own.contents own.header) (sym constructed) one in
    record {
      octets = y;
      encoded = s;
      offset_is = offset;
      header = (
        y,
        subst (λ o. EncodingAt x o y) (sym offset) at,
        record {
          tag = own.tag;
          contents = own.contents;
          encoding = subst (λ z. Encoding y r.class r.constructed own.tag own.contents z) (sym header) two;
          tag_field = tag;
          contents_field = contents;
        },
      );
      inside = node_items (node_at ns k);
      holds = Holds-node_items x (node_at ns k) is;
      items_are = items-node_count x es ns k lent d h;
    }

-- what no entry of a tree has, an entry of some tree has not
pub never-entry : (x : List ℕ) (r : Entry) → ∥ IsOfSomeTree x r ∥₁ → ((b : Tree ℕ) → IsEntryOf x b r → ⊥)
    → ⊥
never-entry x r lent f =
    let prop : IsProp ⊥ = hlevel props in
    ∥∥₁_elim lent prop (λ o. f o.0 o.1)

-- an entry of some tree lies in the octets
pub IsWithin-some : (x : List ℕ) (r : Entry) → ∥ IsOfSomeTree x r ∥₁ → IsWithin x r
IsWithin-some x r lent =
    let prop : IsProp (IsWithin x r) = hlevel props in
    ∥∥₁_elim lent prop (λ o. IsEntryOf-within x o.0 r o.1)
