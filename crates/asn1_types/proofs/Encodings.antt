-- Values that are written one after another.
use Rattle.std.proofs.Common.{◌≡◌, ◌∙◌, ℕ, List, [], ◌∷◌, ◌++◌, ap, map, refl}
use Rattle.std.specs.Prelude.{None, Some}
use Rattle.asn1_blocks.specs.Tree.{Tree, trees_of}
use Rattle.asn1_headers.specs.declared.error.ASN1EncodeErr.{ASN1EncodeErr}
use Rattle.asn1_writing.proofs.WriteSteps.{first_of-none_of_both}
use Rattle.simple_asn1.specs.Canonical.{canonical, first_write_fault, write_fault}
use Rattle.asn1_types.specs.Inner.Encodings.{octets_of, value_of}
use Rattle.asn1_types.specs.declared.Asn1Type.{Ghosts}
use Rattle.asn1_types.specs.declared.encoded.Encoded.{Encoded}

-- behind values that can be written the first fault is that of the others
pub no_fault-append : {A : Type 0} (f : A → Tree (Unit {0})) (xs ys : List A)
    → first_write_fault (trees_of (map f xs)) ≡ None
    → first_write_fault (trees_of (map f (xs ++ ys))) ≡ first_write_fault (trees_of (map f ys))
no_fault-append f [] ys e = refl
no_fault-append f (x ∷ xs) ys e =
    let parts = first_of-none_of_both (write_fault (f x)) (first_write_fault (trees_of (map f xs))) e in
    rw (parts.0, no_fault-append f xs ys parts.1) refl

-- values that can be written, and one more
pub no_fault-push : {A : Type 0} (f : A → Tree (Unit {0})) (xs : List A) (x : A)
    → first_write_fault (trees_of (map f xs)) ≡ None → write_fault (f x) ≡ None
    → first_write_fault (trees_of (map f (xs ++ x ∷ []))) ≡ None
no_fault-push f xs x none one = no_fault-append f xs (x ∷ []) none ∙ rw one refl

-- the fault of the next value is the first of all
pub first_fault : {A : Type 0} (f : A → Tree (Unit {0})) (xs rest : List A) (x : A) (e : ASN1EncodeErr)
    → first_write_fault (trees_of (map f xs)) ≡ None → write_fault (f x) ≡ Some e
    → first_write_fault (trees_of (map f (xs ++ x ∷ rest))) ≡ Some e
first_fault f xs rest x e none fault = no_fault-append f xs (x ∷ rest) none ∙ rw fault refl

-- what is kept beside the values is what is written of them
pub octets_of-items : {A : Type 0} (G : Ghosts A) (items : List (Encoded A G))
    → map octets_of items ≡ map (λ x. canonical (G.tree x)) (map value_of items)
octets_of-items G [] = refl
octets_of-items G (item ∷ items) =
    ap (λ (first : List ℕ). first ∷ map octets_of items) item.is_written
    ∙ ap (λ (rest : List (List ℕ)). canonical (G.tree item.value) ∷ rest) (octets_of-items G items)
