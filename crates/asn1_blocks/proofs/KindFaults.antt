-- An error of reading contents octets of a leaf's kind is a fault of its tag, for `contents::universal_leaf` and the
-- crates above.
use Rattle.std.proofs.Common.{◌≡◌, ℕ, List, [], Result, Ok, Err, IsErr, IsErrAnd, IfErr, inl, inr, sym, ◌∙◌, subst}
use Rattle.asn1_headers.specs.declared.error.ASN1DecodeErr.{ASN1DecodeErr}
use Rattle.asn1_headers.specs.Fault.{OutOfMemoryOr, fault_of}
use Rattle.asn1_leaves.specs.Contents.Text.{TextFault, text_form}
use Rattle.asn1_leaves.specs.StringKind.{StringKind}
use Rattle.asn1_blocks.specs.Contents.{LeafFault, leaf_tag, string_tag}
use Rattle.asn1_blocks.specs.Tree.{Leaf, text}
use Rattle.asn1_blocks.proofs.Leaves.{FaultOf, LeafFault-kind}

-- an error that is passed on of contents octets of the leaf's kind is a fault of its tag
pub IfErr-kind_fault : {A : Type 0} (l : Leaf) (tag : ℕ) (contents : List ℕ) (d : ASN1DecodeErr)
    (r : Result A ASN1DecodeErr)
    → IsErr r × IsErrAnd r (λ e. e ≡ d) → tag ≡ leaf_tag l → OutOfMemoryOr (FaultOf l contents) d →
    IfErr r (OutOfMemoryOr (LeafFault tag contents))
IfErr-kind_fault l tag contents d (Ok x) h t f = tt
IfErr-kind_fault l tag contents d (Err e) h t (inl memory) = inl (h.1 ∙ memory)
IfErr-kind_fault l tag contents d (Err e) h t (inr f) =
    inr (LeafFault-kind l tag contents (fault_of e) t (subst (λ z. FaultOf l contents (fault_of z)) (sym h.1) f))

-- an error that is passed on of the text of a string is a fault of the string's tag
pub IfErr-text_fault : {A : Type 0} (kind : StringKind) (tag : ℕ) (contents : List ℕ) (d : ASN1DecodeErr)
    (r : Result A ASN1DecodeErr)
    → IsErr r × IsErrAnd r (λ e. e ≡ d) → tag ≡ string_tag kind →
    OutOfMemoryOr (TextFault (text_form kind) contents) d →
    IfErr r (OutOfMemoryOr (LeafFault tag contents))
IfErr-text_fault kind = IfErr-kind_fault (text kind [])
