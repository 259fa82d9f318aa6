-- What is wrong with contents octets of text, for `leaf::string_value`.
use Rattle.std.proofs.Common.{◌≡◌, ℕ, IfErr, IsErr, IsErrAnd, List, Result, subst}
use Rattle.asn1_headers.specs.Fault.{OutOfMemoryOr}
use Rattle.asn1_headers.specs.declared.error.ASN1DecodeErr.{ASN1DecodeErr}
use Rattle.asn1_leaves.specs.Contents.Text.{TextFault, text_form}
use Rattle.asn1_leaves.specs.StringKind.{StringKind}
use Rattle.asn1_leaves.specs.declared.contents.text.TextForm.{TextForm}
use Rattle.asn1_blocks.specs.Contents.{LeafFault, string_tag}
use Rattle.asn1_blocks.proofs.KindFaults.{IfErr-text_fault}

-- the fault of the text of a string, read in its form, is a fault of contents octets with the string's tag
pub IfErr-form_fault :
    {A : Type 0} (kind : StringKind) (tag : ℕ) (form : TextForm) (contents : List ℕ) (d : ASN1DecodeErr)
    (r : Result A ASN1DecodeErr) → tag ≡ string_tag kind → form ≡ text_form kind →
    IsErr r × IsErrAnd r (λ e. e ≡ d) → OutOfMemoryOr (TextFault form contents) d →
    IfErr r (OutOfMemoryOr (LeafFault tag contents))
IfErr-form_fault kind tag form contents d r t f h fault =
    IfErr-text_fault kind tag contents d r h t (subst (λ z. OutOfMemoryOr (TextFault z contents) d) f fault)
