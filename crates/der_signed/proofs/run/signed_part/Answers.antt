-- For `run::signed_part`: what it returns is right (`content`, `refused`).
use Rattle.std.proofs.Common.{◌∙◌, List, ℕ, inl, inr, subst, sym}
use Rattle.asn1_headers.specs.Fault.{OutOfMemoryOr, fault_of}
use Rattle.asn1_headers.specs.declared.error.ASN1DecodeErr.{ASN1DecodeErr}
use Rattle.asn1_outline.specs.Shapes.{FirstHeaderFaultAt}
use Rattle.der_signed.specs.Content.{IsFaultOf, IsRefusalOf}
use Rattle.der_signed.specs.declared.run.RunFault.{RunFault}
use Rattle.der_signed.specs.declared.run.RunFault.TheVariants.{NoDocument, NotSigned, Refused, Stream}
use Rattle.der_signed.proofs.run.signed_part.Goals as goal

-- a refusal says what is wrong with the octets
IsFaultOf-refusal :
    (error : ASN1DecodeErr) (e : RunFault) (octets : List ℕ) (offset : ℕ)
    → OutOfMemoryOr (λ fault. FirstHeaderFaultAt octets fault offset) error → IsRefusalOf error e → IsFaultOf e octets
IsFaultOf-refusal error (Stream f) octets offset first h = h.0
IsFaultOf-refusal error (NoDocument f) octets offset first h = h
IsFaultOf-refusal error (Refused f) octets offset first h = elim first [
  | inl memory ↦ absurd (h.1 (sym h.0 ∙ memory))
  | inr at ↦ (offset, subst (λ z. FirstHeaderFaultAt octets (fault_of z) offset) h.0 at)
]
IsFaultOf-refusal error NotSigned octets offset first h = absurd h

pub returns-in-Err-clause-refused : goal.returns-in-Err-clause-refused
returns-in-Err-clause-refused c =
    IsFaultOf-refusal c.in-Err.located.error c.refusal_of.result c.args.octets.now c.in-Err.located.offset
    c.in-Err.ensures.fault c.refusal_of.ensures
