-- What is answered to an input.
use Rattle.std.specs.Prelude.{◌≡◌, ◌≢◌, ⊤, ℕ, List, None, Some}
use Rattle.der_forms.specs.Objects.{document_of}
use Rattle.asn1_headers.specs.Fault.{fault_of}
use Rattle.asn1_outline.specs.Shapes.{AreEntriesOfShapes, FirstHeaderFaultAt, encoding_octets}
use Rattle.asn1_headers.specs.declared.error.ASN1DecodeErr.{ASN1DecodeErr}
use Rattle.asn1_headers.specs.declared.error.ASN1DecodeErr.TheVariants.{OutOfMemory}
use Rattle.asn1_outline.specs.Triple.{BeginWithTriple, entry_at}
use Rattle.asn1_outline.specs.declared.entry.Entry.{Entry}
use Rattle.der_signed.specs.declared.run.RunFault.{RunFault}
use Rattle.der_signed.specs.declared.run.RunFault.TheVariants.{NoDocument, NotSigned, Refused, Stream}
use Rattle.der_io.specs.declared.StreamFault.TheVariants.{Memory}

-- the octets are encodings by their headers, the first of which is a triple; what was signed has these octets
pub record IsContent (octets : List ℕ) (content : List ℕ) : Type 0 where
  pub entries : List Entry
  pub walked : AreEntriesOfShapes octets entries
  pub triple : BeginWithTriple entries
  pub content_is : content ≡ encoding_octets octets (entry_at entries 1)

-- the octets are encodings by their headers, the first of which is no triple
abbrev pub IsOfAnotherShape : List ℕ → Type 0
IsOfAnotherShape octets =
    (entries : List Entry) × AreEntriesOfShapes octets entries × (BeginWithTriple entries → ⊥)

-- the input has a document, in one of its forms, of which this holds
abbrev pub HasDocument : List ℕ → (List ℕ → Type 0) → Type 0
HasDocument input Holds = (octets : List ℕ) × (document_of input ≡ Some octets) × Holds octets

-- the fault says what is wrong with the octets of a document: the first fault of a header, or another encoding at their
-- front
abbrev pub IsFaultOf : RunFault → List ℕ → Type 0
IsFaultOf (Stream f) octets = f ≡ Memory
IsFaultOf (NoDocument f) octets = ⊥
IsFaultOf (Refused e) octets = (offset : ℕ) × FirstHeaderFaultAt octets (fault_of e) offset
IsFaultOf NotSigned octets = IsOfAnotherShape octets

-- the fault says what is wrong with the input: it has no document in a form that is read, or one that is at fault
abbrev pub TellsWhy : RunFault → List ℕ → Type 0
TellsWhy (Stream f) input = ⊤
TellsWhy (NoDocument f) input = document_of input ≡ None
TellsWhy (Refused e) input = HasDocument input (IsFaultOf (Refused e))
TellsWhy NotSigned input = HasDocument input (IsFaultOf NotSigned)

-- the fault of a run is that of reading
abbrev pub IsRefusalOf : ASN1DecodeErr → RunFault → Type 0
IsRefusalOf error (Stream f) = (f ≡ Memory) × (error ≡ OutOfMemory)
IsRefusalOf error (NoDocument f) = ⊥
IsRefusalOf error (Refused e) = (error ≡ e) × (e ≢ OutOfMemory)
IsRefusalOf error NotSigned = ⊥
