-- What reading and writing a type of one's own answers, by the relations that the type names. `reads` relates the trees
-- of blocks, and a value with the trees after it, or a fault; `writes` relates trees, or a fault. `from` is the type's
-- conversion of an error of this library into a fault of its own.
use Rattle.std.specs.Prelude.{◌≡◌, ◌≢◌, ◌⊎◌, ℕ, List, Result, Ok, Err, Some, None}
use Rattle.asn1_headers.specs.declared.error.ASN1DecodeErr.{ASN1DecodeErr}
use Rattle.simple_asn1.specs.declared.convert.TripFault.{TripFault}
use Rattle.simple_asn1.specs.declared.convert.TripFault.TheVariants.{Encode, Decode}
use Rattle.asn1_headers.specs.declared.error.ASN1DecodeErr.TheVariants.{OutOfMemory}
use Rattle.asn1_headers.specs.declared.error.ASN1EncodeErr.{ASN1EncodeErr}
use Rattle.asn1_headers.specs.declared.error.ASN1EncodeErr.TheVariants.{OutOfMemory as no_memory}
use Rattle.asn1_writing.specs.Canonical.{all_canonical, first_write_fault}
use Rattle.asn1_headers.specs.Fault.{OutOfMemoryOr}
use Rattle.asn1_blocks.specs.Grammar.{IsDocument, FirstFault}
use Rattle.asn1_blocks.specs.Faithful.{AreFaithful}
use Rattle.asn1_blocks.specs.Tree.{Trees, no_trees, shapes}

-- the octets are a document, and the value is read of its trees; trees after it are ignored
pub record Decodes
    {T E : Type 0} (reads : Trees ℕ → Result (T × Trees ℕ) E → Type 0) (octets : List ℕ) (x : T)
    : Type 0 where
  pub trees : Trees ℕ
  pub rest : Trees ℕ
  pub document : IsDocument octets trees
  pub is_read : reads trees (Ok (x, rest))

-- the octets are a document whose trees the type refuses with the fault; or the fault is what the type makes of the
-- first fault of the octets, or of memory that ran out
abbrev pub DecodeFails : {T E : Type 0} →
    (Trees ℕ → Result (T × Trees ℕ) E → Type 0) → (ASN1DecodeErr → E → Type 0) →
    List ℕ → E → Type 0
DecodeFails reads from octets e =
    ((bs : Trees ℕ) × IsDocument octets bs × reads bs (Err e))
    ⊎ ((f : ASN1DecodeErr) × OutOfMemoryOr (FirstFault octets) f × from f e)

-- the type writes some trees, and the octets are their canonical encodings, joined
pub record EncodesValue {E : Type 0} (writes : Result (Trees ℕ) E → Type 0) (octets : List ℕ) : Type 0 where
  pub trees : Trees ℕ
  pub are_written : writes (Ok trees)
  pub canonical : octets ≡ all_canonical trees
  pub writable : first_write_fault trees ≡ None

-- the type refuses to write with the fault; or it writes trees, and the fault is what it makes of their first fault of
-- writing, or of memory that ran out
abbrev pub EncodeFails : {E : Type 0} →
    (Result (Trees ℕ) E → Type 0) → (ASN1EncodeErr → E → Type 0) → E → Type 0
EncodeFails writes from e =
    writes (Err e)
    ⊎ ((bs : Trees ℕ) × (f : ASN1EncodeErr) × writes (Ok bs)
    × ((f ≡ no_memory) ⊎ (first_write_fault bs ≡ Some f)) × from f e)

-- the fault of either half of writing and reading again
abbrev pub TripFails : {E D : Type 0} → (E → Type 0) → (D → Type 0) → TripFault E D → Type 0
TripFails encode decode (Encode e) = encode e
TripFails encode decode (Decode e) = decode e

-- one tree or more, each faithful: written, they are read again
abbrev pub AreReadAgain : {O : Type 0} → Trees O → Type 0
AreReadAgain bs = (bs ≢ no_trees) × AreFaithful bs

-- writing trees that come back fails by the type alone, or by what it makes of memory that ran out
abbrev pub OwnEncodeFault : {E : Type 0} →
    (Result (Trees ℕ) E → Type 0) → (ASN1EncodeErr → E → Type 0) → E → Type 0
OwnEncodeFault writes from e = writes (Err e) ⊎ from no_memory e

-- reading a value from trees fails by the type alone, or by what it makes of memory that ran out
abbrev pub OwnDecodeFault : {T E : Type 0} →
    (Trees ℕ → Result (T × Trees ℕ) E → Type 0) → (ASN1DecodeErr → E → Type 0) →
    Trees (Unit {0}) → E → Type 0
OwnDecodeFault reads from ss e =
    ((bs : Trees ℕ) × (shapes bs ≡ ss) × reads bs (Err e)) ⊎ from OutOfMemory e
