-- An answer that is a document or a first fault is the only one, for `read`, `asn1_outline` and `simple_asn1`.
use Rattle.std.proofs.Common.{◌≡◌, ℕ, ◌<◌, ◌^◌, List, length, inl, inr, Result, Ok, Err, Vec, Global, IfOk, IfErr, IsErrAnd, MatchResult, ap, arith}
use Rattle.asn1_blocks.specs.declared.block.ASN1Block.{ASN1Block}
use Rattle.asn1_headers.specs.declared.error.ASN1DecodeErr.{ASN1DecodeErr}
use Rattle.asn1_headers.specs.declared.error.ASN1DecodeErr.TheVariants.{OutOfMemory}
use Rattle.asn1_headers.specs.declared.error.LocatedErr.{LocatedErr}
use Rattle.asn1_headers.specs.Fault.{DecodeFault, fault_of, OutOfMemoryOr}
use Rattle.asn1_blocks.specs.Tree.{Trees}
use Rattle.asn1_blocks.specs.View.{views}
use Rattle.asn1_blocks.specs.Grammar.{IsDocument, FirstFault, FirstFaultAt}
use Rattle.asn1_blocks.proofs.OneReading.{AreBlocks-encodes, EncodesAll-unique}
use Rattle.asn1_blocks.proofs.Faults.{BlocksFaultAt-not_blocks}
use Rattle.asn1_blocks.proofs.FaultsAlone.{FirstFault-unique, FirstFaultAt-unique}

-- no document has a first fault
pub IsDocument-no_fault : (octets : List ℕ) (bs : Trees ℕ) (e : DecodeFault) → length octets < 2 ^ 64 →
    IsDocument octets bs
    → FirstFault octets e → ⊥
IsDocument-no_fault octets bs e small d (o, inl empty) = omega (arith, d.some, ap length empty.0)
IsDocument-no_fault octets bs e small d (o, inr fault) =
    BlocksFaultAt-not_blocks octets e o fault small (AreBlocks-encodes 0 octets bs d.blocks)

-- a document is accepted, as its trees
pub IsDocument-accepted : (octets : List ℕ) (r : Result (Vec ASN1Block Global) ASN1DecodeErr) → length octets < 2 ^ 64
    → IfOk r (λ v. IsDocument octets (views v.items)) → IfErr r (OutOfMemoryOr (FirstFault octets)) → (bs : Trees ℕ) →
    IsDocument octets bs
    → MatchResult r (λ v. views v.items ≡ bs) (λ e. e ≡ OutOfMemory)
IsDocument-accepted octets (Ok v) small ok err bs d = EncodesAll-unique 0 octets (views v.items) bs ok.blocks d.blocks
IsDocument-accepted octets (Err e) small ok (inl memory) bs d = memory
IsDocument-accepted octets (Err e) small ok (inr fault) bs d =
    absurd (IsDocument-no_fault octets bs (fault_of e) small d fault)

-- octets with a first fault are refused, with that fault
pub FirstFault-refused : {A : Type 0} (octets : List ℕ) (r : Result A ASN1DecodeErr) → length octets < 2 ^ 64
    → IfOk r (λ v. (bs : Trees ℕ) × IsDocument octets bs)
    → IfErr r (OutOfMemoryOr (FirstFault octets)) → (fault : DecodeFault) → FirstFault octets fault →
    IsErrAnd r (OutOfMemoryOr (λ e. e ≡ fault))
FirstFault-refused octets (Ok v) small ok err fault f = IsDocument-no_fault octets ok.0 fault small ok.1 f
FirstFault-refused octets (Err e) small ok (inl memory) fault f = inl memory
FirstFault-refused octets (Err e) small ok (inr first) fault f =
    inr (FirstFault-unique octets (fault_of e) fault first f small)

-- a first fault at a place is a first fault
pub FirstFault-without_place : (octets : List ℕ) (e : ASN1DecodeErr) (o : ℕ) →
    OutOfMemoryOr (λ f. FirstFaultAt octets f o) e
    → OutOfMemoryOr (FirstFault octets) e
FirstFault-without_place octets e o (inl memory) = inl memory
FirstFault-without_place octets e o (inr p) = inr (o, p)

-- the error is that memory ran out, or the first fault, which stands at the offset
abbrev pub IsLocated : List ℕ → LocatedErr → Type 0
IsLocated octets e = OutOfMemoryOr (λ f. FirstFaultAt octets f e.offset) e.error

-- reading a document with its places fails for want of memory alone
pub IsLocated-out_of_memory : (octets : List ℕ) (bs : Trees ℕ) (e : LocatedErr) → length octets < 2 ^ 64 →
    IsDocument octets bs →
    IsLocated octets e
    → e.error ≡ OutOfMemory
IsLocated-out_of_memory octets bs e small d (inl memory) = memory
IsLocated-out_of_memory octets bs e small d (inr p) =
    absurd (IsDocument-no_fault octets bs (fault_of e.error) small d (e.offset, p))

-- a document is accepted as its trees by a call that locates faults
pub IsDocument-accepted_located : (octets : List ℕ) (r : Result (Vec ASN1Block Global) LocatedErr) →
    length octets < 2 ^ 64
    → IfOk r (λ v. IsDocument octets (views v.items)) → IfErr r (IsLocated octets) → (bs : Trees ℕ) →
    IsDocument octets bs
    → MatchResult r (λ v. views v.items ≡ bs) (λ e. e.error ≡ OutOfMemory)
IsDocument-accepted_located octets (Ok v) small ok err bs d =
    EncodesAll-unique 0 octets (views v.items) bs ok.blocks d.blocks
IsDocument-accepted_located octets (Err e) small ok err bs d = IsLocated-out_of_memory octets bs e small d err

-- an error of octets with a first fault is that fault at its place, or want of memory
pub IsLocated-same_place : (octets : List ℕ) (e : LocatedErr) (fault : DecodeFault) (o : ℕ) → length octets < 2 ^ 64 →
    IsLocated octets e
    → FirstFaultAt octets fault o
    → OutOfMemoryOr (λ f. (f ≡ fault) × (e.offset ≡ o)) e.error
IsLocated-same_place octets e fault o small (inl memory) p = inl memory
IsLocated-same_place octets e fault o small (inr q) p =
    inr (FirstFaultAt-unique octets (fault_of e.error) fault e.offset o small q p)

-- octets with a first fault are refused with that fault at its place
pub FirstFaultAt-refused : (octets : List ℕ) (r : Result (Vec ASN1Block Global) LocatedErr) → length octets < 2 ^ 64
    → IfOk r (λ v. IsDocument octets (views v.items)) → IfErr r (IsLocated octets) → (fault : DecodeFault) (o : ℕ) →
    FirstFaultAt octets fault o
    → IsErrAnd r (λ e. OutOfMemoryOr (λ f. (f ≡ fault) × (e.offset ≡ o)) e.error)
FirstFaultAt-refused octets (Ok v) small ok err fault o p =
    IsDocument-no_fault octets (views v.items) fault small ok (o, p)
FirstFaultAt-refused octets (Err e) small ok err fault o p = IsLocated-same_place octets e fault o small err p
