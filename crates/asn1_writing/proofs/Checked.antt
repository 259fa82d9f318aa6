-- A result that says whether octets are a document, with the place of the first fault, is the only one, for
-- `check::check_document`, `size::canonical_size` and `write::rewrite_unless_canonical`.
use Rattle.std.proofs.Common.{◌≡◌, ℕ, ◌<◌, ◌^◌, List, length, Option, Result, Ok, Err, Vec, Global, IfErr, IsErrAnd, subst}
use Rattle.std.specs.Prelude.{IfOk, MatchOption, MatchResult, OnOk}
use Rattle.asn1_headers.specs.Fault.{DecodeFault, OutOfMemoryOr}
use Rattle.asn1_headers.specs.declared.error.ASN1DecodeErr.TheVariants.{OutOfMemory}
use Rattle.asn1_headers.specs.declared.error.LocatedErr.{LocatedErr}
use Rattle.asn1_blocks.specs.Grammar.{FirstFaultAt, IsDocument}
use Rattle.asn1_blocks.specs.Tree.{Trees}
use Rattle.asn1_blocks.proofs.OneReading.{EncodesAll-unique}
use Rattle.asn1_blocks.proofs.Readings.{IsLocated, IsDocument-no_fault, IsLocated-out_of_memory, IsLocated-same_place}
use Rattle.asn1_writing.specs.Canonical.{all_canonical}

-- the octets are a document
abbrev pub IsSomeDocument : List ℕ → Type 0
IsSomeDocument octets = (bs : Trees ℕ) × IsDocument octets bs

-- a check of a document fails for want of memory alone
pub IsDocument-accepted_located : {A : Type 0} (octets : List ℕ) (r : Result A LocatedErr) → length octets < 2 ^ 64 →
    IfErr r (IsLocated octets)
    → (bs : Trees ℕ) → IsDocument octets bs → IfErr r (λ e. e.error ≡ OutOfMemory)
IsDocument-accepted_located octets (Ok v) small err bs d = tt
IsDocument-accepted_located octets (Err e) small err bs d = IsLocated-out_of_memory octets bs e small d err

-- a check of octets with a first fault reports it at its place
pub FirstFaultAt-refused : {A : Type 0} (octets : List ℕ) (r : Result A LocatedErr) → length octets < 2 ^ 64 →
    IfOk r (λ v. IsSomeDocument octets)
    → IfErr r (IsLocated octets) → (fault : DecodeFault) (o : ℕ) → FirstFaultAt octets fault o
    → IsErrAnd r (λ e. OutOfMemoryOr (λ f. (f ≡ fault) × (e.offset ≡ o)) e.error)
FirstFaultAt-refused octets (Ok v) small (bs, d) err fault o p =
    absurd (IsDocument-no_fault octets bs fault small d (o, p))
FirstFaultAt-refused octets (Err e) small ok err fault o p = IsLocated-same_place octets e fault o small err p

-- octets that were checked are a document
pub IfOk-checked_document : {A : Type 0} (octets : List ℕ) (r : Result A LocatedErr) → OnOk r (IsSomeDocument octets) →
    IfOk r (λ v. IsSomeDocument octets)
IfOk-checked_document octets (Ok v) some = some
IfOk-checked_document octets (Err e) some = tt

-- what was written of a document, or the octets themselves, is the canonical form of its trees
abbrev pub IsWritten : List ℕ → Trees ℕ → Option (Vec ℕ Global) → Type 0
IsWritten octets bs written = MatchOption written (octets ≡ all_canonical bs) (λ v. v.items ≡ all_canonical bs)

-- octets of which something was written are a document
pub IfOk-written_document : (octets : List ℕ) (r : Result (Option (Vec ℕ Global)) LocatedErr)
    → IfOk r (λ written. (bs : Trees ℕ) × IsDocument octets bs × IsWritten octets bs written) →
    IfOk r (λ v. IsSomeDocument octets)
IfOk-written_document octets (Ok v) (bs, d, is) = (bs, d)
IfOk-written_document octets (Err e) ok = tt

-- writing a document that is not canonical fails for want of memory alone
pub IsDocument-written_accepted : (octets : List ℕ) (r : Result (Option (Vec ℕ Global)) LocatedErr) →
    length octets < 2 ^ 64
    → IfOk r (λ written. (bs : Trees ℕ) × IsDocument octets bs × IsWritten octets bs written) →
    IfErr r (IsLocated octets)
    → (bs : Trees ℕ) → IsDocument octets bs → MatchResult r (IsWritten octets bs) (λ e. e.error ≡ OutOfMemory)
IsDocument-written_accepted octets (Ok v) small (cs, e, is) err bs d =
    subst (λ z. IsWritten octets z v) (EncodesAll-unique 0 octets cs bs e.blocks d.blocks) is
IsDocument-written_accepted octets (Err e) small ok err bs d = IsLocated-out_of_memory octets bs e small d err

-- so many octets are written of a document
abbrev pub IsSize : Trees ℕ → ℕ → Type 0
IsSize bs n = n ≡ length (all_canonical bs)

-- octets whose size was told are a document
pub IfOk-sized_document : (octets : List ℕ) (r : Result ℕ LocatedErr) →
    IfOk r (λ n. (bs : Trees ℕ) × IsDocument octets bs × IsSize bs n) → IfOk r (λ v. IsSomeDocument octets)
IfOk-sized_document octets (Ok n) (bs, d, is) = (bs, d)
IfOk-sized_document octets (Err e) ok = tt

-- to tell the size of a document fails for want of memory alone
pub IsDocument-sized_accepted : (octets : List ℕ) (r : Result ℕ LocatedErr) → length octets < 2 ^ 64 →
    IfOk r (λ n. (bs : Trees ℕ) × IsDocument octets bs × IsSize bs n) → IfErr r (IsLocated octets) →
    (bs : Trees ℕ) → IsDocument octets bs → MatchResult r (IsSize bs) (λ e. e.error ≡ OutOfMemory)
IsDocument-sized_accepted octets (Ok n) small (cs, e, is) err bs d =
    subst (λ z. IsSize z n) (EncodesAll-unique 0 octets cs bs e.blocks d.blocks) is
IsDocument-sized_accepted octets (Err e) small ok err bs d = IsLocated-out_of_memory octets bs e small d err
