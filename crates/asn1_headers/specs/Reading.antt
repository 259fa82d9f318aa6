-- What a call returns that reads octets, memory aside: a result that is right for octets that are what it reads, and
-- the first fault of others.
use Rattle.std.specs.Prelude.{◌≡◌, ℕ, Result, IsErrAnd, MatchResult}
use Rattle.asn1_headers.specs.declared.error.ASN1DecodeErr.{ASN1DecodeErr}
use Rattle.asn1_headers.specs.declared.error.ASN1DecodeErr.TheVariants.{OutOfMemory}
use Rattle.asn1_headers.specs.declared.error.LocatedErr.{LocatedErr}
use Rattle.asn1_headers.specs.Fault.{DecodeFault, OutOfMemoryOr}

-- whatever the octets are, the result is right for that, or memory ran out
abbrev pub ReadsEach : {A T : Type 0} → Result A ASN1DecodeErr → (T → Type 0) → (T → A → Type 0) → Type 0
ReadsEach {A} {T} result Is IsRight = (x : T) → Is x → MatchResult result (IsRight x) (λ e. e ≡ OutOfMemory)

-- octets with a first fault are rejected with it, or memory ran out
abbrev pub RejectsWith : {A : Type 0} → Result A ASN1DecodeErr → (DecodeFault → Type 0) → Type 0
RejectsWith result IsFirst =
    (fault : DecodeFault) → IsFirst fault → IsErrAnd result (OutOfMemoryOr (λ e. e ≡ fault))

-- whatever the octets are, the result of a call that locates faults is right for that, or memory ran out
abbrev pub ReadsEachLocated :
    {A T : Type 0} → Result A LocatedErr → (T → Type 0) → (T → A → Type 0) → Type 0
ReadsEachLocated {A} {T} result Is IsRight =
    (x : T) → Is x → MatchResult result (IsRight x) (λ e. e.error ≡ OutOfMemory)

-- memory ran out, or the fault is one of these at its offset
abbrev pub OutOfMemoryOrAt : (DecodeFault → ℕ → Type 0) → LocatedErr → Type 0
OutOfMemoryOrAt IsFault e = OutOfMemoryOr (λ fault. IsFault fault e.offset) e.error

-- octets with a first fault are rejected with it and its offset, or memory ran out
abbrev pub RejectsAt : {A : Type 0} → Result A LocatedErr → (DecodeFault → ℕ → Type 0) → Type 0
RejectsAt result IsFirst = (fault : DecodeFault) (offset : ℕ) → IsFirst fault offset
    → IsErrAnd result (OutOfMemoryOrAt (λ found place. (found ≡ fault) × (place ≡ offset)))
