-- Steps for which memory ran out, for `read_loop::close`.
use Rattle.std.proofs.Common.{◌≡◌, ℕ, List, Result, Ok, Err, IsErr, IsErrAnd, inl}
use Rattle.asn1_headers.specs.declared.error.ASN1DecodeErr.{ASN1DecodeErr}
use Rattle.asn1_headers.specs.declared.error.ASN1DecodeErr.TheVariants.{OutOfMemory}
use Rattle.asn1_blocks.specs.declared.read_loop.Reader.{Reader}
use Rattle.asn1_blocks.specs.Inner.ReaderSteps.{HasStepped, Holding}

-- a step that ran out of memory leads to nothing else
pub HasStepped-out_of_memory : {A B I : Type 0} (Holds : Holding B I) (octets : List ℕ) (t : Result A ASN1DecodeErr)
    (r : Reader B I) (n most : ℕ)
    → IsErr t × IsErrAnd t (λ e. e ≡ OutOfMemory)
    → HasStepped Holds octets t r n most
HasStepped-out_of_memory Holds octets (Ok x) r n most h = absurd h.1
HasStepped-out_of_memory Holds octets (Err e) r n most h = inl h.1
