-- Base 64 that is decoded in parts, for `decoder`: octets of whole groups have symbols of their own.
use Rattle.std.proofs.Common.{◌≡◌, ◌%◌, ℕ, zero, suc, List, [], ◌∷◌, ◌++◌, append-nil, length, refl}
use Rattle.std.specs.Prelude.{Ok}
use Rattle.base64.proofs.EngineFacts.{decode_of-encode_of, encode_of-append, encode_of-nil}
use Rattle.base64.specs.Engines.{standard}
use Rattle.base64.specs.GeneralPurpose.{IsBytes, decode_of, encode_of}

-- octets appended to octets are octets
IsBytes-append : (a b : List ℕ) → IsBytes a → IsBytes b → IsBytes (a ++ b)
IsBytes-append [] b h k i = k i
IsBytes-append (x ∷ a) b h k zero = h 0
IsBytes-append (x ∷ a) b h k (suc i) = IsBytes-append a b (λ j. h (suc j)) k i

-- the symbols of no octets add nothing to other symbols
pub encode_of-none : (octets symbols : List ℕ) → octets ≡ [] → encode_of standard octets ++ symbols ≡ symbols
encode_of-none octets symbols e = rw (e, encode_of-nil standard) refl

-- the symbols of whole groups of octets, and then of more octets, are the symbols of all
pub encode_of-decoded :
    (octets more symbols : List ℕ) → length octets % 3 ≡ 0 → symbols ≡ encode_of standard more →
    encode_of standard (octets ++ more) ++ [] ≡ encode_of standard octets ++ symbols
encode_of-decoded octets more symbols whole e =
    rw (append-nil (encode_of standard (octets ++ more)), e) (encode_of-append standard octets more whole)

-- where the last symbols spell octets, all symbols spell the octets before and then these
pub decode_of-last :
    (octets last symbols : List ℕ) → (length octets % 3 ≡ 0) × IsBytes octets → IsBytes last →
    symbols ≡ encode_of standard last →
    decode_of standard (encode_of standard octets ++ symbols) ≡ Ok (octets ++ last)
decode_of-last octets last symbols (whole, bytes) later e =
    rw (e, ← encode_of-append standard octets last whole)
    (decode_of-encode_of standard (octets ++ last) refl (IsBytes-append octets last bytes later))
