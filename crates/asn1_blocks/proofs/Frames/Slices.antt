-- An empty slice, and the slice of all octets, for the frames of `read_loop` and for asn1_der.
use Rattle.std.proofs.Common.{◌≡◌, ℕ, ◌-◌, List, [], length, take, drop, ap, ◌∙◌, arith}
use Rattle.std.specs.List.{slice_range}
use Rattle.std.proofs.lemmas.List.{take_all}

-- nothing is between an index and itself
pub slice_range-empty : (octets : List ℕ) (i e : ℕ) → i ≡ e → slice_range octets i e ≡ []
slice_range-empty octets i e h =
    let zero : e - i ≡ 0 = omega (arith, h) in
    ap (λ n. take n (drop i octets)) zero

-- the slice of octets from 0 to their length is all of them
pub slice_range-all : (octets : List ℕ) → slice_range octets 0 (length octets) ≡ octets
slice_range-all octets =
    let z : length octets - 0 ≡ length octets = omega arith in
    ap (λ n. take n (drop 0 octets)) z ∙ take_all (length octets) octets (omega arith)
