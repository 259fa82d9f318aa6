-- Lists by their elements, and moments of which some octets are given, for `times::is_day` and
-- `times::is_whole_minute`.
use Rattle.std.proofs.Common.{◌≡◌, ℕ, zero, suc, ◌+◌, List, [], ◌∷◌, ◌++◌, Bool, length, get_or, drop, drop-cons, sym, ap, ◌∙◌, subst, arith}
use Rattle.std.proofs.Math.ListN.{drop_of_length-le}
use Rattle.std.specs.Prelude.{◌↔◌, IsTrue}
use Rattle.asn1_der.specs.Times.{IsMoment, IsWithinMoment}

-- the octets at so many indices, from an index on
abbrev pub octets_from : List ℕ → (i count : ℕ) → List ℕ
octets_from octets i zero = []
octets_from octets i (suc count) = get_or octets i 0 ∷ octets_from octets (suc i) count

-- the octets at all indices from an index on are what stands from it on
pub octets_from-to_end : (octets : List ℕ) (i count : ℕ) → length octets ≡ i + count
    → octets_from octets i count ≡ drop i octets
octets_from-to_end octets i zero size = sym (drop_of_length-le octets (omega (arith, size)))
octets_from-to_end octets i (suc count) size =
    ap (λ z. get_or octets i 0 ∷ z) (octets_from-to_end octets (suc i) count (omega (arith, size)))
    ∙ sym (drop-cons octets i 0 (omega (arith, size)))

-- octets are within a moment exactly if the whole, with the octets before and behind them, is a moment
pub IsWithinMoment-whole :
    (found : Bool) (size : ℕ) (front octets end whole : List ℕ) → length octets ≡ size →
    whole ≡ front ++ (octets ++ end) → IsTrue found ↔ IsMoment whole
    → IsTrue found ↔ IsWithinMoment size front octets end
IsWithinMoment-whole found size front octets end whole l e h =
    (λ t. (l, subst IsMoment e (h.0 t)), λ m. h.1 (subst IsMoment (sym e) m.1))
