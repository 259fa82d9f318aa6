-- How many octets a header's parts have says whether they are the shortest, for `header::is_least_identifier`,
-- `header::is_least_length` and what reads headers.
use Rattle.std.proofs.Common.{◌≡◌, ◌≢◌, ◌↔◌, ℕ, ◌≤◌, Bool, false, List, [], ◌∷◌, ◌++◌, inl, inr, length, refl, sym, ap, ◌∙◌, arith}
use Rattle.std.proofs.lemmas.Bool.{false≢true, ne_eqb}
use Rattle.asn1_numbers.specs.Octets.{AreOctets}
use Rattle.asn1_headers.specs.declared.header.ASN1Class.{ASN1Class}
use Rattle.asn1_headers.specs.Header.{IsIdentifier, IsLength, shortest_identifier, shortest_length}
use Rattle.asn1_headers.specs.Indefinite.{is_indefinite}
use Rattle.asn1_headers.proofs.Prefixes.{IsIdentifier-not_empty}
use Rattle.asn1_headers.proofs.Shortest.{IsIdentifier-shortest, shortest_identifier-only, shortest_length-only}

-- the first of length octets tells their form
pub is_indefinite-append : (len rest : List ℕ) (n : ℕ) → IsLength len n
    → is_indefinite (len ++ rest) ≡ is_indefinite len
is_indefinite-append [] rest n is = absurd is
is_indefinite-append (b ∷ len) rest n is = refl

module _ (octets : List ℕ) (c : ASN1Class) (k : Bool) (n : ℕ) (all : AreOctets octets)
    (is : IsIdentifier octets c k n) where
  -- identifier octets as few as the shortest are the shortest
  pub shortest_identifier-size :
      (length octets ≡ length (shortest_identifier c k n)) ↔ (octets ≡ shortest_identifier c k n)
  shortest_identifier-size = (λ e. shortest_identifier-only octets c k n all is (omega (arith, e)), λ e. ap length e)

  -- a single identifier octet is the shortest
  pub shortest_identifier-one : length octets ≡ 1 → octets ≡ shortest_identifier c k n
  shortest_identifier-one e = shortest_identifier-only octets c k n all is (omega (
    arith,
    e,
    IsIdentifier-not_empty (shortest_identifier c k n) c k n (IsIdentifier-shortest c k n),
  ))

-- length octets as few as the shortest are the shortest, if they are definite
pub shortest_length-size : (len : List ℕ) (n : ℕ) → AreOctets len → IsLength len n → is_indefinite len ≡ false
    → length len ≤ length (shortest_length n) → len ≡ shortest_length n
shortest_length-size len n all is definite few =
    shortest_length-only len n all (λ e. false≢true (sym definite ∙ ap is_indefinite e)) is few

-- several length octets are definite
pub is_indefinite-several : (len : List ℕ) (n : ℕ) → IsLength len n → length len ≢ 1 → is_indefinite len ≡ false
is_indefinite-several [] n is more = absurd is
is_indefinite-several (b ∷ []) n is more = absurd (more refl)
is_indefinite-several (b ∷ d ∷ rest) n (inl short) more = ne_eqb b 128 (λ e. omega (arith, short.0, e))
is_indefinite-several (b ∷ d ∷ rest) n (inr long) more = ne_eqb b 128 (λ e. omega (arith, long.0, e))
