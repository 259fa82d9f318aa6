-- Tags are ordered as their identifier octets are, for `order::has_less_tag`, `order::is_less_number` and
-- `order::without_zeros`.
use Rattle.std.proofs.Common.{◌≡◌, ℕ, ◌+◌, ◌/◌, ◌%◌, ◌<◌, Bool, true, false, List, [], ◌∷◌, ◌++◌, drop, get_or, length, map, refl, sym, ap, ◌∙◌, subst, inl, inr, arith}
use Rattle.std.specs.Prelude.{◌↔◌, IsTrue, nat_lt}
use Rattle.std.specs.Int.Digits.{digits_of, number_from_digits}
use Rattle.std.specs.declared.cmp.Ordering.{Ordering}
use Rattle.std.specs.declared.cmp.Ordering.TheVariants.{Less, Equal, Greater}
use Rattle.std.specs.Ordering.{MatchOrdering, nat_cmp, ordering_then}
use Rattle.std.specs.Cmp.{nat_cmp_is, ranked}
use Rattle.std.specs.Cmp.Lexicographic.{slice_cmp}
use Rattle.std.proofs.lemmas.Bool.{cases_lt}
use Rattle.std.proofs.lemmas.Int.Digits.{number_digits_of}
use Rattle.asn1_numbers.specs.Base128.{IsBase128, base128_number, shortest_base128}
use Rattle.asn1_numbers.proofs.DigitOrder.{ordering_then-digits}
use Rattle.asn1_headers.proofs.Prefixes.{Encoding-unique}
use Rattle.asn1_blocks.specs.Places.{IsEncoding}
use Rattle.asn1_der.specs.Der.{HasLessTag, is_less_tag}
use Rattle.asn1_der.specs.Steps.{IsFront}
use Rattle.asn1_headers.proofs.Shortest.{length-shortest_base128}

-- a second comparison that finds equality leaves the first as it is
ordering_then-Equal : (r : Ordering) → ordering_then r Equal ≡ r
ordering_then-Equal Less = refl
ordering_then-Equal Equal = refl
ordering_then-Equal Greater = refl

-- three comparisons in turn give one result, whichever two are taken together
ordering_then-assoc : (r s t : Ordering) → ordering_then r (ordering_then s t) ≡ ordering_then (ordering_then r s) t
ordering_then-assoc Less s t = refl
ordering_then-assoc Equal s t = refl
ordering_then-assoc Greater s t = refl

-- numbers are ordered as they are with another number added
nat_cmp-add : (k x y : ℕ) → nat_cmp (k + x) (k + y) ≡ nat_cmp x y
nat_cmp-add k x y = sym (by_rank (nat_cmp x y) refl (ranked x y (nat_cmp x y) refl))
  where
    -- however two numbers compare, they compare alike with another number added to both
    by_rank : (r : Ordering) → r ≡ nat_cmp x y → MatchOrdering r (x < y) (x ≡ y) (y < x)
        → nat_cmp x y ≡ nat_cmp (k + x) (k + y)
    by_rank Less e h = sym e ∙ nat_cmp_is (k + x) (k + y) Less (omega (arith, h))
    by_rank Equal e h = sym e ∙ nat_cmp_is (k + x) (k + y) Equal (omega (arith, h))
    by_rank Greater e h = sym e ∙ nat_cmp_is (k + x) (k + y) Greater (omega (arith, h))

-- numbers are ordered by their quotients, and then by their remainders
nat_cmp-div-mod : (m n : ℕ) → ordering_then (nat_cmp (m / 128) (n / 128)) (nat_cmp (m % 128) (n % 128)) ≡ nat_cmp m n
nat_cmp-div-mod m n =
    by_quotient (nat_cmp (m / 128) (n / 128)) (ranked (m / 128) (n / 128) (nat_cmp (m / 128) (n / 128)) refl)
  where
    -- numbers whose quotients by 128 are equal compare as their remainders do
    by_rest : (s : Ordering) → m / 128 ≡ n / 128
        → MatchOrdering s (m % 128 < n % 128) (m % 128 ≡ n % 128) (n % 128 < m % 128) → s ≡ nat_cmp m n
    by_rest Less e h = nat_cmp_is m n Less (omega (arith, e, h))
    by_rest Equal e h = nat_cmp_is m n Equal (omega (arith, e, h))
    by_rest Greater e h = nat_cmp_is m n Greater (omega (arith, e, h))

    -- numbers compare by their quotients by 128, and by their remainders where the quotients are equal
    by_quotient : (r : Ordering) → MatchOrdering r (m / 128 < n / 128) (m / 128 ≡ n / 128) (n / 128 < m / 128)
        → ordering_then r (nat_cmp (m % 128) (n % 128)) ≡ nat_cmp m n
    by_quotient Less h = nat_cmp_is m n Less (omega (arith, h))
    by_quotient Equal h =
        by_rest (nat_cmp (m % 128) (n % 128)) h (ranked (m % 128) (n % 128) (nat_cmp (m % 128) (n % 128)) refl)
    by_quotient Greater h = nat_cmp_is m n Greater (omega (arith, h))

-- digits with bit 8 set, and a last octet, are ordered as the digits are, and then as the last octets
slice_cmp-marked : (xs ys : List ℕ) (a b : ℕ) → length xs ≡ length ys
    → slice_cmp nat_cmp (map (λ d. 128 + d) xs ++ a ∷ []) (map (λ d. 128 + d) ys ++ b ∷ [])
    ≡ ordering_then (slice_cmp nat_cmp xs ys) (nat_cmp a b)
slice_cmp-marked [] [] a b e = ordering_then-Equal (nat_cmp a b)
slice_cmp-marked [] (y ∷ ys) a b e = absurd (omega (arith, e))
slice_cmp-marked (x ∷ xs) [] a b e = absurd (omega (arith, e))
slice_cmp-marked (x ∷ xs) (y ∷ ys) a b e =
    ap (λ r. ordering_then r (slice_cmp nat_cmp (map (λ d. 128 + d) xs ++ a ∷ []) (map (λ d. 128 + d) ys ++ b ∷ [])))
    (nat_cmp-add 128 x y)
    ∙ (ap (λ s. ordering_then (nat_cmp x y) s) (slice_cmp-marked xs ys a b (omega (arith, e)))
    ∙ ordering_then-assoc (nat_cmp x y) (slice_cmp nat_cmp xs ys) (nat_cmp a b))

-- of shortest base-128 numbers the number of octets decides, and then the first octet that differs
pub nat_cmp-shortest_base128 : (m n : ℕ)
    → ordering_then (nat_cmp (length (shortest_base128 m)) (length (shortest_base128 n)))
    (slice_cmp nat_cmp (shortest_base128 m) (shortest_base128 n)) ≡ nat_cmp m n
nat_cmp-shortest_base128 m n =
    ap (λ r. ordering_then r (slice_cmp nat_cmp (shortest_base128 m) (shortest_base128 n))) lengths
    ∙ by_length (nat_cmp (length ds) (length es)) refl
    (ranked (length ds) (length es) (nat_cmp (length ds) (length es)) refl)
  where
    -- the base-128 digits of m before its last digit
    ds : List ℕ
    ds = digits_of 128 (m / 128)

    -- the base-128 digits of n before its last digit
    es : List ℕ
    es = digits_of 128 (n / 128)

    -- the shortest octets of m and n compare in number as their digits before the last do
    lengths : nat_cmp (length (shortest_base128 m)) (length (shortest_base128 n)) ≡ nat_cmp (length ds) (length es)
    lengths = ap (λ z. nat_cmp z (length (shortest_base128 n))) (length-shortest_base128 m)
        ∙ (ap (λ z. nat_cmp (1 + length ds) z) (length-shortest_base128 n) ∙ nat_cmp-add 1 (length ds) (length es))

    -- the digits of m before its last have the number m / 128
    fronts : base128_number ds ≡ m / 128
    fronts = number_digits_of 128 (m / 128) (omega arith)

    -- the digits of n before its last have the number n / 128
    ends : base128_number es ≡ n / 128
    ends = number_digits_of 128 (n / 128) (omega arith)

    -- digits before the last, compared by their number and then one by one, compare as m / 128 and n / 128 do
    order : ordering_then (nat_cmp (length ds) (length es)) (slice_cmp nat_cmp ds es) ≡ nat_cmp (m / 128) (n / 128)
    order = ordering_then-digits ds es (sym (ap (digits_of 128) fronts)) (sym (ap (digits_of 128) ends))
        ∙ (ap (λ z. nat_cmp z (base128_number es)) fronts ∙ ap (λ z. nat_cmp (m / 128) z) ends)

    -- how the last digits of m and n compare
    lows : Ordering
    lows = nat_cmp (m % 128) (n % 128)

    -- m and n compare by how many digits are before the last, then by these digits, then by the last digits
    by_digits : (r : Ordering) → r ≡ nat_cmp (length ds) (length es)
        → ordering_then (ordering_then r (slice_cmp nat_cmp ds es)) lows ≡ nat_cmp m n
    by_digits r e =
        ap (λ z. ordering_then z lows) (ap (λ z. ordering_then z (slice_cmp nat_cmp ds es)) e ∙ order)
        ∙ nat_cmp-div-mod m n

    -- m and n compare by how many digits are before the last, and then by their shortest octets
    by_length : (r : Ordering) → r ≡ nat_cmp (length ds) (length es)
        → MatchOrdering r (length ds < length es) (length ds ≡ length es) (length es < length ds)
        → ordering_then r (slice_cmp nat_cmp (shortest_base128 m) (shortest_base128 n)) ≡ nat_cmp m n
    by_length Less e h = by_digits Less e
    by_length Equal e h = slice_cmp-marked ds es (m % 128) (n % 128) h ∙ by_digits Equal e
    by_length Greater e h = by_digits Greater e

-- octets of a base-128 number that begin with 80 are of the same number without this octet
pub IsBase128-behind_80 : (octets : List ℕ) (n : ℕ) → get_or octets 0 0 ≡ 128 → IsBase128 octets n
    → IsBase128 (drop 1 octets) n
IsBase128-behind_80 [] n e p = absurd p.continued
IsBase128-behind_80 (a ∷ []) n e p = absurd (omega (arith, e, p.continued))
IsBase128-behind_80 (a ∷ b ∷ octets) n e p =
    let low : 0 ≡ a % 128 = omega (arith, e) in
    record {
      continued = p.continued.1;
      value = subst (λ z. n ≡ number_from_digits 128 (z ∷ map (λ b. b % 128) (b ∷ octets))) (sym low) p.value;
    }

-- an encoding has a less tag than another exactly if its class and tag number say so
pub HasLessTag-fields :
    (x y : List ℕ) (e : IsEncoding x) (f : IsEncoding y) (found : Bool)
    → found ≡ is_less_tag e.class e.tag f.class f.tag →
    IsTrue found ↔ HasLessTag x y
HasLessTag-fields x y e f found is = (
  λ t. (
    e.class,
    e.tag,
    f.class,
    f.tag,
    record { constructed = e.constructed; contents = e.contents; header = e.header; encoding = e.encoding },
    record { constructed = f.constructed; contents = f.contents; header = f.header; encoding = f.encoding },
    sym is ∙ t,
  ),
  λ (c, m, d, n, p, q, less).
      let a = Encoding-unique x x e.class c e.constructed p.constructed e.tag m e.contents p.contents e.header p.header
      [] []
      e.encoding p.encoding refl in
      let b = Encoding-unique y y f.class d f.constructed q.constructed f.tag n f.contents q.contents f.header q.header
      [] []
      f.encoding q.encoding refl in
      is ∙ (ap (λ z. is_less_tag z e.tag f.class f.tag) a.class ∙ (ap (λ z. is_less_tag c z f.class f.tag) a.tag
      ∙ (ap (λ z. is_less_tag c m z f.tag) b.class ∙ (ap (λ z. is_less_tag c m d z) b.tag ∙ less)))),
)

-- numbers are compared by the lengths of their shortest octets, and then by these octets
pub nat_cmp-by_octets :
    (m n : ℕ) (xs ys : List ℕ) (a b r : Ordering) → xs ≡ shortest_base128 m → ys ≡ shortest_base128 n →
    a ≡ nat_cmp (length xs) (length ys) → b ≡ slice_cmp nat_cmp xs ys → r ≡ ordering_then a b → r ≡ nat_cmp m n
nat_cmp-by_octets m n xs ys a b r e f h i j =
    j ∙ (ap (λ z. ordering_then z b) h ∙ (ap (λ z. ordering_then (nat_cmp (length xs) (length ys)) z) i
    ∙ (ap (λ z. ordering_then (nat_cmp (length z) (length ys)) (slice_cmp nat_cmp z ys)) e
    ∙ (ap (λ z. ordering_then (nat_cmp (length (shortest_base128 m)) (length z))
    (slice_cmp nat_cmp (shortest_base128 m) z)) f
    ∙ nat_cmp-shortest_base128 m n))))

-- where the comparison of two numbers is `Less`, the test whether the first is below the second is true
pub is_less_number-Less : (m n : ℕ) (r : Ordering) → r ≡ nat_cmp m n → r ≡ Less → true ≡ nat_lt m n
is_less_number-Less m n r e h =
    let lt : m < n = ranked m n Less (sym h ∙ e) in
    grind (arith, lt)

-- where the comparison of two numbers is not `Less`, the test whether the first is below the second is false
pub is_less_number-not_Less : (m n : ℕ) (r : Ordering) → r ≡ nat_cmp m n → (r ≡ Less → ⊥) → false ≡ nat_lt m n
is_less_number-not_Less m n r e h = elim (cases_lt m n) [
  | inl lt ↦ absurd (h (e ∙ sym (nat_cmp_is m n Less lt)))
  | inr ge ↦ grind (arith, ge)
]

-- the identifier octets of an encoding stand at its front
pub IsFront-identifier : (x : List ℕ) (e : IsEncoding x) → IsFront e.encoding.identifier x
IsFront-identifier x e = record {
  tag = e.tag;
  rest = e.encoding.len ++ e.contents;
  is = (e.class, e.constructed, e.encoding.identifier_octets);
  whole = e.encoding.whole;
}
