-- Headers in their shortest form, for `header_rules`, `own` and `listing`.
use Rattle.std.proofs.Common.{◌≡◌, ℕ, ◌+◌, ◌-◌, ◌<◌, ◌≤◌, ◌^◌, Bool, false, List, [], ◌∷◌, ◌++◌, drop, inl, inr, take, length, refl, sym, subst, ap, ◌∙◌, arith, length-append}
use Rattle.std.specs.Int.Digits.{digits_of}
use Rattle.std.specs.List.{slice_range}
use Rattle.std.proofs.lemmas.Bool.{cases_lt, cond_below}
use Rattle.std.proofs.lemmas.Int.Digits.{length-digits_of_step}
use Rattle.std.proofs.lemmas.List.{drop_at, take_at}
use Rattle.std.proofs.lemmas.List.Elements.{All-drop, All-take}
use Rattle.asn1_numbers.specs.Octets.{AreOctets}
use Rattle.asn1_headers.specs.Header.{Encoding, IsLength, shortest_identifier, shortest_length}
use Rattle.asn1_headers.specs.Indefinite.{is_indefinite}
use Rattle.asn1_headers.specs.declared.header.ASN1Class.{ASN1Class}
use Rattle.asn1_headers.proofs.Prefixes.{IsIdentifier-unique, IsLength-unique}
use Rattle.asn1_headers.proofs.Shortest.{IsIdentifier-shortest, IsLength-shortest}
use Rattle.asn1_blocks.proofs.ReadSteps.{length-slice_range}
use Rattle.asn1_blocks.specs.Places.{HeaderFound}
use Rattle.asn1_blocks.specs.declared.parsed.PlacedHeader.{PlacedHeader}
use Rattle.asn1_der.specs.Der.{IsShortest}
use Rattle.asn1_der.specs.Steps.{HasParts, HasShortest}

-- the parts of octets are octets
pub AreOctets-parts : (x a b v : List ℕ) → AreOctets x → x ≡ a ++ (b ++ v) → AreOctets a × AreOctets b
AreOctets-parts x a b v all whole =
    let behind : drop (length a) x ≡ b ++ v = ap (drop (length a)) whole ∙ drop_at a (b ++ v) (length a) refl in (
      subst AreOctets (ap (take (length a)) whole ∙ take_at a (b ++ v) (length a) refl)
          (All-take (λ b. b < 256) (length a) x all),
      subst AreOctets (ap (take (length b)) behind ∙ take_at b v (length b) refl)
          (All-take (λ b. b < 256) (length b) (drop (length a) x) (All-drop (λ b. b < 256) (length a) x all)),
    )

-- a header that was found has the parts of its encoding
pub HasParts-found :
    (x : List ℕ) (i e : ℕ) (h : PlacedHeader) (f : HeaderFound x i e h) → AreOctets x → e ≤ length x →
    HasParts h f.encoding.identifier f.encoding.len
HasParts-found x i e h f all within =
    let size = length-slice_range x h.start h.end f.order (omega (arith, f.ends_within, within)) in
    let front : AreOctets (slice_range x i h.end) =
    All-take (λ b. b < 256) (h.end - i) (drop i x) (All-drop (λ b. b < 256) i x all) in
    let parts = AreOctets-parts (slice_range x i h.end) f.encoding.identifier f.encoding.len
    (slice_range x h.start h.end) front f.encoding.whole in
    record {
      identifier_octets = f.encoding.identifier_octets;
      length_octets = subst (IsLength f.encoding.len) size f.encoding.length_octets;
      identifier_all = parts.0;
      length_all = parts.1;
      identifier_size = f.identifier_size;
      size_is = omega (arith, f.size_is, f.encoding.size, f.identifier_size);
      length_80 = f.length_80;
    }

-- the shortest length octets are definite
pub is_indefinite-shortest_length : (n : ℕ) → is_indefinite (shortest_length n) ≡ false
is_indefinite-shortest_length n = elim (cases_lt n 128) [
  | inl lt ↦ sym (ap is_indefinite (cond_below n 128 (n ∷ []) ((128 + length (digits_of 256 n)) ∷ digits_of 256 n) lt))
      ∙ grind (arith, lt)
  | inr ge ↦ let some = length-digits_of_step 256 n (omega arith) (omega (arith, ge)) in
      grind (arith, ge, some)
]

module _ (x : List ℕ) (c : ASN1Class) (k : Bool) (n : ℕ) (v : List ℕ) (h : ℕ) (e : Encoding x c k n v h) where
  -- an encoding whose identifier octets and length octets are the shortest is of the shortest form
  pub IsShortest-parts : HasShortest e.identifier e.len c k n (length v) → IsShortest x c k n v
  IsShortest-parts s = record {
    whole = e.whole ∙ (ap (λ z. z ++ (e.len ++ v)) s.identifier_is
        ∙ ap (λ z. shortest_identifier c k n ++ (z ++ v)) s.len_is);
  }

  -- where an encoding is of the shortest form, its identifier octets and its length octets are the shortest
  pub HasShortest-encoding : length x < 2 ^ 64 → IsShortest x c k n v →
      HasShortest e.identifier e.len c k n (length v)
  HasShortest-encoding small s =
      let i = shortest_identifier c k n in
      let l = shortest_length (length v) in
      let size : length v < 2 ^ 64 =
      omega (arith, small, ap length s.whole, length-append i (l ++ v), length-append l v) in
      let a = IsIdentifier-unique e.identifier i (e.len ++ v) (l ++ v) c c k k n n e.identifier_octets
      (IsIdentifier-shortest c k n) (sym e.whole ∙ s.whole) in
      let b =
      IsLength-unique e.len l v v (length v) (length v) e.length_octets (IsLength-shortest (length v) size) a.rest in
      record { identifier_is = a.octets; len_is = b.octets }
