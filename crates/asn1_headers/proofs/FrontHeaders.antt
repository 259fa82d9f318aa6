-- The header at the front of octets, or that there is none, for `whole_header::any_header` and
-- `whole_header::short_header`.
use Rattle.std.proofs.Common.{◌≡◌, ◌&&◌, ℕ, zero, suc, ◌+◌, ◌-◌, ◌%◌, ◌<◌, ◌≤◌, Bool, List, [], ◌∷◌, ◌++◌, inl, inr, length, take, drop, sym, ap, ◌∙◌, subst, arith, append_assoc, length-append}
use Rattle.std.specs.List.{slice_range}
use Rattle.std.proofs.lemmas.List.{drop_at, length-take-le, take-append-drop}
use Rattle.asn1_headers.specs.declared.error.ASN1DecodeErr.{ASN1DecodeErr}
use Rattle.asn1_headers.specs.declared.header.ASN1Class.{ASN1Class}
use Rattle.asn1_headers.specs.Fault.{OutOfMemoryOr}
use Rattle.asn1_headers.specs.declared.whole_header.Header.{Header}
use Rattle.asn1_headers.specs.Front.{BeginsWithHeader, HasNoHeader, KnowsParts}
use Rattle.asn1_headers.specs.Indefinite.{is_indefinite}
use Rattle.asn1_headers.proofs.HeaderSizes.{is_indefinite-append}
use Rattle.asn1_headers.specs.Header.{BeginsWithNo, IsIdentifier, IsIncomplete, IsLength, IsSomeIdentifier}
use Rattle.asn1_headers.specs.HeaderFault.{HeaderFault, no_identifier}
use Rattle.asn1_headers.proofs.Prefixes.{BeginsWithNo-append, IsIdentifier-unique}

-- what begins with no identifier octets begins with no header
pub HasNoHeader-no_identifier : (octets : List ℕ) → BeginsWithNo IsSomeIdentifier octets → HasNoHeader octets
HasNoHeader-no_identifier octets none header rest (identifier, len, is, (tag, i), l) q =
    let whole : octets ≡ identifier ++ (len ++ rest) =
    q ∙ (ap (λ z. z ++ rest) is ∙ append_assoc identifier len rest) in
    BeginsWithNo-append IsSomeIdentifier octets identifier (len ++ rest) tag none whole i

-- octets that have no length octets behind their identifier octets begin with no header
pub HasNoHeader-no_length :
    (octets : List ℕ) (s m : ℕ) → s ≤ length octets → IsSomeIdentifier (take s octets) m
    → BeginsWithNo IsLength (drop s octets) →
    HasNoHeader octets
HasNoHeader-no_length octets s m fits (c, j, found) none header rest (identifier, len, is, (tag, (d, k, i)), (n, l)) q =
    let whole : octets ≡ identifier ++ (len ++ rest) =
    q ∙ (ap (λ z. z ++ rest) is ∙ append_assoc identifier len rest) in
    let parts : take s octets ++ drop s octets ≡ identifier ++ (len ++ rest) = take-append-drop s octets ∙ whole in
    let same =
    IsIdentifier-unique (take s octets) identifier (drop s octets) (len ++ rest) c d j k m tag found i parts in
    let size : length identifier ≡ s = sym (ap length same.octets) ∙ length-take-le s octets fits in
    let behind : drop s octets ≡ len ++ rest = ap (drop s) whole ∙ drop_at identifier (len ++ rest) s size in
    BeginsWithNo-append IsLength (drop s octets) len rest n none behind l

-- where octets begin with no identifier octets, their header is at fault
pub HeaderFault-no_identifier : (place : ℕ) (octets : List ℕ) (e : ASN1DecodeErr)
    → OutOfMemoryOr (IsIncomplete IsSomeIdentifier octets) e
    → OutOfMemoryOr (HeaderFault place octets) e
HeaderFault-no_identifier place octets e (inl memory) = inl memory
HeaderFault-no_identifier place octets e (inr (f, missing)) =
    inr (subst (HeaderFault place octets) (sym f) (no_identifier missing))

-- identifier octets up to an index stand at the front
pub IsIdentifier-take : (octets : List ℕ) (index : ℕ) (c : ASN1Class) (k : Bool) (n : ℕ)
    → IsIdentifier (slice_range octets 0 index) c k n
    → IsIdentifier (take index octets) c k n
IsIdentifier-take octets index c k n i =
    let e : index - 0 ≡ index = omega arith in
    subst (λ z. IsIdentifier (take z octets) c k n) e i

-- identifier octets that begin with an octet of a low tag number are that octet
pub IsIdentifier-low_tag : (b d : ℕ) (octets : List ℕ) (size : ℕ) (c : ASN1Class) (k : Bool) (n : ℕ) → b % 32 < 31
    → 0 < size
    → IsIdentifier (take size (b ∷ d ∷ octets)) c k n → IsIdentifier (b ∷ []) c k n
IsIdentifier-low_tag b d octets zero c k n low some i = absurd (omega (arith, some))
IsIdentifier-low_tag b d octets (suc zero) c k n low some i = i
IsIdentifier-low_tag b d octets (suc (suc size)) c k n low some i = absurd (omega (arith, low, i.0))

module _ (rest : List ℕ) (size announced : ℕ) (class : ASN1Class) (constructed : Bool) (tag : ℕ)
    (front : BeginsWithHeader rest size announced class constructed tag) where
  -- a header has the octets of both its parts
  pub length-header_parts : length front.identifier + length front.len ≡ size
  length-header_parts = omega (
    arith,
    ap length front.front_is,
    length-append front.identifier front.len,
    length-take-le size rest front.within,
  )

  -- octets that begin with a header are its identifier octets, its length octets and what follows them
  pub append-header_parts : rest ≡ front.identifier ++ (front.len ++ drop size rest)
  append-header_parts =
      sym (take-append-drop size rest)
      ∙ (ap (λ z. z ++ drop size rest) front.front_is ∙ append_assoc front.identifier front.len (drop size rest))

-- a header that was found by its identifier octets, and by what is behind them, tells its parts
pub KnowsParts-of : (octets : List ℕ) (h : Header) → h.identifier ≤ length octets
    → IsIdentifier (take h.identifier octets) h.class h.constructed h.tag
    → h.has_length_80 ≡ is_indefinite (drop h.identifier octets)
    → h.is_indefinite ≡ (h.constructed && h.has_length_80) → KnowsParts octets h
KnowsParts-of octets h fits is form indefinite front =
    let s = h.identifier in
    let behind = front.len ++ drop h.size octets in
    let same = IsIdentifier-unique (take s octets) front.identifier (drop s octets) behind h.class h.class h.constructed
    h.constructed h.tag h.tag is front.fields (take-append-drop s octets
    ∙ append-header_parts octets h.size h.announced h.class h.constructed h.tag front) in (
      sym (length-take-le s octets fits) ∙ ap length same.octets,
      form ∙ (ap is_indefinite same.rest ∙ is_indefinite-append front.len (drop h.size octets) h.announced
          front.length_octets),
      indefinite,
    )
