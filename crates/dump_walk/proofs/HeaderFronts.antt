-- Headers at the front of octets, of which there is one at most.
use Rattle.std.proofs.Common.{◌≡◌, ℕ, ◌<◌, ◌+◌, ◌&&◌, Bool, List, ◌++◌, drop, length, slice_range, take, sym, ap, ◌∙◌, arith}
use Rattle.std.specs.Prelude.{not}
use Rattle.std.proofs.lemmas.List.{length-append, length-take-le, take-append-drop}
use Rattle.asn1_headers.specs.declared.header.ASN1Class.{ASN1Class}
use Rattle.asn1_headers.proofs.Prefixes.{IsIdentifier-not_empty, IsIdentifier-unique, IsLength-unique}
use Rattle.asn1_headers.specs.Front.{BeginsWithHeader, HasNoHeader}
use Rattle.asn1_headers.specs.Indefinite.{is_indefinite}
use Rattle.asn1_headers.specs.declared.whole_header.Header.{Header}
use Rattle.asn1_headers.proofs.FrontHeaders.{append-header_parts}
use Rattle.dump_walk.specs.Headers.{IsHeaderOf, contents_in, is_stray}

-- a header has as many octets as its identifier octets and its length octets are
pub size-length_header :
    (octets : List ℕ) (s n : ℕ) (c : ASN1Class) (k : Bool) (t : ℕ) (h : BeginsWithHeader octets s n c k t) →
    s ≡ length h.identifier + length h.len
size-length_header octets s n c k t h =
    sym (length-take-le s octets h.within) ∙ (ap length h.front_is ∙ length-append h.identifier h.len)

-- a header is not empty
pub BeginsWithHeader-some :
    (octets : List ℕ) (s n : ℕ) (c : ASN1Class) (k : Bool) (t : ℕ) → BeginsWithHeader octets s n c k t → 0 < s
BeginsWithHeader-some octets s n c k t h =
    omega (arith, size-length_header octets s n c k t h, IsIdentifier-not_empty h.identifier c k t h.fields)

-- what two headers at the front of the same octets share
pub record SameHeader (octets : List ℕ) (header other : Header) : Type 0 where
  pub end : header.size + header.announced ≡ other.size + other.announced
  pub class : header.class ≡ other.class
  pub constructed : header.constructed ≡ other.constructed
  pub tag : header.tag ≡ other.tag
  pub stray : is_stray header ≡ is_stray other
  pub contents : contents_in octets header ≡ contents_in octets other

-- two headers at the front of the same octets have the same fields
pub SameHeader-front :
    (octets : List ℕ) (header other : Header) → IsHeaderOf octets header → IsHeaderOf octets other →
    SameHeader octets header other
SameHeader-front octets header other (h, parts, form) (g, others, same) =
    let whole =
    sym (append-header_parts octets header.size header.announced header.class header.constructed header.tag h)
    ∙ append-header_parts octets other.size other.announced other.class other.constructed other.tag g in
    let i =
    IsIdentifier-unique h.identifier g.identifier (h.len ++ drop header.size octets)
    (g.len ++ drop other.size octets) header.class other.class header.constructed other.constructed header.tag other.tag
    h.fields g.fields whole
    in
    let l =
    IsLength-unique h.len g.len (drop header.size octets) (drop other.size octets) header.announced other.announced
    h.length_octets g.length_octets i.rest in
    let size : header.size ≡ other.size =
    omega (
      arith,
      size-length_header octets header.size header.announced header.class header.constructed header.tag h,
      size-length_header octets other.size other.announced other.class other.constructed other.tag g,
      ap length i.octets,
      ap length l.octets,
    )
    in
    let end : header.size + header.announced ≡ other.size + other.announced = omega (arith, size, l.number) in
    let is_80 : header.has_length_80 ≡ other.has_length_80 =
    (parts h).1 ∙ (ap is_indefinite l.octets ∙ sym (others g).1) in
    record {
      end = end;
      class = i.class;
      constructed = i.constructed;
      tag = i.tag;
      stray = ap (λ z. not z && header.has_length_80) i.constructed ∙ ap (λ z. not other.constructed && z) is_80;
      contents = ap (λ z. slice_range octets z (header.size + header.announced)) size
          ∙ ap (slice_range octets other.size) end;
    }

-- octets that begin with no header do not begin with a header
pub HasNoHeader-front : (octets : List ℕ) (header : Header) → HasNoHeader octets → IsHeaderOf octets header → ⊥
HasNoHeader-front octets header none (h, parts, form) =
    none (take header.size octets) (drop header.size octets) (
      h.identifier,
      h.len,
      h.front_is,
      (header.tag, (header.class, header.constructed, h.fields)),
      (header.announced, h.length_octets),
    ) (sym (take-append-drop header.size octets))
