-- The segments of a constructed string, and the contents octets that it has when they are joined.
use Rattle.std.specs.Prelude.{◌≡◌, ◌==◌, ◌⊎◌, ◌&&◌, ℕ, ◌+◌, ◌<◌, ◌≤◌, Bool, true, false, if◌then◌else◌, List, [], ◌∷◌, ◌++◌, length, slice_range}
use Rattle.asn1_headers.specs.Indefinite.{begins_with_end}
use Rattle.asn1_headers.specs.declared.header.ASN1Class.TheVariants.{Universal}
use Rattle.asn1_headers.specs.declared.tags.TheConstants.{BIT_STRING, OCTET_STRING}
use Rattle.asn1_headers.specs.declared.whole_header.Header.{Header}
use Rattle.dump_walk.specs.Headers.{IsHeaderOfWhole, contents_in, size_in}
use Rattle.dump_walk.specs.Steps.{GoesTo}
use Rattle.dump_walk.specs.declared.cursor.End.{End}
use Rattle.dump_walk.specs.declared.cursor.Step.{Step}
use Rattle.dump_walk.specs.declared.cursor.Step.TheVariants.{Into, Out, Past}

-- the tag of segments: those of a BIT STRING are BIT STRINGs (X.690 8.6.4), those of others OCTET STRINGs (8.7.3, 8.23)
abbrev pub segment_tag : ℕ → ℕ
segment_tag tag = if tag == BIT_STRING then BIT_STRING else OCTET_STRING

-- the contents octets of no segments: of a BIT STRING that there are no unused bits
abbrev pub no_segments : ℕ → List ℕ
no_segments tag = if tag == BIT_STRING then 0 ∷ [] else []

-- bits with one segment more. Those before fill their octets (X.690 8.6.4.1), and the segment has its own unused bits,
-- at most 7, and 0 where it has no bits (8.6.2)
abbrev pub JoinsBits : List ℕ → List ℕ → List ℕ → Type 0
JoinsBits before segment after =
    (bits more : List ℕ) × (unused : ℕ) × (before ≡ 0 ∷ bits) × (segment ≡ unused ∷ more)
    × (unused ≤ 7) × (more ≡ [] → unused ≡ 0) × (after ≡ unused ∷ (bits ++ more))

-- contents octets of a string with the tag, and then with one segment more
abbrev pub Joins : ℕ → List ℕ → List ℕ → List ℕ → Type 0
Joins tag before segment after =
    ((tag == BIT_STRING) ≡ true × JoinsBits before segment after)
    ⊎ ((tag == BIT_STRING) ≡ false × (after ≡ before ++ segment))

-- the octets begin with a whole encoding that is a segment of a string with the tag, and has the header
abbrev pub IsSegmentHeader : ℕ → List ℕ → Header → Type 0
IsSegmentHeader tag octets header =
    IsHeaderOfWhole octets header × (header.class ≡ Universal) × (header.tag ≡ segment_tag tag)

-- octets, which end-of-contents octets may end or not, begin with these, or with a segment of a string with the tag: a
-- primitive one is joined to those before, and a constructed one gone into, since it holds others. A cursor goes on
-- behind it by the step
abbrev pub IsSegment : ℕ → List ℕ → Bool → Step → List ℕ → List ℕ → Type 0
IsSegment tag octets within (Into first size indefinite) before after =
    ((within && begins_with_end octets) ≡ false)
    × (header : Header) × IsSegmentHeader tag octets header
    × (header.constructed ≡ true) × (first ≡ header.size)
    × (size ≡ size_in octets header) × (indefinite ≡ header.is_indefinite) × (after ≡ before)
IsSegment tag octets within (Past size) before after =
    ((within && begins_with_end octets) ≡ false)
    × (header : Header) × IsSegmentHeader tag octets header × (header.constructed ≡ false)
    × (size ≡ header.size + header.announced) × Joins tag before (contents_in octets header) after
IsSegment tag octets within (Out size) before after =
    (within ≡ true) × (begins_with_end octets ≡ true) × (size ≡ 2) × (after ≡ before)

-- neither a segment nor the end begins the octets
abbrev pub HasNoSegment : ℕ → List ℕ → Bool → List ℕ → Type 0
HasNoSegment tag octets within before =
    (step : Step) (after : List ℕ) → IsSegment tag octets within step before after → ⊥

-- a segment more is joined
abbrev pub AddsSegment : ℕ → Bool → ℕ → ℕ → List ℕ → Step → List ℕ → List ℕ → Type 0
AddsSegment tag within offset depth left = IsSegment tag left within

-- contents octets of a string with the tag begin with segments alone, up to an offset, where contents octets with these
-- ends are open, the innermost first. Joined they are these
abbrev pub BeginWithSegments : ℕ → List ℕ → Bool → ℕ → List End → List ℕ → Type 0
BeginWithSegments tag contents indefinite = GoesTo (AddsSegment tag) contents indefinite (no_segments tag)

-- contents octets are segments to their end, which joined are these
abbrev pub AreSegmentsOf : ℕ → List ℕ → Bool → List ℕ → Type 0
AreSegmentsOf tag contents indefinite joined =
    (offset : ℕ) × BeginWithSegments tag contents indefinite offset [] joined

-- contents octets are no segments to their end: behind some, contents octets that have not ended go on with none
pub record HaveNoSegments (tag : ℕ) (contents : List ℕ) (indefinite : Bool) : Type 0 where
  pub offset : ℕ
  pub end : End
  pub around : List End
  pub before : List ℕ
  pub begin : BeginWithSegments tag contents indefinite offset (end ∷ around) before
  pub not_ended : end.is_indefinite ≡ false → 0 < length (slice_range contents offset end.offset)
  pub no_segment : HasNoSegment tag (slice_range contents offset end.offset) end.is_indefinite before
