-- Segments of a string that are joined one after another, for `segments`.
use Rattle.std.proofs.Common.{◌≡◌, ℕ, ◌&&◌, ◌==◌, Bool, true, false, List, inl, inr, sym, ap, ◌∙◌, subst, arith}
use Rattle.std.proofs.lemmas.Result.{IfOk-weaker}
use Rattle.std.specs.Prelude.{IfOk, Result}
use Rattle.asn1_headers.specs.Indefinite.{begins_with_end}
use Rattle.asn1_headers.specs.declared.header.ASN1Class.TheVariants.{Universal}
use Rattle.asn1_headers.specs.declared.tags.TheConstants.{BIT_STRING}
use Rattle.asn1_headers.specs.declared.whole_header.Header.{Header}
use Rattle.dump_walk.specs.Headers.{HasNoWhole, IsHeaderOf, contents_in}
use Rattle.dump_walk.specs.Segments.{HasNoSegment, IsSegment, Joins, JoinsBits, segment_tag}
use Rattle.dump_walk.specs.Steps.{Takes}
use Rattle.dump_walk.specs.declared.cursor.Left.{Left}
use Rattle.dump_walk.specs.declared.cursor.Step.{Step}
use Rattle.dump_walk.specs.declared.cursor.Step.TheVariants.{Into, Out, Past}
use Rattle.dump_walk.proofs.HeaderFronts.{BeginsWithHeader-some, SameHeader-front}

-- a step over a segment, or over the end of one, takes some octets or leaves contents octets
pub Takes-segment :
    (tag : ℕ) (left : Left) (step : Step) (before after : List ℕ) →
    IsSegment tag left.octets.now left.is_indefinite step before after → Takes step left
Takes-segment tag left (Into first size indefinite) before after
    (guard, header, ((is, whole, stray), class, number), constructed, first_is, size_is, form, same) =
    let some = BeginsWithHeader-some left.octets.now header.size header.announced header.class header.constructed
    header.tag is.0 in
    (omega (arith, first_is, some), omega (arith, whole, some))
Takes-segment tag left (Past size) before after
    (guard, header, ((is, whole, stray), class, number), primitive, size_is, joins) =
    let some = BeginsWithHeader-some left.octets.now header.size header.announced header.class header.constructed
    header.tag is.0 in
    (omega (arith, size_is, some), omega (arith, whole, some))
Takes-segment tag left (Out size) before after is = tt

module _ (tag : ℕ) (octets : List ℕ) (within : Bool) (before : List ℕ)
    (guard : (within && begins_with_end octets) ≡ false) where
  -- no end begins the octets
  HasNoEnd-guard : within ≡ true → begins_with_end octets ≡ true → ⊥
  HasNoEnd-guard is begins =
      let never : false ≡ true = sym guard ∙ (ap (λ z. z && begins_with_end octets) is ∙ begins) in
      absurd (cc never)

  -- where no whole encoding begins the octets, no segment does
  pub HasNoSegment-no_whole : HasNoWhole octets → HasNoSegment tag octets within before
  HasNoSegment-no_whole none (Into first size indefinite) after s = none s.1 s.2.0
  HasNoSegment-no_whole none (Past size) after s = none s.1 s.2.0
  HasNoSegment-no_whole none (Out size) after s = HasNoEnd-guard s.0 s.1

  module _ (header : Header) (is : IsHeaderOf octets header) where
    -- an encoding of another type is no segment
    pub HasNoSegment-other_type :
        (header.class ≡ Universal → header.tag ≡ segment_tag tag → ⊥) → HasNoSegment tag octets within before
    HasNoSegment-other_type none (Into first size indefinite) after s =
        let same = SameHeader-front octets header s.1 is s.2.0.0 in
        none (same.class ∙ s.2.1) (same.tag ∙ s.2.2)
    HasNoSegment-other_type none (Past size) after s =
        let same = SameHeader-front octets header s.1 is s.2.0.0 in
        none (same.class ∙ s.2.1) (same.tag ∙ s.2.2)
    HasNoSegment-other_type none (Out size) after s = HasNoEnd-guard s.0 s.1

    -- a primitive encoding that cannot be joined to those before it is no segment
    pub HasNoSegment-not_joined :
        header.constructed ≡ false → ((after : List ℕ) → Joins tag before (contents_in octets header) after → ⊥) →
        HasNoSegment tag octets within before
    HasNoSegment-not_joined primitive none (Into first size indefinite) after s =
        let same = SameHeader-front octets header s.1 is s.2.0.0 in
        let never : false ≡ true = sym primitive ∙ (same.constructed ∙ s.3) in
        absurd (cc never)
    HasNoSegment-not_joined primitive none (Past size) after s =
        let same = SameHeader-front octets header s.1 is s.2.0.0 in
        none after (subst (λ z. Joins tag before z after) (sym same.contents) s.5)
    HasNoSegment-not_joined primitive none (Out size) after s = HasNoEnd-guard s.0 s.1

-- where bits cannot be joined, the contents octets of a BIT STRING cannot be joined
pub IfOk-joins_bits :
    {E : Type 0} (r : Result Bool E) (tag : ℕ) (before segment : List ℕ) → tag ≡ BIT_STRING →
    IfOk r (λ done. done ≡ false → (after : List ℕ) → JoinsBits before segment after → ⊥) →
    IfOk r (λ done. done ≡ false → (after : List ℕ) → Joins tag before segment after → ⊥)
IfOk-joins_bits r tag before segment e h = IfOk-weaker r _ _ each h
  where
    each :
        (done : Bool) → (done ≡ false → (after : List ℕ) → JoinsBits before segment after → ⊥) → done ≡ false →
        (after : List ℕ) → Joins tag before segment after → ⊥
    each done none is after (inl (k, bits)) = none is after bits
    each done none is after (inr (k, same)) =
        let never : true ≡ false = sym (ap (λ z. z == BIT_STRING) e) ∙ k in
        absurd (cc never)
