-- For `moment::moment_at`: what it returns is right.
use Rattle.std.proofs.Common.{◌≡◌, ◌⊎◌, ℕ, ◌<◌, ◌^◌, List, inl, inr, refl, ap, subst, ◌∙◌, arith}
use Rattle.asn1_headers.specs.Fault.{fault_of}
use Rattle.asn1_headers.specs.declared.tags.TheConstants.{GENERALIZED_TIME, UTC_TIME}
use Rattle.asn1_leaves.specs.Contents.GeneralizedTime.{GeneralizedTimeContents}
use Rattle.asn1_leaves.specs.Contents.Moment.{Moment, moment_of}
use Rattle.asn1_leaves.specs.Contents.UtcTime.{UtcTimeContents}
use Rattle.simple_asn1.specs.Contents.{leaf_tag}
use Rattle.simple_asn1.specs.Tree.{Leaf, generalized_time, utc_time}
use Rattle.asn1_records.specs.Status.{status_of}
use Rattle.asn1_records.specs.Values.{IsLeafAt, IsMomentAt, IsMomentTag, UniversalAt, moment_is_missing, moment_was_found}
use Rattle.asn1_records.proofs.OffsetLeaves.{IsMissing-not_tag, IsMissing-fault, IsLeafAt-universal, IsMissing-nothing}
use Rattle.asn1_records.proofs.moment.moment_at.Goals as goal
use Rattle.asn1_blocks.proofs.Leaves.{LeafFault-generalized_time, LeafFault-utc_time}
use Rattle.asn1_outline.proofs.Values.{IsCapped-small}

-- a moment at an offset is a leaf there
IsLeafAt-moment : (octets : List ℕ) (offset : ℕ) → (m : Moment) × IsMomentAt octets offset m →
    (l : Leaf) × IsMomentTag (leaf_tag l) × IsLeafAt octets offset l
IsLeafAt-moment octets offset (m, inl is) = (utc_time m, inl refl, is)
IsLeafAt-moment octets offset (m, inr is) = (generalized_time m, inr refl, is)

-- the tag number of a moment is below 2 ^ 64
IsMomentTag-lt : (tag : ℕ) → IsMomentTag tag → tag < 2 ^ 64
IsMomentTag-lt tag (inl e) = omega (arith, e)
IsMomentTag-lt tag (inr e) = omega (arith, e)

pub returns-in-Err : goal.returns-in-Err
returns-in-Err c =
    let octets = c.args.octets.now in
    let offset = c.args.offset in
    let none = c.no_moment.ensures in
    moment_is_missing
    (IsMissing-nothing octets offset ((m : Moment) × IsMomentAt octets offset m) IsMomentTag
    (IsLeafAt-moment octets offset) c.in-Err.status c.no_moment.result.status
    c.in-Err.ensures.missing none.status) none.fields

pub returns-in-Ok-Some : goal.returns-in-Ok-Some
returns-in-Ok-Some c =
    let octets = c.args.octets.now in
    let offset = c.args.offset in
    let v = c.in-Ok.found.1.now in
    let m = moment_of c.in-Ok-Some.d in
    let (n, u, number) = c.in-Ok.ensures.found in
    let at = λ (k : ℕ) (e : n ≡ k). subst (λ z. UniversalAt octets offset z v) e u in
    let tag = c.in-Ok.found.0 in
    let means : ((tag ≡ UTC_TIME) × UtcTimeContents m v) ⊎ ((tag ≡ GENERALIZED_TIME) × GeneralizedTimeContents m v) =
    rw c.in-Ok-Some.field-0-is at c.in-Ok-Some.ensures.found in
    let is : IsMomentAt octets offset m = elim means [
      | inl (tag, means) ↦
          let same : n ≡ UTC_TIME = IsCapped-small n c.in-Ok.found.0 UTC_TIME number tag (omega arith) in
          inl (IsLeafAt-universal octets offset (utc_time m) v (at 23 same) means)
      | inr (tag, means) ↦
          let same : n ≡ GENERALIZED_TIME =
          IsCapped-small n c.in-Ok.found.0 GENERALIZED_TIME number tag (omega arith) in
          inr (IsLeafAt-universal octets offset (generalized_time m) v (at 24 same) means)
    ] in
    moment_was_found c.moment_answer.ensures.status m is c.moment_answer.ensures.moment

pub returns-in-Ok-None : goal.returns-in-Ok-None
returns-in-Ok-None c =
    let octets = c.args.octets.now in
    let offset = c.args.offset in
    let none = c.no_moment-in-Ok-None.ensures in
    let (n, u, number) = c.in-Ok.ensures.found in
    let other : IsMomentTag c.in-Ok.found.0 → ⊥ = rw c.in-Ok-None.field-0-is at c.in-Ok-None.ensures.found in
    moment_is_missing
    (IsMissing-not_tag octets offset ((m : Moment) × IsMomentAt octets offset m) IsMomentTag
    (IsLeafAt-moment octets offset) c.no_moment-in-Ok-None.result.status n
    c.in-Ok.found.0 c.in-Ok.found.1.now u number IsMomentTag-lt other none.status) none.fields

pub returns-in-Err-time_of : goal.returns-in-Err-time_of
returns-in-Err-time_of c =
    let octets = c.args.octets.now in
    let offset = c.args.offset in
    let v = c.in-Ok.found.1.now in
    let f = fault_of c.in-Err-time_of.e in
    let none = c.no_moment-in-Err-time_of.ensures in
    let (n, u, number) = c.in-Ok.ensures.found in
    let outcome = none.status ∙ c.status_of_fault.ensures in
    elim c.in-Err-time_of.ensures.refused [
      | inl memory ↦ moment_is_missing (inl (outcome ∙ ap (λ z. status_of (fault_of z)) memory)) none.fields
      | inr (inl (tag, fault)) ↦
          let same : n ≡ UTC_TIME = IsCapped-small n c.in-Ok.found.0 UTC_TIME number tag (omega arith) in
          moment_is_missing
          (IsMissing-fault octets offset ((m : Moment) × IsMomentAt octets offset m) IsMomentTag
          (IsLeafAt-moment octets offset)
          c.no_moment-in-Err-time_of.result.status n v (inl same) u f
          (LeafFault-utc_time _ _ _ same fault) outcome) none.fields
      | inr (inr (tag, fault)) ↦
          let same : n ≡ GENERALIZED_TIME =
          IsCapped-small n c.in-Ok.found.0 GENERALIZED_TIME number tag (omega arith) in
          moment_is_missing
          (IsMissing-fault octets offset ((m : Moment) × IsMomentAt octets offset m) IsMomentTag
          (IsLeafAt-moment octets offset)
          c.no_moment-in-Err-time_of.result.status n v (inr same) u f
          (LeafFault-generalized_time _ _ _ same fault) outcome)
          none.fields
    ]
