-- For `signed::universal_at`: what it returns is right.
use Rattle.std.proofs.Common.{◌≡◌, ap, ◌∙◌}
use Rattle.std.proofs.lemmas.Option.{MatchOption-at_none, MatchOption-at_some}
use Rattle.simple_asn1.specs.Places.{HasNoEncodingAt}
use Rattle.asn1_records.specs.Contents.{IsHeaderAt}
use Rattle.asn1_records.specs.declared.record.Block.{Block}
use Rattle.asn1_records.proofs.TripleParts.{IsHeaderAt-unique}
use Rattle.asn1_records.proofs.signed.universal_at.Goals as goal
use Rattle.asn1_records.proofs.signed.universal_at.Goals.{else-record-eq0-via-then-record-eq0+else-record-tag, else-record-eq0-via-else-record-eq0}

pub returns-in_default : goal.returns-in_default
returns-in_default c r (at, class, number) =
    let x = c.args.octets.now in
    let o = c.args.offset in
    let none = MatchOption-at_none (HasNoEncodingAt x o) (IsHeaderAt x o) c.in_default.is c.in_ok-record.ensures in
    none at.0 at.1

pub returns : goal.returns
returns c r (at, class, number) =
    let x = c.args.octets.now in
    let o = c.args.offset in
    let s = c.in-Some.record in
    let found = MatchOption-at_some (HasNoEncodingAt x o) (IsHeaderAt x o) s c.in-Some.is c.in_ok-record.ensures in
    let same : s ≡ r = IsHeaderAt-unique x o s r found at in
    elim c.else-record-eq0.branch [
      | else-record-eq0-via-then-record-eq0+else-record-tag w ↦
          w.if-record-tag.false (ap (λ (z : Block). z.tag) same ∙ number)
      | else-record-eq0-via-else-record-eq0 w ↦
          w.if-record-eq0.false (ap (λ (z : Block). z.tag_class) same ∙ class)
    ]
