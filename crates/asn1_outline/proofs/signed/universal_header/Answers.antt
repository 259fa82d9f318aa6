-- For `signed::universal_header`: what it returns is right.
use Rattle.std.proofs.Common.{◌≡◌, subst}
use Rattle.std.proofs.lemmas.Bool.{false≢true}
use Rattle.std.proofs.lemmas.Option.{MatchOption-at_none, MatchOption-at_some}
use Rattle.asn1_blocks.specs.Places.{HeaderFound}
use Rattle.asn1_blocks.specs.declared.parsed.PlacedHeader.{PlacedHeader}
use Rattle.asn1_outline.specs.TripleHeaders.{IsUniversalHeader}
use Rattle.asn1_outline.proofs.ShapesAlone.{HeaderFound-unique}
use Rattle.asn1_outline.proofs.signed.universal_header.Goals as goal

pub returns-then-not-is_universal : goal.returns-then-not-is_universal
returns-then-not-is_universal c h at =
    let x = c.args.octets.now in
    let offset = c.args.offset in
    let end = c.args.end in
    let g = c.in-Some.header in
    let found =
    MatchOption-at_some ((z : PlacedHeader) → HeaderFound x offset end z → ⊥)
    (HeaderFound x offset end) g c.in-Some.is c.in_ok-header.ensures in
    let same : h ≡ g = HeaderFound-unique x offset end h g c.requires.within at.0 found in
    let own : IsUniversalHeader c.args.tag g = subst (IsUniversalHeader c.args.tag) same at.1 in
    false≢true (c.if-not-is_universal.ensures.1 own)

pub returns-in_default : goal.returns-in_default
returns-in_default c h at =
    let x = c.args.octets.now in
    let none =
    MatchOption-at_none ((z : PlacedHeader) → HeaderFound x c.args.offset c.args.end z → ⊥)
    (HeaderFound x c.args.offset c.args.end) c.in_default.is c.in_ok-header.ensures in
    none h at.0
