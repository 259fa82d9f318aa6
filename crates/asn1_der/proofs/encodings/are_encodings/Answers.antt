-- For `encodings::are_encodings`: what it returns is right.
use Rattle.std.proofs.Common.{◌≡◌, ◌∙◌, [], ap, arith, length}
use Rattle.std.proofs.lemmas.List.{nil_from_length}
use Rattle.asn1_der.specs.Departures.{no_more}
use Rattle.asn1_der.proofs.Fronts.{AreEncodings-none_here}
use Rattle.asn1_der.proofs.encodings.are_encodings.Goals as goal

pub returns-then-is_empty : goal.returns-then-is_empty
returns-then-is_empty c =
    let rest = c.loop-encoding.encodings.rest.now in
    let unended = c.loop-encoding.unended in
    let same = c.loop-encoding.invariant.same in
    let (none, left) = c.in_default.ensures.steps in
    let size : length rest ≡ 0 = grind (arith, c.is_empty.ensures, c.if-is_empty.true, ap length left) in
    let nil : rest ≡ [] = nil_from_length rest size in (
      λ t. let zero : unended ≡ 0 = grind (arith, t) in same.1 (no_more zero nil),
      λ a. let zero : unended ≡ 0 = (AreEncodings-none_here unended rest none (same.0 a)).0 in grind (arith, zero),
    )

pub returns-else-is_empty : goal.returns-else-is_empty
returns-else-is_empty c =
    let rest = c.loop-encoding.encodings.rest.now in
    let unended = c.loop-encoding.unended in
    let (none, left) = c.in_default.ensures.steps in (
      λ t. absurd cc,
      λ a.
          let nil : rest ≡ [] =
          (AreEncodings-none_here unended rest none (c.loop-encoding.invariant.same.0 a)).1 in
          let size : length c.next.new.self.rest.now ≡ 0 = ap length (left ∙ nil) in
          grind (arith, c.is_empty.ensures, size),
    )
