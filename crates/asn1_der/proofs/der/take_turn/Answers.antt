-- For `der::take_turn`: what it returns is right and `header_within` may be called.
use Rattle.std.proofs.Common.{◌≡◌, ◌≢◌, ◌-◌, ◌<◌, ◌^◌, arith, false, inl, inr, length, reverse, true}
use Rattle.std.specs.List.{slice_range}
use Rattle.asn1_blocks.proofs.ReadSteps.{length-slice_range}
use Rattle.asn1_der.proofs.DerEncodings.{AreDer-no_header_fault}
use Rattle.asn1_der.proofs.Turns.{AreEnds-le}
use Rattle.asn1_der.proofs.der.take_turn.Goals as goal

pub header_within-requires-clause-more : goal.header_within-requires-clause-more
header_within-requires-clause-more c =
    let w = c.args.place.now in
    let other : w.index ≢ w.end = c.if-place.false in
    omega (arith, c.requires.0, other)

pub header_within-requires-clause-within : goal.header_within-requires-clause-within
header_within-requires-clause-within c =
    let w = c.args.place.now in
    AreEnds-le w.end (reverse w.outer.items) (length c.args.octets.now) c.requires.1

pub returns-else-is_out_of_memory : goal.returns-else-is_out_of_memory
returns-else-is_out_of_memory c p =
    let x = c.args.octets.now in
    let w = c.args.place.now in
    let small : length x < 2 ^ 64 = omega arith in
    let within = AreEnds-le w.end (reverse w.outer.items) (length x) c.requires.1 in
    let other : w.index ≢ w.end = c.if-place.false in
    elim c.in-Err.ensures.refused [
      | inl memory ↦ let is : c.is_out_of_memory.result ≡ true = c.is_out_of_memory.ensures.1 memory in
          let not : c.is_out_of_memory.result ≡ false = c.if-is_out_of_memory.false in
          absurd cc
      | inr fault ↦
          let size = length-slice_range x w.index w.end (omega (arith, c.requires.0)) within in
          AreDer-no_header_fault (w.index - w.index) (slice_range x w.index w.end) _
          (omega (arith, size, within, small)) (omega (arith, size, c.requires.0, other)) fault p.0
    ]
