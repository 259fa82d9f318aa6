-- For `parsed::header_between`: what it returns is right.
use Rattle.std.proofs.Common.{◌<◌, ◌^◌, length, inl, inr, arith}
use Rattle.std.proofs.lemmas.Bool.{false≢true}
use Rattle.asn1_blocks.proofs.PlacedHeaders.{HeaderFound-no_fault}
use Rattle.asn1_blocks.proofs.parsed.header_between.Goals as goal

pub returns-in-Err-2 : goal.returns-in-Err-2
returns-in-Err-2 c h found =
    let x = c.args.octets.now in
    let small : length x < 2 ^ 64 = omega arith in
    elim c.in-Err.ensures.refused [
      | inl memory ↦ absurd (false≢true (c.if-is_out_of_memory.ensures.1 memory))
      | inr fault ↦
          HeaderFound-no_fault x c.args.offset c.args.offset c.args.end h _ small c.requires.within found fault
    ]
