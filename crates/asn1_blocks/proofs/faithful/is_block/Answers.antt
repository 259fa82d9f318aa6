-- For `faithful::is_block`: what it returns is right.
use Rattle.std.proofs.Common.{◌≡◌, ◌<◌, ◌^◌, true, false, length, sym, subst, arith}
use Rattle.std.proofs.lemmas.Bool.{false≢true}
use Rattle.std.proofs.lemmas.Grind.{common_steps}
use Rattle.asn1_headers.specs.Fault.{fault_of}
use Rattle.asn1_blocks.specs.Grammar.{IsDocument, FirstFault}
use Rattle.asn1_blocks.proofs.Frames.Opening.{OutOfMemoryOr-fault}
use Rattle.asn1_blocks.proofs.OneBlock.{IsBlock-one, length-one_block, FirstFault-not_block}
use Rattle.asn1_blocks.proofs.faithful.is_block.Goals as goal
use Rattle.asn1_blocks.proofs.faithful.is_block.Goals.{in-OutOfMemory, in_default}

pub returns-in-Ok : goal.returns-in-Ok
returns-in-Ok c =
    let blocks = c.blocks-in-Ok.result.now in
    let read = subst (IsDocument c.args.octets.now) (sym c.blocks-in-Ok.ensures.trees) c.in-Ok.ensures.document in
    let there = IsBlock-one c.args.octets.now blocks read in
    let only = length-one_block c.args.octets.now blocks read in
    grind (arith, common_steps, there, only)

pub returns-after-e : goal.returns-after-e
returns-after-e c = elim c.match-e.branch [
  | in-OutOfMemory w ↦ grind (arith, common_steps)
  | in_default w ↦
      let small : length c.args.octets.now < 2 ^ 64 = grind (arith, common_steps) in
      let fault =
      OutOfMemoryOr-fault (FirstFault c.args.octets.now)
      c.in-Err.e c.in-Err.ensures.fault w.in_default.not-OutOfMemory in
      let no = FirstFault-not_block c.args.octets.now (fault_of c.in-Err.e) small fault in
      rw w.result-is (λ (t : false ≡ true). absurd (false≢true t), λ b. absurd (no b))
]
