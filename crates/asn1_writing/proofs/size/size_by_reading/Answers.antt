-- For `size::size_by_reading`: `unreachable` may be called and what it returns is right (`sized`, `refused`).
use Rattle.std.proofs.Common.{◌≡◌, ◌-◌, ◌<◌, ◌∙◌, None, Some, inl, inr, sym, arith}
use Rattle.std.proofs.lemmas.List.Elements.{All-from_get_or}
use Rattle.std.proofs.lemmas.Result.{err_from_is_err_and}
use Rattle.std.specs.List.{slice_range}
use Rattle.asn1_blocks.specs.View.{view}
use Rattle.asn1_writing.proofs.LeafSizes.{AreOctets-slice_range, AreWrittenOf-encoded, own_fault-read}
use Rattle.asn1_writing.proofs.size.size_by_reading.Goals as goal

pub returns-in_err-block-clause-refused : goal.returns-in_err-block-clause-refused
returns-in_err-block-clause-refused c =
    let p = err_from_is_err_and c.from_residual.result c.from_residual.ensures.1 in
    rw (p.1, p.2) c.in_err-block.ensures.refused

pub returns-in-Ok-clause-sized : goal.returns-in-Ok-clause-sized
returns-in-Ok-clause-sized c =
    let x = c.args.octets.now in
    let h = c.args.header in
    let o = c.args.offset in
    let y = slice_range x o h.end in
    let (limit, found, within) = c.requires.found in
    let encoded = c.in_ok-block.ensures.encoded y (h.start - o) found.encoding in
    AreWrittenOf-encoded o y h.class h.constructed h.tag (slice_range x h.start h.end) (h.start - o) c.in-Ok.size
    (view c.in_ok-block.block) c.requires.closed found.encoding encoded c.in-Ok.ensures.size

pub unreachable-requires : goal.unreachable-requires
unreachable-requires c =
    let x = c.args.octets.now in
    let h = c.args.header in
    let o = c.args.offset in
    let y = slice_range x o h.end in
    let (limit, found, within) = c.requires.found in
    let encoded = c.in_ok-block.ensures.encoded y (h.start - o) found.encoding in
    let all = All-from_get_or (λ b. b < 256) x 0 (λ k h. omega (arith, c.type_inv.octets k)) in
    let none = own_fault-read o y (view c.in_ok-block.block) (AreOctets-slice_range x o h.end all) encoded in
    elim c.in-Err.ensures.refused [
      | inl memory ↦ c.in_default.not-OutOfMemory memory
      | inr fault ↦ let e : None ≡ Some c.in-Err.e = sym none ∙ fault in cc
    ]
