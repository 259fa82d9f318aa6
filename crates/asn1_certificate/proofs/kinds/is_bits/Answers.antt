-- For `kinds::is_bits`: what it returns is right.
use Rattle.std.proofs.Common.{sym, ap}
use Rattle.asn1_outline.specs.Structure.{tree_at}
use Rattle.asn1_certificate.specs.Sequences.{is_bits}
use Rattle.asn1_certificate.proofs.EntryTrees.{slice_get-past, tree_at-past}
use Rattle.asn1_certificate.proofs.kinds.is_bits.Goals as goal

pub returns-in-Some : goal.returns-in-Some
returns-in-Some c ns d = c.is_bits_block.ensures (tree_at ns c.args.index) (c.in-Some.ensures.tree ns d)

pub returns-in-None : goal.returns-in-None
returns-in-None c ns d =
    let o = c.args.outline.now in
    let past = slice_get-past o.entries.items c.args.index (sym c.in-None.ensures.entry) in
    sym (ap (is_bits c.args.tag) (tree_at-past o.octets.now o.entries.items ns c.args.index o.document d past))
