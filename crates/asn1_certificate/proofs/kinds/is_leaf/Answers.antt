-- For `kinds::is_leaf`: what it returns is right.
use Rattle.std.proofs.Common.{sym, ap, ◌∙◌}
use Rattle.asn1_outline.specs.Structure.{tree_at}
use Rattle.asn1_certificate.specs.Sequences.{is_leaf}
use Rattle.asn1_certificate.proofs.EntryTrees.{is_leaf-tested, slice_get-past, tree_at-past}
use Rattle.asn1_certificate.proofs.kinds.is_leaf.Goals as goal

pub returns-in-Some : goal.returns-in-Some
returns-in-Some c ns d =
    let b = c.in-Some.block in
    is_leaf-tested b.octets.now (tree_at ns c.args.index) b.entry c.args.tag c.is_universal.result
    (c.in-Some.ensures.tree ns d) c.requires.small c.requires.leaf c.is_universal.ensures

pub returns-in-None : goal.returns-in-None
returns-in-None c ns d =
    let o = c.args.outline.now in
    let past = slice_get-past o.entries.items c.args.index (sym c.in-None.ensures.entry) in
    sym (ap (is_leaf c.args.tag) (tree_at-past o.octets.now o.entries.items ns c.args.index o.document d past)
    ∙ c.requires.not_null)
