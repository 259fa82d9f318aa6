-- For `canonical::is_clearly_canonical_universal`: what it returns is right, and the contents octets lie in the
-- document.
use Rattle.std.proofs.Common.{sym, ◌∙◌}
use Rattle.asn1_blocks.proofs.Leaves.{is_group_tag-group}
use Rattle.asn1_outline.proofs.CanonicalEntries.{HasCanonicalAt-group, HasCanonicalAt-leaf, HasHeaderAt-within}
use Rattle.asn1_outline.proofs.canonical.is_clearly_canonical_universal.Goals as goal

pub returns-then-is_group_tag : goal.returns-then-is_group_tag
returns-then-is_group_tag c constructed =
    let r = c.args.entry.now in
    HasCanonicalAt-group c.args.octets.now r c.requires.shortest
    (is_group_tag-group r.tag (sym c.is_group_tag.ensures ∙ c.if-is_group_tag.true)) constructed

pub returns : goal.returns
returns c is_true =
    let r = c.args.entry.now in
    HasCanonicalAt-leaf c.args.octets.now c.contents_in.result.now r c.requires.shortest c.if-entry.false
    c.contents_in.ensures (c.are_leaf_contents_clearly_canonical.ensures is_true)

pub contents_in-requires : goal.contents_in-requires
contents_in-requires c = HasHeaderAt-within c.args.octets.now c.args.entry.now c.requires.there
