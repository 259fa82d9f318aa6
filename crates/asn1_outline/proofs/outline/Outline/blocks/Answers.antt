-- For `outline::Outline::blocks`: what it returns is right (`entries`, `trees`).
use Rattle.std.proofs.Common.{◌≡◌, ℕ, [], map, sym, ap, subst, ◌∙◌, append-nil}
use Rattle.std.specs.Prelude.{All}
use Rattle.asn1_blocks.specs.Tree.{trees_of}
use Rattle.asn1_outline.specs.Iterated.{HasEntryIn, side_by_side}
use Rattle.asn1_outline.specs.Structure.{tree_at}
use Rattle.asn1_outline.specs.declared.entry.Entry.{Entry}
use Rattle.asn1_outline.proofs.IteratedTrees.{outermost_trees}
use Rattle.asn1_outline.proofs.Iterating.{All-side_by_side}
use Rattle.asn1_outline.proofs.outline.Outline.blocks.Goals as goal

pub returns-clause-entries : goal.returns-clause-entries
returns-clause-entries c =
    let es = c.args.self.now.entries.items in
    let same : c.over.result ≡ side_by_side 0 0 es = c.over.ensures ∙ ap (side_by_side 0 0) c.as_slice.ensures.value in
    subst (All (HasEntryIn es)) (sym same) (All-side_by_side es 0 0 es [] (sym (append-nil es)))

pub returns-clause-trees : goal.returns-clause-trees
returns-clause-trees c ns d =
    let o = c.args.self.now in
    let same : c.over.result ≡ side_by_side 0 0 o.entries.items =
    c.over.ensures ∙ ap (side_by_side 0 0) c.as_slice.ensures.value in
    ap (λ z. trees_of (map (λ (item : ℕ × Entry). tree_at ns item.0) z)) same
    ∙ outermost_trees o.octets.now o.entries.items ns o.document d
