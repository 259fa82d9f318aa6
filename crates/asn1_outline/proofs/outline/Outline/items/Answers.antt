-- For `outline::Outline::items`: what it returns is right (`trees`, `entries`) and no index is out of bounds.
use Rattle.std.proofs.Common.{◌≡◌, ◌+◌, ◌-◌, ◌≤◌, ℕ, drop, get_or, length, map, take, sym, ap, subst, ◌∙◌, arith}
use Rattle.std.specs.List.{slice_range}
use Rattle.std.specs.Prelude.{All}
use Rattle.std.proofs.lemmas.List.{take-append-drop}
use Rattle.asn1_blocks.specs.Tree.{trees_of}
use Rattle.asn1_outline.specs.Entries.{no_entry}
use Rattle.asn1_outline.specs.Iterated.{HasEntryIn, side_by_side}
use Rattle.asn1_outline.specs.Structure.{node_items, nodes_trees, tree_at}
use Rattle.asn1_outline.specs.declared.entry.Entry.{Entry}
use Rattle.asn1_outline.proofs.IteratedTrees.{inside_trees}
use Rattle.asn1_outline.proofs.Iterating.{All-side_by_side}
use Rattle.asn1_outline.proofs.Lent.{get_or-looked_up, next-within, node_at-past}
use Rattle.asn1_outline.proofs.outline.Outline.items.Goals as goal

pub returns-in_default-clause-trees : goal.returns-in_default-clause-trees
returns-in_default-clause-trees c ns d =
    let o = c.args.self.now in
    let past : length o.entries.items ≤ c.args.index =
    omega (arith, c.in_default.ensures.lookup, ap length c.deref.ensures.value) in
    ap (λ z. trees_of (map (λ (item : ℕ × Entry). tree_at ns item.0) z)) c.over.ensures
    ∙ sym (ap (λ z. nodes_trees (node_items z))
    (node_at-past o.octets.now o.entries.items ns c.args.index o.document d past))

pub slice_bounds-inside-count : goal.slice_bounds-inside-count
slice_bounds-inside-count c =
    let o = c.args.self.now in
    let (h, is) =
    get_or-looked_up o.entries.items c.deref.result.now c.args.index c.in-Some.entry.now c.deref.ensures.value
    c.in-Some.ensures.lookup.3 in
    let (first, last) = next-within o.octets.now o.entries.items c.args.index o.document h in
    omega (arith, first, ap (λ (z : Entry). z.next) is)

pub slice_bounds-inside-start : goal.slice_bounds-inside-start
slice_bounds-inside-start c =
    let o = c.args.self.now in
    let (h, is) =
    get_or-looked_up o.entries.items c.deref.result.now c.args.index c.in-Some.entry.now c.deref.ensures.value
    c.in-Some.ensures.lookup.3 in
    let (first, last) = next-within o.octets.now o.entries.items c.args.index o.document h in
    omega (arith, first, last, ap (λ (z : Entry). z.next) is, ap length c.deref-2.ensures.value)

pub slice_bounds-inside-end : goal.slice_bounds-inside-end
slice_bounds-inside-end c =
    let o = c.args.self.now in
    let (h, is) =
    get_or-looked_up o.entries.items c.deref.result.now c.args.index c.in-Some.entry.now c.deref.ensures.value
    c.in-Some.ensures.lookup.3 in
    let (first, last) = next-within o.octets.now o.entries.items c.args.index o.document h in
    omega (arith, first, last, ap (λ (z : Entry). z.next) is, ap length c.deref-2.ensures.value)

pub returns-clause-entries : goal.returns-clause-entries
returns-clause-entries c =
    let o = c.args.self.now in
    let es = o.entries.items in
    let k = c.args.index in
    let size = c.in-Some.entry.now.next - (k + 1) in
    let inside = take size (drop (k + 1) es) in
    let same : c.over-2.result ≡ side_by_side 0 (k + 1) inside =
    c.over-2.ensures ∙ ap (λ z. side_by_side 0 (k + 1) (take size (drop (k + 1) z))) c.deref-2.ensures.value in
    subst (All (HasEntryIn es)) (sym same)
    (All-side_by_side es 0 (k + 1) inside (drop size (drop (k + 1) es))
    (sym (take-append-drop size (drop (k + 1) es))))

pub returns-clause-trees : goal.returns-clause-trees
returns-clause-trees c ns d =
    let o = c.args.self.now in
    let es = o.entries.items in
    let k = c.args.index in
    let (h, is) =
    get_or-looked_up es c.deref.result.now k c.in-Some.entry.now c.deref.ensures.value c.in-Some.ensures.lookup.3 in
    let same : c.over-2.result ≡ side_by_side 0 (k + 1) (slice_range es (k + 1) (get_or es k no_entry).next) =
    c.over-2.ensures ∙ ap (λ z. side_by_side 0 (k + 1) (slice_range z (k + 1) c.in-Some.entry.now.next))
    c.deref-2.ensures.value
    ∙ ap (λ (z : Entry). side_by_side 0 (k + 1) (slice_range es (k + 1) z.next)) is in
    ap (λ z. trees_of (map (λ (item : ℕ × Entry). tree_at ns item.0) z)) same
    ∙ inside_trees o.octets.now es ns o.document d k h
