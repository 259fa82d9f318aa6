-- For `header_walk::take`: what it returns is right.
use Rattle.std.proofs.Common.{◌≡◌, ◌++◌, [], ◌∷◌, suc, length, ap, subst, ◌∙◌, arith}
use Rattle.std.proofs.lemmas.Grind.{common_steps}
use Rattle.std.proofs.lemmas.Result.{on_ok_weaker}
use Rattle.asn1_blocks.specs.HeadersBegun.{IsReadInside}
use Rattle.asn1_outline.specs.Listing.{KeepsOf}
use Rattle.asn1_outline.specs.Shapes.{not_read, shape_entry}
use Rattle.asn1_outline.specs.declared.entry.Entry.{Entry}
use Rattle.asn1_outline.proofs.Walks.{HasWalkedOn-enter, HasWalkedOn-leaf}
use Rattle.asn1_outline.proofs.header_walk.take.Goals as goal

pub returns-then-is_read_inside : goal.returns-then-is_read_inside
returns-then-is_read_inside c =
    let h = c.args.header in
    let w = c.args.reader.now in
    let (all, front, opened) = c.requires.reading in
    let n : c.count-entry.result ≡ length all = c.count-entry.ensures.count all front in
    let d : c.len.result ≡ length w.outer.items = grind (arith, common_steps) in
    let inside : IsReadInside h.class h.constructed h.tag = grind (arith, common_steps) in
    let block = c.header_entry-block.ensures
    ∙ ap (λ z. shape_entry w.index h 0 (suc z) c.len.result) n
    ∙ ap (λ z. shape_entry w.index h 0 (suc (length all)) z) d in
    let added = subst (λ (z : Entry). KeepsOf c.add.new.self (all ++ z ∷ [])) block (c.in_ok-add.ensures all front) in
    on_ok_weaker c.enter.result
    (HasWalkedOn-enter c.args.octets.now w h c.add.new.self c.count-entry.result c.kind_of.result c.enter.new.reader all
    opened c.requires.found inside c.kind_of.ensures n added) c.enter.ensures

pub returns : goal.returns
returns c =
    let h = c.args.header in
    let w = c.args.reader.now in
    let (all, front, opened) = c.requires.reading in
    let n : c.count-entry.result ≡ length all = c.count-entry.ensures.count all front in
    let d : c.len.result ≡ length w.outer.items = grind (arith, common_steps) in
    let leaf : IsReadInside h.class h.constructed h.tag → ⊥ = grind (arith, common_steps) in
    let block = c.header_entry-block.ensures
    ∙ ap (λ z. shape_entry w.index h 0 (suc z) c.len.result) n
    ∙ ap (λ z. shape_entry w.index h 0 (suc (length all)) z) d in
    let added = subst (λ (z : Entry). KeepsOf c.add.new.self (all ++ z ∷ [])) block (c.in_ok-add.ensures all front) in
    HasWalkedOn-leaf c.args.octets.now w h c.add.new.self c.add-2.new.self all opened c.requires.found (not_read leaf)
    added c.in_ok-add-2.ensures
