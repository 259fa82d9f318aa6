-- For `header_walk::close`: what it returns is right.
use Rattle.std.proofs.Common.{reverse, sym, subst, arith}
use Rattle.std.proofs.lemmas.Result.{on_ok_weaker}
use Rattle.asn1_outline.specs.Listing.{with_items_at}
use Rattle.asn1_outline.specs.Walking.{AllOpen}
use Rattle.asn1_outline.specs.declared.listing.EntryItems.{EntryItems}
use Rattle.asn1_outline.proofs.Walks.{AllOpen-close}
use Rattle.asn1_outline.proofs.header_walk.close.Goals as goal

pub returns : goal.returns
returns c =
    let x = c.args._octets.now in
    let w = c.args.reader.now in
    let g = c.args.parent in
    let gs = reverse w.outer.items in
    let (all, front, opened) = c.requires.opened in
    let left = with_items_at all w.inner.items.entry w.inner.items.count in
    let now = AllOpen-close x w.inner g gs w.index all c.requires.ended opened in
    on_ok_weaker c.add.result
    (λ more. record {
      reading = (
        left,
        c.set_items.ensures all front,
        subst (λ (z : EntryItems). AllOpen x (record g { items = z }) gs w.index left) (sym more) now,
      );
      nearer = omega arith;
    }) c.add.ensures
