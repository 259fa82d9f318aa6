-- For `document_entries::check_found`: the entries are those of the document.
use Rattle.std.proofs.Common.{subst, sym, ◌∙◌}
use Rattle.asn1_outline.specs.Entries.{AreEntriesOf}
use Rattle.asn1_outline.specs.Listing.{AreFound}
use Rattle.asn1_records.proofs.document_entries.check_found.Goals as goal

pub check_canonical-requires : goal.check_canonical-requires
check_canonical-requires c =
    let x = c.args.octets.now in
    let (bs, all, d, e, (room, found)) = c.requires in
    let same = subst (AreFound room all) c.in-Entries.is found in
    (bs, d, subst (λ z. AreEntriesOf x bs z) (sym (c.deref.ensures.value ∙ same)) e)
