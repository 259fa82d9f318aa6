-- For `putting::put_found`: what it returns is right.
use Rattle.std.proofs.Common.{◌∙◌, inr, map, refl, subst, sym, arith}
use Rattle.std.proofs.lemmas.List.{length-map}
use Rattle.asn1_outline.specs.Listing.{AreFound}
use Rattle.asn1_records.specs.Records.{block_of}
use Rattle.asn1_records.specs.Room.{ArePut}
use Rattle.asn1_records.proofs.putting.put_found.Goals as goal

pub returns-in-Entries : goal.returns-in-Entries
returns-in-Entries c limit all _ found =
    let same = subst (AreFound limit all) c.in-Entries.is found in
    subst (λ z. ArePut (map block_of z) c.args.room.now c.put_records.new.room c.put_records.result)
    (c.as_slice.ensures.value ∙ same) c.put_records.ensures

pub returns-in-Count : goal.returns-in-Count
returns-in-Count c limit all least found =
    let (count, more) = subst (AreFound limit all) c.in-Count.is found in
    let (status, outcome, offset) = c.not_enough.ensures in
    let size = length-map all block_of in
    (outcome ∙ (count ∙ sym size), offset, inr (status, omega (arith, least, more, count, size), refl))
