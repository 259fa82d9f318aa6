-- For `listing::list_within`: what it returns is right (`document`) and `read_into` may be called.
use Rattle.std.proofs.Common.{[], refl}
use Rattle.std.proofs.lemmas.Result.{IfOk-weaker}
use Rattle.asn1_outline.proofs.Listed.{AreEntriesOf-document}
use Rattle.asn1_outline.proofs.listing.list_within.Goals as goal

pub read_into-requires-clause-empty : goal.read_into-requires-clause-empty
read_into-requires-clause-empty c =
    ([], c.in-Ok.ensures, (refl, record { nodes = []; trees = refl; structure = tt; entries = tt }))

pub returns-in-Ok-read_into-clause-document : goal.returns-in-Ok-read_into-clause-document
returns-in-Ok-read_into-clause-document c =
    let d = c.in-Ok-read_into.ensures.document in
    let (all, front, held) = d.holds in
    let (bs, document, are) = AreEntriesOf-document c.args.octets.now all d.trees d.document held.1 in
    IfOk-weaker c.found_of.result _ _ (λ found is. (bs, all, document, are, is all front)) c.found_of.ensures.found
