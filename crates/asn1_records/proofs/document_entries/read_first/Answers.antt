-- For `document_entries::read_first`: what it returns is right (`document`) and `read_into` may be called.
use Rattle.std.proofs.Common.{[], refl}
use Rattle.asn1_outline.proofs.Listed.{AreEntriesOf-document}
use Rattle.asn1_records.proofs.document_entries.read_first.Goals as goal

pub read_into-requires-clause-empty : goal.read_into-requires-clause-empty
read_into-requires-clause-empty c =
    ([], c.in-Ok.ensures, (refl, record { nodes = []; trees = refl; structure = tt; entries = tt }))

pub returns-in-Ok-read_into-clause-document : goal.returns-in-Ok-read_into-clause-document
returns-in-Ok-read_into-clause-document c =
    let d = c.in-Ok-read_into.ensures.document in
    let (all, front, held) = d.holds in
    (all, AreEntriesOf-document c.args.octets.now all d.trees d.document held.1, front)
