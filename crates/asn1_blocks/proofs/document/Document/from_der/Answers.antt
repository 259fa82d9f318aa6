-- For `document::Document::from_der`: what it returns is right (`document`, `accepts`).
use Rattle.std.proofs.Common.{rules}
use Rattle.asn1_blocks.proofs.document.Document.from_der.Goals as goal

pub returns-clause-document : goal.returns-clause-document
returns-clause-document c = search rules

pub returns-clause-accepts : goal.returns-clause-accepts
returns-clause-accepts c = search rules
