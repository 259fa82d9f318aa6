-- For `signed::signed_content`: what it returns is right (`content`).
use Rattle.asn1_outline.proofs.SignedHeaders.{MatchOption-signed_content}
use Rattle.asn1_outline.proofs.signed.signed_content.Goals as goal

pub returns-in-Ok-clause-content : goal.returns-in-Ok-clause-content
returns-in-Ok-clause-content c =
    let (all, has) = c.in_ok-check_headers.ensures.document in
    MatchOption-signed_content c.args.octets.now c.in-Ok.found all has c.in-Ok.ensures
