-- For `text::status_of_others`: what it returns is right.
use Rattle.std.proofs.Common.{sym, ap, subst, arith}
use Rattle.std.specs.Str.{chars}
use Rattle.std.proofs.lemmas.Str.{scalars-chars}
use Rattle.asn1_records.specs.Puts.{AreAllowed, others_status}
use Rattle.asn1_records.proofs.TextOctets.{list_all-is_ascii_chars, IsAscii-chars}
use Rattle.asn1_records.proofs.text.status_of_others.Goals as goal

pub returns-in-Utf8 : goal.returns-in-Utf8
returns-in-Utf8 c =
    let text = c.args.text.now in
    subst (λ z. AreAllowed z (chars text)) (sym c.in-Utf8.is) (scalars-chars text c.utf8.text)

pub returns-then-is_ascii : goal.returns-then-is_ascii
returns-then-is_ascii c =
    let text = c.args.text.now in
    subst (λ z. AreAllowed z (chars text)) (sym c.in-Octets.is)
    (list_all-is_ascii_chars text c.if-is_ascii.ensures.cases)

pub returns-else-is_ascii : goal.returns-else-is_ascii
returns-else-is_ascii c =
    let text = c.args.text.now in
    let (i, high) = c.if-is_ascii.ensures.cases in (
      sym (ap others_status c.in-Octets.is),
      λ allowed.
          let a = IsAscii-chars text c.utf8.text (subst (λ z. AreAllowed z (chars text)) c.in-Octets.is allowed) in
          omega (arith, a i, high),
    )
