-- For `encodings::is_open_encoding`: what it returns is right.
use Rattle.std.proofs.Common.{◌++◌, ap, length, subst, sym, ◌∙◌}
use Rattle.std.specs.Prelude.{◌&&◌}
use Rattle.asn1_headers.specs.Header.{IsIdentifier}
use Rattle.asn1_der.specs.Departures.{is_open}
use Rattle.asn1_headers.proofs.HeaderSizes.{is_indefinite-append}
use Rattle.asn1_der.proofs.encodings.is_open_encoding.Goals as goal

pub returns : goal.returns
returns c e =
    let f = e.encoding in
    let both = c.split_identifier.ensures f.identifier (f.len ++ e.contents) e.tag
    (e.class, e.constructed, f.identifier_octets) f.whole in
    let is = c.is_constructed.ensures e.class e.constructed e.tag
    (subst (λ z. IsIdentifier z e.class e.constructed e.tag) (sym both.0) f.identifier_octets) in
    c.is_open.ensures
    ∙ (ap (λ z. is_open z c.split_identifier.result.1.now) is
    ∙ (ap (is_open e.constructed) both.1
    ∙ ap (λ z. e.constructed && z) (is_indefinite-append f.len e.contents (length e.contents) f.length_octets)))
