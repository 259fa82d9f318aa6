-- For `header_record::header_record`: what it returns is right, `unreachable` may be called, and what cannot happen
-- does not.
use Rattle.std.proofs.Common.{◌≡◌, inl, inr, drop, sym, ap, ◌∙◌}
use Rattle.simple_asn1.specs.Header.{constructed_bit}
use Rattle.asn1_records.proofs.Headers.{Encoding-front_header, IsEncoding-has_header}
use Rattle.asn1_records.proofs.header_record.header_record.Goals as goal
use Rattle.asn1_records.proofs.header_record.header_record.Goals.{then-header, else-header}

pub unreachable-requires : goal.unreachable-requires
unreachable-requires c = elim c.in-Err.ensures.none [
  | inl e ↦ c.in_default.not-OutOfMemory e
  | inr none ↦ IsEncoding-has_header c.args.encoding.now c.requires none
]

pub returns : goal.returns
returns c =
    let x = c.args.encoding.now in
    let found = c.in-Ok.header in
    let bit : c.if-header.result ≡ constructed_bit found.constructed = elim c.if-header.branch [
      | then-header w ↦ w.result-is ∙ sym (ap constructed_bit w.if-header.true)
      | else-header w ↦ w.result-is ∙ sym (ap constructed_bit w.if-header.false)
    ] in
    let h =
    Encoding-front_header x found.size found.announced found.class found.constructed found.tag c.requires
    c.in-Ok.ensures.found in
    record {
      class = found.class;
      constructed = found.constructed;
      tag = found.tag;
      contents = drop found.size x;
      encoding = h.0;
      class_field = c.class_number_of.ensures;
      constructed_field = bit;
      tag_field = c.capped.ensures;
      contents_field = h.1;
    }
