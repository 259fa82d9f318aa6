-- For `encoding::put_tag`: what it returns is right.
use Rattle.std.proofs.Common.{refl, subst, ◌∙◌, arith}
use Rattle.asn1_records.specs.Contents.{tag_is_too_long, tag_was_found}
use Rattle.asn1_records.specs.Room.{ArePut}
use Rattle.asn1_records.proofs.encoding.put_tag.Goals as goal

pub returns-then-identifier_size-gt-MOST_IN_DECIMAL : goal.returns-then-identifier_size-gt-MOST_IN_DECIMAL
returns-then-identifier_size-gt-MOST_IN_DECIMAL c =
    let at = c.in-Some.ensures.found in
    let put = c.nothing_put-then-identifier_size-gt-MOST_IN_DECIMAL.ensures in
    let size = c.identifier_size.ensures.size at.encoding in
    tag_is_too_long c.in-Some.encoding.now at (omega (arith, size, c.if-identifier_size-gt-MOST_IN_DECIMAL.true))
    put.status put.offset put.count refl

pub returns-in-Ok-numeral_of : goal.returns-in-Ok-numeral_of
returns-in-Ok-numeral_of c =
    let at = c.in-Some.ensures.found in
    let size = c.identifier_size.ensures.size at.encoding in
    let (class, constructed, contents, header, e) = c.in-Ok.ensures in
    tag_was_found c.in-Ok.tag (c.in-Some.encoding.now, at, class, constructed, contents, header, e)
    c.in-Some.encoding.now at (omega (arith, size, c.if-identifier_size-gt-MOST_IN_DECIMAL.false))
    (subst (λ z. ArePut z c.args.room.now c.put_front.new.room c.put_front.result)
    (c.as_bytes.ensures.value ∙ c.in-Ok-numeral_of.ensures) c.put_front.ensures)
