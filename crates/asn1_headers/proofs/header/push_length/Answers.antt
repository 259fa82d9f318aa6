-- For `header::push_length`: what it returns is right and no sum or product is too large.
use Rattle.std.proofs.Common.{◌≡◌, ◌+◌, ◌∷◌, [], sym, subst, arith}
use Rattle.std.specs.Int.Digits.{digits_of}
use Rattle.std.proofs.lemmas.Grind.{common_steps}
use Rattle.asn1_headers.specs.Header.{shortest_length}
use Rattle.asn1_headers.proofs.HeaderOctets.{length-octets_le}
use Rattle.asn1_headers.proofs.header.push_length.Goals as goal

pub overflow_cast-octet_count : goal.overflow_cast-octet_count
overflow_cast-octet_count g c = grind (arith, common_steps, length-octets_le c.args.n (omega arith))

pub overflow_add-octet_count : goal.overflow_add-octet_count
overflow_add-octet_count g c = grind (arith, common_steps, length-octets_le c.args.n (omega arith))

pub returns : goal.returns
returns g c =
    let m = g.S.Sink.more c.args.out.now c.push_octet-2.new.self c.push_big_endian.new.out
    ((128 + c.octet_count.result) ∷ []) (digits_of 256 c.args.n) c.push_octet-2.ensures c.push_big_endian.ensures in
    let e : shortest_length c.args.n ≡ (128 + c.octet_count.result) ∷ digits_of 256 c.args.n =
    grind (arith, common_steps) in
    subst (λ z. g.S.Sink.pushes c.args.out.now z c.push_big_endian.new.out) (sym e) m
