-- For the cycle `push_big_endian` of `header`: what it returns is right and `push_big_endian` and `push_octet` may be
-- called.
use Rattle.std.proofs.Common.{◌/◌, ◌%◌, ◌∷◌, [], sym, subst, arith}
use Rattle.std.specs.Int.Digits.{digits_of}
use Rattle.std.proofs.lemmas.Int.Digits.{digits_of_step, length-digits_of_step}
use Rattle.asn1_headers.proofs.header.+push_big_endian.Goals as goal

pub push_big_endian-requires : goal.push_big_endian-requires
push_big_endian-requires g t c κs within =
    (omega arith, (within, omega (arith, c.requires, length-digits_of_step 256 c.args.n (omega arith) (omega arith))))

pub push_octet-requires : goal.push_octet-requires
push_octet-requires g t c =
    omega (
      arith,
      c.requires,
      g.S.Sink.room_after c.args.out.now c.push_big_endian.new.out (digits_of 256 (c.args.n / 256))
          c.push_big_endian.ensures,
      length-digits_of_step 256 c.args.n (omega arith) (omega arith),
    )

pub returns : goal.returns
returns g t c =
    let e = digits_of_step 256 c.args.n (omega arith) (omega arith) in
    subst (λ z. g.S.Sink.pushes c.args.out.now z c.push_octet.new.self) (sym e)
    (g.S.Sink.more c.args.out.now c.push_big_endian.new.out c.push_octet.new.self (digits_of 256 (c.args.n / 256))
    (c.args.n % 256 ∷ [])
    c.push_big_endian.ensures c.push_octet.ensures)
