-- For the cycle `prepend_big_endian` of `spelling`: what it returns is right (`octets`, `space`) and `prepend_octet`
-- and `prepend_big_endian` may be called.
use Rattle.std.proofs.Common.{◌/◌, ◌%◌, ◌∷◌, ◌++◌, [], sym, ap, ◌∙◌, append_assoc, arith}
use Rattle.std.specs.Int.Digits.{digits_of}
use Rattle.std.proofs.lemmas.Int.Digits.{digits_of_step, length-digits_of_step}
use Rattle.asn1_records.proofs.spelling.+prepend_big_endian.Goals as goal

pub prepend_octet-requires : goal.prepend_octet-requires
prepend_octet-requires t c = omega (arith, c.requires, length-digits_of_step 256 c.args.n (omega arith) (omega arith))

pub prepend_big_endian-requires : goal.prepend_big_endian-requires
prepend_big_endian-requires t c = (
  omega arith,
  omega (
    arith,
    c.requires,
    c.prepend_octet.ensures.space,
    length-digits_of_step 256 c.args.n (omega arith) (omega arith),
  ),
)

pub returns-clause-octets : goal.returns-clause-octets
returns-clause-octets t c =
    let old = c.args.out.now.octets in
    let e = digits_of_step 256 c.args.n (omega arith) (omega arith) in
    c.prepend_big_endian.ensures.octets ∙ ap (λ z. digits_of 256 (c.args.n / 256) ++ z) c.prepend_octet.ensures.octets
    ∙ sym (append_assoc (digits_of 256 (c.args.n / 256)) (c.args.n % 256 ∷ []) old) ∙ ap (λ z. z ++ old) (sym e)

pub returns-clause-space : goal.returns-clause-space
returns-clause-space t c =
    omega (
      arith,
      c.prepend_octet.ensures.space,
      c.prepend_big_endian.ensures.space,
      length-digits_of_step 256 c.args.n (omega arith) (omega arith),
    )
