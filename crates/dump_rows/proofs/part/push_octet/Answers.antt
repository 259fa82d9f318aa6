-- For `part::push_octet`: what it returns is right.
use Rattle.std.proofs.Common.{ℕ, ◌/◌, ◌%◌, false, List, [], ◌∷◌, ◌++◌, ap, append_assoc, arith, string_bytes, ◌∙◌}
use Rattle.std.specs.Char.{encode_utf8}
use Rattle.std.specs.Fmt.{digits}
use Rattle.der_io.specs.Characters.{space}
use Rattle.dump_rows.proofs.Printed.{encode_utf8-hex_digit}
use Rattle.dump_rows.proofs.part.push_octet.Goals as goal

pub returns : goal.returns
unfolding encode_utf8
returns c =
    let b = c.args.b in
    let old = string_bytes c.args.out.now in
    let high : List ℕ = digits 16 false (b / 16) in
    let low : List ℕ = digits 16 false (b % 16) in
    let last : List ℕ = space ∷ [] in
    let one = c.in_ok-push.ensures.bytes
    ∙ ap (λ z. old ++ z) (encode_utf8-hex_digit (b / 16) c.hex_digit.result (omega arith) c.hex_digit.ensures) in
    let two = c.in_ok-push-2.ensures.bytes
    ∙ (ap (λ z. z ++ encode_utf8 c.hex_digit-2.result) one
    ∙ ap (λ z. (old ++ high) ++ z)
    (encode_utf8-hex_digit (b % 16) c.hex_digit-2.result (omega arith) c.hex_digit-2.ensures)) in
    c.in_ok-push-3.ensures.bytes
    ∙ (ap (λ z. z ++ last) two ∙ (append_assoc (old ++ high) low last ∙ append_assoc old high (low ++ last)))
