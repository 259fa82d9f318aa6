-- For `leaf_size::integer_size`: each turn of its loop keeps the number, and what it returns is right.
use Rattle.std.proofs.Common.{◌≡◌, ◌<◌, ◌+◌, ◌∙◌, suc, drop, false, length, true, ap, sym, arith, drop-cons, length-drop}
use Rattle.std.proofs.lemmas.List.Elements.{All-drop, All-from_get_or}
use Rattle.asn1_numbers.specs.TwosComplement.{shortest_octets, signed_number}
use Rattle.asn1_numbers.proofs.Limbs.{take-drop-rest}
use Rattle.asn1_leaves.specs.Contents.Integer.{is_shortest_integer}
use Rattle.asn1_writing.proofs.LeafSizes.{is_shortest_integer-needless, is_shortest_integer-written}
use Rattle.asn1_writing.proofs.leaf_size.integer_size.Goals as goal

pub loop-needless-preserved : goal.loop-needless-preserved
loop-needless-preserved c =
    let contents = c.args.contents.now in
    let n = c.loop-needless.needless in
    let within = c.loop-needless.invariant.0 in
    let some : 0 < length (drop n contents) = omega (arith, length-drop n contents, within) in
    let shortest : is_shortest_integer (drop n contents) ≡ false =
    sym (ap is_shortest_integer (take-drop-rest n contents))
    ∙ (sym c.is_shortest_integer.ensures ∙ c.loop-needless-test.true) in
    let needless = is_shortest_integer-needless (drop n contents) some shortest in
    let place : suc n ≡ n + 1 = omega arith in
    let next : drop 1 (drop n contents) ≡ drop (n + 1) contents =
    ap (drop 1) (drop-cons contents n 0 within) ∙ ap (λ z. drop z contents) place in (
      omega (arith, needless.0, length-drop n contents),
      ap signed_number (sym next) ∙ (needless.1 ∙ c.loop-needless.invariant.1),
    )

pub returns : goal.returns
returns c =
    let contents = c.args.contents.now in
    let n = c.loop-needless.needless in
    let all = All-from_get_or (λ b. b < 256) contents 0 (λ k h. omega (arith, c.type_inv.contents k)) in
    let shortest : is_shortest_integer (drop n contents) ≡ true =
    sym (ap is_shortest_integer (take-drop-rest n contents))
    ∙ (sym c.is_shortest_integer.ensures ∙ c.loop-needless-test.false) in
    let written =
    is_shortest_integer-written (drop n contents) (All-drop (λ b. b < 256) n contents all) shortest in
    omega (
      arith,
      length-drop n contents,
      ap length written,
      ap (λ z. length (shortest_octets z)) c.loop-needless.invariant.1,
    )
