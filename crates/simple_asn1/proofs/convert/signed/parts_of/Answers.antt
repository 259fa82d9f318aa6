-- For `convert::signed::parts_of`: what it returns is right.
use Rattle.std.proofs.Common.{◌≡◌, ◌≢◌, ◌∙◌, length, arith}
use Rattle.asn1_blocks.specs.View.{tree_offset, view}
use Rattle.simple_asn1.proofs.SignedTriples.{signed_tree-not_three_items, signed_tree-no_signature, signed_tree-three_items}
use Rattle.simple_asn1.proofs.convert.signed.parts_of.Goals as goal
use Rattle.simple_asn1.proofs.convert.signed.parts_of.Goals.{in_default-via-then-branch-lt3, in_default-via-else-branch-lt3+else-this-lt4}

pub returns-in_default : goal.returns-in_default
returns-in_default c p f =
    let t = view c.args.b.now in
    let items = c.in_ok-sequence_items.field-0.now in
    elim c.in_default.branch [
      | in_default-via-then-branch-lt3 w ↦
          let few : length items ≢ 3 = grind arith in
          signed_tree-not_three_items t p (tree_offset t) items few c.in_ok-sequence_items.ensures.items f
      | in_default-via-else-branch-lt3+else-this-lt4 w ↦
          let many : length items ≢ 3 = grind arith in
          signed_tree-not_three_items t p (tree_offset t) items many c.in_ok-sequence_items.ensures.items f
    ]

pub returns-in_err-bits : goal.returns-in_err-bits
returns-in_err-bits c =
    let t = view c.args.b.now in
    let items = c.in_ok-sequence_items.field-0.now in
    let three : length items ≡ 3 = omega (arith, c.in-len3.len_at_least, c.in-len3.len_below) in
    rw c.from_residual-in_err-bits.ensures (λ p f.
    signed_tree-no_signature t p (tree_offset t) items c.signature-item.result three c.signature-item.is
    c.in_ok-sequence_items.ensures.items c.in_err-bits.ensures f
    )

pub returns : goal.returns
returns c =
    let t = view c.args.b.now in
    let items = c.in_ok-sequence_items.field-0.now in
    let three : length items ≡ 3 = omega (arith, c.in-len3.len_at_least, c.in-len3.len_below) in
    let (p, is, content, end, algorithm, bits, signature) =
    signed_tree-three_items t (tree_offset t)
    items c.content-item.result c.algorithm-item.result c.signature-item.result c.in_ok-algorithm.algorithm.now
    c.in_ok-bits.bits c.in_ok-bits.signature.now three c.content-item.is c.algorithm-item.is c.signature-item.is
    c.in_ok-sequence_items.ensures.items c.in_ok-algorithm.ensures c.in_ok-bits.ensures in
    (p, is, content, c.offset-end.ensures ∙ end, algorithm, bits, signature)
