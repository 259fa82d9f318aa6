-- For `sets::encode_all`: its loop keeps its invariant, and what it returns is right (`refused`).
use Rattle.std.proofs.Common.{◌≡◌, ◌∙◌, List, [], ◌∷◌, ◌++◌, ap, inl, inr, map}
use Rattle.std.proofs.lemmas.List.{map-append}
use Rattle.std.proofs.lemmas.Result.{err_from_is_err_and}
use Rattle.asn1_blocks.specs.declared.block.ASN1Block.{ASN1Block}
use Rattle.simple_asn1.specs.Inner.Encodings.{block_of}
use Rattle.simple_asn1.proofs.Encodings.{first_fault, no_fault-push, one_more}
use Rattle.simple_asn1.proofs.sets.encode_all.Goals as goal

pub returns-in_err-encode-clause-refused : goal.returns-in_err-encode-clause-refused
returns-in_err-encode-clause-refused c =
    let done : List ASN1Block = map block_of c.loop-block.items.items in
    let p = err_from_is_err_and c.from_residual-in_err-encode.result c.from_residual-in_err-encode.ensures.1 in
    rw (p.1, p.2) (elim c.in_err-encode.ensures.refused [
      | inl memory ↦ inl memory
      | inr fault ↦
          inr (first_fault done c.loop-block.left c.pop.new.self c.args.blocks.items c.in-Some.block _
          c.loop-block.invariant.blocks c.in-Some.ensures c.loop-block.invariant.writable fault)
    ])

pub loop-block-preserved : goal.loop-block-preserved
loop-block-preserved c =
    let done : List ASN1Block = map block_of c.loop-block.items.items in
    let pushed : map block_of c.push.new.self.items ≡ done ++ c.in-Some.block ∷ [] =
    ap (λ xs. map block_of xs) c.in_ok-push.ensures.items
    ∙ (map-append block_of c.loop-block.items.items (c.in_ok-encode.field-0 ∷ [])
    ∙ ap (λ (b : ASN1Block). done ++ b ∷ []) c.in_ok-encode.ensures.block) in
    record {
      blocks =
          rw pushed
          (one_more done c.loop-block.left c.pop.new.self c.args.blocks.items c.in-Some.block
          c.loop-block.invariant.blocks c.in-Some.ensures);
      writable =
          rw pushed
          (no_fault-push done c.in-Some.block c.loop-block.invariant.writable c.in_ok-encode.ensures.writable);
    }
