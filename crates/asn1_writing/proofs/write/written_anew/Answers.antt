-- For `write::written_anew`: `unreachable` may be called and what cannot happen does not.
use Rattle.std.proofs.Common.{◌<◌, arith, ◌≡◌, Some, None, inl, inr, sym, ap, ◌∙◌}
use Rattle.std.proofs.lemmas.List.Elements.{All-from_get_or}
use Rattle.asn1_writing.specs.Canonical.{first_write_fault}
use Rattle.asn1_blocks.specs.View.{document_trees}
use Rattle.asn1_writing.proofs.Writable.{first_write_fault-document}
use Rattle.asn1_writing.proofs.write.written_anew.Goals as goal

pub unreachable-requires : goal.unreachable-requires
unreachable-requires c =
    let w = first_write_fault-document c.args.octets.now (document_trees c.in_ok-document.document)
    (All-from_get_or (λ b. b < 256) c.args.octets.now 0 (λ k h. omega (arith, c.type_inv.octets k)))
    c.in_ok-document.ensures.document in
    elim c.in-Err.ensures.refused [
      | inl memory ↦ c.in_default.not-OutOfMemory memory
      | inr fault ↦ let e : None ≡ Some c.in-Err.e =
          sym w ∙ (ap (λ z. first_write_fault z) (sym c.blocks-2.ensures.trees) ∙ fault) in cc
    ]
