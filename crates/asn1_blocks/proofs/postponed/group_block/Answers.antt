-- For `postponed::group_block`: what it returns is right.
use Rattle.std.proofs.Common.{List, sym, ap, ◌∙◌}
use Rattle.asn1_blocks.specs.declared.block.ASN1Block.{ASN1Block}
use Rattle.asn1_blocks.specs.declared.block.GroupKind.{GroupKind}
use Rattle.asn1_blocks.specs.Tree.{group}
use Rattle.asn1_blocks.specs.View.{views}
use Rattle.asn1_blocks.proofs.CopySteps.{view-Sequence, view-Set}
use Rattle.asn1_blocks.proofs.postponed.group_block.Goals as goal

pub returns-in-Sequence : goal.returns-in-Sequence
returns-in-Sequence c =
    view-Sequence c.args.offset c.into_vec-items.result
    ∙ (ap (λ (items : List ASN1Block). group c.args.offset GroupKind.Sequence (views items)) c.into_vec-items.ensures
    ∙ ap (λ kind. group c.args.offset kind (views c.args.blocks)) (sym c.in-Sequence.is))

pub returns-in-Set : goal.returns-in-Set
returns-in-Set c =
    view-Set c.args.offset c.into_vec-items.result
    ∙ (ap (λ (items : List ASN1Block). group c.args.offset GroupKind.Set (views items)) c.into_vec-items.ensures
    ∙ ap (λ kind. group c.args.offset kind (views c.args.blocks)) (sym c.in-Set.is))
