-- For `block::same::ASN1BlockPartialEq::eq`: what it returns is right (`same_shape`, `decided`).
use Rattle.std.specs.Bool.{one_answer}
use Rattle.asn1_blocks.specs.View.{view}
use Rattle.asn1_blocks.specs.Inner.Equality.{same_block}
use Rattle.asn1_blocks.specs.Inner.EqualityLaws.{same_tree-decides}
use Rattle.asn1_blocks.proofs.block.same.ASN1BlockPartialEq.eq.Goals as goal

pub returns-clause-same_shape : goal.returns-clause-same_shape
returns-clause-same_shape c = c.same.ensures

pub returns-clause-decided : goal.returns-clause-decided
returns-clause-decided c =
    one_answer c.same.result (same_block c.args.self.now c.args.other.now) c.same.ensures
    (same_tree-decides (view c.args.self.now) (view c.args.other.now))
