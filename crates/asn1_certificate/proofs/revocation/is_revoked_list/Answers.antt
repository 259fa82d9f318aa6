-- For `revocation::is_revoked_list`: what it returns is right.
use Rattle.std.proofs.Common.{sym, ◌∙◌}
use Rattle.asn1_outline.specs.Structure.{tree_at}
use Rattle.asn1_certificate.specs.Reading.{left, trees_at}
use Rattle.asn1_certificate.specs.Types.{is_revoked_certificate}
use Rattle.asn1_certificate.proofs.EntryTrees.{sequence_of-group, sequence_of-other}
use Rattle.asn1_certificate.proofs.revocation.is_revoked_list.Goals as goal

pub returns-in-Some : goal.returns-in-Some
returns-in-Some c ns d =
    c.are_revoked.ensures ns d
    ∙ sym (sequence_of-group is_revoked_certificate (tree_at ns c.args.index) (trees_at ns (left c.in-Some.items))
    (c.in-Some.ensures ns d))

pub returns-in-None : goal.returns-in-None
returns-in-None c ns d =
    sym (sequence_of-other is_revoked_certificate (tree_at ns c.args.index) (c.in-None.ensures ns d))
