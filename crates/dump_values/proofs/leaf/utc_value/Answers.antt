-- For `leaf::utc_value`: what it returns is right (`refused`).
use Rattle.std.proofs.Common.{inl, inr, refl}
use Rattle.asn1_headers.specs.declared.tags.TheConstants.{UTC_TIME}
use Rattle.asn1_blocks.proofs.Leaves.{LeafFault-utc_time}
use Rattle.dump_values.proofs.leaf.utc_value.Goals as goal

pub returns-in-None-clause-refused : goal.returns-in-None-clause-refused
returns-in-None-clause-refused c =
    elim c.in-Err.ensures.refused
    [ inl memory ↦ inl memory | inr fault ↦ inr (LeafFault-utc_time UTC_TIME c.args.contents.now _ refl fault) ]
