-- For `leaf::universal_value`: what it returns is right (`refused`).
use Rattle.std.proofs.Common.{[], inr, true}
use Rattle.asn1_blocks.specs.Tree.{bit_string, boolean, object_identifier}
use Rattle.asn1_blocks.proofs.KindFaults.{IfErr-kind_fault}
use Rattle.dump_values.proofs.leaf.universal_value.Goals as goal

pub returns-in_err-read-in-1-clause-refused : goal.returns-in_err-read-in-1-clause-refused
returns-in_err-read-in-1-clause-refused c =
    IfErr-kind_fault (boolean true) c.args.tag c.args.contents.now _ c.from_residual.result c.from_residual.ensures
    c.in-1.is (inr c.in_err-read-in-1.ensures.refused)

pub returns-in_err-bits_of-in-3-clause-refused : goal.returns-in_err-bits_of-in-3-clause-refused
returns-in_err-bits_of-in-3-clause-refused c =
    IfErr-kind_fault (bit_string 0 []) c.args.tag c.args.contents.now _ c.from_residual-in_err-bits_of-in-3.result
    c.from_residual-in_err-bits_of-in-3.ensures c.in-3.is c.in_err-bits_of-in-3.ensures.refused

pub returns-in_err-identifier_of-in-6-clause-refused :
    goal.returns-in_err-identifier_of-in-6-clause-refused
returns-in_err-identifier_of-in-6-clause-refused c =
    IfErr-kind_fault (object_identifier []) c.args.tag c.args.contents.now _
    c.from_residual-in_err-identifier_of-in-6.result c.from_residual-in_err-identifier_of-in-6.ensures c.in-6.is
    c.in_err-identifier_of-in-6.ensures.refused
