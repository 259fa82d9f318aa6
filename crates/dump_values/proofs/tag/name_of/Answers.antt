-- For `tag::name_of`: what it returns is right.
use Rattle.std.proofs.Common.{arith}
use Rattle.asn1_headers.proofs.Names.{type_name-past}
use Rattle.dump_values.proofs.tag.name_of.Goals as goal

pub returns-in-None : goal.returns-in-None
returns-in-None c = type_name-past c.args.class c.args.tag.now (omega (arith, c.in-None.ensures))
