-- For `types::universal_name`: what it returns is right.
use Rattle.std.proofs.Common.{None, arith, sym}
use Rattle.std.proofs.lemmas.List.{get_or_past}
use Rattle.asn1_headers.specs.Names.{universal_names}
use Rattle.asn1_headers.proofs.types.universal_name.Goals as goal

pub returns-in-37-to-18446744073709551615 : goal.returns-in-37-to-18446744073709551615
returns-in-37-to-18446744073709551615 c = sym (get_or_past universal_names c.args.tag None (omega arith))
