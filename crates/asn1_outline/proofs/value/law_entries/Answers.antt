-- For `value::law_entries`: what it returns is right.
use Rattle.asn1_outline.proofs.Values.{EachIsOfItsTree-structure}
use Rattle.asn1_outline.proofs.value.law_entries.Goals as goal

pub returns : goal.returns
returns c = EachIsOfItsTree-structure
