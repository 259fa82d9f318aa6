-- Blocks beside what is written of them.
use Rattle.std.specs.Prelude.{ℕ, List}
use Rattle.asn1_blocks.specs.declared.block.ASN1Block.{ASN1Block}
use Rattle.simple_asn1.specs.declared.encoded.Encoded.{Encoded}

abbrev pub block_of : Encoded → ASN1Block
block_of item = item.block

abbrev pub octets_of : Encoded → List ℕ
octets_of item = item.octets.items
