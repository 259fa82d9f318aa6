-- Values beside what is written of them.
use Rattle.std.specs.Prelude.{ℕ, List}
use Rattle.asn1_types.specs.declared.Asn1Type.{Ghosts}
use Rattle.asn1_types.specs.declared.encoded.Encoded.{Encoded}

abbrev pub value_of : {A : Type 0} {G : Ghosts A} → Encoded A G → A
value_of item = item.value

abbrev pub octets_of : {A : Type 0} {G : Ghosts A} → Encoded A G → List ℕ
octets_of item = item.octets.items
