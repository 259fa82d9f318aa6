-- A SET OF in the order of DER.
use Rattle.std.specs.Prelude.{List, map}
use Rattle.std.specs.List.Sorted.{IsPermutation}
use Rattle.asn1_blocks.specs.Tree.{Tree}
use Rattle.simple_asn1.specs.Canonical.{canonical}
use Rattle.simple_asn1.specs.Der.{Ascend, HasNoGreaterOctets}

-- the values in another order, in which the encoding of none is greater than that of the next (X.690 11.6)
pub record IsInOrder {A : Type 0} (tree : A → Tree (Unit {0})) (values ordered : List A) : Type 0 where
  pub same : IsPermutation values ordered
  pub ascending : Ascend HasNoGreaterOctets (map (λ x. canonical (tree x)) ordered)
