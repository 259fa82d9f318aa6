-- The contents octets that may be blocks. Private contracts alone name these.
use Rattle.std.specs.Prelude.{ℕ, true, List, Option, Some, None}
use Rattle.asn1_blocks.specs.Grammar.{EncodesAll}
use Rattle.asn1_blocks.specs.Tree.{Tree, Trees, unknown}

-- the contents octets of a constructed encoding that stays as it came
abbrev pub constructed_contents : {O : Type 0} → Tree O → Option (List ℕ)
constructed_contents (unknown class true o tag contents) = Some contents
constructed_contents _ = None

-- the octets are no blocks
abbrev pub AreNoBlocks : List ℕ → Type 0
AreNoBlocks octets = (bs : Trees ℕ) → EncodesAll 0 octets bs → ⊥
