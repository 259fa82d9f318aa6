-- What a builder holds that builds nothing. Private contracts alone name this.
use Rattle.std.specs.Prelude.{ℕ, List}
use Rattle.asn1_blocks.specs.Tree.{Tree}
use Rattle.asn1_blocks.specs.declared.read_loop.OpenFrame.{OpenFrame}
use Rattle.asn1_writing.specs.declared.check.NoBlocks.{NoBlocks}

abbrev pub nothing_held : List ℕ → NoBlocks → List (OpenFrame NoBlocks) → List (List (Tree ℕ)) → Type 0
nothing_held document b fs trees = Unit {0}
