-- Postponed blocks, and the trees that they build. Only private contracts name these.
use Rattle.std.specs.Prelude.{◌≡◌, ℕ, ◌-◌, List, [], ◌∷◌, ◌++◌, length, map, take, drop}
use Rattle.asn1_blocks.specs.declared.read_loop.Attempt.{Attempt}
use Rattle.asn1_blocks.specs.declared.postponed.Postponed.{Postponed}
use Rattle.asn1_blocks.specs.declared.postponed.Postponed.TheVariants.{Ready, Group, Explicit, AsItCame}
use Rattle.asn1_blocks.specs.Inner.OpenFrames.{around, as_it_came}
use Rattle.asn1_blocks.specs.Tree.{Tree, group, trees_of}
use Rattle.asn1_blocks.specs.View.{view}

-- the last tree goes inside an explicit one
abbrev pub around_last : Attempt → List (Tree ℕ) → List (Tree ℕ)
around_last a [] = []
around_last a (x ∷ []) = around a x ∷ []
around_last a (x ∷ y ∷ s) = x ∷ around_last a (y ∷ s)

-- the trees after one postponed block is built
abbrev pub trees_after : List ℕ → Postponed → List (Tree ℕ) → List (Tree ℕ)
trees_after octets (Ready b) s = s ++ view b ∷ []
trees_after octets (Group g o first behind) s =
    let n = length s - behind in
    take n s ++ group o g (trees_of (map view first ++ drop n s)) ∷ []
trees_after octets (Explicit a) s = around_last a s
trees_after octets (AsItCame a start end) s = s ++ as_it_came octets a start end ∷ []

-- the trees after all postponed blocks are built, from the first on
abbrev pub trees_after_all : List ℕ → List Postponed → List (Tree ℕ) → List (Tree ℕ)
trees_after_all octets [] s = s
trees_after_all octets (e ∷ es) s = trees_after_all octets es (trees_after octets e s)

-- to build the postponed blocks leaves the trees that are there, and pushes these at their end
abbrev pub Builds : List ℕ → List Postponed → List (Tree ℕ) → Type 0
Builds octets es ts = (s : List (Tree ℕ)) → trees_after_all octets es s ≡ s ++ ts
