-- The encodings that paths name, by the shapes of a document.
use Rattle.std.specs.Prelude.{◌≡◌, ℕ, zero, suc, ◌≤◌, List, [], ◌∷◌, Option, MatchOption, length}
use Rattle.asn1_blocks.specs.Places.{HeaderFound}
use Rattle.asn1_outline.specs.Shapes.{HasItems, Shapes, more_shapes, no_shapes}
use Rattle.asn1_records.specs.declared.items.PlacedEncoding.{PlacedEncoding}

-- the shapes from the one on that stands so many behind the first
abbrev pub shapes_from : ℕ → Shapes → Shapes
shapes_from zero all = all
shapes_from (suc step) no_shapes = no_shapes
shapes_from (suc step) (more_shapes offset header items rest) = shapes_from step rest

-- the shapes from the one on that the steps lead to from the first of these: each is the number of an item
abbrev pub shapes_inside : Shapes → List ℕ → Shapes
shapes_inside all [] = all
shapes_inside no_shapes (step ∷ steps) = no_shapes
shapes_inside (more_shapes offset header items rest) (step ∷ steps) = shapes_inside (shapes_from step items) steps

-- the shapes from the one on that a path names
abbrev pub shapes_at : Shapes → List ℕ → Shapes
shapes_at all [] = no_shapes
shapes_at all (step ∷ steps) = shapes_inside (shapes_from step all) steps

-- the encoding stands in the document
abbrev pub IsPlacedIn : List ℕ → PlacedEncoding → Type 0
IsPlacedIn document p = (limit : ℕ) × HeaderFound document p.offset limit p.header × (limit ≤ length document)

-- the encoding is the first of the shapes, if there is one
abbrev pub IsNamedEncoding : List ℕ → Shapes → Option PlacedEncoding → Type 0
IsNamedEncoding document all found =
    MatchOption found (all ≡ no_shapes) (λ p. (items : Shapes) × (rest : Shapes)
    × (all ≡ more_shapes p.offset p.header items rest) × HasItems document p.header items)
