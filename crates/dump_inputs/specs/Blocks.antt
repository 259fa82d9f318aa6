-- The block that is meant, and what it holds.
use Rattle.std.specs.Prelude.{◌≡◌, ◌⊎◌, ◌++◌, ◌∷◌, ℕ, List, [], Option, Result, Ok, Err, Some, None}
use Rattle.der_forms.specs.Objects.{IsReadAs, document_of}
use Rattle.dump_options.specs.declared.options.Part.{Part}
use Rattle.dump_options.specs.declared.options.Part.TheVariants.{Contents, Text, Value, Whole}
use Rattle.dump_options.specs.declared.options.Target.{Target}
use Rattle.dump_options.specs.declared.options.Target.TheVariants.{Offset, Path}
use Rattle.dump_text.specs.Shown.{IsShown}
use Rattle.dump_walk.specs.ByOffset.{HasElementAt, LacksElementAt}
use Rattle.dump_walk.specs.StringOctets.{HoldsNoOctets, HoldsOctets}
use Rattle.dump_walk.specs.declared.block.Block.{Block}
use Rattle.dump_walk.specs.declared.block.NoBlock.{NoBlock}

-- a line of text that is shown
abbrev pub IsLine : List ℕ → Type 0
IsLine text = (line : List ℕ) × IsShown line × (text ≡ line ++ 10 ∷ [])

-- a part of a block with these contents octets, or none: where it is no string that holds octets, or its value has no
-- text. That a line of text is the value is not said
abbrev pub IsPartOf : Part → List ℕ → List ℕ → Option (List ℕ) → Type 0
IsPartOf Whole block contents octets = octets ≡ Some block
IsPartOf Contents block contents octets = octets ≡ Some contents
IsPartOf Value block contents (Some octets) = HoldsOctets block octets
IsPartOf Value block contents None = HoldsNoOctets block
IsPartOf Text block contents (Some octets) = (octets ≡ contents) ⊎ IsLine octets
IsPartOf Text block contents None = Unit {0}

-- a part of the block that begins at the offset in a document; or none, where no block begins there
abbrev pub IsPartIn : Part → ℕ → List ℕ → Option (List ℕ) → Type 0
IsPartIn part offset document octets =
    ((block contents : List ℕ) × HasElementAt document offset block contents × IsPartOf part block contents octets)
    ⊎ (((why : NoBlock) × LacksElementAt document offset why) × (octets ≡ None))

-- a part of the block of a document that is meant: of a path it may be that at any offset, or none
abbrev pub IsPartBy : Target → Part → List ℕ → Option (List ℕ) → Type 0
IsPartBy (Offset offset) part document octets = IsPartIn part offset document octets
IsPartBy (Path path) part document octets =
    (octets ≡ None) ⊎ ((offset : ℕ) × IsPartIn part offset document octets)

-- a part of the block that is meant of the document of an input, the first one of PEM; or none, where there is no
-- document, no such block, or it has no such part
abbrev pub IsPartAt : Part → Target → List ℕ → Option (List ℕ) → Type 0
IsPartAt part target input octets =
    ((document_of input ≡ None) × (octets ≡ None))
    ⊎ ((document : List ℕ) × IsReadAs input document × IsPartBy target part document octets)

-- the block that is meant may stand at the offset: that of a path at any
abbrev pub IsMeantBy : Target → ℕ → Type 0
IsMeantBy (Offset offset) found = found ≡ offset
IsMeantBy (Path path) found = Unit {0}

-- a path is given, to which no block may belong
abbrev pub IsPath : Target → Type 0
IsPath (Offset offset) = ⊥
IsPath (Path path) = Unit {0}

-- what was found at the offset of a document: a block, or none
abbrev pub IsFoundIn : {E : Type 0} → ℕ → List ℕ → Result Block E → Type 0
IsFoundIn offset document (Ok block) = HasElementAt document offset block.octets.now block.contents.now
IsFoundIn offset document (Err why) = (why : NoBlock) × LacksElementAt document offset why
