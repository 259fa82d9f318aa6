-- What is written of inputs.
use Rattle.std.specs.Prelude.{◌≡◌, ◌≢◌, ◌⊎◌, ℕ, Bool, true, false, List, [], ◌∷◌, Option, Some, None, IfSome}
use Rattle.std.specs.Io.KnownBytes.{IsAtEnd}
use Rattle.der_io.specs.Output.{IsWritten}
use Rattle.der_forms.specs.Objects.{IsReadAs, document_of}
use Rattle.dump_inputs.specs.Blocks.{IsPartAt}
use Rattle.dump_inputs.specs.declared.outcome.Outcome.{Outcome}
use Rattle.dump_inputs.specs.declared.outcome.Outcome.TheVariants.{Lacking, Unread, Written}
use Rattle.dump_lines.specs.declared.document.Verdict.TheVariants.{AllRead, Refused}
use Rattle.dump_options.specs.declared.options.Target.{Target}
use Rattle.dump_options.specs.declared.options.Target.TheVariants.{Offset, Path}
use Rattle.dump_options.specs.declared.options.Task.{Task}
use Rattle.dump_options.specs.declared.options.Task.TheVariants.{At, Dump, Extract}
use Rattle.dump_walk.specs.ByOffset.{HasElementAt, LacksElementAt}
use Rattle.dump_walk.specs.declared.block.NoBlock.{NoBlock}

-- octets as they stand, or nothing where there are none, and the outcome says why
abbrev pub IsPart : Option (List ℕ) → Outcome → List ℕ → Type 0
IsPart (Some octets) outcome text = (outcome ≡ Written AllRead) × (text ≡ octets)
IsPart None (Lacking why) text = text ≡ []
IsPart None _ text = ⊥

-- a block begins at the offset in a document; or none does, and the outcome says so
abbrev pub IsShownIn : ℕ → List ℕ → Outcome → Type 0
IsShownIn offset document outcome =
    ((block contents : List ℕ) × HasElementAt document offset block contents)
    ⊎ (((why : NoBlock) × LacksElementAt document offset why) × (outcome ≡ Written Refused))

-- the block of a document is shown that is meant, or the outcome says that there is none: of a path it may be that at
-- any offset, or none
abbrev pub IsShownBy : Target → List ℕ → Outcome → Type 0
IsShownBy (Offset offset) document outcome = IsShownIn offset document outcome
IsShownBy (Path path) document outcome =
    (outcome ≡ Written Refused) ⊎ ((offset : ℕ) × IsShownIn offset document outcome)

-- what is written of octets by the task: exactly a part of the block that is meant, where there is one; of a dump, that
-- it is rejected where there is no such block
abbrev pub IsTaskText : Task → List ℕ → Outcome → List ℕ → Type 0
IsTaskText Dump input outcome text = Unit {0}
IsTaskText (At target) input outcome text =
    ((document_of input ≡ None) × (outcome ≡ Written Refused))
    ⊎ ((document : List ℕ) × IsReadAs input document × IsShownBy target document outcome)
IsTaskText (Extract part target) input outcome text =
    (octets : Option (List ℕ)) × IsPartAt part target input octets × IsPart octets outcome text

-- what is written of an input, whose octets are these where they are known: nothing where it can't be read
abbrev pub IsInputText : Task → Option (List ℕ) → Outcome → List ℕ → Type 0
IsInputText task input outcome text =
    ((outcome ≡ Unread) × (text ≡ []))
    ⊎ ((octets : List ℕ) × IfSome input (λ known. octets ≡ known) × IsTaskText task octets outcome text)

-- the task has octets written as they stand
abbrev pub is_extract : Task → Bool
is_extract (Extract part target) = true
is_extract _ = false

-- the task is done by a text of some kind: exactly this was written, where octets are written as they stand
abbrev pub IsDone : Task → (List ℕ → Type 0) → Option (List ℕ) → Option (List ℕ) → Type 0
IsDone Dump Is before after = (text : List ℕ) × Is text
IsDone (At target) Is before after = (text : List ℕ) × Is text
IsDone (Extract part target) Is before after = IsWritten Is before after

-- what a reader has left after an input with this outcome: nothing, unless it could not be read
abbrev pub IsReadToEnd : Outcome → Option (List ℕ) → Type 0
IsReadToEnd outcome left = outcome ≢ Unread → IsAtEnd left

-- what all readers have left, after inputs with these outcomes
abbrev pub AreReadToEnds : List Outcome → List (Option (List ℕ)) → Type 0
AreReadToEnds [] [] = Unit {0}
AreReadToEnds (outcome ∷ later) (left ∷ others) = IsReadToEnd outcome left × AreReadToEnds later others
AreReadToEnds _ _ = ⊥
