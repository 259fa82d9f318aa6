-- Blocks that are meant by an offset or by a path, for `blocks`.
use Rattle.std.proofs.Common.{◌≡◌, ℕ, List, inl, inr, refl, subst}
use Rattle.std.specs.Prelude.{None, Option}
use Rattle.dump_inputs.specs.Blocks.{IsMeantBy, IsPartBy, IsPartIn, IsPath}
use Rattle.dump_inputs.specs.Inputs.{IsShownBy, IsShownIn}
use Rattle.dump_inputs.specs.declared.outcome.Outcome.{Outcome}
use Rattle.dump_inputs.specs.declared.outcome.Outcome.TheVariants.{Written}
use Rattle.dump_lines.specs.declared.document.Verdict.TheVariants.{Refused}
use Rattle.dump_options.specs.declared.options.Part.{Part}
use Rattle.dump_options.specs.declared.options.Target.{Target}
use Rattle.dump_options.specs.declared.options.Target.TheVariants.{Offset, Path}

-- a part of the block at the offset that is meant is one of the block that is meant
pub IsPartBy-at :
    (target : Target) (found : ℕ) (part : Part) (document : List ℕ) (octets : Option (List ℕ)) →
    IsMeantBy target found → IsPartIn part found document octets → IsPartBy target part document octets
IsPartBy-at (Offset offset) found part document octets same is = subst (λ z. IsPartIn part z document octets) same is
IsPartBy-at (Path path) found part document octets meant is = inr (found, is)

-- of a path there may be no part of a block
pub IsPartBy-none :
    (target : Target) (part : Part) (document : List ℕ) → IsPath target → IsPartBy target part document None
IsPartBy-none (Offset offset) part document none = absurd none
IsPartBy-none (Path path) part document none = inl refl

-- where the block at the offset is shown that is meant, the block is shown that is meant
pub IsShownBy-at :
    (target : Target) (found : ℕ) (document : List ℕ) (outcome : Outcome) →
    IsMeantBy target found → IsShownIn found document outcome → IsShownBy target document outcome
IsShownBy-at (Offset offset) found document outcome same is = subst (λ z. IsShownIn z document outcome) same is
IsShownBy-at (Path path) found document outcome meant is = inr (found, is)

-- of a path it may be that no block is shown
pub IsShownBy-none :
    (target : Target) (document : List ℕ) (outcome : Outcome) →
    IsPath target → outcome ≡ Written Refused → IsShownBy target document outcome
IsShownBy-none (Offset offset) document outcome none refused = absurd none
IsShownBy-none (Path path) document outcome none refused = inl refused
