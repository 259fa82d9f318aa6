-- Going over the pieces of octets, for `walk` and `dump_lines`.
use Rattle.std.proofs.Common.{◌≡◌, ℕ, ◌+◌, ◌-◌, ◌<◌, Bool, true, false, List, ◌++◌, drop, length, slice_range, sym, ap, ◌∙◌, subst, arith}
use Rattle.std.proofs.lemmas.List.{take-append-drop}
use Rattle.asn1_headers.specs.declared.whole_header.Header.{Header}
use Rattle.dump_walk.specs.Fronts.{Front, IsNextLine, StandAt, an_encoding, end_missing, end_there, no_header}
use Rattle.dump_walk.specs.Headers.{IsHeaderOf, size_in, taken}
use Rattle.dump_walk.specs.Steps.{IsTaken, Takes}
use Rattle.dump_walk.specs.declared.cursor.Left.{Left}
use Rattle.dump_walk.specs.declared.cursor.Step.{Step}
use Rattle.dump_walk.specs.declared.cursor.Step.TheVariants.{Into, Out, Past}
use Rattle.dump_walk.proofs.HeaderFronts.{BeginsWithHeader-some}

-- an encoding takes some octets, where it announces some and some are there
taken-some : (indefinite : Bool) (n there : ℕ) → 0 < n → 0 < there → 0 < taken indefinite n there
taken-some true n there some left = left
taken-some false n there some left = omega (arith, some, left)

-- where a header stands at the front of octets, it has some, they are some, and its encoding takes some of them
pub size-some :
    (octets : List ℕ) (header : Header) → IsHeaderOf octets header →
    (0 < header.size) × (0 < length octets) × (0 < size_in octets header)
size-some octets header (h, parts, form) =
    let some =
    BeginsWithHeader-some octets header.size header.announced header.class header.constructed header.tag h in
    let there : 0 < length octets = omega (arith, h.within, some) in (
      some,
      there,
      taken-some header.is_indefinite (header.size + header.announced) (length octets)
          (omega (arith, some)) there,
    )

-- a step over an encoding takes some octets
pub Takes-encoding :
    (left : Left) (header : Header) (step : Step) → IsHeaderOf left.octets.now header →
    IsTaken header (size_in left.octets.now header) step → Takes step left
Takes-encoding left header (Into first size indefinite) begins (opened, first_is, size_is, same) =
    let some = size-some left.octets.now header begins in
    (omega (arith, first_is, some.0), some.1)
Takes-encoding left header (Past size) begins (closed, size_is) =
    let some = size-some left.octets.now header begins in
    (omega (arith, size_is, some.2), some.1)
Takes-encoding left header (Out size) is none = absurd none

-- a step over what comes next takes some octets or leaves contents octets
pub Takes-next :
    (left : Left) (offset depth : ℕ) (step : Step) (front : Front) (faults : List ℕ) →
    IsNextLine left.is_indefinite offset depth left.octets.now step front faults → Takes step left
Takes-next left offset depth step front faults (end_there within begins two is none) =
    subst (λ z. Takes z left) (sym two) tt
Takes-next left offset depth step front faults (end_missing within nothing zero is missing) =
    subst (λ z. Takes z left) (sym zero) tt
Takes-next left offset depth step front faults (no_header other some none past is unread) =
    subst (λ z. Takes z left) (sym past) (some, some)
Takes-next left offset depth step front faults (an_encoding other header begins taken_is is read) =
    Takes-encoding left header step begins taken_is

-- what is left stands at the offset
pub StandAt-left : (octets left : List ℕ) (offset end : ℕ) → left ≡ slice_range octets offset end →
    StandAt octets offset left
StandAt-left octets left offset end e =
    let rest = drop offset octets in (
      drop (end - offset) rest,
      sym (take-append-drop (end - offset) rest) ∙ ap (λ z. z ++ drop (end - offset) rest) (sym e),
    )
