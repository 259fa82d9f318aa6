-- What was read of the piece that begins what is left, for `piece`.
use Rattle.std.proofs.Common.{◌≡◌, ℕ, ◌<◌, Bool, true, false, List, [], ◌∷◌, ap, refl, arith}
use Rattle.std.specs.Prelude.{Option, None, Some}
use Rattle.asn1_der.specs.declared.rule.Rule.{Rule}
use Rattle.asn1_headers.specs.declared.whole_header.Header.{Header}
use Rattle.dump_values.specs.Values.{IsMeaning}
use Rattle.dump_values.specs.declared.faults.Fault.{Fault}
use Rattle.dump_values.specs.declared.value.LeafValue.{LeafValue}
use Rattle.dump_walk.specs.Fronts.{IsJudged, with_no_value, with_value}
use Rattle.dump_walk.specs.Headers.{contents_in, is_opened, is_stray, taken}
use Rattle.dump_walk.specs.Pieces.{fault_offset, kind_front}
use Rattle.dump_walk.specs.declared.piece.PieceKind.{PieceKind}

-- a fault stands at its offset
pub fault_offset-at : (offset : ℕ) (fault : Fault) → fault.offset ≡ offset → fault_offset (Some fault) ≡ offset ∷ []
fault_offset-at offset fault at = ap (λ z. z ∷ []) at

-- the line of a piece that breaks no rules begins so
pub kind_front-plain :
    (offset depth : ℕ) (rules : List Rule) (spare : Bool) (kind : PieceKind) → rules ≡ [] → spare ≡ false →
    kind_front offset depth [] false kind ≡ kind_front offset depth rules spare kind
kind_front-plain offset depth rules spare kind none definite = rw (none, definite) refl

-- an encoding that is cut short takes all octets that are there
pub taken-cut : (indefinite : Bool) (n there : ℕ) → there < n → there ≡ taken indefinite n there
taken-cut true n there less = refl
taken-cut false n there less = omega (arith, less)

-- the value of contents octets that are not gone into, or what is wrong with them
pub IsJudged-meaning :
    (octets : List ℕ) (header : Header) (offset : ℕ) (value : Option LeafValue) (fault : Option Fault) →
    is_stray header ≡ false → is_opened header ≡ false →
    IsMeaning header.class header.tag (contents_in octets header) offset value fault →
    IsJudged octets header offset value (fault_offset fault)
IsJudged-meaning octets header offset None None stray closed (universal, (found, wrong, is)) = absurd is
IsJudged-meaning octets header offset None (Some fault) stray closed (universal, (found, wrong, is)) =
    with_no_value found stray closed universal wrong refl (fault_offset-at offset fault is.0)
IsJudged-meaning octets header offset (Some value) fault stray closed (is, none) =
    with_value value stray closed is refl (ap fault_offset none)
