-- The objects of PEM (RFC 7468), one after another.
use Rattle.std.specs.Prelude.{◌≡◌, ◌⊎◌, ℕ, Bool, true, false, ◌==◌, List, [], ◌∷◌, ◌++◌, drop, length, if◌then◌else◌, codes, Option, Some, None}
use Rattle.std.specs.List.{list_any}
use Rattle.std.specs.Option.{option_and_then}
use Rattle.std.specs.Result.{result_ok}
use Rattle.std.specs.Str.{bytes_eq}
use Rattle.base64.specs.Engines.{standard}
use Rattle.base64.specs.GeneralPurpose.{decode_of as decode_base64}
use Rattle.der_forms.specs.declared.fault.BadEnd.{BadEnd}
use Rattle.der_forms.specs.declared.fault.BadEnd.TheVariants.{Joined, Missing, OtherLabel}
use Rattle.der_io.specs.Lines.{lines_of}
use Rattle.der_forms.specs.Forms.{InputKind, begins_object, without_mark, without_spaces, objects, unknown_text, plain_octets, spelled}
use Rattle.der_digits.specs.Search.{begins, contains, up_to, without_indent}
use Rattle.der_forms.specs.Known.{form_is}
use Rattle.der_forms.specs.Texts.{text_of}
use Rattle.der_io.specs.Characters.{colon}

-- an object: its label, its octets, or none where they are not to be read, and how it ends, if not as it should
pub record Object : Type 0 where
  pub label : List ℕ
  pub octets : Option (List ℕ)
  pub bad_end : Option BadEnd

-- the label in a line that begins an object: what stands between `-----BEGIN ` and `-----`
abbrev pub label_in : List ℕ → List ℕ
label_in line = up_to (codes "-----") (drop 11 (without_indent line))

-- the line ends an object
abbrev pub ends_object : List ℕ → Bool
ends_object line = begins (codes "-----END ") (without_indent line)

-- of the lines up to the end of an object, one says that it is encrypted (RFC 1421)
abbrev pub is_encrypted : List (List ℕ) → Bool
is_encrypted [] = false
is_encrypted (line ∷ lines) =
    if ends_object line then false
    else if begins (codes "Proc-Type: 4,ENCRYPTED") (without_indent line) then true else is_encrypted lines

-- the symbols of base 64 in a line. One with a colon is a header of the object, and has none
abbrev pub symbols_of : List ℕ → List ℕ
symbols_of line = if list_any (λ b. b == colon) line then [] else without_spaces line

-- the symbols in the lines up to the end of an object
abbrev pub symbols_in : List (List ℕ) → List ℕ
symbols_in [] = []
symbols_in (line ∷ lines) = if ends_object line then [] else symbols_of line ++ symbols_in lines

-- the octets of a private key in the form of OpenSSH, which is not DER
abbrev pub is_openssh : List ℕ → Bool
is_openssh octets = begins (codes "openssh-key-v1" ++ 0 ∷ []) octets

abbrev pub unless_openssh : List ℕ → Option (List ℕ)
unless_openssh octets = if is_openssh octets then None else Some octets

-- the octets of an object that begins before the lines, or none where it is encrypted, no base 64, or not DER
abbrev pub octets_in : List (List ℕ) → Option (List ℕ)
octets_in lines =
    if is_encrypted lines then None
    else option_and_then unless_openssh (result_ok (decode_base64 standard (symbols_in lines)))

-- the label in a line that ends an object: what stands between `-----END ` and `-----`
abbrev pub end_label_in : List ℕ → List ℕ
end_label_in line = up_to (codes "-----") (drop 9 (without_indent line))

-- how a line ends an object with this label, if not as it should
abbrev pub bad_end_by : List ℕ → List ℕ → Option BadEnd
bad_end_by label line =
    if contains (codes "-----BEGIN ") line then Some Joined
    else if bytes_eq (end_label_in line) label then None else Some OtherLabel

-- how an object ends that begins before the lines with this label, if its own line does not end it
abbrev pub bad_end_in : List ℕ → List (List ℕ) → Option BadEnd
bad_end_in label [] = Some Missing
bad_end_in label (line ∷ lines) = if ends_object line then bad_end_by label line else bad_end_in label lines

-- the object that begins before the lines with this label
abbrev pub object_in : List ℕ → List (List ℕ) → Object
object_in label lines = record { label = label; octets = octets_in lines; bad_end = bad_end_in label lines }

-- what the line has from the words `-----BEGIN ` on
abbrev pub begun_in : List ℕ → List ℕ
begun_in line = drop (length (up_to (codes "-----BEGIN ") line)) line

-- each object that begins in the lines, which stand inside an object or do not. One may begin in the line that ends
-- another
abbrev pub objects_in : Bool → List (List ℕ) → List Object
objects_in inside [] = []
objects_in true (line ∷ lines) =
    if ends_object line
    then
    (if begins_object (begun_in line)
    then object_in (label_in (begun_in line)) lines ∷ objects_in true lines
    else objects_in false lines)
    else objects_in true lines
objects_in false (line ∷ lines) =
    if begins_object line then object_in (label_in line) lines ∷ objects_in true lines else objects_in false lines

-- each object of an input
abbrev pub objects_of : List ℕ → List Object
objects_of input = objects_in false (lines_of (without_mark input))

-- the octets of an object, or none where its own line does not end it
abbrev pub unless_bad_end : Option BadEnd → Option (List ℕ) → Option (List ℕ)
unless_bad_end None octets = octets
unless_bad_end (Some how) octets = None

-- the octets of the first object, or none where it does not end as it should
abbrev pub first_of : List Object → Option (List ℕ)
first_of [] = None
first_of (object ∷ later) = unless_bad_end object.bad_end object.octets

abbrev pub document_in : InputKind → List ℕ → Option (List ℕ)
document_in objects input = first_of (objects_of input)
document_in (spelled octets) input = Some octets
document_in unknown_text input = None
document_in plain_octets input = Some input

-- the octets of the document that a text has, the first one of PEM
abbrev pub document_in_text : List ℕ → Option (List ℕ)
document_in_text text = document_in (form_is text) text

-- the octets of the document that an input has
abbrev pub document_of : List ℕ → Option (List ℕ)
document_of input = document_in_text (text_of input)

-- the octets of the document that an input has; or they are those of a text in no form that is told, as a source of C
-- and columns with lines left out
abbrev pub IsReadAs : List ℕ → List ℕ → Type 0
IsReadAs input octets = (document_of input ≡ Some octets) ⊎ (form_is (text_of input) ≡ unknown_text)
