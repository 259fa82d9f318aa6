-- What an EXTERNAL, an EMBEDDED PDV and a CHARACTER STRING hold. Components are told by their identifier octets.
use Rattle.std.specs.Prelude.{◌==◌, ◌&&◌, ◌||◌, ℕ, Bool, if◌then◌else◌, List, length}
use Rattle.asn1_der.specs.Components.{behind_component, component_of, has_component, is_alone, leading_of}
use Rattle.asn1_der.specs.Contents.{are_subidentifiers, is_bit_string, is_integer}

-- an encoding with the leading octet stands in front
abbrev pub begins_with : ℕ → List ℕ → Bool
begins_with leading octets = has_component octets && (leading_of octets == leading)

-- what follows a component that may be left out
abbrev pub behind_optional : ℕ → List ℕ → List ℕ
behind_optional leading octets = if begins_with leading octets then behind_component octets else octets

-- the encoding of an EXTERNAL, by its leading octet and its contents octets: A0, single-ASN1-type [0] around one
-- encoding; 81, octet-aligned [1] IMPLICIT OCTET STRING; or 82, arbitrary [2] IMPLICIT BIT STRING (8.18.1)
abbrev pub is_external_choice : ℕ → List ℕ → Bool
is_external_choice leading contents =
    if leading == 160 then is_alone contents
    else if leading == 130 then is_bit_string contents
    else leading == 129

abbrev pub is_external_encoding : List ℕ → Bool
is_external_encoding octets = is_alone octets && is_external_choice (leading_of octets) (component_of octets)

-- an EXTERNAL (8.18): a direct-reference, 06, and an indirect-reference, 02, one of which may be left out (8.18.1,
-- 8.18.4), perhaps a data-value-descriptor, 07, and then the encoding
unfoldable pub is_external : List ℕ → Bool
is_external octets =
    (begins_with 6 octets || begins_with 2 octets)
    && is_external_encoding (behind_optional 7 (behind_optional 2 (behind_optional 6 octets)))

-- 81, [1] IMPLICIT OBJECT IDENTIFIER, and nothing behind it
abbrev pub is_second_identifier : List ℕ → Bool
is_second_identifier octets =
    is_alone octets && (leading_of octets == 129) && are_subidentifiers (component_of octets)

-- syntaxes: 80, abstract [0] IMPLICIT OBJECT IDENTIFIER; and 81, transfer [1] IMPLICIT OBJECT IDENTIFIER
unfoldable pub are_syntaxes : List ℕ → Bool
are_syntaxes octets =
    begins_with 128 octets && are_subidentifiers (component_of octets)
    && is_second_identifier (behind_component octets)

-- context-negotiation: 80, presentation-context-id [0] IMPLICIT INTEGER; and 81, transfer-syntax [1] IMPLICIT OBJECT
-- IDENTIFIER
unfoldable pub is_negotiation : List ℕ → Bool
is_negotiation octets =
    begins_with 128 octets && is_integer (component_of octets) && is_second_identifier (behind_component octets)

-- one of six, by its leading octet and its contents octets, all of whose tags are implicit (X.680 36.5, 44.5): A0,
-- syntaxes [0]; 81, syntax [1] OBJECT IDENTIFIER; 82, presentation-context-id [2] INTEGER; A3, context-negotiation [3];
-- 84, transfer-syntax [4] OBJECT IDENTIFIER; 85, fixed [5] NULL
abbrev pub is_identification_choice : ℕ → List ℕ → Bool
is_identification_choice leading contents =
    if leading == 160 then are_syntaxes contents
    else if (leading == 129) || (leading == 132) then are_subidentifiers contents
    else if leading == 130 then is_integer contents
    else if leading == 163 then is_negotiation contents
    else (leading == 133) && (length contents == 0)

abbrev pub is_identification : List ℕ → Bool
is_identification octets = is_alone octets && is_identification_choice (leading_of octets) (component_of octets)

-- an EMBEDDED PDV (8.17) or CHARACTER STRING (8.24): A0, identification [0] around a CHOICE; and 82, the value [2]
-- IMPLICIT OCTET STRING. The descriptor [1] between them is ABSENT (X.680 36.5, 44.5)
unfoldable pub is_identified : List ℕ → Bool
is_identified octets =
    begins_with 160 octets && is_identification (component_of octets) && is_alone (behind_component octets)
    && (leading_of (behind_component octets) == 130)
