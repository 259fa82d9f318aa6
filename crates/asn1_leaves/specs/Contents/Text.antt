-- Contents octets of the strings of characters (X.690 8.23): six tags, three forms.
use Rattle.std.specs.Prelude.{◌≡◌, ◌==◌, ◌||◌, ℕ, Bool, true, List, nat_lt, if◌then◌else◌, codes, Option, Some, None, IsUtf8, encode_utf8_all}
use Rattle.std.specs.Char.{is_ascii_alphanumeric}
use Rattle.std.specs.Str.{all_scalars}
use Rattle.std.specs.List.{list_all, list_any}
use Rattle.asn1_leaves.specs.declared.contents.text.TextForm.{TextForm}
use Rattle.asn1_leaves.specs.declared.contents.text.TextForm.TheVariants.{Utf8, Printable, Octets}
use Rattle.asn1_headers.specs.declared.error.ASN1EncodeErr.{ASN1EncodeErr}
use Rattle.asn1_headers.specs.declared.error.ASN1EncodeErr.TheVariants.{CharacterTooLarge}
use Rattle.asn1_headers.specs.Fault.{DecodeFault, utf8_fault, printable_string_failure}
use Rattle.asn1_leaves.specs.StringKind.{StringKind, printable, ia5}

-- the form of a string: UTF-8 of all but two kinds, where X.690 8.23 has it of a UTF8String alone
abbrev pub text_form : StringKind → TextForm
text_form printable = Printable
text_form ia5 = Octets
text_form kind = Utf8

-- the characters of a PrintableString (X.680 table 10)
abbrev pub is_printable : ℕ → Bool
is_printable c = is_ascii_alphanumeric c || list_any (λ d. c == d) (codes " '()+,-./:=?")

-- the characters in UTF-8, or an octet for each, its number
abbrev pub TextContents : TextForm → List ℕ → List ℕ → Type 0
TextContents Utf8 cs contents = (all_scalars cs ≡ true) × (encode_utf8_all cs ≡ contents)
TextContents Printable cs contents = (list_all is_printable contents ≡ true) × (cs ≡ contents)
TextContents Octets cs contents = cs ≡ contents

-- the octets mean no characters in this form, with this fault
abbrev pub TextFault : TextForm → List ℕ → DecodeFault → Type 0
TextFault Utf8 contents fault = (IsUtf8 contents → ⊥) × (fault ≡ utf8_fault contents)
TextFault Printable contents fault =
    (list_all is_printable contents ≡ true → ⊥) × (fault ≡ printable_string_failure)
TextFault Octets contents fault = ⊥

-- the octets that are written
abbrev pub text_contents : TextForm → List ℕ → List ℕ
text_contents Utf8 cs = encode_utf8_all cs
text_contents Printable cs = cs
text_contents Octets cs = cs

-- why characters of one octet each can't be written: one of them is past 255
abbrev pub octet_write_fault : List ℕ → Option ASN1EncodeErr
octet_write_fault cs = if list_all (λ c. nat_lt c 256) cs then None else Some CharacterTooLarge

abbrev pub text_write_fault : TextForm → List ℕ → Option ASN1EncodeErr
text_write_fault Utf8 cs = None
text_write_fault Printable cs = octet_write_fault cs
text_write_fault Octets cs = octet_write_fault cs

-- the characters that the form has: any, the 74, or those up to 255
abbrev pub HasCharacters : TextForm → List ℕ → Type 0
HasCharacters Utf8 cs = all_scalars cs ≡ true
HasCharacters Printable cs = list_all is_printable cs ≡ true
HasCharacters Octets cs = list_all (λ c. nat_lt c 256) cs ≡ true
