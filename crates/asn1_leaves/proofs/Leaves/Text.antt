-- What is known of the contents octets of a string of characters, in each of their forms, for `asn1_blocks`.
use Rattle.std.proofs.Common.{◌≡◌, ℕ, ◌<◌, ◌⊎◌, List, None, inl, inr, refl, sym, ap, ◌∙◌, subst}
use Rattle.std.specs.Prelude.{All}
use Rattle.std.specs.List.{list_all}
use Rattle.std.specs.Str.{is_utf8}
use Rattle.std.proofs.lemmas.Bool.{false≢true, cases_Bool}
use Rattle.std.proofs.lemmas.Str.{encodes_same, IsUtf8-from_is_utf8, is_utf8-from_IsUtf8}
use Rattle.asn1_leaves.specs.declared.contents.text.TextForm.{TextForm}
use Rattle.asn1_leaves.specs.declared.contents.text.TextForm.TheVariants.{Utf8, Printable, Octets}
use Rattle.asn1_headers.specs.Fault.{DecodeFault, IsOfReading, utf8_fault, printable_string_failure}
use Rattle.asn1_leaves.specs.Contents.Text.{is_printable, HasCharacters, TextContents, TextFault, octet_write_fault, text_contents, text_write_fault}
use Rattle.asn1_leaves.proofs.Characters.{octet_write_fault-octets, list_all-writable, octet_write_fault-printable}

-- contents octets mean one list of characters
pub TextContents-unique : (form : TextForm) (cs ds contents : List ℕ) → TextContents form cs contents →
    TextContents form ds contents → cs ≡ ds
TextContents-unique Utf8 cs ds contents p q = encodes_same cs ds (p.1 ∙ sym q.1)
TextContents-unique Printable cs ds contents p q = p.1 ∙ sym q.1
TextContents-unique Octets cs ds contents p q = p ∙ sym q

-- contents octets that mean characters have no fault
pub TextContents-no_fault : (form : TextForm) (cs contents : List ℕ) (e : DecodeFault) → TextContents form cs contents →
    TextFault form contents e → ⊥
TextContents-no_fault Utf8 cs contents e p f = f.0 (cs, (p.0, p.1))
TextContents-no_fault Printable cs contents e p f = f.0 p.0
TextContents-no_fault Octets cs contents e p f = f

-- contents octets that mean no characters have a fault
pub TextContents-or_fault : (form : TextForm) (contents : List ℕ)
    → ((cs : List ℕ) × TextContents form cs contents) ⊎ ((e : DecodeFault) × TextFault form contents e)
TextContents-or_fault Utf8 contents = elim (cases_Bool (is_utf8 contents)) [
  | inl are ↦ inl (IsUtf8-from_is_utf8 contents are)
  | inr fails ↦ inr (utf8_fault contents, ((λ u. false≢true (sym fails ∙ is_utf8-from_IsUtf8 contents u)), refl))
]
TextContents-or_fault Printable contents = elim (cases_Bool (list_all is_printable contents)) [
  | inl are ↦ inl (contents, (are, refl))
  | inr fails ↦ inr (printable_string_failure, ((λ p. false≢true (sym fails ∙ p)), refl))
]
TextContents-or_fault Octets contents = inl (contents, refl)

-- the fault of contents octets that mean no characters is one of reading
pub TextFault-of_reading : (form : TextForm) (contents : List ℕ) (e : DecodeFault) → TextFault form contents e →
    IsOfReading e
TextFault-of_reading Utf8 contents e f = subst IsOfReading (sym f.1) tt
TextFault-of_reading Printable contents e f = subst IsOfReading (sym f.1) tt
TextFault-of_reading Octets contents e f = absurd f

-- characters that octets mean can be written
pub text_write_fault-read : (form : TextForm) (cs contents : List ℕ) → All (λ b. b < 256) contents →
    TextContents form cs contents
    → text_write_fault form cs ≡ None
text_write_fault-read Utf8 cs contents all p = refl
text_write_fault-read Printable cs contents all p = ap octet_write_fault p.1 ∙ octet_write_fault-octets contents all
text_write_fault-read Octets cs contents all p = ap octet_write_fault p ∙ octet_write_fault-octets contents all

-- what is written of characters that the form has means them
pub TextContents-written : (form : TextForm) (cs : List ℕ) → HasCharacters form cs →
    TextContents form cs (text_contents form cs)
TextContents-written Utf8 cs f = (f, refl)
TextContents-written Printable cs f = (f, refl)
TextContents-written Octets cs f = refl

-- characters that the form has can be written
pub text_write_fault-characters : (form : TextForm) (cs : List ℕ) → HasCharacters form cs →
    text_write_fault form cs ≡ None
text_write_fault-characters Utf8 cs f = refl
text_write_fault-characters Printable cs f = octet_write_fault-printable cs f
text_write_fault-characters Octets cs f = rw f refl

-- characters that can be written are those that the form has, where what is written means them
pub HasCharacters-written : (form : TextForm) (cs : List ℕ) → text_write_fault form cs ≡ None →
    TextContents form cs (text_contents form cs)
    → HasCharacters form cs
HasCharacters-written Utf8 cs w p = p.0
HasCharacters-written Printable cs w p = p.0
HasCharacters-written Octets cs w p = list_all-writable cs w

-- characters that were read are those that the form has
pub HasCharacters-read : (form : TextForm) (cs contents : List ℕ) → All (λ b. b < 256) contents →
    TextContents form cs contents →
    HasCharacters form cs
HasCharacters-read Utf8 cs contents all p = p.0
HasCharacters-read Printable cs contents all p = ap (list_all is_printable) p.1 ∙ p.0
HasCharacters-read Octets cs contents all p = list_all-writable cs (text_write_fault-read Octets cs contents all p)
