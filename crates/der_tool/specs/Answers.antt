-- What is answered to lines, each a document in hex digits.
use Rattle.std.specs.Prelude.{◌≡◌, ◌⊎◌, ◌++◌, ℕ, List, [], ◌∷◌, MatchResult, codes, decimal}
use Rattle.std.specs.Fmt.{signed_decimal}
use Rattle.hex.specs.Hex.{decode_of, encode_upper}
use Rattle.der_io.specs.Lines.{lines_of}
use Rattle.simple_asn1.specs.Tree.{Trees}
use Rattle.simple_asn1.specs.Grammar.{IsDocument, FirstFault}
use Rattle.simple_asn1.specs.Canonical.{all_canonical}
use Rattle.simple_asn1.specs.Fault.{DecodeFault, bad_boolean_length, length_too_large, invalid_bit_string_length, not_canonical}
use Rattle.simple_asn1.specs.Names.{fault_name}
use Rattle.simple_asn1.specs.ReadBack.{IsCanonicalDocument}
use Rattle.simple_asn1.specs.Strict.{StrictFault}
use Rattle.der_tool.specs.declared.answers.Reading.{Reading}
use Rattle.der_tool.specs.declared.answers.Reading.TheVariants.{Lenient, Strict}

-- what follows the name: of four faults a space and their number
abbrev pub number_after : DecodeFault → List ℕ
number_after (bad_boolean_length n) = codes " " ++ decimal n
number_after (length_too_large n) = codes " " ++ decimal n
number_after (invalid_bit_string_length n) = codes " " ++ signed_decimal n
number_after (not_canonical n) = codes " " ++ decimal n
number_after fault = []

-- the answer to octets with a fault: its name, and its number if it has one
abbrev pub refusal : DecodeFault → List ℕ
refusal fault = codes "refused " ++ (fault_name fault ++ number_after fault)

-- the octets are accepted, and these are their canonical ones: of any document; strictly, of one that
-- is its canonical octets
abbrev pub IsAccepted : Reading → List ℕ → List ℕ → Type 0
IsAccepted Lenient octets canonical =
    (bs : Trees ℕ) × IsDocument octets bs × (canonical ≡ all_canonical bs)
IsAccepted Strict octets canonical = IsCanonicalDocument octets × (canonical ≡ octets)

-- the octets are refused, with this fault
abbrev pub IsRefused : Reading → List ℕ → DecodeFault → Type 0
IsRefused Lenient octets fault = FirstFault octets fault
IsRefused Strict octets fault = StrictFault octets fault

-- the answer to octets: the canonical octets of those that are accepted, and else the fault
abbrev pub IsVerdict : Reading → List ℕ → List ℕ → Type 0
IsVerdict reading octets answer =
    ((canonical : List ℕ) × IsAccepted reading octets canonical
    × (answer ≡ codes "ok " ++ encode_upper canonical))
    ⊎ ((fault : DecodeFault) × IsRefused reading octets fault × (answer ≡ refusal fault))

-- the answer to a line: that to its octets, or that it is no hex digits
abbrev pub IsAnswer : Reading → List ℕ → List ℕ → Type 0
IsAnswer reading line answer =
    MatchResult (decode_of line)
    (λ octets. IsVerdict reading octets answer)
    (λ _. answer ≡ codes "badhex")

-- the output is the answers to the lines, each ended by byte 0A
abbrev pub AreLineAnswers : Reading → List (List ℕ) → List ℕ → Type 0
AreLineAnswers reading [] output = output ≡ []
AreLineAnswers reading (line ∷ lines) output =
    (answer : List ℕ) × (rest : List ℕ) × (output ≡ answer ++ 10 ∷ rest)
    × IsAnswer reading line answer × AreLineAnswers reading lines rest

-- the output is the answers to the input's lines
abbrev pub AreAnswers : Reading → List ℕ → List ℕ → Type 0
AreAnswers reading input output = AreLineAnswers reading (lines_of input) output
