-- The header at the front of octets, and what it says of them.
use Rattle.std.specs.Prelude.{◌≡◌, ◌↔◌, ◌&&◌, not, ℕ, ◌+◌, ◌≤◌, min, Bool, true, false, IsTrue, List, length, slice_range}
use Rattle.asn1_headers.specs.Front.{HasIndefiniteForm, IsAtFront, KnowsParts}
use Rattle.asn1_headers.specs.declared.whole_header.Header.{Header}
use Rattle.dump_values.specs.Tags.{is_gone_into}

-- the header stands at the front of the octets, and tells its parts and its form
abbrev pub IsHeaderOf : List ℕ → Header → Type 0
IsHeaderOf octets header =
    IsAtFront octets header × KnowsParts octets header × (IsTrue header.is_indefinite ↔ HasIndefiniteForm octets)

-- a primitive encoding has a length of the indefinite form, which only a constructed one may have (X.690 8.1.3.2). It
-- is read as a length of 0
abbrev pub is_stray : Header → Bool
is_stray header = not header.constructed && header.has_length_80

-- the octets begin with an encoding that has the header and is whole, or of the indefinite form, as it may be
abbrev pub IsHeaderOfWhole : List ℕ → Header → Type 0
IsHeaderOfWhole octets header =
    IsHeaderOf octets header × (header.size + header.announced ≤ length octets) × (is_stray header ≡ false)

-- the octets do not begin with such an encoding
abbrev pub HasNoWhole : List ℕ → Type 0
HasNoWhole octets = (header : Header) → IsHeaderOfWhole octets header → ⊥

-- the contents octets of an encoding are gone into
abbrev pub is_opened : Header → Bool
is_opened header = is_gone_into header.class header.constructed header.tag

-- the contents octets that the header announces
abbrev pub contents_in : List ℕ → Header → List ℕ
contents_in octets header = slice_range octets header.size (header.size + header.announced)

-- how many octets an encoding takes at most, of so many: those that its header announces, or in the indefinite form all
abbrev pub taken : Bool → ℕ → ℕ → ℕ
taken true announced there = there
taken false announced there = min announced there

-- how many of the octets it takes at most
abbrev pub size_in : List ℕ → Header → ℕ
size_in octets header = taken header.is_indefinite (header.size + header.announced) (length octets)
