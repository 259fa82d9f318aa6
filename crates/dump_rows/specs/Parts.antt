-- What is printed of the parts of rows and notes in each look.
use Rattle.std.specs.Prelude.{ℕ, ◌/◌, ◌%◌, ◌==◌, ◌&&◌, not, nat_lt, Bool, true, false, if◌then◌else◌, None, Option, Some, List, [], ◌∷◌, ◌++◌, codes, decimal}
use Rattle.std.specs.Char.{encode_utf8}
use Rattle.std.specs.Fmt.{digits}
use Rattle.std.specs.List.{flat_map, repeat}
use Rattle.std.specs.Str.{chars}
use Rattle.der_io.specs.Characters.{line_feed, space}
use Rattle.der_io.specs.Escaped.{all_escaped}
use Rattle.dump_rows.specs.Rows.{shown_text, size_text}
use Rattle.dump_rows.specs.declared.part.Look.{Look}
use Rattle.dump_rows.specs.declared.part.Look.TheVariants.{Colored, Page, Plain}
use Rattle.dump_rows.specs.declared.part.Paint.{Paint}
use Rattle.dump_rows.specs.declared.part.Paint.TheVariants.{Bold, Cyan, Default, Dim, Red}
use Rattle.dump_rows.specs.declared.part.Part.{Part}
use Rattle.dump_rows.specs.declared.part.Part.TheVariants.{End, FoldEnds, Octets, OctetsStart, SectionEnd, SectionStart, Start, Text}
use Rattle.dump_rows.specs.declared.part.Place.{Place}

-- the number of SGR by which a terminal shows what follows in this way (ECMA-48 8.3.117)
abbrev pub number_of : Paint → ℕ
number_of Default = 0
number_of Bold = 1
number_of Dim = 2
number_of Red = 31
number_of Cyan = 36

-- text between an escape sequence for the color and one for none
abbrev pub painted : Paint → List ℕ → List ℕ
painted Default text = text
painted paint [] = []
painted paint (c ∷ text) =
    27 ∷ codes "[" ++ (decimal (number_of paint) ++ (codes "m" ++ ((c ∷ text) ++ (27 ∷ codes "[0m"))))

-- what stands for a character on a page (HTML, 13.1.4): the five that have a meaning there have names
abbrev pub entity : ℕ → List ℕ
entity c =
    if c == 38 then codes "&amp;"
    else if c == 60 then codes "&lt;"
    else if c == 62 then codes "&gt;"
    else if c == 34 then codes "&quot;"
    else if c == 39 then codes "&#39;"
    else encode_utf8 c

-- an octet that is a character of ASCII, and none of these five
abbrev pub stands_raw : ℕ → Bool
stands_raw b =
    nat_lt b 128 && not (b == 38) && not (b == 60) && not (b == 62) && not (b == 34) && not (b == 39)

-- text in a look: on a page each character that has a meaning there is escaped
abbrev pub in_look : Look → Paint → List ℕ → List ℕ
in_look Plain paint text = text
in_look Colored paint text = painted paint text
in_look Page paint text = all_escaped entity (chars text)

-- the beginning of an element of a page: a fold or a line, with the class `fault` if something is wrong
abbrev pub start_tag : Bool → Bool → List ℕ
start_tag true true = codes "<details open><summary class=\"fault\""
start_tag true false = codes "<details open><summary"
start_tag false true = codes "<p tabindex=\"0\" class=\"fault\""
start_tag false false = codes "<p tabindex=\"0\""

-- with where the octets stand
abbrev pub start_text : Bool → Bool → List ℕ → List ℕ
start_text fold fault place = start_tag fold fault ++ (place ++ codes ">")

-- where the octets of a row stand
abbrev pub place_text : Option Place → List ℕ
place_text None = []
place_text (Some place) =
    (codes " data-offset=\"" ++ (decimal place.offset ++ (codes "\" data-header=\"" ++ (decimal place.header
    ++ codes "\" data-contents=\"")))) ++ (size_text place.contents ++ codes "\"")

-- an octet in hex digits, and a space
abbrev pub octet_text : ℕ → List ℕ
octet_text b = digits 16 false (b / 16) ++ (digits 16 false (b % 16) ++ space ∷ [])

abbrev pub octets_text : List ℕ → List ℕ
octets_text = flat_map octet_text

-- what a line has of a part that is no text: its end
abbrev pub in_line : Part → List ℕ
in_line (End fold) = line_feed ∷ []
in_line other = []

-- what is written of a part
abbrev pub written : Look → Part → List ℕ
written look (Text paint text) = in_look look paint (shown_text text.now)
written Page (Start fold fault place) = start_text fold fault (place_text place)
written Page (End true) = codes "</summary>\n"
written Page (End false) = codes "</p>\n"
written Page (FoldEnds n) = repeat n (codes "</details>\n")
written Page SectionStart = codes "<section><div class=\"tree\">\n"
written Page OctetsStart = codes "</div><pre class=\"octets\">"
written Page (Octets octets) = octets_text octets.now
written Page SectionEnd = codes "</pre></section>\n"
written look other = in_line other

-- the text of parts
abbrev pub text_of : List Part → List ℕ
text_of = flat_map (written Plain)
