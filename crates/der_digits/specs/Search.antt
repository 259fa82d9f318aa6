-- Parts of a text: how it begins, and what stands before a part.
use Rattle.std.specs.Prelude.{ℕ, Bool, false, ◌==◌, nat_lt, List, [], ◌∷◌, drop, if◌then◌else◌, length, suc, take}
use Rattle.std.specs.Char.{is_ascii_whitespace}
use Rattle.std.specs.List.{list_all, prefix_len, starts_with}

-- the text begins with the part
abbrev pub begins : List ℕ → List ℕ → Bool
begins part text = starts_with (λ a b. a == b) text part

-- the text begins with an octet that passes the test
abbrev pub begins_by : (ℕ → Bool) → List ℕ → Bool
begins_by test [] = false
begins_by test (b ∷ text) = test b

-- there is an octet, and each passes the test
abbrev pub all_of_some : (ℕ → Bool) → List ℕ → Bool
all_of_some test [] = false
all_of_some test (b ∷ octets) = list_all test (b ∷ octets)

-- the line without the white space at its front
abbrev pub without_indent : List ℕ → List ℕ
without_indent line = drop (prefix_len is_ascii_whitespace line) line

-- how many octets stand before the part, or in a text in which it does not stand
abbrev pub count_before : List ℕ → List ℕ → ℕ
count_before part [] = 0
count_before part (b ∷ text) = if begins part (b ∷ text) then 0 else suc (count_before part text)

-- what stands before the part, or all of a text in which it does not stand
abbrev pub up_to : List ℕ → List ℕ → List ℕ
up_to part text = take (count_before part text) text

-- the part stands in the text
abbrev pub contains : List ℕ → List ℕ → Bool
contains part text = nat_lt (length (up_to part text)) (length text)
