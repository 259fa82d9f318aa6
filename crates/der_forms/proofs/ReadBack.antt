-- What is written as PEM is read as one object. For `written::to_pem`.
use Rattle.std.proofs.Common.{◌≡◌, ◌==◌, ◌&&◌, ◌||◌, ◌≤◌, ◌*◌, ◌%◌, ◌∙◌, ℕ, zero, suc, Bool, true, false, List, [], ◌∷◌, ◌++◌, refl, sym, ap, arith, append_assoc, append-nil, length, take, drop, inl, inr, nat_lt}
use Rattle.std.specs.Prelude.{None, codes}
use Rattle.std.specs.List.{list_all}
use Rattle.std.specs.Str.{bytes_eq}
use Rattle.std.proofs.lemmas.Bool.{and_parts, and_right, cases_Bool, cases_lt, eq-eqb, eqb-true, false≢true, le-ltb}
use Rattle.std.proofs.lemmas.List.Folds.{list_all-append}
use Rattle.std.proofs.lemmas.List.{drop_all, length-drop, length-take-le, nil_from_length, take_all, take-append-drop}
use Rattle.base64.proofs.EngineFacts.{decode_of-encode_of, encode_of-append, encode_of-nil}
use Rattle.base64.specs.Engines.{standard}
use Rattle.base64.specs.GeneralPurpose.{IsBytes, encode_of}
use Rattle.der_digits.specs.Search.{begins, contains, up_to, without_indent}
use Rattle.der_forms.specs.Forms.{begins_object}
use Rattle.der_forms.specs.Objects.{bad_end_by, bad_end_in, begun_in, end_label_in, ends_object, is_encrypted, label_in, objects_in, objects_of, octets_in, symbols_in, unless_openssh}
use Rattle.der_forms.specs.Written.{base64_lines, boundary, is_label, is_label_character, is_label_rest, line_count, written_object, written_pem}
use Rattle.der_forms.proofs.Symbols.{are_plain-encoded, begins-plain, is_in_line, is_in_line-plain, is_plain, lines_of-line, no_colon-plain, without_indent-plain, without_spaces-plain}
use Rattle.der_io.specs.Characters.{hyphen, line_feed, space}
use Rattle.der_io.specs.Lines.{lines_of}

abbrev hyphens : List ℕ
hyphens = codes "-----"

-- a character of a label is no hyphen
not_hyphen : (b : ℕ) → is_label_character b ≡ true → (hyphen == b) ≡ false
not_hyphen b h = elim (cases_Bool (hyphen == b)) [
  | inl is_so ↦ absurd (false≢true (rw (← eqb-true hyphen b is_so) at h))
  | inr is_not ↦ is_not
]

-- what follows no character begins with one
first_of_rest : (b : ℕ) (rest : List ℕ) → is_label_rest false (b ∷ rest) ≡ true → is_label_character b ≡ true
first_of_rest b rest h = elim (cases_Bool (is_label_character b)) [
  | inl is_so ↦ is_so
  | inr is_not ↦ absurd (false≢true (rw is_not at h))
]

-- behind what is no character of a label stands one
rest_behind :
    (behind : Bool) (b : ℕ) (rest : List ℕ) → is_label_rest behind (b ∷ rest) ≡ true → is_label_character b ≡ false →
    ((b == space || b == hyphen) ≡ true) × (is_label_rest false rest ≡ true)
rest_behind behind b rest h other =
    let parts = and_parts (behind && (b == space || b == hyphen)) (is_label_rest false rest) (rw other at h) in
    ((and_parts behind (b == space || b == hyphen) parts.0).1, parts.1)

-- what stands before words and an octet at which they do not begin
up_to-later :
    (part : List ℕ) (b : ℕ) (text : List ℕ) → begins part (b ∷ text) ≡ false →
    up_to part (b ∷ text) ≡ b ∷ up_to part text
up_to-later part b text e = rw e refl

not_first :
    (more : List ℕ) (b : ℕ) (text : List ℕ) → (hyphen == b) ≡ false →
    begins (hyphen ∷ hyphen ∷ more) (b ∷ text) ≡ false
not_first more b text e = rw e refl

not_second :
    (more : List ℕ) (b c : ℕ) (text : List ℕ) → (hyphen == c) ≡ false →
    begins (hyphen ∷ hyphen ∷ more) (b ∷ c ∷ text) ≡ false
not_second more b c text e = and_right (hyphen == b) (begins (hyphen ∷ more) (c ∷ text)) (rw e refl)

-- words that begin with two hyphens do not begin in a label, in front of the hyphens that end it
pub up_to-label :
    (more : List ℕ) (behind : Bool) (text : List ℕ) → is_label_rest behind text ≡ true →
    up_to (hyphen ∷ hyphen ∷ more) (text ++ hyphens) ≡ text ++ up_to (hyphen ∷ hyphen ∷ more) hyphens
up_to-label more behind [] h = refl
up_to-label more behind (b ∷ []) h = elim (cases_Bool (is_label_character b)) [
  | inl is_so ↦ up_to-later (hyphen ∷ hyphen ∷ more) b hyphens (not_first more b hyphens (not_hyphen b is_so))
  | inr is_not ↦ absurd (false≢true (rest_behind behind b [] h is_not).1)
]
up_to-label more behind (b ∷ c ∷ text) h = elim (cases_Bool (is_label_character b)) [
  | inl is_so ↦
      up_to-later (hyphen ∷ hyphen ∷ more) b (c ∷ text ++ hyphens)
      (not_first more b (c ∷ text ++ hyphens) (not_hyphen b is_so))
      ∙ ap (λ (rest : List ℕ). b ∷ rest) (up_to-label more true (c ∷ text) (rw is_so at h))
  | inr is_not ↦
      let later = (rest_behind behind b (c ∷ text) h is_not).1 in
      let next : is_label_character c ≡ true = first_of_rest c text later in
      up_to-later (hyphen ∷ hyphen ∷ more) b (c ∷ text ++ hyphens)
      (not_second more b c (text ++ hyphens) (not_hyphen c next))
      ∙ ap (λ (rest : List ℕ). b ∷ rest) (up_to-label more false (c ∷ text) later)
]

-- no line feed is in a label
no_break : (test : ℕ → Bool) (b : ℕ) → test line_feed ≡ false → test b ≡ true → (b == line_feed) ≡ false
no_break test b other h = elim (cases_Bool (b == line_feed)) [
  | inl is_so ↦ absurd (false≢true (sym other ∙ (rw (eqb-true b line_feed is_so) at h)))
  | inr is_not ↦ is_not
]

is_in_line-label : (behind : Bool) (text : List ℕ) → is_label_rest behind text ≡ true → list_all is_in_line text ≡ true
is_in_line-label behind [] h = refl
is_in_line-label behind (b ∷ text) h = elim (cases_Bool (is_label_character b)) [
  | inl character ↦
      rw (no_break is_label_character b refl character, is_in_line-label true text (rw character at h)) refl
  | inr other ↦
      let parts = rest_behind behind b text h other in
      rw (no_break (λ k. k == space || k == hyphen) b refl parts.0, is_in_line-label false text parts.1) refl
]

-- of a label that may be empty
pub up_to-whole_label :
    (more label : List ℕ) → is_label label ≡ true →
    up_to (hyphen ∷ hyphen ∷ more) (label ++ hyphens) ≡ label ++ up_to (hyphen ∷ hyphen ∷ more) hyphens
up_to-whole_label more [] h = refl
up_to-whole_label more (b ∷ rest) h = up_to-label more false (b ∷ rest) h

is_in_line-whole_label : (label : List ℕ) → is_label label ≡ true → list_all is_in_line label ≡ true
is_in_line-whole_label [] h = refl
is_in_line-whole_label (b ∷ rest) h = is_in_line-label false (b ∷ rest) h

-- a line with words, a label and hyphens is the first of all lines
pub lines_of-boundary :
    (words label rest : List ℕ) → list_all is_in_line words ≡ true → is_label label ≡ true →
    lines_of (boundary words label ++ rest) ≡ (words ++ (label ++ hyphens)) ∷ lines_of rest
lines_of-boundary words label rest w l =
    let line : List ℕ = words ++ (label ++ hyphens) in
    let same : boundary words label ++ rest ≡ line ++ line_feed ∷ rest =
    append_assoc words (label ++ codes "-----\n") rest
    ∙ ap (λ (t : List ℕ). words ++ t) (append_assoc label (codes "-----\n") rest)
    ∙ sym (append_assoc words (label ++ hyphens) (line_feed ∷ rest)
    ∙ ap (λ (t : List ℕ). words ++ t) (append_assoc label hyphens (line_feed ∷ rest))) in
    let inside : list_all is_in_line line ≡ true =
    rw (
      list_all-append is_in_line words (label ++ hyphens),
      list_all-append is_in_line label hyphens,
      w,
      is_in_line-whole_label label l,
    ) refl in
    rw same (lines_of-line line rest inside)

bytes_eq-same : (text : List ℕ) → bytes_eq text text ≡ true
bytes_eq-same [] = refl
bytes_eq-same (b ∷ text) = rw (eq-eqb b b refl, bytes_eq-same text) refl

-- what the lines of base 64 say, and those behind them
pub record Between (octets : List ℕ) (lines behind : List (List ℕ)) : Type 0 where
  pub symbols : symbols_in lines ≡ encode_of standard octets ++ symbols_in behind
  pub encrypted : is_encrypted lines ≡ is_encrypted behind
  pub ending : (label : List ℕ) → bad_end_in label lines ≡ bad_end_in label behind
  pub objects : objects_in true lines ≡ objects_in true behind

-- a plain line is one of symbols
between-line :
    (first rest : List ℕ) (lines behind : List (List ℕ)) → list_all is_plain first ≡ true →
    Between rest lines behind → (all : List ℕ) → encode_of standard all ≡ first ++ encode_of standard rest →
    Between all (first ∷ lines) behind
between-line first rest lines behind plain later all e =
    let indent = without_indent-plain first plain in
    let no_end : begins (codes "-----END ") (without_indent first) ≡ false =
    rw indent (begins-plain (codes "-----END ") first refl plain) in
    let no_encryption : begins (codes "Proc-Type: 4,ENCRYPTED") (without_indent first) ≡ false =
    rw indent (begins-plain (codes "Proc-Type: 4,ENCRYPTED") first refl plain) in
    record {
      symbols =
          rw (no_end, no_colon-plain first plain, without_spaces-plain first plain, later.symbols, e)
          (sym (append_assoc first (encode_of standard rest) (symbols_in behind)));
      encrypted = rw (no_end, no_encryption) later.encrypted;
      ending = λ label. rw no_end (later.ending label);
      objects = rw no_end later.objects;
    }

-- the symbols of the first octets, and of the others
encode_of-parts :
    (octets : List ℕ) →
    encode_of standard octets ≡ encode_of standard (take 48 octets) ++ encode_of standard (drop 48 octets)
encode_of-parts octets = elim (cases_lt (length octets) 48) [
  | inl short ↦
      rw (take_all 48 octets (omega arith), drop_all 48 octets (omega arith), encode_of-nil standard)
      (sym (append-nil (encode_of standard octets)))
  | inr long ↦
      let whole : length (take 48 octets) % 3 ≡ 0 = rw (length-take-le 48 octets long) refl in
      sym (ap (encode_of standard) (take-append-drop 48 octets))
      ∙ encode_of-append standard (take 48 octets) (drop 48 octets) whole
]

pub between :
    (count : ℕ) (octets behind : List ℕ) → length octets ≤ 48 * count →
    Between octets (lines_of (base64_lines count octets ++ behind)) (lines_of behind)
between zero octets behind fits =
    let none : octets ≡ [] = nil_from_length octets (omega arith) in
    record {
      symbols = rw (none, encode_of-nil standard) refl;
      encrypted = refl;
      ending = λ label. refl;
      objects = refl;
    }
between (suc count) octets behind fits =
    let first : List ℕ = encode_of standard (take 48 octets) in
    let rest : List ℕ = base64_lines count (drop 48 octets) in
    let plain = are_plain-encoded (take 48 octets) in
    let fewer : length (drop 48 octets) ≤ 48 * count = omega (arith, length-drop 48 octets) in
    let lines : lines_of (base64_lines (suc count) octets ++ behind) ≡ first ∷ lines_of (rest ++ behind) =
    rw (append_assoc first (line_feed ∷ rest) behind)
    (lines_of-line first (rest ++ behind) (is_in_line-plain first plain)) in
    rw lines
    (between-line first (drop 48 octets) (lines_of (rest ++ behind)) (lines_of behind) plain
    (between count (drop 48 octets) behind fewer) octets (encode_of-parts octets))

-- a line with the label of the object ends it as it should
bad_end-none :
    (label line : List ℕ) → contains (codes "-----BEGIN ") line ≡ false → end_label_in line ≡ label →
    bad_end_by label line ≡ None
bad_end-none label line joined same = rw (joined, same, bytes_eq-same label) refl

-- nothing begins behind the last line
objects_in-none :
    (line : List ℕ) → ends_object line ≡ true → begun_in line ≡ [] → objects_in true (line ∷ []) ≡ []
objects_in-none line ends begun = rw (ends, begun) refl

octets_in-written :
    (octets : List ℕ) (lines : List (List ℕ)) → is_encrypted lines ≡ false →
    symbols_in lines ≡ encode_of standard octets → IsBytes octets → octets_in lines ≡ unless_openssh octets
octets_in-written octets lines plain symbols bytes =
    rw (plain, symbols, decode_of-encode_of standard octets refl bytes) refl

one_object :
    (label octets line : List ℕ) (lines : List (List ℕ)) → begins_object line ≡ true → label_in line ≡ label →
    octets_in lines ≡ unless_openssh octets → bad_end_in label lines ≡ None → objects_in true lines ≡ [] →
    objects_in false (line ∷ lines) ≡ written_object label octets ∷ []
one_object label octets line lines begins same inside ending later = rw (begins, same, inside, ending, later) refl

-- the lines around those of an object with a label
module _ (label : List ℕ) (is : is_label label ≡ true) where
  abbrev end_line : List ℕ
  end_line = codes "-----END " ++ (label ++ hyphens)

  abbrev begin_line : List ℕ
  begin_line = codes "-----BEGIN " ++ (label ++ hyphens)

  label_in-begin : label_in begin_line ≡ label
  label_in-begin = up_to-whole_label (codes "---") label is ∙ append-nil label

  end_label_in-end : end_label_in end_line ≡ label
  end_label_in-end = up_to-whole_label (codes "---") label is ∙ append-nil label

  up_to-end : up_to (codes "-----BEGIN ") end_line ≡ end_line
  up_to-end = ap (λ (t : List ℕ). codes "-----END " ++ t) (up_to-whole_label (codes "---BEGIN ") label is)

  contains-end : contains (codes "-----BEGIN ") end_line ≡ false
  contains-end =
      ap (λ (t : List ℕ). nat_lt (length t) (length end_line)) up_to-end
      ∙ le-ltb (length end_line) (length end_line) (omega arith)

  begun_in-end : begun_in end_line ≡ []
  begun_in-end =
      ap (λ (t : List ℕ). drop (length t) end_line) up_to-end ∙ drop_all (length end_line) end_line (omega arith)

  pub objects_of-written : (octets : List ℕ) → IsBytes octets
      → objects_of (written_pem label octets) ≡ written_object label octets ∷ []
  objects_of-written octets bytes =
      let behind : List ℕ = boundary (codes "-----END ") label in
      let last : lines_of behind ≡ end_line ∷ [] =
      ap lines_of (sym (append-nil behind)) ∙ lines_of-boundary (codes "-----END ") label [] refl is in
      let lines : List (List ℕ) = lines_of (base64_lines (line_count octets) octets ++ behind) in
      let inside = between (line_count octets) octets behind (omega arith) in
      let symbols : symbols_in lines ≡ encode_of standard octets =
      inside.symbols ∙ (rw last (append-nil (encode_of standard octets))) in
      let encrypted : is_encrypted lines ≡ false = inside.encrypted ∙ ap is_encrypted last in
      let ending : bad_end_in label lines ≡ None =
      inside.ending label ∙ (ap (bad_end_in label) last ∙ bad_end-none label end_line contains-end end_label_in-end) in
      let later : objects_in true lines ≡ [] =
      inside.objects ∙ (ap (objects_in true) last ∙ objects_in-none end_line refl begun_in-end) in
      ap (objects_in false)
      (lines_of-boundary (codes "-----BEGIN ") label (base64_lines (line_count octets) octets ++ behind) refl is)
      ∙ one_object label octets begin_line lines refl label_in-begin
      (octets_in-written octets lines encrypted symbols bytes) ending later
