-- What is printed, one after another, for `printer` and for crates that print rows.
use Rattle.std.proofs.Common.{◌≡◌, ℕ, zero, suc, ◌+◌, ◌<◌, true, false, List, [], ◌∷◌, ◌++◌, ap, append-nil, append_assoc, arith, refl, slice_index, subst, sym, ◌∙◌}
use Rattle.std.proofs.lemmas.Bool.{and_parts}
use Rattle.std.proofs.lemmas.Fmt.{hex_one_digit}
use Rattle.std.proofs.lemmas.Str.{chars-IsAscii, encode_ascii}
use Rattle.std.proofs.Math.Numerals.{suc-eq-add-one}
use Rattle.std.proofs.KnownBytes.{Appends-nil, Appends-trans}
use Rattle.std.proofs.lemmas.Grind.{flat_map-append}
use Rattle.std.specs.Io.KnownBytes.{Appends}
use Rattle.std.specs.Char.{encode_utf8}
use Rattle.std.specs.Fmt.{digit_glyph, digits}
use Rattle.std.specs.List.{flat_map, list_all, repeat}
use Rattle.std.specs.Prelude.{Option}
use Rattle.std.specs.Str.{chars}
use Rattle.der_io.specs.Escaped.{all_escaped}
use Rattle.dump_rows.specs.Parts.{entity, stands_raw, text_of, written}
use Rattle.dump_rows.specs.Printing.{AreShownIn, IsPrinted, IsShownIn, PrintsText, WritesParts, no_line, one_line}
use Rattle.dump_rows.specs.declared.part.Look.TheVariants.{Plain}
use Rattle.dump_rows.specs.declared.part.Look.{Look}
use Rattle.dump_rows.specs.declared.printer.Printer.{Printer}

-- a character more is escaped behind the others
pub all_escaped-append : (escape : ℕ → List ℕ) (xs : List ℕ) (x : ℕ) →
    all_escaped escape (xs ++ x ∷ []) ≡ all_escaped escape xs ++ escape x
all_escaped-append escape [] x = append-nil (escape x)
all_escaped-append escape (y ∷ xs) x =
    ap (λ z. escape y ++ z) (all_escaped-append escape xs x)
    ∙ sym (append_assoc (escape y) (all_escaped escape xs) (escape x))

raw_octet-ascii : (b : ℕ) → stands_raw b ≡ true → b < 128
raw_octet-ascii b e = grind (arith, e)

entity-raw : (b : ℕ) → stands_raw b ≡ true → entity b ≡ b ∷ []
entity-raw b e = let one = encode_ascii b (raw_octet-ascii b e) in grind (arith, e, one)

IsAscii-raw : (text : List ℕ) → list_all stands_raw text ≡ true → (i : ℕ) → slice_index text i < 128
IsAscii-raw [] e i = omega arith
IsAscii-raw (b ∷ text) e zero = raw_octet-ascii b (and_parts _ _ e).0
IsAscii-raw (b ∷ text) e (suc i) = IsAscii-raw text (and_parts _ _ e).1 i

entities-raw : (text : List ℕ) → list_all stands_raw text ≡ true → all_escaped entity text ≡ text
entities-raw [] e = refl
entities-raw (b ∷ text) e =
    let (first, rest) = and_parts _ _ e in
    ap (λ z. z ++ all_escaped entity text) (entity-raw b first) ∙ ap (λ z. b ∷ z) (entities-raw text rest)

-- characters that stand for themselves on a page are put as they are
pub all_escaped-raw : (text : List ℕ) → list_all stands_raw text ≡ true → all_escaped entity (chars text) ≡ text
all_escaped-raw text e = ap (all_escaped entity) (chars-IsAscii text (IsAscii-raw text e)) ∙ entities-raw text e

-- the character of a hex digit
pub encode_utf8-hex_digit : (n c : ℕ) → n < 16 → c ≡ digit_glyph false n → encode_utf8 c ≡ digits 16 false n
encode_utf8-hex_digit n c less e =
    let ascii : c < 128 = grind (arith, less, e) in
    encode_ascii c ascii ∙ (ap (λ z. z ∷ []) e ∙ sym (hex_one_digit false n less))

repeat-behind : (n : ℕ) (xs : List ℕ) → repeat (suc n) xs ≡ repeat n xs ++ xs
repeat-behind zero xs = append-nil xs
repeat-behind (suc n) xs = ap (λ z. xs ++ z) (repeat-behind n xs) ∙ sym (append_assoc xs (repeat n xs) xs)

-- a text once more stands behind the others
pub repeat-more : (n : ℕ) (xs : List ℕ) → repeat (n + 1) xs ≡ repeat n xs ++ xs
repeat-more n xs = ap (λ k. repeat k xs) (sym (suc-eq-add-one n)) ∙ repeat-behind n xs

-- what is shown of lines one behind the other is what is shown of all
AreShownIn-append :
    (width : Option ℕ) (text shown more more_shown : List ℕ) → AreShownIn width text shown →
    AreShownIn width more more_shown → AreShownIn width (text ++ more) (shown ++ more_shown)
AreShownIn-append width text shown more more_shown (no_line e f) later =
    subst (λ z. AreShownIn width (z ++ more) (shown ++ more_shown)) (sym e)
    (subst (λ z. AreShownIn width more (z ++ more_shown)) (sym f) later)
AreShownIn-append width text shown more more_shown (one_line line of_line lines of_lines e f is rest) later =
    one_line line of_line (lines ++ more) (of_lines ++ more_shown)
    (ap (λ z. z ++ more) e ∙ append_assoc line (10 ∷ lines) more)
    (ap (λ z. z ++ more_shown) f ∙ append_assoc of_line (10 ∷ of_lines) more_shown) is
    (AreShownIn-append width lines of_lines more more_shown rest later)

-- one line is shown as it is to be
AreShownIn-line :
    (width : Option ℕ) (line shown : List ℕ) → IsShownIn width line shown →
    AreShownIn width (line ++ 10 ∷ []) (shown ++ 10 ∷ [])
AreShownIn-line width line shown is = one_line line shown [] [] refl refl is (no_line refl refl)

module _ {W : Type 0} (contents : W → Option (List ℕ)) where
  -- a text of a kind that was printed is of each kind that follows from it
  pub IsPrinted-weaker :
      (Is Other : List ℕ → Type 0) (a b : Printer W) → ((text : List ℕ) → Is text → Other text) →
      IsPrinted contents Is a b → IsPrinted contents Other a b
  IsPrinted-weaker Is Other a b turn (look, width, p) = (
    look,
    width,
    record {
      parts = p.parts;
      wrote = p.wrote;
      lines = p.lines;
      shown = p.shown;
      is = turn p.lines p.is;
    },
  )

  -- where the empty text is of the kind, nothing has to be printed
  pub IsPrinted-nil : (Is : List ℕ → Type 0) (a : Printer W) → Is [] → IsPrinted contents Is a a
  IsPrinted-nil Is a is = (
    refl,
    refl,
    record {
      parts = [];
      wrote = Appends-nil (contents a.out);
      lines = [];
      shown = no_line refl refl;
      is = is;
    },
  )

  -- where the empty text is of the kind, parts without a text may be written
  pub IsPrinted-blank :
      (Is : List ℕ → Type 0) (a b : Printer W) → Is [] → WritesParts contents (λ text. text ≡ []) a b →
      IsPrinted contents Is a b
  IsPrinted-blank Is a b is w = (
    w.look,
    w.width,
    record {
      parts = w.parts;
      wrote = w.wrote;
      lines = [];
      shown = no_line refl w.is;
      is = is;
    },
  )

  pub PrintsText-blank : (a b : Printer W) → WritesParts contents (λ text. text ≡ []) a b → PrintsText contents a b
  PrintsText-blank a b = IsPrinted-blank (λ text. Unit {0}) a b tt

  -- a line of the kind is printed where what is shown of it is written
  pub IsPrinted-line :
      (Is : List ℕ → Type 0) (a b : Printer W) (line shown : List ℕ) → Is (line ++ 10 ∷ []) →
      IsShownIn a.width line shown → WritesParts contents (λ text. text ≡ shown ++ 10 ∷ []) a b →
      IsPrinted contents Is a b
  IsPrinted-line Is a b line shown is fitting w = (
    w.look,
    w.width,
    record {
      parts = w.parts;
      wrote = w.wrote;
      lines = line ++ 10 ∷ [];
      shown =
          subst (AreShownIn a.width (line ++ 10 ∷ [])) (sym w.is) (AreShownIn-line a.width line shown fitting);
      is = is;
    },
  )

  -- two texts printed one after the other are a text of the kind of both, joined
  pub IsPrinted-append :
      (Is Later Other : List ℕ → Type 0) (a b c : Printer W) →
      ((text more : List ℕ) → Is text → Later more → Other (text ++ more)) → IsPrinted contents Is a b →
      IsPrinted contents Later b c → IsPrinted contents Other a c
  IsPrinted-append Is Later Other a b c turn (look, width, p) (looks, widths, q) =
      let Then : Look → Type 0 = λ z. Appends (contents b.out) (contents c.out) (flat_map (written z) q.parts) in (
        looks ∙ look,
        widths ∙ width,
        record {
          parts = p.parts ++ q.parts;
          wrote =
              subst (Appends (contents a.out) (contents c.out))
              (sym (flat_map-append (written a.look) p.parts q.parts))
              (Appends-trans (contents a.out) (contents b.out) (contents c.out) _ _ p.wrote
              (subst Then look q.wrote));
          lines = p.lines ++ q.lines;
          shown =
              subst (AreShownIn a.width (p.lines ++ q.lines)) (sym (flat_map-append (written Plain) p.parts q.parts))
              (AreShownIn-append a.width p.lines (text_of p.parts) q.lines (text_of q.parts) p.shown
              (subst (λ z. AreShownIn z q.lines (text_of q.parts)) width q.shown));
          is = turn p.lines q.lines p.is q.is;
        },
      )

  pub PrintsText-append :
      (a b c : Printer W) → PrintsText contents a b → PrintsText contents b c → PrintsText contents a c
  PrintsText-append a b c =
      IsPrinted-append (λ text. Unit {0}) (λ text. Unit {0}) (λ text. Unit {0}) a b c (λ text more is later. tt)
