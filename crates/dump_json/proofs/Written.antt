-- What is written of a document.
use Rattle.std.proofs.Common.{◌≡◌, ◌∙◌, ℕ, Bool, true, false, List, ◌++◌, ap, append_assoc, codes, drop, refl, subst, sym}
use Rattle.std.proofs.KnownBytes.{Appends-trans}
use Rattle.std.specs.Io.KnownBytes.{Appends}
use Rattle.std.specs.List.{list_all}
use Rattle.std.specs.Prelude.{Option, Some}
use Rattle.der_io.specs.Output.{IsWritten}
use Rattle.dump_json.specs.Grammar.{AreChars, IsInt, IsMember, IsNumber, IsOpenArray, IsOpenObject, IsString, IsValue, comma_if, is_plain}
use Rattle.dump_json.specs.Lines.{AreLines, BeginsMember, IsLine, Turns}
use Rattle.dump_json.proofs.Chars.{AreChars-plain}
use Rattle.dump_json.proofs.Texts.{Turns-then}

-- a text of a kind was written, and one that goes on with it
pub IsWritten-then :
    (P Q : List ℕ → Type 0) (a b c : Option (List ℕ)) → IsWritten P a b → IsWritten (Turns P Q) b c → IsWritten Q a c
IsWritten-then P Q a b c (s, p, h) (t, q, turn) = (s ++ t, Appends-trans a b c s t p q, turn s h)

-- the same, behind a text of a kind
pub IsWritten-again :
    (P Q R : List ℕ → Type 0) (a b c : Option (List ℕ)) → IsWritten (Turns P Q) a b → IsWritten (Turns Q R) b c →
    IsWritten (Turns P R) a c
IsWritten-again P Q R a b c (s, p, turn) (t, q, again) =
    (s ++ t, Appends-trans a b c s t p q, Turns-then P Q R s t turn again)

-- texts of a kind that is closed under putting one after another
pub IsWritten-trans :
    (Is : List ℕ → Type 0) → ((s t : List ℕ) → Is s → Is t → Is (s ++ t)) → (a b c : Option (List ℕ)) →
    IsWritten Is a b → IsWritten Is b c → IsWritten Is a c
IsWritten-trans Is closed a b c (s, p, h) (t, q, k) = (s ++ t, Appends-trans a b c s t p q, closed s t h k)

-- a text of a kind is one of another
pub IsWritten-map :
    (Is Like : List ℕ → Type 0) → ((t : List ℕ) → Is t → Like t) → (a b : Option (List ℕ)) → IsWritten Is a b →
    IsWritten Like a b
IsWritten-map Is Like f a b (t, p, h) = (t, p, f t h)

-- a text of a kind in a vector, and what goes on with it
pub IsWritten-turned :
    (P Q : List ℕ → Type 0) (a b : List ℕ) → P a → IsWritten (Turns P Q) (Some a) (Some b) → Q b
IsWritten-turned P Q a b h (s, e, turn) = subst Q (sym e) (turn a h)

-- characters between quotation marks
pub IsWritten-string :
    (a b c d : Option (List ℕ)) → Appends a b (codes "\"") → IsWritten AreChars b c → Appends c d (codes "\"") →
    IsWritten IsString a d
IsWritten-string a b c d p (t, q, h) r = (
  codes "\"" ++ (t ++ codes "\""),
  Appends-trans a b d (codes "\"") (t ++ codes "\"") p (Appends-trans b c d t (codes "\"") q r),
  IsString.quoted t h,
)

-- the front of a member, and its value
pub IsWritten-member :
    (later : Bool) (a b c : Option (List ℕ)) (s : List ℕ) → Appends a b s → BeginsMember later s →
    IsWritten IsValue b c → IsWritten (Turns (IsOpenObject later) (IsOpenObject true)) a c
IsWritten-member later a b c s p (name, e, h) (v, q, k) = (
  s ++ v,
  Appends-trans a b c s v p q,
  λ t o. subst (λ z. IsOpenObject true (t ++ z))
      (sym (ap (λ z. z ++ v) e ∙ append_assoc (comma_if later) (name ++ codes ":") v
      ∙ ap (λ z. comma_if later ++ z) (append_assoc name (codes ":") v)))
      (IsOpenObject.with_member later t (name ++ (codes ":" ++ v)) o (IsMember.member name v h k)),
)

-- a name of characters of ASCII that stand for themselves, between a comma and a colon
pub BeginsMember-plain :
    (t : List ℕ) → list_all is_plain t ≡ true → BeginsMember true (codes ",\"" ++ (t ++ codes "\":"))
BeginsMember-plain t e = (
  codes "\"" ++ (t ++ codes "\""),
  ap (λ z. codes ",\"" ++ z) (sym (append_assoc t (codes "\"") (codes ":"))),
  IsString.quoted t (AreChars-plain t e),
)

-- the same without the comma
pub BeginsMember-first : (s : List ℕ) → BeginsMember true s → BeginsMember false (drop 1 s)
BeginsMember-first s (name, e, h) = (name, ap (drop 1) e, h)

-- the end of an object, and of its line
pub IsWritten-end_line :
    (later : Bool) (a b : Option (List ℕ)) → Appends a b (codes "}\n") →
    IsWritten (Turns (IsOpenObject later) IsLine) a b
IsWritten-end_line later a b p = (
  codes "}\n",
  p,
  λ t o. (t ++ codes "}", sym (append_assoc t (codes "}") (codes "\n")), IsValue.object later t o),
)

-- one more item of an array
pub IsWritten-item :
    (later : Bool) (a b c : Option (List ℕ)) → Appends a b (comma_if later) → IsWritten IsValue b c →
    IsWritten (Turns (IsOpenArray later) (IsOpenArray true)) a c
IsWritten-item later a b c p (v, q, h) = (
  comma_if later ++ v,
  Appends-trans a b c (comma_if later) v p q,
  λ t o. IsOpenArray.with_item later t v o h,
)

IsString-blocks : IsString (codes "\"blocks\"")
IsString-blocks = IsString.quoted (codes "blocks") (AreChars-plain (codes "blocks") refl)

IsString-bits : IsString (codes "\"bits\"")
IsString-bits = IsString.quoted (codes "bits") (AreChars-plain (codes "bits") refl)

IsString-octets : IsString (codes "\"octets\"")
IsString-octets = IsString.quoted (codes "octets") (AreChars-plain (codes "octets") refl)

-- the object of bits
pub IsWritten-bits :
    (a b c d e f : Option (List ℕ)) → Appends a b (codes "{\"bits\":") → IsWritten IsInt b c →
    Appends c d (codes ",\"octets\":") → IsWritten IsString d e → Appends e f (codes "}") → IsWritten IsValue a f
IsWritten-bits a b c d e f p (n, q, h) r (o, s, k) u = (
  codes "{\"bits\":" ++ (n ++ (codes ",\"octets\":" ++ (o ++ codes "}"))),
  Appends-trans a b f (codes "{\"bits\":") (n ++ (codes ",\"octets\":" ++ (o ++ codes "}"))) p
      (Appends-trans b c f n (codes ",\"octets\":" ++ (o ++ codes "}")) q
      (Appends-trans c d f (codes ",\"octets\":") (o ++ codes "}") r (Appends-trans d e f o (codes "}") s u))),
  subst IsValue
      (ap (λ z. codes "{\"bits\":" ++ z) (append_assoc n (codes ",\"octets\":" ++ o) (codes "}")))
      (IsValue.object true ((codes "{\"bits\":" ++ n) ++ (codes ",\"octets\":" ++ o))
      (IsOpenObject.with_member true (codes "{\"bits\":" ++ n) (codes "\"octets\":" ++ o)
      (IsOpenObject.with_member false (codes "{") (codes "\"bits\":" ++ n) IsOpenObject.begin_object
      (IsMember.member (codes "\"bits\"") n IsString-bits (IsValue.number n (IsNumber.positive n h))))
      (IsMember.member (codes "\"octets\"") o IsString-octets (IsValue.string o k)))),
)

-- an object that begins with the member of blocks
pub IsWritten-begun :
    (a b c : Option (List ℕ)) → Appends a b (codes "{\"blocks\":") → IsWritten IsValue b c →
    IsWritten (IsOpenObject true) a c
IsWritten-begun a b c p (v, q, h) = (
  codes "{\"blocks\":" ++ v,
  Appends-trans a b c (codes "{\"blocks\":") v p q,
  IsOpenObject.with_member false (codes "{") (codes "\"blocks\":" ++ v) IsOpenObject.begin_object
      (IsMember.member (codes "\"blocks\"") v IsString-blocks h),
)

pub IsWritten-line : (a b : Option (List ℕ)) → IsWritten IsLine a b → IsWritten AreLines a b
IsWritten-line a b (t, p, h) = (t, p, AreLines.one t h)
