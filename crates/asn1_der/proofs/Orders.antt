-- Whether encodings one after another ascend, for `order::ascend`, `order::is_in_order` and `order::may_follow`.
use Rattle.std.proofs.Common.{◌≡◌, ℕ, ◌+◌, ◌<◌, ◌^◌, Bool, List, [], ◌∷◌, ◌++◌, length, refl, sym, ap, ◌∙◌, subst, arith, length-append}
use Rattle.std.specs.Prelude.{◌↔◌, IsTrue, Option, None, Some}
use Rattle.std.specs.List.{All, concat}
use Rattle.std.proofs.lemmas.List.Elements.{All-cons, All-drop, All-head, All-nil}
use Rattle.asn1_headers.proofs.Prefixes.{Encoding-unique, Encoding-not_empty}
use Rattle.asn1_blocks.specs.Places.{HasNoEncodingAt, IsEncoding}
use Rattle.asn1_der.specs.Der.{AreDerEncodings, Ascend, more_encodings, no_encodings}
use Rattle.asn1_der.specs.Steps.{MayFollow, MayStandBefore, behind}
use Rattle.asn1_der.specs.declared.order.Order.{Order}
use Rattle.asn1_der.proofs.DerEncodings.{Encoding-der}

-- encodings of DER are encodings one after another
pub record AreItems (x : List ℕ) (items : List (List ℕ)) : Type 0 where
  pub all : All IsEncoding items
  pub whole : x ≡ concat items

-- where fewer than 2^64 octets are encodings of DER, each of these is an encoding, and joined they are the octets
pub AreItems-der : (x : List ℕ) (items : List (List ℕ)) → length x < 2 ^ 64 → AreDerEncodings x items → AreItems x items
AreItems-der x items small no_encodings = record { all = All-nil IsEncoding; whole = refl }
AreItems-der x items small (more_encodings {first = f} {rest = r} {items = is} w d ds) =
    let size : length x ≡ length f + length r = ap length w ∙ length-append f r in
    let (c, k, n, v, h, e) = Encoding-der f (omega (arith, small, size)) d in
    let more = AreItems-der r is (omega (arith, small, size)) ds in
    let found : IsEncoding f = record { class = c; constructed = k; tag = n; contents = v; header = h; encoding = e } in
    record { all = All-cons IsEncoding f is found more.all; whole = w ∙ ap (λ z. f ++ z) more.whole }

-- the first of encodings one after another is the encoding at the front
record IsFirst (part after : List ℕ) (later : List (List ℕ)) : Type 0 where
  more : List (List ℕ)
  is : later ≡ part ∷ more
  whole : after ≡ concat more

-- an encoding at the front of joined encodings is the first of them, and what follows it is the rest, joined
IsFirst-front :
    (rest part after : List ℕ) (later : List (List ℕ)) → All IsEncoding later → rest ≡ concat later → IsEncoding part →
    rest ≡ part ++ after → IsFirst part after later
IsFirst-front rest part after [] all e i w =
    absurd (omega (
      arith,
      Encoding-not_empty part i.class i.constructed i.tag i.contents i.header i.encoding,
      ap length e,
      ap length w,
      length-append part after,
    ))
IsFirst-front rest part after (p ∷ ps) all e i w =
    let j = All-head IsEncoding p ps all in
    let same =
    Encoding-unique part p i.class j.class i.constructed j.constructed i.tag j.tag i.contents j.contents i.header
    j.header after (concat ps) i.encoding j.encoding (sym w ∙ e) in
    record { more = ps; is = ap (λ z. z ∷ ps) (sym same.octets); whole = same.rest }

-- the items ascend exactly if the last one passed and those that are left do
pub record IsLeft (order : Order) (items : List (List ℕ)) (before : Option (List ℕ)) (rest : List ℕ) : Type 0 where
  pub later : List (List ℕ)
  pub all : All IsEncoding (behind before later)
  pub whole : rest ≡ concat later
  pub same : Ascend (MayStandBefore order) items ↔ Ascend (MayStandBefore order) (behind before later)

-- once an encoding is passed that may follow the one before it, the items ascend exactly if it and the rest do
pub IsLeft-next :
    (order : Order) (items : List (List ℕ)) (before : Option (List ℕ)) (rest part after : List ℕ) →
    IsLeft order items before rest → IsEncoding part → rest ≡ part ++ after →
    MayFollow (MayStandBefore order) before part → IsLeft order items (Some part) after
IsLeft-next order items None rest part after d i w may =
    let f = IsFirst-front rest part after d.later d.all d.whole i w in
    record {
      later = f.more;
      all = subst (All IsEncoding) f.is d.all;
      whole = f.whole;
      same = subst (λ z. Ascend (MayStandBefore order) items ↔ Ascend (MayStandBefore order) z) f.is d.same;
    }
IsLeft-next order items (Some first) rest part after d i w may =
    let f = IsFirst-front rest part after d.later (All-drop IsEncoding 1 (first ∷ d.later) d.all) d.whole i w in
    let same =
    subst (λ z. Ascend (MayStandBefore order) items ↔ Ascend (MayStandBefore order) (first ∷ z)) f.is d.same in
    record {
      later = f.more;
      all = All-drop IsEncoding 1 (first ∷ part ∷ f.more) (subst (λ z. All IsEncoding (first ∷ z)) f.is d.all);
      whole = f.whole;
      same = (λ a. (same.0 a).1, λ b. same.1 (may, b));
    }

-- behind an encoding may follow what it may stand before
pub MayFollow-Some :
    (order : Order) (before : Option (List ℕ)) (first next : List ℕ) (found : Bool) → before ≡ Some first →
    (IsEncoding first → IsEncoding next → IsTrue found ↔ MayStandBefore order first next) →
    All IsEncoding (behind before (next ∷ [])) → IsTrue found ↔ MayFollow (MayStandBefore order) before next
MayFollow-Some order before first next found is h =
    subst (λ b. All IsEncoding (behind b (next ∷ [])) → IsTrue found ↔ MayFollow (MayStandBefore order) b next) (sym is)
    (λ all. h (All-head IsEncoding first (next ∷ []) all)
    (All-head IsEncoding next [] (All-drop IsEncoding 1 (first ∷ next ∷ []) all)))

-- the last encoding that was passed, if there is one, and the next are encodings
pub All-behind :
    (order : Order) (items : List (List ℕ)) (before : Option (List ℕ)) (rest part : List ℕ) →
    IsLeft order items before rest → IsEncoding part → All IsEncoding (behind before (part ∷ []))
All-behind order items None rest part d i = All-cons IsEncoding part [] i (All-nil IsEncoding)
All-behind order items (Some first) rest part d i =
    All-cons IsEncoding first (part ∷ []) (All-head IsEncoding first d.later d.all)
    (All-cons IsEncoding part [] i (All-nil IsEncoding))

-- where an encoding may not stand behind the one before it, the items do not ascend
pub Ascend-not_may_follow :
    (order : Order) (items : List (List ℕ)) (before : Option (List ℕ)) (rest part after : List ℕ) →
    IsLeft order items before rest → IsEncoding part → rest ≡ part ++ after →
    (MayFollow (MayStandBefore order) before part → ⊥) → Ascend (MayStandBefore order) items → ⊥
Ascend-not_may_follow order items None rest part after d i w never a = never tt
Ascend-not_may_follow order items (Some first) rest part after d i w never a =
    let f = IsFirst-front rest part after d.later (All-drop IsEncoding 1 (first ∷ d.later) d.all) d.whole i w in
    never (subst (λ z. Ascend (MayStandBefore order) (first ∷ z)) f.is (d.same.0 a)).0

-- an encoding by itself, or none, ascends in each order
Ascend-behind_nil : (order : Order) (before : Option (List ℕ)) → Ascend (MayStandBefore order) (behind before [])
Ascend-behind_nil order None = tt
Ascend-behind_nil order (Some first) = tt

-- where no encoding is left, the items ascend
pub Ascend-none_left :
    (order : Order) (items : List (List ℕ)) (before : Option (List ℕ)) (rest : List ℕ) →
    IsLeft order items before rest → HasNoEncodingAt rest 0 → Ascend (MayStandBefore order) items
Ascend-none_left order items before rest d none = d.same.1 (none_later d.later (later_all before d.later d.all) d.whole)
  where
    -- where all of a list with perhaps an item before it are encodings, all of the list are
    later_all : (before : Option (List ℕ)) (later : List (List ℕ)) → All IsEncoding (behind before later)
        → All IsEncoding later
    later_all None later all = all
    later_all (Some first) later all = All-drop IsEncoding 1 (first ∷ later) all

    -- encodings that join to octets where none begins are none, and what is before them ascends by itself
    none_later : (later : List (List ℕ)) → All IsEncoding later → rest ≡ concat later
        → Ascend (MayStandBefore order) (behind before later)
    none_later [] all e = Ascend-behind_nil order before
    none_later (p ∷ ps) all e =
        absurd (none p (record { rest = concat ps; at_offset = e; encoding = All-head IsEncoding p ps all }))
