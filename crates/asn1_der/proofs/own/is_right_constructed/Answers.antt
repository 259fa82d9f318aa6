-- For `own::is_right_constructed`: what it returns is right.
use Rattle.std.proofs.Common.{◌≡◌, ◌<◌, ◌∙◌, ℕ, Bool, true, false, List, [], arith, length, refl, subst, sym}
use Rattle.std.specs.Prelude.{◌↔◌, IsTrue, not}
use Rattle.asn1_headers.specs.declared.header.ASN1Class.TheVariants.{Universal}
use Rattle.asn1_der.specs.Der.{AreDerEncodings, AreOfType, IsDer, IsRightAlone, is_constructed_type, no_encodings}
use Rattle.std.proofs.lemmas.List.{nil_from_length}
use Rattle.asn1_der.proofs.own.is_right_constructed.Goals as goal

-- where the items are not those of the type, the encoding is right exactly if its contents octets, some, are not DER
IsRightAlone-not_of_type :
    (der found : Bool) (n : ℕ) (x : List ℕ) → is_constructed_type n ≡ true → 0 < length x → IsTrue der ↔ IsDer x →
    ((items : List (List ℕ)) → AreDerEncodings x items → IsTrue found ↔ AreOfType n x items) → found ≡ false →
    IsTrue (not der) ↔ IsRightAlone Universal true n x
IsRightAlone-not_of_type true found n x kind some d o f = (
  λ t. absurd cc,
  λ k. let is = d.0 refl in
      let t : found ≡ true = (o is.items is.encodings).1 (k.1 is.items is.encodings) in
      absurd cc,
)
IsRightAlone-not_of_type false found n x kind some d o f = (
  λ t. (
    kind,
    λ items ds.
        let t : false ≡ true = d.1 (record { some = some; items = items; encodings = ds }) in absurd cc,
  ),
  λ k. refl,
)

-- where no octets are not those of the type, the encoding is not right
IsRightAlone-empty_not_of_type :
    (found : Bool) (n : ℕ) (x : List ℕ) → x ≡ [] →
    ((items : List (List ℕ)) → AreDerEncodings x items → IsTrue found ↔ AreOfType n x items) → found ≡ false →
    IsTrue false ↔ IsRightAlone Universal true n x
IsRightAlone-empty_not_of_type found n x nil o f = (
  λ t. absurd cc,
  λ k. let none = subst (λ z. AreDerEncodings z []) (sym nil) no_encodings in
      let t : found ≡ true = (o [] none).1 (k.1 [] none) in
      absurd cc,
)

pub returns-then-is_empty : goal.returns-then-is_empty
returns-then-is_empty c =
    let x = c.args.contents.now in
    let is_empty : c.is_empty.result ≡ true = c.if-is_empty.true in
    let size : length x ≡ 0 = grind (arith, is_empty, c.is_empty.ensures) in
    IsRightAlone-empty_not_of_type c.are_of_type.result c.args.tag x (nil_from_length x size) c.are_of_type.ensures
    c.if-are_of_type.false

pub returns : goal.returns
returns c =
    let x = c.args.contents.now in
    let is_empty : c.is_empty.result ≡ false = c.if-is_empty.false in
    let some : 0 < length x = grind (arith, is_empty, c.is_empty.ensures) in
    IsRightAlone-not_of_type c.in_ok-is_der.field-0 c.are_of_type.result c.args.tag x
    (sym c.is_constructed_type.ensures ∙ c.if-not-is_constructed_type.false) some
    c.in_ok-is_der.ensures c.are_of_type.ensures c.if-are_of_type.false
