-- What records spell is canonical where each encoding is, for the functions of `canonical` and `spelling`.
use Rattle.std.proofs.Common.{◌≡◌, ◌≢◌, ℕ, zero, suc, ◌+◌, ◌<◌, ◌^◌, Bool, true, false, List, [], ◌∷◌, ◌++◌, inl, inr, length, take, drop, refl, sym, ap, ap₂, subst, arith, append-nil}
use Rattle.std.specs.Prelude.{not, ◌==◌}
use Rattle.std.specs.List.{concat}
use Rattle.std.proofs.lemmas.Bool.{false≢true}
use Rattle.std.proofs.lemmas.Bool.Decides.{nat_tests}
use Rattle.asn1_headers.specs.declared.header.ASN1Class.{ASN1Class}
use Rattle.asn1_headers.specs.declared.header.ASN1Class.TheVariants.{Universal}
use Rattle.asn1_headers.specs.Header.{Encoding}
use Rattle.asn1_blocks.specs.declared.block.GroupKind.{GroupKind}
use Rattle.asn1_blocks.specs.Contents.{IsUnknownTag, group_tag}
use Rattle.asn1_blocks.specs.Grammar.{EncodesAll, IsDocument, StaysAsItCame}
use Rattle.asn1_blocks.specs.Tree.{Trees, explicit, group, leaf, more_trees, no_trees, unknown}
use Rattle.simple_asn1.specs.Canonical.{all_canonical, shortest_encoding}
use Rattle.asn1_writing.proofs.Placed.{Encoding-shortest_encoding, header_size}
use Rattle.asn1_records.specs.Inner.InRecords.{AreCanonicalBlocks, AreWrittenOfLeaf, HoldsBlocks, IsCanonicalBlock}

-- the shortest encoding of contents octets that are written of a leaf is a canonical block
pub IsCanonicalBlock-leaf : (tag : ℕ) (contents : List ℕ) → length contents < 2 ^ 64 → AreWrittenOfLeaf tag contents
    → IsCanonicalBlock (shortest_encoding Universal false tag contents)
IsCanonicalBlock-leaf tag contents small (l, is, meant, written) offset =
    let h = header_size Universal false tag contents in
    let e = subst (λ z. Encoding (shortest_encoding Universal false tag contents) Universal false z contents h) is
    (Encoding-shortest_encoding Universal false tag contents small) in (
      leaf offset l,
      (refl, false, contents, h, e, meant),
      ap₂ (λ s t. shortest_encoding Universal false s t) (sym is) written,
    )

-- the shortest encoding of what stays as it came is a canonical block
pub IsCanonicalBlock-as_it_came : (class : ASN1Class) (constructed : Bool) (tag : ℕ) (contents : List ℕ) →
    length contents < 2 ^ 64
    → StaysAsItCame class constructed tag contents → IsCanonicalBlock (shortest_encoding class constructed tag contents)
IsCanonicalBlock-as_it_came class constructed tag contents small stays offset =
    let h = header_size class constructed tag contents in (
      unknown class constructed offset tag contents,
      (refl, h, Encoding-shortest_encoding class constructed tag contents small, stays),
      refl,
    )

-- a primitive encoding of class Universal with contents octets that are written of a leaf is a canonical block
pub IsCanonicalBlock-universal_leaf : (class : ASN1Class) (constructed : Bool) (tag : ℕ) (contents : List ℕ) →
    length contents < 2 ^ 64
    → class ≡ Universal → constructed ≡ false → AreWrittenOfLeaf tag contents
    → IsCanonicalBlock (shortest_encoding class constructed tag contents)
IsCanonicalBlock-universal_leaf class constructed tag contents small u primitive written =
    subst (λ z. IsCanonicalBlock (shortest_encoding z constructed tag contents)) (sym u)
    (subst (λ z. IsCanonicalBlock (shortest_encoding Universal z tag contents)) (sym primitive)
    (IsCanonicalBlock-leaf tag contents small written))

-- an encoding of class Universal whose tag has no rule is a canonical block
pub IsCanonicalBlock-unknown_tag : (class : ASN1Class) (constructed : Bool) (tag : ℕ) (contents : List ℕ) →
    length contents < 2 ^ 64
    → class ≡ Universal → IsUnknownTag tag → IsCanonicalBlock (shortest_encoding class constructed tag contents)
IsCanonicalBlock-unknown_tag class constructed tag contents small u without =
    IsCanonicalBlock-as_it_came class constructed tag contents small (inl (u, without))

-- a primitive encoding of another class is a canonical block
pub IsCanonicalBlock-primitive : (class : ASN1Class) (constructed : Bool) (tag : ℕ) (contents : List ℕ) →
    length contents < 2 ^ 64
    → class ≢ Universal → not constructed ≡ true → IsCanonicalBlock (shortest_encoding class constructed tag contents)
IsCanonicalBlock-primitive class false tag contents small other primitive =
    IsCanonicalBlock-as_it_came class false tag contents small (inr (other, λ both. false≢true both.0))
IsCanonicalBlock-primitive class true tag contents small other primitive = absurd (false≢true primitive)

-- a list that a test finds empty is empty
pub nil-no_length : (xs : List ℕ) → (length xs == 0) ≡ true → [] ≡ xs
nil-no_length [] e = refl
nil-no_length (x ∷ xs) e = absurd (grind (arith, nat_tests, e))

-- canonical blocks, one after another, encode trees, of which they are the canonical octets
EncodesAll-concat : (xs : List (List ℕ)) → AreCanonicalBlocks xs → (offset : ℕ)
    → (bs : Trees ℕ) × EncodesAll offset (concat xs) bs × (all_canonical bs ≡ concat xs)
EncodesAll-concat [] all offset = (no_trees, refl, refl)
EncodesAll-concat (x ∷ xs) all offset =
    let (b, e, w) = all.0 offset in
    let (bs, es, ws) = EncodesAll-concat xs all.1 (offset + length x) in (
      more_trees b bs,
      record { first = x; rest = concat xs; whole = refl; item = e; items = es },
      ap₂ (λ s t. s ++ t) w ws,
    )

-- the shortest encoding of canonical blocks as a SEQUENCE or SET is a canonical block
pub IsCanonicalBlock-group : (tag : ℕ) (xs : List (List ℕ)) (g : GroupKind) → tag ≡ group_tag g →
    length (concat xs) < 2 ^ 64
    → AreCanonicalBlocks xs → IsCanonicalBlock (shortest_encoding Universal true tag (concat xs))
IsCanonicalBlock-group tag xs g is small all offset =
    let contents = concat xs in
    let h = header_size Universal true tag contents in
    let e = subst (λ z. Encoding (shortest_encoding Universal true tag contents) Universal true z contents h) is
    (Encoding-shortest_encoding Universal true tag contents small) in
    let (bs, es, w) = EncodesAll-concat xs all (offset + h) in
    (group offset g bs, (refl, true, contents, h, e, es), ap₂ (λ s t. shortest_encoding Universal true s t) (sym is) w)

-- an empty SEQUENCE or SET is a canonical block
pub IsCanonicalBlock-empty_group : (class : ASN1Class) (constructed : Bool) (tag : ℕ) (contents : List ℕ) →
    class ≡ Universal →
    constructed ≡ true
    → (g : GroupKind) → tag ≡ group_tag g → [] ≡ contents →
    IsCanonicalBlock (shortest_encoding class constructed tag contents)
IsCanonicalBlock-empty_group class constructed tag contents u k g is none =
    subst (λ z. IsCanonicalBlock (shortest_encoding z constructed tag contents)) (sym u)
    (subst (λ z. IsCanonicalBlock (shortest_encoding Universal z tag contents)) (sym k)
    (subst (λ z. IsCanonicalBlock (shortest_encoding Universal true tag z)) none
    (IsCanonicalBlock-group tag [] g is (omega arith) tt)))

-- an encoding of another class around a canonical block is a canonical block
IsCanonicalBlock-explicit : (class : ASN1Class) (tag : ℕ) (x : List ℕ) → class ≢ Universal → length x < 2 ^ 64 →
    IsCanonicalBlock x
    → IsCanonicalBlock (shortest_encoding class true tag x)
IsCanonicalBlock-explicit class tag x other small is offset =
    let h = header_size class true tag x in
    let (b, e, w) = is (offset + h) in (
      explicit class offset tag b,
      (refl, other, x, h, Encoding-shortest_encoding class true tag x small, e),
      ap (λ z. shortest_encoding class true tag z) w,
    )

-- an encoding that holds blocks is a canonical block
pub IsCanonicalBlock-holding : (class : ASN1Class) (tag items : ℕ) (xs : List (List ℕ)) → HoldsBlocks class tag items →
    items ≡ length xs
    → length (concat xs) < 2 ^ 64 → AreCanonicalBlocks xs →
    IsCanonicalBlock (shortest_encoding class true tag (concat xs))
IsCanonicalBlock-holding class tag items xs (inl (u, g, is)) count small all =
    subst (λ z. IsCanonicalBlock (shortest_encoding z true tag (concat xs))) (sym u)
    (IsCanonicalBlock-group tag xs g is small all)
IsCanonicalBlock-holding class tag items [] (inr (other, one)) count small all = absurd (omega (arith, one, count))
IsCanonicalBlock-holding class tag items (x ∷ y ∷ xs) (inr (other, one)) count small all =
    absurd (omega (arith, one, count))
IsCanonicalBlock-holding class tag items (x ∷ []) (inr (other, one)) count small all =
    let e : concat (x ∷ []) ≡ x = append-nil x in
    subst (λ z. IsCanonicalBlock (shortest_encoding class true tag z)) (sym e)
    (IsCanonicalBlock-explicit class tag x other (subst (λ z. length z < 2 ^ 64) e small) all.0)

-- the first of canonical blocks are canonical
pub AreCanonicalBlocks-take : (k : ℕ) (xs : List (List ℕ)) → AreCanonicalBlocks xs → AreCanonicalBlocks (take k xs)
AreCanonicalBlocks-take zero xs all = tt
AreCanonicalBlocks-take (suc k) [] all = tt
AreCanonicalBlocks-take (suc k) (x ∷ xs) all = (all.0, AreCanonicalBlocks-take k xs all.1)

-- the last of canonical blocks are canonical
pub AreCanonicalBlocks-drop : (k : ℕ) (xs : List (List ℕ)) → AreCanonicalBlocks xs → AreCanonicalBlocks (drop k xs)
AreCanonicalBlocks-drop zero xs all = all
AreCanonicalBlocks-drop (suc k) [] all = tt
AreCanonicalBlocks-drop (suc k) (x ∷ xs) all = AreCanonicalBlocks-drop k xs all.1

-- canonical blocks with octets are a document in its canonical octets
pub IsDocument-concat : (xs : List (List ℕ)) → 0 < length (concat xs) → AreCanonicalBlocks xs
    → (bs : Trees ℕ) × IsDocument (concat xs) bs × (concat xs ≡ all_canonical bs)
IsDocument-concat xs some all =
    let (bs, es, w) = EncodesAll-concat xs all 0 in
    (bs, record { some = some; blocks = es }, sym w)
