-- A document that is DER is its canonical octets exactly if no leaf of it is written otherwise, for
-- `laws::law_der_is_canonical`.
use Rattle.std.proofs.Common.{◌≡◌, ◌↔◌, ℕ, ◌+◌, ◌<◌, ◌^◌, Bool, true, false, List, [], ◌++◌, length, refl, sym, ap, ◌∙◌, subst, arith, length-append, append-nil}
use Rattle.std.specs.List.{slice_range}
use Rattle.asn1_numbers.specs.Octets.{AreOctets}
use Rattle.asn1_headers.specs.Header.{Encoding}
use Rattle.asn1_headers.specs.declared.header.ASN1Class.{ASN1Class}
use Rattle.asn1_headers.specs.declared.header.ASN1Class.TheVariants.{Universal}
use Rattle.asn1_headers.proofs.Prefixes.{Encoding-unique}
use Rattle.asn1_blocks.specs.Contents.{LeafContents, group_tag, leaf_contents, leaf_tag}
use Rattle.asn1_blocks.specs.Grammar.{Encodes, EncodesAll, IsDocument}
use Rattle.asn1_blocks.specs.Places.{StandsAmong, StandsIn, end_before, in_explicit, in_first, in_group, in_later, itself}
use Rattle.asn1_blocks.specs.Tree.{Leaf, Tree, Trees, leaf, group, explicit, unknown, no_trees, more_trees}
use Rattle.asn1_blocks.proofs.Faults.{IsEncoding-block}
use Rattle.asn1_blocks.proofs.OneReading.{IsBlock-encodes}
use Rattle.asn1_blocks.proofs.Slices.{end_before-encodes, middle-contents, middle-first, middle-rest, slice_range-middle}
use Rattle.asn1_der.specs.Der.{IsDer, IsDerEncoding}
use Rattle.asn1_der.specs.Steps.{AreDer}
use Rattle.asn1_der.proofs.DerEncodings.{IsWhole-der, AreDer-first}
use Rattle.asn1_writing.specs.Canonical.{all_canonical, canonical, shortest_encoding}
use Rattle.asn1_writing.proofs.Placed.{length-le_shortest_encoding, Encoding-shortest_encoding}
use Rattle.asn1_writing.proofs.CanonicalDocuments.{IsEncoding-canonical}
use Rattle.asn1_laws.specs.Spellings.{HasNoOtherSpelling, is_written_otherwise}
use Rattle.asn1_laws.proofs.Encodings.{length-contents-lt, IsRightAlone-group, IsRightAlone-leaf}
use Rattle.asn1_laws.proofs.Kept.{LeafContents-plain, is_written_otherwise-leaf_contents}
use Rattle.asn1_writing.proofs.Writable.{AreOctets-first, AreOctets-second, AreOctets-contents}

-- the leaf from an offset to an end is not written otherwise
abbrev IsPlain : List ℕ → ℕ → Leaf → ℕ → Type 0
IsPlain i o l j =
    (contents : List ℕ) (header : ℕ) → Encoding (slice_range i o j) Universal false (leaf_tag l) contents header
    → is_written_otherwise (leaf_tag l) contents ≡ false

-- in a document i the octets x stand behind u and before v, and end at the offset e
record StandsBetween (i u x v : List ℕ) (e : ℕ) : Type 0 where
  pub whole : i ≡ u ++ (x ++ v)
  pub end : e ≡ length u + length x
  pub small : length x < 2 ^ 64

-- in a document the contents octets of an encoding stand behind its header, and end where the encoding ends
StandsBetween-inside : (i u x v : List ℕ) (e : ℕ) (c : ASN1Class) (k : Bool) (n : ℕ) (w : List ℕ) (h : ℕ)
    (F : Encoding x c k n w h) →
    StandsBetween i u x v e →
    StandsBetween i (u ++ (F.identifier ++ F.len)) w v e
StandsBetween-inside i u x v e c k n w h F s = record {
  whole = middle-contents i u x v s.whole F.identifier F.len w F.whole;
  end = omega (
    arith,
    s.end,
    ap length F.whole,
    length-append F.identifier (F.len ++ w),
    length-append F.len w,
    length-append u (F.identifier ++ F.len),
    length-append F.identifier F.len,
  );
  small = length-contents-lt x c k n w h F s.small;
}

-- the octets before an encoding and the size of its header add up to the octets before its contents octets
add-header_size : (u x : List ℕ) (c : ASN1Class) (k : Bool) (n : ℕ) (w : List ℕ) (h : ℕ) (F : Encoding x c k n w h) →
    length u + h ≡ length (u ++ (F.identifier ++ F.len))
add-header_size u x c k n w h F =
    omega (arith, F.size, length-append u (F.identifier ++ F.len), length-append F.identifier F.len)

mutual
  -- octets of DER are the canonical octets of the tree, where no leaf is written otherwise
  IsDerEncoding-plain_canonical :
      (a : Tree ℕ) (i u x v : List ℕ) (e : ℕ) → StandsBetween i u x v e → AreOctets x → Encodes (length u) x a →
      IsDerEncoding x →
      ((o : ℕ) (l : Leaf) (j : ℕ) → StandsIn a e (leaf o l) j → IsPlain i o l j) → x ≡ canonical a
  IsDerEncoding-plain_canonical (leaf p l) i u x v e at all (o, k, w, h, F, means) d plain =
      let whole = IsWhole-der x Universal k (leaf_tag l) w h at.small F d in
      let right = IsRightAlone-leaf l k w whole.alone.1 in
      let here : slice_range i p e ≡ x = slice_range-middle i u x v p e at.whole o at.end in
      let F' : Encoding (slice_range i p e) Universal false (leaf_tag l) w h =
      subst (λ z. Encoding z Universal false (leaf_tag l) w h) (sym here)
      (subst (λ z. Encoding x Universal z (leaf_tag l) w h) right.0 F) in
      let same =
      LeafContents-plain l w (AreOctets-contents x Universal k (leaf_tag l) w h F all) means right.1
      (plain p l e itself w h F') in
      whole.alone.0.whole ∙ (ap (λ z. shortest_encoding Universal z (leaf_tag l) w) right.0
      ∙ ap (shortest_encoding Universal false (leaf_tag l)) same)
  IsDerEncoding-plain_canonical (group p g bs) i u x v e at all (o, k, w, h, F, items) d plain =
      let whole = IsWhole-der x Universal k (group_tag g) w h at.small F d in
      let constructed = IsRightAlone-group g k w whole.alone.1 in
      let same : w ≡ all_canonical bs =
      AreDer-plain_canonical bs i (u ++ (F.identifier ++ F.len)) w v e
      (StandsBetween-inside i u x v e Universal k (group_tag g) w h F at)
      (AreOctets-contents x Universal k (group_tag g) w h F all)
      (subst (λ z. EncodesAll z w bs) (add-header_size u x Universal k (group_tag g) w h F) items)
      (whole.items constructed)
      (λ o l j t. plain o l j (in_group t)) in
      whole.alone.0.whole
      ∙ (ap (λ z. shortest_encoding Universal z (group_tag g) w) constructed
      ∙ ap (shortest_encoding Universal true (group_tag g)) same)
  IsDerEncoding-plain_canonical (explicit c p n b) i u x v e at all (o, other, w, h, F, item) d plain =
      let whole = IsWhole-der x c true n w h at.small F d in
      let small = length-contents-lt x c true n w h F at.small in
      let G = IsEncoding-block w (IsBlock-encodes (length u + h) w b item) in
      let one = AreDer-first w w [] G.class G.constructed G.tag G.contents G.header G.encoding (sym (append-nil w))
      small (whole.items refl) in
      let same : w ≡ canonical b =
      IsDerEncoding-plain_canonical b i (u ++ (F.identifier ++ F.len)) w v e
      (StandsBetween-inside i u x v e c true n w h F at) (AreOctets-contents x c true n w h F all)
      (subst (λ z. Encodes z w b) (add-header_size u x c true n w h F) item) one.der
      (λ o l j t. plain o l j (in_explicit t)) in
      whole.alone.0.whole ∙ ap (shortest_encoding c true n) same
  IsDerEncoding-plain_canonical (unknown c k p n w) i u x v e at all (o, h, F, stays) d plain =
      (IsWhole-der x c k n w h at.small F d).alone.0.whole

  -- encodings of DER are the canonical octets of the trees, where no leaf in them is written otherwise
  AreDer-plain_canonical :
      (bs : Trees ℕ) (i u x v : List ℕ) (e : ℕ) → StandsBetween i u x v e → AreOctets x → EncodesAll (length u) x bs →
      AreDer x →
      ((o : ℕ) (l : Leaf) (j : ℕ) → StandsAmong bs e (leaf o l) j → IsPlain i o l j) → x ≡ all_canonical bs
  AreDer-plain_canonical no_trees i u x v e at all s d plain = s
  AreDer-plain_canonical (more_trees b bs) i u x v e at all s d plain =
      let F = IsEncoding-block s.first (IsBlock-encodes (length u) s.first b s.item) in
      let parts =
      AreDer-first x s.first s.rest F.class F.constructed F.tag F.contents F.header F.encoding s.whole at.small d in
      let octets = subst AreOctets s.whole all in
      let size : length x ≡ length s.first + length s.rest = ap length s.whole ∙ length-append s.first s.rest in
      let here : length u + length s.first ≡ length (u ++ s.first) = omega (arith, length-append u s.first) in
      let one : s.first ≡ canonical b = IsDerEncoding-plain_canonical b i u s.first (s.rest ++ v) (end_before bs e)
      (record {
        whole = middle-first i u x v at.whole s.first s.rest s.whole;
        end = end_before-encodes (length u + length s.first) e s.rest bs s.items (omega (arith, at.end, size));
        small = omega (arith, at.small, size);
      })
      (AreOctets-first (s.first ++ s.rest) s.first s.rest refl octets) s.item parts.der
      (λ o l j t. plain o l j (in_first t)) in
      let others : s.rest ≡ all_canonical bs = AreDer-plain_canonical bs i (u ++ s.first) s.rest v e
      (record {
        whole = middle-rest i u x v at.whole s.first s.rest s.whole;
        end = omega (arith, at.end, size, here);
        small = omega (arith, at.small, size);
      })
      (AreOctets-second (s.first ++ s.rest) s.first s.rest refl octets)
      (subst (λ z. EncodesAll z s.rest bs) here s.items) parts.more
      (λ o l j t. plain o l j (in_later t)) in
      s.whole ∙ (ap (λ z. z ++ s.rest) one ∙ ap (λ z. canonical b ++ z) others)

-- a tree that stands in canonical octets of DER
record IsCanonicalAt (i : List ℕ) (b : Tree ℕ) (j : ℕ) : Type 0 where
  pub offset : ℕ
  pub octets : List ℕ
  pub at : (o : ℕ) → o ≡ offset → slice_range i o j ≡ octets
  pub small : length octets < 2 ^ 64
  pub encoded : Encodes offset octets b
  pub der : IsDerEncoding octets
  pub same : octets ≡ canonical b

-- the shortest encoding of contents octets has these contents octets
shortest_encoding-same_contents :
    (x : List ℕ) (c d : ASN1Class) (j k : Bool) (m n : ℕ) (v w : List ℕ) (h : ℕ) → length x < 2 ^ 64 →
    Encoding x c j m v h →
    x ≡ shortest_encoding d k n w → v ≡ w
shortest_encoding-same_contents x c d j k m n v w h small F e =
    let size : length w < 2 ^ 64 = omega (arith, small, ap length e, length-le_shortest_encoding d k n w) in
    (Encoding-unique x (shortest_encoding d k n w) c d j k m n v w h _ [] [] F (Encoding-shortest_encoding d k n w size)
    (ap (λ z. z ++ []) e)).contents

-- octets split in two are the canonical octets of the first tree and those of the trees behind it
record AreCanonicalParts (first rest : List ℕ) (b : Tree ℕ) (bs : Trees ℕ) : Type 0 where
  pub one : first ≡ canonical b
  pub others : rest ≡ all_canonical bs

-- canonical octets with an encoding of the first tree in front split into the canonical octets of this tree and of the
-- trees behind it
all_canonical-fronts :
    (o : ℕ) (x first rest : List ℕ) (b : Tree ℕ) (bs : Trees ℕ) → length x < 2 ^ 64 → Encodes o first b →
    x ≡ first ++ rest →
    x ≡ all_canonical (more_trees b bs) → AreCanonicalParts first rest b bs
all_canonical-fronts o x first rest b bs small s w e =
    let F = IsEncoding-block first (IsBlock-encodes o first b s) in
    let G =
    IsEncoding-canonical b (omega (arith, small, ap length e, length-append (canonical b) (all_canonical bs))) in
    let same = Encoding-unique first (canonical b) F.class G.class F.constructed G.constructed F.tag G.tag F.contents
    G.contents F.header G.header rest (all_canonical bs) F.encoding G.encoding (sym w ∙ e) in
    record { one = same.octets; others = same.rest }

mutual
  -- what stands in a tree of canonical octets that are DER stands in canonical octets of DER itself
  IsCanonicalAt-in_tree :
      (a : Tree ℕ) (e : ℕ) (b : Tree ℕ) (j : ℕ) (i u x v : List ℕ) → StandsBetween i u x v e → Encodes (length u) x a →
      IsDerEncoding x →
      x ≡ canonical a → StandsIn a e b j → IsCanonicalAt i b j
  IsCanonicalAt-in_tree a e b j i u x v at s d same itself = record {
    offset = length u;
    octets = x;
    at = λ o is. slice_range-middle i u x v o e at.whole is at.end;
    small = at.small;
    encoded = s;
    der = d;
    same = same;
  }
  IsCanonicalAt-in_tree a e b j i u x v at s d same (in_group {g = g} {bs = bs} t) =
      let (_, bit, contents, size, F, items) = s in
      let whole = IsWhole-der x Universal bit (group_tag g) contents size at.small F d in
      IsCanonicalAt-among_trees bs e b j i (u ++ (F.identifier ++ F.len)) contents v
      (StandsBetween-inside i u x v e Universal bit (group_tag g) contents size F at)
      (subst (λ z. EncodesAll z contents bs) (add-header_size u x Universal bit (group_tag g) contents size F) items)
      (whole.items (IsRightAlone-group g bit contents whole.alone.1))
      (shortest_encoding-same_contents x Universal Universal bit true (group_tag g) (group_tag g) contents
      (all_canonical bs) size at.small F same) t
  IsCanonicalAt-in_tree a e b j i u x v at s d same (in_explicit {class = c} {tag = n} {a = y} t) =
      let (_, _, contents, size, F, inner) = s in
      let whole = IsWhole-der x c true n contents size at.small F d in
      let G = IsEncoding-block contents (IsBlock-encodes (length u + size) contents y inner) in
      let one = AreDer-first contents contents [] G.class G.constructed G.tag G.contents G.header G.encoding
      (sym (append-nil contents)) (length-contents-lt x c true n contents size F at.small) (whole.items refl) in
      IsCanonicalAt-in_tree y e b j i (u ++ (F.identifier ++ F.len)) contents v
      (StandsBetween-inside i u x v e c true n contents size F at)
      (subst (λ z. Encodes z contents y) (add-header_size u x c true n contents size F) inner) one.der
      (shortest_encoding-same_contents x c c true true n n contents (canonical y) size at.small F same) t

  -- what stands among trees whose canonical octets, joined, are DER stands in canonical octets of DER itself
  IsCanonicalAt-among_trees :
      (bs : Trees ℕ) (e : ℕ) (b : Tree ℕ) (j : ℕ) (i u x v : List ℕ) → StandsBetween i u x v e →
      EncodesAll (length u) x bs →
      AreDer x →
      x ≡ all_canonical bs → StandsAmong bs e b j → IsCanonicalAt i b j
  IsCanonicalAt-among_trees bs e b j i u x v at s d same (in_first {a = a} {bs = cs} t) =
      let F = IsEncoding-block s.first (IsBlock-encodes (length u) s.first a s.item) in
      let parts =
      AreDer-first x s.first s.rest F.class F.constructed F.tag F.contents F.header F.encoding s.whole at.small d in
      let size : length x ≡ length s.first + length s.rest = ap length s.whole ∙ length-append s.first s.rest in
      let f = all_canonical-fronts (length u) x s.first s.rest a cs at.small s.item s.whole same in
      IsCanonicalAt-in_tree a (end_before cs e) b j i u s.first (s.rest ++ v)
      (record {
        whole = middle-first i u x v at.whole s.first s.rest s.whole;
        end = end_before-encodes (length u + length s.first) e s.rest cs s.items (omega (arith, at.end, size));
        small = omega (arith, at.small, size);
      }) s.item parts.der f.one t
  IsCanonicalAt-among_trees bs e b j i u x v at s d same (in_later {a = a} {bs = cs} t) =
      let F = IsEncoding-block s.first (IsBlock-encodes (length u) s.first a s.item) in
      let parts =
      AreDer-first x s.first s.rest F.class F.constructed F.tag F.contents F.header F.encoding s.whole at.small d in
      let size : length x ≡ length s.first + length s.rest = ap length s.whole ∙ length-append s.first s.rest in
      let f = all_canonical-fronts (length u) x s.first s.rest a cs at.small s.item s.whole same in
      let here : length u + length s.first ≡ length (u ++ s.first) = omega (arith, length-append u s.first) in
      IsCanonicalAt-among_trees cs e b j i (u ++ s.first) s.rest v
      (record {
        whole = middle-rest i u x v at.whole s.first s.rest s.whole;
        end = omega (arith, at.end, size, here);
        small = omega (arith, at.small, size);
      })
      (subst (λ z. EncodesAll z s.rest cs) here s.items) parts.more f.others t

-- a whole document stands with no octets before it and none behind it
StandsBetween-whole : (i : List ℕ) → length i < 2 ^ 64 → StandsBetween i [] i [] (length i)
StandsBetween-whole i small = record { whole = sym (append-nil i); end = omega arith; small = small }

-- a leaf in canonical octets is not written otherwise
is_written_otherwise-canonical_leaf :
    (x : List ℕ) (o p : ℕ) (l : Leaf) (contents : List ℕ) (header : ℕ) → length x < 2 ^ 64 → Encodes o x (leaf p l) →
    IsDerEncoding x →
    x ≡ canonical (leaf p l) → Encoding x Universal false (leaf_tag l) contents header →
    is_written_otherwise (leaf_tag l) contents ≡ false
is_written_otherwise-canonical_leaf x o p l contents header small (q, k, w, h, F, means) d same G =
    let whole = IsWhole-der x Universal false (leaf_tag l) contents header small G d in
    let right = IsRightAlone-leaf l false contents whole.alone.1 in
    let is : w ≡ contents =
    (Encoding-unique x x Universal Universal k false (leaf_tag l) (leaf_tag l) w contents h header [] [] F G
    refl).contents in
    is_written_otherwise-leaf_contents l contents (subst (LeafContents l) is means) right.1
    (shortest_encoding-same_contents x Universal Universal false false (leaf_tag l) (leaf_tag l) contents
    (leaf_contents l) header small G
    same)

-- a document that is DER is canonical exactly if no leaf of it is written otherwise
pub IsDer-canonical_iff_plain :
    (i : List ℕ) (bs : Trees ℕ) → AreOctets i → length i < 2 ^ 64 → IsDer i → IsDocument i bs →
    (i ≡ all_canonical bs) ↔ HasNoOtherSpelling i bs
IsDer-canonical_iff_plain i bs all small d s = (
  λ same o l octets contents header h F.
      let f = IsCanonicalAt-among_trees bs (length i) (leaf o l) h.end i [] i [] (StandsBetween-whole i small) s.blocks
      (d.items, d.encodings) same h.place in
      let here : octets ≡ f.octets = h.octets_are ∙ f.at o f.encoded.0 in
      is_written_otherwise-canonical_leaf f.octets f.offset o l contents header f.small f.encoded f.der f.same
      (subst (λ z. Encoding z Universal false (leaf_tag l) contents header) here F),
  λ plain.
      AreDer-plain_canonical bs i [] i [] (length i) (StandsBetween-whole i small) all s.blocks (d.items, d.encodings)
      (λ o l j t contents header F. plain o l (slice_range i o j) contents header
      (record { end = j; place = t; octets_are = refl }) F),
)
