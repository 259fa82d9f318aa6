-- Trees with one more at their end, and slices: their lengths, and one after another, for all that reads slices.
use Rattle.std.proofs.Common.{◌≡◌, ℕ, ◌+◌, ◌-◌, ◌≤◌, Bool, List, ◌++◌, length, take, drop, Vec, Global, drop-drop, length-drop, length-take, sym, ap, ◌∙◌, subst, arith, rules, length-append, append_assoc}
use Rattle.std.specs.List.{slice_range}
use Rattle.std.proofs.Math.Seq.{take-add}
use Rattle.asn1_headers.specs.declared.header.ASN1Class.{ASN1Class}
use Rattle.asn1_blocks.specs.declared.block.ASN1Block.{Unknown, the_lemmas}
use Rattle.asn1_blocks.specs.View.{view}
use Rattle.asn1_blocks.specs.Tree.{Tree, Trees, unknown, no_trees, more_trees}
use Rattle.asn1_blocks.specs.Grammar.{Encodes, EncodesAll}
use Rattle.asn1_blocks.proofs.OneReading.{EncodesAll-single}

-- trees and one more at their end
abbrev pub with_last : {O : Type 0} → Trees O → Tree O → Trees O
with_last no_trees b = more_trees b no_trees
with_last (more_trees x xs) b = more_trees x (with_last xs b)

-- octets that encode trees, and those of one tree more behind them, encode all of these trees
pub EncodesAll-with_last : (o : ℕ) (octets last : List ℕ) (bs : Trees ℕ) (b : Tree ℕ) → EncodesAll o octets bs →
    Encodes (o + length octets) last b
    → EncodesAll o (octets ++ last) (with_last bs b)
EncodesAll-with_last o octets last no_trees b s t =
    subst (λ z. EncodesAll o z (more_trees b no_trees)) (sym (ap (λ z. z ++ last) s))
    (EncodesAll-single o last b (subst (λ z. Encodes z last b) (omega (arith, ap length s)) t))
EncodesAll-with_last o octets last (more_trees x xs) b s t = record {
  first = s.first;
  rest = s.rest ++ last;
  whole = ap (λ z. z ++ last) s.whole ∙ append_assoc s.first s.rest last;
  item = s.item;
  items = EncodesAll-with_last (o + length s.first) s.rest last xs b s.items
      (subst (λ z. Encodes z last b) (omega (arith, ap length s.whole, length-append s.first s.rest)) t);
}

-- a slice within the octets is as long as its end is behind its start
pub length-slice_range : (octets : List ℕ) (i j : ℕ) → i ≤ j → j ≤ length octets →
    length (slice_range octets i j) ≡ j - i
length-slice_range octets i j h l = omega (arith, length-take (j - i) (drop i octets), length-drop i octets)

-- a slice is its part up to an offset between its ends, and then the part from there on
pub slice_range-append : (octets : List ℕ) (i j k : ℕ) → i ≤ j → j ≤ k →
    slice_range octets i k ≡ slice_range octets i j ++ slice_range octets j k
slice_range-append octets i j k h l =
    let e : k - i ≡ (j - i) + (k - j) = omega arith in
    ap (λ n. take n (drop i octets)) e ∙ (take-add (j - i) (k - j) (drop i octets)
    ∙ ap (λ r. take (j - i) (drop i octets) ++ take (k - j) r)
    (drop-drop (j - i) i octets ∙ ap (λ n. drop n octets) (omega arith)))

-- the tree of an `Unknown` has its class, constructed bit, offset, tag number and contents octets
pub view-Unknown : (c : ASN1Class) (k : Bool) (o t : ℕ) (v : Vec ℕ Global) →
    view (Unknown c k o t v) ≡ unknown c k o t v.items
view-Unknown c k o t v = search (rules, the_lemmas)
