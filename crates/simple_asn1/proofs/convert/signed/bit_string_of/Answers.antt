-- For `convert::signed::bit_string_of`: what it returns is right.
use Rattle.std.proofs.Common.{◌≡◌, ◌≢◌, ℕ, List, Option, Some, None, MatchOption, Bor, sym, ap, ◌∙◌}
use Rattle.asn1_blocks.specs.BlockParts.{leaf_bits, tree_bits}
use Rattle.asn1_blocks.specs.Tree.{Leaf, Tree, leaf, bit_string}
use Rattle.asn1_blocks.specs.View.{tree_offset, view}
use Rattle.simple_asn1.proofs.convert.signed.bit_string_of.Goals as goal

-- a leaf in which bits are found is the BIT STRING of these bits
leaf_bits-bit_string : (l : Leaf) (x : ℕ × List ℕ) → leaf_bits l ≡ Some x → l ≡ bit_string x.0 x.1
leaf_bits-bit_string (bit_string m w) x h =
    let p : (m, w) ≡ x = cc in
    ap (λ (y : ℕ × List ℕ). bit_string y.0 y.1) p
leaf_bits-bit_string l x h = cc

-- a tree in which bits are found is a leaf, the BIT STRING of these bits
tree_bits-leaf : (t : Tree ℕ) (x : ℕ × List ℕ) → tree_bits t ≡ Some x → t ≡ leaf (tree_offset t) (bit_string x.0 x.1)
tree_bits-leaf (leaf o l) x h = ap (leaf o) (leaf_bits-bit_string l x h)
tree_bits-leaf t x h = cc

-- a tree in which no bits are found is no BIT STRING
tree_bits-none : (t : Tree ℕ) → tree_bits t ≡ None → (o n : ℕ) (v : List ℕ) → t ≢ leaf o (bit_string n v)
tree_bits-none t h o n v e =
    let f : ◌≡◌ {A = Option (ℕ × List ℕ)} (Some (n, v)) None = ap tree_bits (sym e) ∙ h in
    cc

-- where bits are found in a tree, the tree is a BIT STRING of them, and where none are found, it is no BIT STRING
MatchOption-bits : (t : Tree ℕ) (r : Option (ℕ × Bor (List ℕ))) →
    MatchOption r (tree_bits t ≡ None) (λ x. tree_bits t ≡ Some (x.0, x.1.now))
    → MatchOption r ((o n : ℕ) (v : List ℕ) → t ≢ leaf o (bit_string n v))
    (λ x. t ≡ leaf (tree_offset t) (bit_string x.0 x.1.now))
MatchOption-bits t None h = tree_bits-none t h
MatchOption-bits t (Some x) h = tree_bits-leaf t (x.0, x.1.now) h

pub returns : goal.returns
returns c = MatchOption-bits (view c.args.b.now) c.bits.result c.bits.ensures
