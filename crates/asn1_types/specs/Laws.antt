-- No two values have the same tree: of each leaf, under each tag, and in a list.
use Rattle.std.specs.Prelude.{◌≡◌, ℕ, ℤ, Bool, List, [], ◌∷◌, map, false}
use Rattle.std.proofs.Common.{refl}
use Rattle.asn1_headers.specs.declared.header.ASN1Class.TheVariants.{ContextSpecific}
use Rattle.asn1_blocks.specs.declared.block.GroupKind.{GroupKind}
use Rattle.asn1_blocks.specs.Tree.{Tree, Trees, Leaf, leaf, group, explicit, unknown, boolean, integer, bit_string, octet_string, object_identifier, text, utc_time, generalized_time, more_trees, trees_of}
use Rattle.asn1_leaves.specs.StringKind.{StringKind}
use Rattle.asn1_leaves.specs.Contents.Moment.{Moment}

abbrev leaf_tree : Leaf → Tree (Unit {0})
leaf_tree l = leaf tt l

pub integer-distinct : (x y : ℤ) → leaf_tree (integer x) ≡ leaf_tree (integer y) → x ≡ y
integer-distinct x y e = cc

pub boolean-distinct : (x y : Bool) → leaf_tree (boolean x) ≡ leaf_tree (boolean y) → x ≡ y
boolean-distinct x y e = cc

pub octet_string-distinct : (x y : List ℕ) → leaf_tree (octet_string x) ≡ leaf_tree (octet_string y) → x ≡ y
octet_string-distinct x y e = cc

pub object_identifier-distinct : (x y : List ℕ)
    → leaf_tree (object_identifier x) ≡ leaf_tree (object_identifier y) → x ≡ y
object_identifier-distinct x y e = cc

pub text-distinct : (k : StringKind) (x y : List ℕ) → leaf_tree (text k x) ≡ leaf_tree (text k y) → x ≡ y
text-distinct k x y e = cc

pub utc_time-distinct : (x y : Moment) → leaf_tree (utc_time x) ≡ leaf_tree (utc_time y) → x ≡ y
utc_time-distinct x y e = cc

pub generalized_time-distinct : (x y : Moment)
    → leaf_tree (generalized_time x) ≡ leaf_tree (generalized_time y) → x ≡ y
generalized_time-distinct x y e = cc

pub bit_string-distinct : (x y : ℕ × List ℕ)
    → leaf_tree (bit_string x.0 x.1) ≡ leaf_tree (bit_string y.0 y.1) → x ≡ y
bit_string-distinct (m, xs) (n, ys) e =
    let p : m ≡ n = cc in
    let q : xs ≡ ys = cc in
    cc

abbrev implicit_tree : ℕ → List ℕ → Tree (Unit {0})
implicit_tree n v = unknown ContextSpecific false tt n v

pub implicit-distinct : (n : ℕ) (x y : List ℕ) → implicit_tree n x ≡ implicit_tree n y → x ≡ y
implicit-distinct n x y e = cc

abbrev pub explicit_tree : ℕ → Tree (Unit {0}) → Tree (Unit {0})
explicit_tree n t = explicit ContextSpecific tt n t

pub explicit-inner : (n : ℕ) (x y : Tree (Unit {0})) → explicit_tree n x ≡ explicit_tree n y → x ≡ y
explicit-inner n x y e = cc

abbrev pub group_tree : GroupKind → Trees (Unit {0}) → Tree (Unit {0})
group_tree k ts = group tt k ts

pub group-inner : (k : GroupKind) (xs ys : Trees (Unit {0})) → group_tree k xs ≡ group_tree k ys → xs ≡ ys
group-inner k xs ys e = cc

pub first-same : (t u : Tree (Unit {0})) (ts us : Trees (Unit {0})) → more_trees t ts ≡ more_trees u us → t ≡ u
first-same t u ts us e = cc

pub rest-same : (t u : Tree (Unit {0})) (ts us : Trees (Unit {0})) → more_trees t ts ≡ more_trees u us → ts ≡ us
rest-same t u ts us e = cc

-- lists whose items have the same trees are equal
pub list-distinct : {A : Type 0} (f : A → Tree (Unit {0})) (d : (x y : A) → f x ≡ f y → x ≡ y)
    (xs ys : List A)
    → trees_of (map f xs) ≡ trees_of (map f ys) → xs ≡ ys
list-distinct f d [] [] e = refl
list-distinct f d [] (y ∷ ys) e = cc
list-distinct f d (x ∷ xs) [] e = cc
list-distinct f d (x ∷ xs) (y ∷ ys) e =
    let p : x ≡ y = d x y (first-same (f x) (f y) _ _ e) in
    let q : xs ≡ ys = list-distinct f d xs ys (rest-same (f x) (f y) _ _ e) in
    cc
