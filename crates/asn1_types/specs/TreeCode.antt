-- How the logic stores a tree, for a type whose values are trees: no two trees have the same code.
use Rattle.std.specs.Prelude.{◌≡◌, ◌==◌, ℕ, ℤ, pos, negsuc, Bool, true, false, List, [], ◌∷◌, cond, slice_index}
use Rattle.std.specs.Coded.{Coded, code_by, coded×, coded_ℕ, coded_ℤ, coded_bool, coded_list}
use Rattle.std.proofs.Common.{refl, ap, ◌∙◌}
use Rattle.asn1_headers.specs.Header.{class_number}
use Rattle.asn1_headers.specs.declared.header.ASN1Class.{ASN1Class}
use Rattle.asn1_headers.specs.declared.header.ASN1Class.TheVariants.{Universal, Application, ContextSpecific, Private}
use Rattle.asn1_blocks.specs.declared.block.GroupKind.{GroupKind}
use Rattle.asn1_blocks.specs.declared.block.GroupKind.TheVariants.{Sequence, Set}
use Rattle.asn1_blocks.specs.Tree.{Tree, Trees, Leaf, leaf, group, explicit, unknown, no_trees, more_trees, boolean, integer, bit_string, octet_string, null, object_identifier, text, utc_time, generalized_time}
use Rattle.asn1_leaves.specs.StringKind.{utf8, printable, teletex, ia5, universal, bmp}
use Rattle.asn1_leaves.specs.Contents.Moment.{Moment}
use base.Stored.{Gv, gnil, gnum, gcons}

-- a class, by its number
abbrev class_of : ℕ → ASN1Class
class_of n = cond (n == 0) Universal (cond (n == 1) Application (cond (n == 2) ContextSpecific Private))

class_of-class_number : (c : ASN1Class) → class_of (class_number c) ≡ c
class_of-class_number Universal = refl
class_of-class_number Application = refl
class_of-class_number ContextSpecific = refl
class_of-class_number Private = refl

abbrev class_code : Coded ASN1Class
class_code = code_by ℕ coded_ℕ class_number class_of class_of-class_number

-- a SEQUENCE as 0, a SET as 1
abbrev kind_number : GroupKind → ℕ
kind_number Sequence = 0
kind_number Set = 1

abbrev kind_of : ℕ → GroupKind
kind_of n = cond (n == 0) Sequence Set

kind_of-kind_number : (k : GroupKind) → kind_of (kind_number k) ≡ k
kind_of-kind_number Sequence = refl
kind_of-kind_number Set = refl

abbrev kind_code : Coded GroupKind
kind_code = code_by ℕ coded_ℕ kind_number kind_of kind_of-kind_number

-- a leaf as a number of its kind, a number and a list
abbrev Row : Type 0
Row = ℕ × (ℤ × List ℕ)

abbrev fields : Moment → List ℕ
fields m = m.month ∷ m.day ∷ m.hour ∷ m.minute ∷ m.second ∷ m.nanosecond ∷ []

abbrev moment : ℤ → List ℕ → Moment
moment year fields = record {
  year = year;
  month = slice_index fields 0;
  day = slice_index fields 1;
  hour = slice_index fields 2;
  minute = slice_index fields 3;
  second = slice_index fields 4;
  nanosecond = slice_index fields 5;
}

abbrev natural : ℤ → ℕ
natural (pos n) = n
natural (negsuc n) = 0

abbrev row_of : Leaf → Row
row_of (boolean false) = (0, (pos 0, []))
row_of (boolean true) = (1, (pos 0, []))
row_of (integer n) = (2, (n, []))
row_of (bit_string n v) = (3, (pos n, v))
row_of (octet_string v) = (4, (pos 0, v))
row_of null = (5, (pos 0, []))
row_of (object_identifier v) = (6, (pos 0, v))
row_of (text utf8 v) = (7, (pos 0, v))
row_of (text printable v) = (8, (pos 0, v))
row_of (text teletex v) = (9, (pos 0, v))
row_of (text ia5 v) = (10, (pos 0, v))
row_of (text universal v) = (11, (pos 0, v))
row_of (text bmp v) = (12, (pos 0, v))
row_of (utc_time m) = (13, (m.year, fields m))
row_of (generalized_time m) = (14, (m.year, fields m))

abbrev timed_leaf : ℕ → ℤ → List ℕ → Leaf
timed_leaf k n v = cond (k == 13) (utc_time (moment n v)) (generalized_time (moment n v))

abbrev text_leaf : ℕ → ℤ → List ℕ → Leaf
text_leaf k n v =
    cond (k == 7) (text utf8 v) (cond (k == 8) (text printable v) (cond (k == 9) (text teletex v)
    (cond (k == 10) (text ia5 v) (cond (k == 11) (text universal v) (cond (k == 12) (text bmp v)
    (timed_leaf k n v))))))

abbrev leaf_of : Row → Leaf
leaf_of (k, (n, v)) =
    cond (k == 0) (boolean false) (cond (k == 1) (boolean true) (cond (k == 2) (integer n)
    (cond (k == 3) (bit_string (natural n) v) (cond (k == 4) (octet_string v) (cond (k == 5) null
    (cond (k == 6) (object_identifier v) (text_leaf k n v)))))))

leaf_of-row_of : (l : Leaf) → leaf_of (row_of l) ≡ l
leaf_of-row_of (boolean false) = refl
leaf_of-row_of (boolean true) = refl
leaf_of-row_of (integer n) = refl
leaf_of-row_of (bit_string n v) = refl
leaf_of-row_of (octet_string v) = refl
leaf_of-row_of null = refl
leaf_of-row_of (object_identifier v) = refl
leaf_of-row_of (text utf8 v) = refl
leaf_of-row_of (text printable v) = refl
leaf_of-row_of (text teletex v) = refl
leaf_of-row_of (text ia5 v) = refl
leaf_of-row_of (text universal v) = refl
leaf_of-row_of (text bmp v) = refl
leaf_of-row_of (utc_time m) = refl
leaf_of-row_of (generalized_time m) = refl

abbrev leaf_code : Coded Leaf
leaf_code = code_by Row (coded× coded_ℕ (coded× coded_ℤ (coded_list coded_ℕ))) row_of leaf_of leaf_of-row_of

abbrev tag_code : Coded (ASN1Class × ℕ)
tag_code = coded× class_code coded_ℕ

abbrev contents_code : Coded (ASN1Class × (Bool × (ℕ × List ℕ)))
contents_code = coded× class_code (coded× coded_bool (coded× coded_ℕ (coded_list coded_ℕ)))

abbrev mutual
  code_of : Tree (Unit {0}) → Gv
  code_of (leaf o l) = gcons (gnum 0) (leaf_code.code l)
  code_of (group o k ts) = gcons (gnum 1) (gcons (kind_code.code k) (codes_of ts))
  code_of (explicit c o n t) = gcons (gnum 2) (gcons (tag_code.code (c, n)) (code_of t))
  code_of (unknown c b o n v) = gcons (gnum 3) (contents_code.code (c, (b, (n, v))))

  codes_of : Trees (Unit {0}) → Gv
  codes_of no_trees = gnil
  codes_of (more_trees t ts) = gcons (code_of t) (codes_of ts)

left-same : (a b c d : Gv) → gcons a b ≡ gcons c d → a ≡ c
left-same a b c d e = cc

right-same : (a b c d : Gv) → gcons a b ≡ gcons c d → b ≡ d
right-same a b c d e = cc

group-same : (k j : GroupKind) (ts us : Trees (Unit {0})) → k ≡ j → ts ≡ us
    → ◌≡◌ {A = Tree (Unit {0})} (group tt k ts) (group tt j us)
group-same k j ts us p q = cc

explicit-same : (c d : ASN1Class × ℕ) (t u : Tree (Unit {0})) → c ≡ d → t ≡ u
    → ◌≡◌ {A = Tree (Unit {0})} (explicit c.0 tt c.1 t) (explicit d.0 tt d.1 u)
explicit-same c d t u p q = ap (λ z. explicit z.0 tt z.1 t) p ∙ ap (λ z. explicit d.0 tt d.1 z) q

unknown-same : (x y : ASN1Class × (Bool × (ℕ × List ℕ))) → x ≡ y
    → ◌≡◌ {A = Tree (Unit {0})} (unknown x.0 x.1.0 tt x.1.1.0 x.1.1.1) (unknown y.0 y.1.0 tt y.1.1.0 y.1.1.1)
unknown-same x y e = ap (λ z. unknown z.0 z.1.0 tt z.1.1.0 z.1.1.1) e

trees-same : (t u : Tree (Unit {0})) (ts us : Trees (Unit {0})) → t ≡ u → ts ≡ us
    → more_trees t ts ≡ more_trees u us
trees-same t u ts us p q = cc

mutual
  code_of-same : (t u : Tree (Unit {0})) → code_of t ≡ code_of u → t ≡ u
  code_of-same (leaf o l) (leaf p m) e =
      ap (λ k. leaf tt k) (leaf_code.inj l m (right-same (gnum 0) (leaf_code.code l) (gnum 0) (leaf_code.code m) e))
  code_of-same (leaf o l) (group p j us) e = cc
  code_of-same (leaf o l) (explicit d p m u) e = cc
  code_of-same (leaf o l) (unknown d b p m w) e = cc
  code_of-same (group o k ts) (leaf p m) e = cc
  code_of-same (group o k ts) (group p j us) e =
      let f = right-same (gnum 1) (gcons (kind_code.code k) (codes_of ts)) (gnum 1)
      (gcons (kind_code.code j) (codes_of us)) e in
      group-same k j ts us (kind_code.inj k j (left-same _ _ _ _ f)) (codes_of-same ts us (right-same _ _ _ _ f))
  code_of-same (group o k ts) (explicit d p m u) e = cc
  code_of-same (group o k ts) (unknown d b p m w) e = cc
  code_of-same (explicit c o n t) (leaf p m) e = cc
  code_of-same (explicit c o n t) (group p j us) e = cc
  code_of-same (explicit c o n t) (explicit d p m u) e =
      let f = right-same (gnum 2) (gcons (tag_code.code (c, n)) (code_of t)) (gnum 2)
      (gcons (tag_code.code (d, m)) (code_of u)) e in
      explicit-same (c, n) (d, m) t u (tag_code.inj (c, n) (d, m) (left-same _ _ _ _ f))
      (code_of-same t u (right-same _ _ _ _ f))
  code_of-same (explicit c o n t) (unknown d b p m w) e = cc
  code_of-same (unknown c a o n v) (leaf p m) e = cc
  code_of-same (unknown c a o n v) (group p j us) e = cc
  code_of-same (unknown c a o n v) (explicit d p m u) e = cc
  code_of-same (unknown c a o n v) (unknown d b p m w) e =
      unknown-same (c, (a, (n, v))) (d, (b, (m, w)))
      (contents_code.inj (c, (a, (n, v))) (d, (b, (m, w)))
      (right-same (gnum 3) (contents_code.code (c, (a, (n, v)))) (gnum 3) (contents_code.code (d, (b, (m, w)))) e))

  codes_of-same : (ts us : Trees (Unit {0})) → codes_of ts ≡ codes_of us → ts ≡ us
  codes_of-same no_trees no_trees e = refl
  codes_of-same no_trees (more_trees u us) e = cc
  codes_of-same (more_trees t ts) no_trees e = cc
  codes_of-same (more_trees t ts) (more_trees u us) e =
      trees-same t u ts us (code_of-same t u (left-same (code_of t) (codes_of ts) (code_of u) (codes_of us) e))
      (codes_of-same ts us (right-same (code_of t) (codes_of ts) (code_of u) (codes_of us) e))

pub tree_code : Coded (Tree (Unit {0}))
tree_code = record { code = code_of; inj = code_of-same }
