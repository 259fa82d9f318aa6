-- The structure of a document says which trees each of its trees holds, also one in implicit tagging: for
-- `request::request_in`.
use Rattle.std.proofs.Common.{◌≡◌, ℕ, zero, suc, ◌+◌, ◌<◌, Bool, true, false, List, [], ◌∷◌, inl, inr, get_or, length, refl, sym, ap, subst, ◌∙◌, arith, eq-eqb}
use Rattle.std.specs.Prelude.{◌==◌, if◌then◌else◌, drop}
use Rattle.std.proofs.lemmas.Bool.{cases_lt, eqb-true, false≢true}
use Rattle.std.proofs.lemmas.List.{get_or_past}
use Rattle.asn1_headers.proofs.Prefixes.{Encoding-unique}
use Rattle.asn1_headers.specs.declared.header.ASN1Class.{ASN1Class}
use Rattle.asn1_blocks.proofs.OneReading.{AreBlocks-encodes, EncodesAll-unique}
use Rattle.asn1_blocks.specs.Grammar.{EncodesAll}
use Rattle.asn1_outline.proofs.Standing.{IsStanding, IsStanding-structure}
use Rattle.simple_asn1.specs.Structure.{Holds, IsNode, IsStructure, Node, Nodes, no_node, node, node_at, node_items, node_tree, nodes_in_order, nodes_trees}
use Rattle.simple_asn1.specs.Tree.{Tree, Trees, explicit, group, leaf, more_trees, no_trees, unknown}
use Rattle.asn1_certificate.specs.Held.{AreHeld}

-- whether a tree stays as it came, and begins at the offset
abbrev is_unknown_at : ℕ → Tree ℕ → Bool
is_unknown_at offset (leaf o l) = false
is_unknown_at offset (group o g bs) = false
is_unknown_at offset (explicit c o n b) = false
is_unknown_at offset (unknown c k o n v) = o == offset

-- the trees that the first of nodes holds whose tree is such a one
abbrev items_at : ℕ → List Node → Trees ℕ
items_at offset [] = no_trees
items_at offset (n ∷ ns) = if is_unknown_at offset (node_tree n) then nodes_trees (node_items n) else items_at offset ns

-- the trees that a tree of the document with this structure holds
abbrev pub held_in : Nodes → Tree ℕ → Trees ℕ
held_in ns (leaf o l) = no_trees
held_in ns (group o g bs) = bs
held_in ns (explicit c o n b) = more_trees b no_trees
held_in ns (unknown c k o n v) = items_at o (nodes_in_order ns)

-- a tree that stays as it came holds trees in one way
Holds-unknown : (x : List ℕ) (c : ASN1Class) (k : Bool) (o n : ℕ) (v : List ℕ) (bs cs : Trees ℕ) →
    Holds x (unknown c k o n v) bs → Holds x (unknown c k o n v) cs → bs ≡ cs
Holds-unknown x c k o n v bs cs (inl (i, p, t, e)) (inl (j, q, u, f)) =
    let same = Encoding-unique t.octets u.octets c c true true n n v v t.header u.header t.rest u.rest t.encoding
    u.encoding (sym t.at_offset ∙ u.at_offset) in
    let place : q ≡ p = u.start_is ∙ ap (λ z. o + z) (sym same.header) ∙ sym t.start_is in
    EncodesAll-unique p v bs cs e (subst (λ z. EncodesAll z v cs) place f)
Holds-unknown x c k o n v bs cs (inl (i, p, t, e)) (inr (none, other)) =
    absurd (other (t.other, i, AreBlocks-encodes p v bs e))
Holds-unknown x c k o n v bs cs (inr (none, other)) (inl (i, p, t, e)) =
    absurd (other (t.other, i, AreBlocks-encodes p v cs e))
Holds-unknown x c k o n v bs cs (inr (none, other)) (inr (same, more)) = none ∙ sym same

-- two such nodes at one offset hold the same trees
node_items-unknown : (x : List ℕ) (offset : ℕ) (n m : Node) → IsStanding x n → IsStanding x m →
    is_unknown_at offset (node_tree n) ≡ true →
    is_unknown_at offset (node_tree m) ≡ true → nodes_trees (node_items n) ≡ nodes_trees (node_items m)
node_items-unknown x offset (node (leaf o l) ns) m s t e f = absurd (false≢true e)
node_items-unknown x offset (node (group o g bs) ns) m s t e f = absurd (false≢true e)
node_items-unknown x offset (node (explicit c o i b) ns) m s t e f = absurd (false≢true e)
node_items-unknown x offset (node (unknown c k o i v) ns) (node (leaf p l) ms) s t e f = absurd (false≢true f)
node_items-unknown x offset (node (unknown c k o i v) ns) (node (group p g bs) ms) s t e f = absurd (false≢true f)
node_items-unknown x offset (node (unknown c k o i v) ns) (node (explicit d p j b) ms) s t e f = absurd (false≢true f)
node_items-unknown x offset (node (unknown c k o i v) ns) (node (unknown d h p j w) ms) (y, s, is) (z, t, are) e f =
    let places : o ≡ p = eqb-true o offset e ∙ sym (eqb-true p offset f) in
    let (_, g, first, _) = s.encoded in
    let (_, l, second, _) = t.encoded in
    let same = Encoding-unique y z c d k h i j v w g l s.rest t.rest first second
    (sym s.at_offset ∙ ap (λ q. drop q x) places ∙ t.at_offset) in
    let class : c ≡ d = same.class in
    let form : k ≡ h = same.constructed in
    let tag : i ≡ j = same.tag in
    let contents : v ≡ w = same.contents in
    let tree : unknown c k o i v ≡ unknown d h p j w = cc in
    Holds-unknown x d h p j w (nodes_trees ns) (nodes_trees ms)
    (subst (λ q. Holds x q (nodes_trees ns)) tree is.0) are.0

-- either of two trees that are both the same as a third
if-same : (t : Bool) (a b c : Trees ℕ) → (t ≡ true → a ≡ c) → b ≡ c → (if t then a else b) ≡ c
if-same true a b c p q = p refl
if-same false a b c p q = q

-- such a node holds what the first such node at its offset holds
items_at-node : (x : List ℕ) (offset : ℕ) (ns : List Node) →
    ((k : ℕ) → k < length ns → IsStanding x (get_or ns k no_node)) → (k : ℕ) → k < length ns →
    is_unknown_at offset (node_tree (get_or ns k no_node)) ≡ true →
    items_at offset ns ≡ nodes_trees (node_items (get_or ns k no_node))
items_at-node x offset [] all k h e = absurd (omega (arith, h))
items_at-node x offset (n ∷ ns) all zero h e =
    ap (λ t. if t then nodes_trees (node_items n) else items_at offset ns) e
items_at-node x offset (n ∷ ns) all (suc k) h e =
    if-same (is_unknown_at offset (node_tree n)) (nodes_trees (node_items n)) (items_at offset ns)
    (nodes_trees (node_items (get_or ns k no_node)))
    (λ yes. node_items-unknown x offset n (get_or ns k no_node) (all 0 (omega (arith, h))) (all (suc k) h) yes e)
    (items_at-node x offset ns (λ i few. all (suc i) (omega (arith, few))) k (omega (arith, h)) e)

-- a node of the document holds what its tree holds
held_in-node : (x : List ℕ) (ns : Nodes) (n : Node) → IsNode x n →
    ((offset : ℕ) → is_unknown_at offset (node_tree n) ≡ true →
    items_at offset (nodes_in_order ns) ≡ nodes_trees (node_items n)) →
    held_in ns (node_tree n) ≡ nodes_trees (node_items n)
held_in-node x ns (node (leaf o l) ms) is found = sym is.0
held_in-node x ns (node (group o g bs) ms) is found = sym is.0
held_in-node x ns (node (explicit c o i b) ms) is found = sym is.0
held_in-node x ns (node (unknown c k o i v) ms) is found = found o (eq-eqb o o refl)

-- the structure says which trees each tree holds
pub AreHeld-held_in : (x : List ℕ) (ns : Nodes) → IsStructure x ns → AreHeld ns (held_in ns)
AreHeld-held_in x ns d k = elim (cases_lt k (length (nodes_in_order ns))) [
  | inl lt ↦
      let (y, s, is) = IsStanding-structure x ns d k lt in
      held_in-node x ns (node_at ns k) is
      (λ offset yes. items_at-node x offset (nodes_in_order ns) (IsStanding-structure x ns d) k lt yes)
  | inr ge ↦
      let past : node_at ns k ≡ no_node = get_or_past (nodes_in_order ns) k no_node ge in
      subst (λ n. held_in ns (node_tree n) ≡ nodes_trees (node_items n)) (sym past) refl
]
