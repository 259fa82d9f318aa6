-- What is written of blocks, by the list of all blocks in tree order, for `measure`, `push` and `strict`.
use Rattle.std.proofs.Common.{◌≡◌, ℕ, zero, suc, ◌+◌, ◌-◌, ◌≤◌, ◌<◌, Option, Some, None, List, [], ◌∷◌, ◌++◌, length, take, drop, refl, sym, ap, subst, ◌∙◌, arith, append_assoc, append-nil, length-append, get_or, set, map}
use Rattle.std.specs.List.{sum}
use Rattle.std.specs.Prelude.{Result, Ok, Err, IfOk}
use Rattle.std.proofs.lemmas.Grind.{common_steps}
use Rattle.std.proofs.Math.Seq.{get_or-append_seam}
use Rattle.std.proofs.lemmas.List.{take_at, take_more, drop_at, set_at, drop_more, map_more}
use Rattle.std.proofs.lemmas.List.Sums.{sum_by-append}
use Rattle.asn1_blocks.specs.declared.block.ASN1Block.{ASN1Block}
use Rattle.asn1_headers.specs.declared.error.ASN1EncodeErr.{ASN1EncodeErr}
use Rattle.asn1_writing.specs.Canonical.{all_canonical, canonical, first_of, first_write_fault, write_fault}
use Rattle.asn1_headers.specs.Header.{shortest_length}
use Rattle.asn1_headers.proofs.Prefixes.{append_assoc-four}
use Rattle.asn1_blocks.specs.Contents.{leaf_write_fault}
use Rattle.asn1_blocks.specs.Tree.{Tree, leaf, group, explicit, unknown}
use Rattle.asn1_blocks.specs.Inner.TreeOrder.{IsInTreeOrder, IsNextTree, inside}
use Rattle.asn1_blocks.specs.View.{view, views}
use Rattle.asn1_blocks.specs.Inner.OwnContents.{own_contents, own_fault}
use Rattle.asn1_writing.specs.Inner.WriteWalk.{all_own_octets, contents_of, contents_size_of, first_own_fault, identifier_of, measured_blocks, measured_sizes, own_octets}
use Rattle.asn1_writing.specs.declared.measure.Measured.{Measured}
use Rattle.asn1_blocks.proofs.BlockLists.{tree_count, tree_count-views}
use Rattle.asn1_blocks.proofs.TreeOrders.{BeginsAtPlace-drop}

-- the canonical octets of a tree are its identifier, length and contents octets
pub canonical-parts : (b : Tree ℕ) →
    canonical b ≡ identifier_of b ++ (shortest_length (length (contents_of b)) ++ contents_of b)
canonical-parts (leaf o l) = refl
canonical-parts (group o g bs) = refl
canonical-parts (explicit c o n b) = refl
canonical-parts (unknown c k o n v) = refl

-- the contents octets of a tree are its own and those of the trees that it holds
pub contents_of-parts : (b : Tree ℕ) → contents_of b ≡ own_contents b ++ all_canonical (inside b)
contents_of-parts (leaf o l) = sym (append-nil _)
contents_of-parts (group o g bs) = refl
contents_of-parts (explicit c o n b) = sym (append-nil _)
contents_of-parts (unknown c k o n v) = sym (append-nil _)

-- the canonical octets of a tree are its own and those of the trees that it holds
canonical-own_octets : (b : Tree ℕ) → canonical b ≡ own_octets b ++ all_canonical (inside b)
canonical-own_octets b =
    canonical-parts b
    ∙ (ap (λ z. identifier_of b ++ (shortest_length (length (contents_of b)) ++ z)) (contents_of-parts b)
    ∙ sym (append_assoc-four (identifier_of b) (shortest_length (length (contents_of b))) (own_contents b)
    (all_canonical (inside b))))

-- the canonical octets of joined lists of blocks are the canonical octets of both lists, joined
all_canonical-append : (xs ys : List ASN1Block) →
    all_canonical (views (xs ++ ys)) ≡ all_canonical (views xs) ++ all_canonical (views ys)
all_canonical-append [] ys = refl
all_canonical-append (x ∷ xs) ys =
    ap (λ z. canonical (view x) ++ z) (all_canonical-append xs ys)
    ∙ sym (append_assoc (canonical (view x)) (all_canonical (views xs)) (all_canonical (views ys)))

-- the octets of trees are those that the blocks write themselves
pub all_own_octets-in_order : (order blocks : List ASN1Block) → IsInTreeOrder order blocks →
    all_own_octets order ≡ all_canonical (views blocks)
all_own_octets-in_order [] blocks h = ap (λ z. all_canonical (views z)) (sym h)
all_own_octets-in_order (b ∷ order) blocks (after, n, h) =
    let r : all_own_octets order ≡ all_canonical (inside (view b)) ++ all_canonical (views n.rest) =
    all_own_octets-in_order order after h ∙ (ap (λ z. all_canonical (views z)) n.then
    ∙ (all_canonical-append n.held n.rest ∙ ap (λ z. all_canonical z ++ all_canonical (views n.rest)) n.holds)) in
    ap (λ z. own_octets (view b) ++ z) r
    ∙ (sym (append_assoc (own_octets (view b)) (all_canonical (inside (view b))) (all_canonical (views n.rest)))
    ∙ (ap (λ z. z ++ all_canonical (views n.rest)) (sym (canonical-own_octets (view b)))
    ∙ ap (λ z. all_canonical (views z)) (sym n.first)))

-- the first of a possible fault and of none behind it is the possible fault
pub first_of-none : (a : Option ASN1EncodeErr) → first_of a None ≡ a
first_of-none None = refl
first_of-none (Some e) = refl

-- the first of three possible faults does not depend on their grouping
first_of-first_of : (a b c : Option ASN1EncodeErr) → first_of a (first_of b c) ≡ first_of (first_of a b) c
first_of-first_of None b c = refl
first_of-first_of (Some e) b c = refl

-- the first write fault of a tree is its own, or the first of the trees that it holds
write_fault-parts : (b : Tree ℕ) → write_fault b ≡ first_of (own_fault b) (first_write_fault (inside b))
write_fault-parts (leaf o l) = sym (first_of-none (leaf_write_fault l))
write_fault-parts (group o g bs) = refl
write_fault-parts (explicit c o n b) = sym (first_of-none (write_fault b))
write_fault-parts (unknown c k o n v) = refl

-- the first write fault of joined lists of blocks is the first list's if it has one, and else the second list's
first_write_fault-append : (xs ys : List ASN1Block) →
    first_write_fault (views (xs ++ ys)) ≡ first_of (first_write_fault (views xs)) (first_write_fault (views ys))
first_write_fault-append [] ys = refl
first_write_fault-append (x ∷ xs) ys = ap (λ z. first_of (write_fault (view x)) z) (first_write_fault-append xs ys)
    ∙ first_of-first_of (write_fault (view x)) (first_write_fault (views xs)) (first_write_fault (views ys))

-- the first fault of what is ahead is that of the next block, or that of what comes after it
pub first_write_fault-next : (b : ASN1Block) (before after : List ASN1Block) → IsNextTree b before after
    → first_write_fault (views before) ≡ first_of (own_fault (view b)) (first_write_fault (views after))
first_write_fault-next b before after n =
    let rest = first_write_fault (views n.rest) in
    ap (λ z. first_write_fault (views z)) n.first
    ∙ (ap (λ z. first_of z rest) (write_fault-parts (view b))
    ∙ (sym (first_of-first_of (own_fault (view b)) (first_write_fault (inside (view b))) rest)
    ∙ ap (λ z. first_of (own_fault (view b)) z)
    (sym (ap (λ z. first_write_fault (views z)) n.then
    ∙ (first_write_fault-append n.held n.rest ∙ ap (λ z. first_of (first_write_fault z) rest) n.holds)))))

-- the first fault of writing is the first of the blocks' own faults in tree order
pub first_own_fault-in_order : (order blocks : List ASN1Block) → IsInTreeOrder order blocks →
    first_own_fault order ≡ first_write_fault (views blocks)
first_own_fault-in_order [] blocks h = ap (λ z. first_write_fault (views z)) (sym h)
first_own_fault-in_order (b ∷ order) blocks (after, n, h) =
    ap (λ z. first_of (own_fault (view b)) z) (first_own_fault-in_order order after h)
    ∙ sym (first_write_fault-next b blocks after n)

-- the sizes of blocks, the last first
abbrev pub sizes_back : List ASN1Block → List ℕ
sizes_back [] = []
sizes_back (b ∷ bs) = sizes_back bs ++ length (canonical (view b)) ∷ []

-- the sizes of joined lists of blocks, the last first, are the sizes of the second list before the sizes of the first
sizes_back-append : (xs ys : List ASN1Block) → sizes_back (xs ++ ys) ≡ sizes_back ys ++ sizes_back xs
sizes_back-append [] ys = sym (append-nil (sizes_back ys))
sizes_back-append (x ∷ xs) ys =
    ap (λ z. z ++ length (canonical (view x)) ∷ []) (sizes_back-append xs ys)
    ∙ append_assoc (sizes_back ys) (sizes_back xs) (length (canonical (view x)) ∷ [])

-- blocks have as many sizes as there are blocks
length-sizes_back : (bs : List ASN1Block) → length (sizes_back bs) ≡ length bs
length-sizes_back [] = refl
length-sizes_back (b ∷ bs) =
    omega (arith, length-append (sizes_back bs) (length (canonical (view b)) ∷ []), length-sizes_back bs)

-- the sizes of blocks add up to the number of all their canonical octets
pub sum-sizes_back : (bs : List ASN1Block) → sum (sizes_back bs) ≡ length (all_canonical (views bs))
sum-sizes_back [] = refl
sum-sizes_back (b ∷ bs) =
    omega (
      arith,
      sum_by-append (λ (x : ℕ). x) (sizes_back bs) (length (canonical (view b)) ∷ []),
      sum-sizes_back bs,
      length-append (canonical (view b))
          (all_canonical (views bs)),
    )

-- the last n of m sizes are those of the blocks that a block holds, and its own size takes their place
pub record MeasuresBlock (b : ASN1Block) (left : List ASN1Block) (sizes : List ℕ) (m n : ℕ) : Type 0 where
  pub enough : n ≤ m
  pub sum_inside : sum (drop (m - n) sizes) ≡ length (all_canonical (inside (view b)))
  pub after : take (m - n) sizes ++ length (canonical (view b)) ∷ [] ≡ sizes_back left

-- measuring a block takes the sizes of the blocks that it holds, and puts its own
pub MeasuresBlock-next : (b : ASN1Block) (left after : List ASN1Block) (sizes : List ℕ) (m n : ℕ) →
    IsNextTree b left after →
    m ≡ length sizes
    → sizes ≡ sizes_back after
    → n ≡ tree_count (inside (view b)) → MeasuresBlock b left sizes m n
MeasuresBlock-next b left after sizes m n x w s k =
    let j : sizes ≡ sizes_back x.rest ++ sizes_back x.held =
    s ∙ (ap sizes_back x.then ∙ sizes_back-append x.held x.rest) in
    let u : length x.held ≡ n = sym (tree_count-views x.held) ∙ (ap tree_count x.holds ∙ sym k) in
    let t : length sizes ≡ length (sizes_back x.rest) + length (sizes_back x.held) =
    ap length j ∙ length-append (sizes_back x.rest) (sizes_back x.held) in
    let q : length (sizes_back x.rest) ≡ m - n = omega (arith, t, length-sizes_back x.held, u, w) in
    record {
      enough = omega (arith, t, length-sizes_back x.held, u, w);
      sum_inside = ap (λ z. sum (drop (m - n) z)) j
          ∙ (ap sum (drop_at (sizes_back x.rest) (sizes_back x.held) (m - n) q)
          ∙ (sum-sizes_back x.held ∙ ap (λ z. length (all_canonical z)) x.holds));
      after = ap (λ z. z ++ length (canonical (view b)) ∷ [])
          (ap (λ z. take (m - n) z) j ∙ take_at (sizes_back x.rest) (sizes_back x.held) (m - n) q)
          ∙ ap sizes_back (sym x.first);
    }

-- measuring the block at a place of the list takes the sizes of the blocks that it holds, and puts its own
pub MeasuresBlock-at : (order : List ASN1Block) (i j : ℕ) (b : ASN1Block) (sizes : List ℕ) (m : ℕ)
    (held : List ASN1Block) →
    j + 1 ≡ i → i ≤ length order
    → b ≡ get_or order j b → m ≡ length sizes →
    ((left : List ASN1Block) → IsInTreeOrder (drop i order) left → sizes ≡ sizes_back left)
    → views held ≡ inside (view b) → (left : List ASN1Block) → IsInTreeOrder (drop j order) left →
    MeasuresBlock b left sizes m (length held)
MeasuresBlock-at order i j b sizes m held e l g w s k left h =
    let p = BeginsAtPlace-drop order left i j b e l g h in
    MeasuresBlock-next b left p.after sizes m (length held) p.next w (s p.after p.ordered)
    (sym (tree_count-views held) ∙ ap tree_count k)

-- where numbers are by f up to a block and by g behind it, the block's own is by f, and is then set to that by g
pub set-measured_size : (f g : ASN1Block → ℕ) (order : List ASN1Block) (i j : ℕ) (x : ASN1Block) (sizes : List ℕ) →
    j + 1 ≡ i →
    i ≤ length order
    → x ≡ get_or order j x
    → sizes ≡ map f (take i order) ++ map g (drop i order)
    → (get_or sizes j 0 ≡ f x) × (set sizes j (g x) ≡ map f (take j order) ++ map g (drop j order))
set-measured_size f g order i j x sizes e l k p =
    let h : j < length order = omega (arith, e, l) in
    let a = map f (take j order) in
    let c = map g (drop i order) in
    let t : map f (take i order) ≡ a ++ f x ∷ [] = ap (λ z. map f (take z order)) (sym e)
    ∙ (map_more f order j x h ∙ ap (λ z. a ++ f z ∷ []) (sym k)) in
    let d : map g (drop j order) ≡ g x ∷ c = ap (map g)
    (drop_more order j x h ∙ (ap (λ z. z ∷ drop (j + 1) order) (sym k) ∙ ap (λ z. x ∷ drop z order) e)) in
    let q : sizes ≡ a ++ f x ∷ c = p ∙ (ap (λ z. z ++ c) t ∙ append_assoc a (f x ∷ []) c) in
    let n : length a ≡ j = grind (arith, common_steps) in (
      ap (λ z. get_or z j 0) q ∙ (ap (λ z. get_or (a ++ f x ∷ c) z 0) (sym n) ∙ get_or-append_seam a (f x) c 0),
      ap (λ z. set z j (g x)) q
          ∙ (set_at a (f x) c (g x) j n ∙ ap (λ z. a ++ z) (sym d)),
    )

-- a tree has as many canonical octets as it has identifier, length and contents octets together
pub length-canonical : (b : Tree ℕ) → length (canonical b) ≡ length
    (identifier_of b) + (length (shortest_length (length (contents_of b))) + length (contents_of b))
length-canonical b =
    omega (
      arith,
      ap length (canonical-parts b),
      length-append (identifier_of b) (shortest_length (length (contents_of b)) ++ contents_of b),
      length-append (shortest_length (length (contents_of b))) (contents_of b),
    )

-- a tree has as many contents octets as it has own ones, and canonical octets of the trees that it holds
pub length-contents_of : (b : Tree ℕ) →
    length (contents_of b) ≡ length (own_contents b) + length (all_canonical (inside b))
length-contents_of b = omega
    (arith, ap length (contents_of-parts b), length-append (own_contents b) (all_canonical (inside b)))

-- a result with the total of all sizes has the length of the canonical octets of all blocks
pub IfOk-total_size : (r : Result ℕ ASN1EncodeErr) (t : ℕ) (order : List ASN1Block) → IfOk r (λ s. s ≡ t)
    → ((blocks : List ASN1Block) → IsInTreeOrder order blocks → t ≡ length (all_canonical (views blocks)))
    → IfOk r (λ n. (blocks : List ASN1Block) → IsInTreeOrder order blocks → n ≡ length (all_canonical (views blocks)))
IfOk-total_size (Ok s) t order h f = λ blocks k. h ∙ f blocks k
IfOk-total_size (Err e) t order h f = tt

-- the size beside a block in the list of the first walk is that of its contents octets
pub contents_size_of-get_or : (list : List Measured) (i : ℕ) (m : Measured) → i < length list → m ≡ get_or list i m
    → measured_sizes list ≡ map contents_size_of (measured_blocks list) → m.contents ≡ contents_size_of m.block.now
contents_size_of-get_or [] i m h e s = absurd (omega (arith, h))
contents_size_of-get_or (x ∷ list) zero m h e s =
    let f : x.contents ≡ contents_size_of x.block.now = cc in
    let P : Measured → Type 0 = λ y. y.contents ≡ contents_size_of y.block.now in
    subst P (sym e) f
contents_size_of-get_or (x ∷ list) (suc i) m h e s =
    let r : measured_sizes list ≡ map contents_size_of (measured_blocks list) = cc in
    contents_size_of-get_or list i m (omega (arith, h)) e r

-- where two have no first fault, neither has a fault
pub first_of-none_of_both : (a b : Option ASN1EncodeErr) → first_of a b ≡ None → (a ≡ None) × (b ≡ None)
first_of-none_of_both None b e = (refl, e)
first_of-none_of_both (Some x) b e = cc

-- a block in a list without faults has no fault
pub own_fault-get_or : (list : List Measured) (i : ℕ) (m : Measured) → i < length list → m ≡ get_or list i m
    → first_own_fault (measured_blocks list) ≡ None
    → own_fault (view m.block.now) ≡ None
own_fault-get_or [] i m h e f = absurd (omega (arith, h))
own_fault-get_or (x ∷ list) zero m h e f =
    let P : Measured → Type 0 = λ y. own_fault (view y.block.now) ≡ None in
    subst P (sym e) (first_of-none_of_both (own_fault (view x.block.now)) (first_own_fault (measured_blocks list)) f).0
own_fault-get_or (x ∷ list) (suc i) m h e f =
    own_fault-get_or list i m (omega (arith, h)) e
    (first_of-none_of_both (own_fault (view x.block.now)) (first_own_fault (measured_blocks list)) f).1

-- the octets that blocks write themselves end with the own octets of the last block
all_own_octets-append_last : (xs : List Measured) (m : Measured)
    → all_own_octets (measured_blocks (xs ++ m ∷ [])) ≡ all_own_octets (measured_blocks xs)
    ++ own_octets (view m.block.now)
all_own_octets-append_last [] m = append-nil (own_octets (view m.block.now))
all_own_octets-append_last (x ∷ xs) m =
    ap (λ z. own_octets (view x.block.now) ++ z) (all_own_octets-append_last xs m)
    ∙ sym (append_assoc (own_octets (view x.block.now)) (all_own_octets (measured_blocks xs))
    (own_octets (view m.block.now)))

-- the octets of a block come after those of the blocks before
pub all_own_octets-take : (list : List Measured) (i : ℕ) (m : Measured) → i < length list → m ≡ get_or list i m
    → all_own_octets (measured_blocks (take (i + 1) list)) ≡ all_own_octets (measured_blocks (take i list))
    ++ own_octets (view m.block.now)
all_own_octets-take list i m h e =
    ap (λ z. all_own_octets (measured_blocks z)) (take_more list i m h ∙ ap (λ z. take i list ++ z ∷ []) (sym e))
    ∙ all_own_octets-append_last (take i list) m

-- the octets of a block, with those of the blocks before, are no more than those of all
pub length-all_own_octets_le : (list : List Measured) (i : ℕ) (m : Measured) → i < length list → m ≡ get_or list i m
    → length (all_own_octets (measured_blocks (take i list))) + length (own_octets (view m.block.now)) ≤ length
    (all_own_octets (measured_blocks list))
length-all_own_octets_le [] i m h e = absurd (omega (arith, h))
length-all_own_octets_le (x ∷ list) zero m h e =
    omega (
      arith,
      ap (λ (y : Measured). length (own_octets (view y.block.now))) e,
      length-append (own_octets (view x.block.now))
          (all_own_octets (measured_blocks list)),
    )
length-all_own_octets_le (x ∷ list) (suc i) m h e =
    omega (
      arith,
      length-all_own_octets_le list i m (omega (arith, h)) e,
      length-append (own_octets (view x.block.now)) (all_own_octets (measured_blocks list)),
      length-append (own_octets (view x.block.now)) (all_own_octets (measured_blocks (take i list))),
    )
