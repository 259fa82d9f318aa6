-- For the cycle `same` of `block::same`: its loop keeps its invariant, what it returns is right, `same_each` and
-- `same_all` may be called, and its loop ends.
use Rattle.std.proofs.Common.{◌≡◌, ◌↔◌, List, ◌∷◌, [], ◌++◌, ◌<◌, ◌+◌, arith, length, take, refl, sym, ap, ◌∙◌}
use Rattle.std.proofs.lemmas.Bool.{false≢true}
use Rattle.std.proofs.lemmas.Grind.{common_steps}
use Rattle.std.proofs.lemmas.List.{take_all, take_more, nil_from_length}
use Rattle.asn1_blocks.specs.declared.block.ASN1Block.{ASN1Block}
use Rattle.asn1_blocks.specs.HeadersBegun.{all_blocks_in}
use Rattle.asn1_blocks.specs.View.{view, views}
use Rattle.asn1_blocks.specs.Tree.{more_trees, no_trees, shape, shapes}
use Rattle.asn1_blocks.proofs.BlockLists.{length-same_shapes, shape-get_or, shapes-append_last}
use Rattle.asn1_blocks.proofs.SameSteps.{AreSame, blocks_in-get_or_le, all_blocks_in-last_lt, AreSame-by_lasts}
use Rattle.asn1_blocks.proofs.block.same.+same.Goals as goal

pub same_all-returns-in_default : goal.same_all-returns-in_default
same_all-returns-in_default t c =
    let v = c.loop-x.v.now in
    let w = c.loop-x.w.now in
    let e : v ≡ [] = nil_from_length v (grind (arith, common_steps)) in (
      λ h. c.loop-x.invariant.same.0
          (ap (λ z. shapes (views z)) (e ∙ sym (nil_from_length w (grind (arith, common_steps, h))))),
      λ s. let n = length-same_shapes v w (c.loop-x.invariant.same.1 s) in grind (arith, common_steps, n),
    )

pub same_all-returns-in_default-split_last : goal.same_all-returns-in_default-split_last
same_all-returns-in_default-split_last t c =
    let v = c.loop-x.v.now in
    let w = c.loop-x.w.now in (
      λ h. absurd (false≢true h),
      λ s. let n = length-same_shapes v w (c.loop-x.invariant.same.1 s) in
          absurd (grind (arith, common_steps, n, ap (λ z. length z) c.in-Some.ensures.cases.0)),
    )

pub same_all-returns-then-not-same_own : goal.same_all-returns-then-not-same_own
same_all-returns-then-not-same_own t c =
    let l =
    AreSame-by_lasts c.loop-x.v.now c.loop-x.w.now c.in-Some.v_front.now c.in-Some-split_last.w_front.now
    c.in-Some.x.now c.in-Some-split_last.y.now
    c.in-Some.ensures.cases.0 c.in-Some-split_last.ensures.cases.0 in (
      λ h. absurd (false≢true h),
      λ s. absurd (false≢true (c.if-not-same_own.ensures.1 (l.own (c.loop-x.invariant.same.1 s)))),
    )

pub same_all-same_each-requires : goal.same_all-same_each-requires
same_all-same_each-requires t c =
    let f = all_blocks_in-last_lt c.loop-x.v.now c.in-Some.v_front.now c.in-Some.x.now c.in-Some.ensures.cases.0 in
    (omega (arith, f.0, c.loop-x.invariant.fewer), tt)

pub same_all-returns-then-not-same_each : goal.same_all-returns-then-not-same_each
same_all-returns-then-not-same_each t c =
    let l =
    AreSame-by_lasts c.loop-x.v.now c.loop-x.w.now c.in-Some.v_front.now c.in-Some-split_last.w_front.now
    c.in-Some.x.now c.in-Some-split_last.y.now
    c.in-Some.ensures.cases.0 c.in-Some-split_last.ensures.cases.0 in (
      λ h. absurd (false≢true h),
      λ s. absurd (false≢true (c.if-not-same_each.ensures.1 (l.fronts (c.loop-x.invariant.same.1 s)))),
    )

pub same_all-loop-x-smaller : goal.same_all-loop-x-smaller
same_all-loop-x-smaller t c =
    let f = all_blocks_in-last_lt c.loop-x.v.now c.in-Some.v_front.now c.in-Some.x.now c.in-Some.ensures.cases.0 in
    omega (arith, f.1, ap (λ z. all_blocks_in z) c.blocks_inside-v.ensures)

pub same_all-loop-x-preserved : goal.same_all-loop-x-preserved
same_all-loop-x-preserved t c =
    let x = c.in-Some.x.now in
    let y = c.in-Some-split_last.y.now in
    let l = AreSame-by_lasts c.loop-x.v.now c.loop-x.w.now c.in-Some.v_front.now c.in-Some-split_last.w_front.now x y
    c.in-Some.ensures.cases.0 c.in-Some-split_last.ensures.cases.0 in
    let f = all_blocks_in-last_lt c.loop-x.v.now c.in-Some.v_front.now x c.in-Some.ensures.cases.0 in
    let a = ap shapes c.blocks_inside-v.ensures in
    let b = ap shapes c.blocks_inside-w.ensures in
    record {
      same = (
        λ s. c.loop-x.invariant.same.0
            (l.whole (c.if-not-same_each.ensures.0 refl) (c.if-not-same_own.ensures.0 refl) (sym a ∙ (s ∙ b))),
        λ s. a ∙ (l.held (c.loop-x.invariant.same.1 s) ∙ sym b),
      );
      fewer = omega (arith, f.1, ap (λ z. all_blocks_in z) c.blocks_inside-v.ensures, c.loop-x.invariant.fewer);
    }

pub same_each-returns-then-a-b : goal.same_each-returns-then-a-b
same_each-returns-then-a-b t c = (
  λ h. absurd (false≢true h),
  λ e. absurd (c.if-a-b.true (grind (arith, common_steps, length-same_shapes c.args.a.now c.args.b.now e))),
)

pub same_each-same_all-requires : goal.same_each-same_all-requires
same_each-same_all-requires t c =
    let n =
    blocks_in-get_or_le c.args.a.now c.loop-i.i c.index-a-i.result (grind (arith, common_steps)) c.index-a-i.is in
    (grind (arith, common_steps, n, ap (λ z. all_blocks_in (views z)) c.from_ref.ensures.value), tt)

-- two lists of one block each are the same exactly if these blocks have the same shape
AreSame-single : (xs ys : List ASN1Block) (x y : ASN1Block) → xs ≡ x ∷ [] → ys ≡ y ∷ [] →
    AreSame xs ys ↔ (shape (view x) ≡ shape (view y))
AreSame-single xs ys x y e f =
    let p = ap (λ z. shapes (views z)) e in
    let q = ap (λ z. shapes (views z)) f in (
      λ s. let t : AreSame (x ∷ []) (y ∷ []) = sym p ∙ (s ∙ q) in
          cc,
      λ s. p ∙ (ap (λ z. more_trees z no_trees) s ∙ sym q),
    )

pub same_each-returns-then-not-same_all : goal.same_each-returns-then-not-same_all
same_each-returns-then-not-same_all t c =
    let xs = c.args.a.now in
    let ys = c.args.b.now in
    let i = c.loop-i.i in
    let l : i < length xs = grind (arith, common_steps) in
    let o = AreSame-single c.from_ref.result.now c.from_ref-in-loop-i.result.now c.index-a-i.result c.index-b-i.result
    c.from_ref.ensures.value
    c.from_ref-in-loop-i.ensures.value in (
      λ h. absurd (false≢true h),
      λ e. absurd (false≢true (c.if-not-same_all.ensures.1 (o.1
          (ap (λ z. shape (view z)) c.index-a-i.is ∙ (shape-get_or xs ys c.index-a-i.result c.index-b-i.result i e l
          ∙ ap (λ z. shape (view z)) (sym c.index-b-i.is)))))),
    )

pub same_each-loop-i-preserved : goal.same_each-loop-i-preserved
same_each-loop-i-preserved t c =
    let xs = c.args.a.now in
    let ys = c.args.b.now in
    let i = c.loop-i.i in
    let l : i < length xs = grind (arith, common_steps) in
    let m : i < length ys = grind (arith, common_steps) in
    let x = c.index-a-i.result in
    let y = c.index-b-i.result in
    let o = AreSame-single c.from_ref.result.now c.from_ref-in-loop-i.result.now x y c.from_ref.ensures.value
    c.from_ref-in-loop-i.ensures.value in
    let f : shape (view x) ≡ shape (view y) = o.0 (c.if-not-same_all.ensures.0 refl) in
    let p : take (i + 1) xs ≡ take i xs ++ x ∷ [] =
    take_more xs i x l ∙ ap (λ z. take i xs ++ z ∷ []) (sym c.index-a-i.is) in
    let q : take (i + 1) ys ≡ take i ys ++ y ∷ [] =
    take_more ys i y m ∙ ap (λ z. take i ys ++ z ∷ []) (sym c.index-b-i.is) in
    ap (λ z. shapes (views z)) p
    ∙ (shapes-append_last (take i xs) (take i ys) x y c.loop-i.invariant f ∙ ap (λ z. shapes (views z)) (sym q))

pub same_each-returns : goal.same_each-returns
same_each-returns t c =
    let xs = c.args.a.now in
    let ys = c.args.b.now in
    let p : take c.loop-i.i xs ≡ xs = take_all c.loop-i.i xs (grind (arith, common_steps)) in
    let q : take c.loop-i.i ys ≡ ys = take_all c.loop-i.i ys (grind (arith, common_steps)) in
    (λ h. ap (λ z. shapes (views z)) (sym p) ∙ (c.loop-i.invariant ∙ ap (λ z. shapes (views z)) q), λ e. refl)
