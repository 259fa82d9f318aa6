-- For `strict::first_not_canonical`: its loop keeps its invariant, what it returns is right (`found`),
-- `are_canonical` may be called, and no index is out of bounds.
use Rattle.std.proofs.Common.{◌≡◌, ◌≢◌, None, append-nil, ◌<◌, ◌≤◌, ◌+◌, ◌++◌, drop, length, sym, ap, ◌∙◌, subst, arith}
use Rattle.std.specs.List.{slice_range}
use Rattle.std.proofs.lemmas.Bool.{false≢true}
use Rattle.std.proofs.lemmas.Grind.{common_steps}
use Rattle.std.proofs.lemmas.List.Elements.{All-from_get_or}
use Rattle.asn1_writing.specs.Canonical.{all_canonical, canonical, first_of, first_write_fault}
use Rattle.asn1_blocks.specs.Grammar.{EncodesAll}
use Rattle.asn1_writing.specs.Strict.{FirstNotCanonical}
use Rattle.asn1_blocks.specs.View.{view, views}
use Rattle.asn1_writing.proofs.CanonicalDocuments.{ComparesFirst-at, views-drop, first_write_fault-drop}
use Rattle.asn1_writing.proofs.Writable.{first_write_fault-document}
use Rattle.asn1_writing.proofs.strict.first_not_canonical.Goals as goal

pub slice_bounds-are_canonical-end : goal.slice_bounds-are_canonical-end
slice_bounds-are_canonical-end c =
    let xs = c.args.blocks.now in
    let k = c.loop-k.k in
    let v = views-drop xs k c.index-blocks-k.result c.loop-k-test.true c.index-blocks-k.is in
    let i = c.args.octets.now in
    let o = c.loop-k.start in
    let rest = views (drop (k + 1) xs) in
    let s = ComparesFirst-at i o (view c.index-blocks-k.result) rest c.end_at-end.result c.loop-k.invariant.within
    c.end_at-end.ensures (subst (EncodesAll o (drop o i)) v c.loop-k.invariant.left) in
    let a : o ≤ c.end_at-end.result = s.from in
    let b : c.end_at-end.result ≤ length i = s.to in
    grind (arith, common_steps)

pub loop-k-init : goal.loop-k-init
loop-k-init c = record {
  within = omega arith;
  left = c.requires.blocks;
  writable =
      first_write_fault-document c.args.octets.now (views c.args.blocks.now)
      (All-from_get_or (λ b. b < 256) c.args.octets.now 0 (λ k h. omega (arith, c.type_inv.octets k))) c.requires;
  same = λ q. q;
  first = λ n f. f;
}

pub are_canonical-requires : goal.are_canonical-requires
are_canonical-requires c =
    first_write_fault-document c.args.octets.now (views c.args.blocks.now)
    (All-from_get_or (λ b. b < 256) c.args.octets.now 0 (λ k h. omega (arith, c.type_inv.octets k))) c.requires

pub are_canonical-requires-in-loop-k : goal.are_canonical-requires-in-loop-k
are_canonical-requires-in-loop-k c =
    let xs = c.args.blocks.now in
    let f = (first_write_fault-drop xs c.loop-k.k c.index-blocks-k.result c.loop-k-test.true c.index-blocks-k.is
    c.loop-k.invariant.writable).0 in
    ap (λ z. first_write_fault (views z)) c.from_ref.ensures.value ∙ ap (λ z. first_of z None) f

pub returns-then-not-branch-clause-found : goal.returns-then-not-branch-clause-found
returns-then-not-branch-clause-found c =
    let xs = c.args.blocks.now in
    let k = c.loop-k.k in
    let i = c.args.octets.now in
    let o = c.loop-k.start in
    let v = views-drop xs k c.index-blocks-k.result c.loop-k-test.true c.index-blocks-k.is in
    let rest = views (drop (k + 1) xs) in
    let s = ComparesFirst-at i o (view c.index-blocks-k.result) rest c.end_at-end.result c.loop-k.invariant.within
    c.end_at-end.ensures (subst (EncodesAll o (drop o i)) v c.loop-k.invariant.left) in
    let one = ap (λ z. all_canonical (views z)) c.from_ref.ensures.value
    ∙ append-nil (canonical (view c.index-blocks-k.result)) in
    let differs : slice_range i o c.end_at-end.result ≢ canonical (view c.index-blocks-k.result) =
    λ e. absurd (false≢true (sym c.if-not-branch.true ∙ c.in_ok-are_canonical-2.ensures.are.1 (e ∙ sym one))) in
    c.loop-k.invariant.first o (subst (λ z. FirstNotCanonical i z o) (sym v) (s.first_here differs))

pub loop-k-preserved : goal.loop-k-preserved
loop-k-preserved c =
    let xs = c.args.blocks.now in
    let k = c.loop-k.k in
    let i = c.args.octets.now in
    let o = c.loop-k.start in
    let x = c.index-blocks-k.result in
    let e = c.end_at-end.result in
    let rest = views (drop (k + 1) xs) in
    let v = views-drop xs k x c.loop-k-test.true c.index-blocks-k.is in
    let s = ComparesFirst-at i o (view x) rest e c.loop-k.invariant.within c.end_at-end.ensures
    (subst (EncodesAll o (drop o i)) v c.loop-k.invariant.left) in
    let here : slice_range i o e ≡ canonical (view x) = c.in_ok-are_canonical-2.ensures.are.0 c.if-not-branch.false ∙
    (ap (λ z. all_canonical (views z)) c.from_ref.ensures.value ∙ append-nil (canonical (view x))) in
    record {
      within = s.to;
      left = s.left;
      writable = (first_write_fault-drop xs k x c.loop-k-test.true c.index-blocks-k.is c.loop-k.invariant.writable).1;
      same = λ q. c.loop-k.invariant.same (s.whole ∙ (ap (λ z. z ++ drop e i) here
          ∙ (ap (λ z. canonical (view x) ++ z) q ∙ sym (ap all_canonical v))));
      first = λ n f. c.loop-k.invariant.first n (subst (λ z. FirstNotCanonical i z n) (sym v) (s.first_is n here f));
    }
