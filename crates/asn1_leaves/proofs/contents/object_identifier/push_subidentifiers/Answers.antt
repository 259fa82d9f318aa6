-- For `contents::object_identifier::push_subidentifiers`: its loop keeps its invariant, what it returns is right
-- (`refused`), and no index is out of bounds.
use Rattle.std.proofs.Common.{arith, ◌≡◌, ◌++◌, ◌+◌, ◌-◌, [], ◌∷◌, inl, inr, take, drop, ap, sym, subst, ◌∙◌, append_assoc, length-drop}
use Rattle.std.specs.List.{slice_range}
use Rattle.std.proofs.Math.Seq.{take-add}
use Rattle.std.proofs.lemmas.Result.{err_from_is_err_and}
use Rattle.asn1_leaves.specs.Contents.ObjectIdentifier.{Subidentifiers}
use Rattle.asn1_leaves.proofs.Subidentifiers.{Subidentifiers-incomplete, Subidentifiers-none_after, Subidentifiers-push}
use Rattle.std.proofs.lemmas.List.Folds.{drop_split}
use Rattle.asn1_leaves.proofs.contents.object_identifier.push_subidentifiers.Goals as goal

pub returns-in_err-n-clause-refused : goal.returns-in_err-n-clause-refused
returns-in_err-n-clause-refused c =
    let p = err_from_is_err_and c.from_residual.result c.from_residual.ensures.1 in
    let i = c.loop-index.index in
    let rest = drop i c.args.octets.now in
    rw (p.1, p.2) (elim c.in_err-n.ensures.refused [
      | inl memory ↦ inl memory
      | inr missing ↦ let f =
          Subidentifiers-incomplete rest _ (omega (arith, length-drop i c.args.octets.now, c.loop-index-test.true))
          missing in
          inr (f.0, c.loop-index.invariant.2 f.1)
    ])

pub loop-index-preserved : goal.loop-index-preserved
loop-index-preserved c =
    let octets = c.args.octets.now in
    let before = c.args.components.now.items in
    let i = c.loop-index.index in
    let j = c.decode_base127.new.index in
    let n = c.in_ok-n.n in
    let moved = c.in_ok-n.ensures.moved in
    let found = c.in_ok-n.ensures.found in
    let so_far = c.loop-index.invariant.1 in
    let ns = so_far.0 in
    let items = c.in_ok-push.ensures.items ∙ ap (λ z. z ++ n ∷ []) so_far.1 ∙ append_assoc before ns (n ∷ []) in
    let forward : i + (j - i) ≡ j = omega (arith, moved.0) in
    let front : take j octets ≡ take i octets ++ slice_range octets i j =
    ap (λ k. take k octets) (sym forward) ∙ take-add i (j - i) octets in
    let more = Subidentifiers-push ns (take i octets) (slice_range octets i j) n so_far.2 found in (
      moved.1,
      (ns ++ n ∷ [], items, subst (Subidentifiers (ns ++ n ∷ [])) (sym front) more),
      λ h. c.loop-index.invariant.2
          (Subidentifiers-none_after (slice_range octets i j) (drop j octets) n found h (drop i octets)
          (drop_split octets i j moved.0)),
    )
