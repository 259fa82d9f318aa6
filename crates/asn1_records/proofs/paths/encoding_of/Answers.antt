-- For `paths::encoding_of`: its loop keeps its invariant and what it returns is right (`named`).
use Rattle.std.proofs.Common.{◌≡◌, ◌+◌, ◌<◌, ◌∷◌, drop, get_or, length, sym, ap, subst, ◌∙◌, arith}
use Rattle.std.specs.Prelude.{IfSome}
use Rattle.std.proofs.lemmas.Grind.{common_steps}
use Rattle.std.proofs.lemmas.Option.{MatchOption-at_none, MatchOption-at_some}
use Rattle.asn1_outline.specs.Shapes.{more_shapes, no_shapes}
use Rattle.asn1_records.specs.Inner.Named.{IsPlacedIn, shapes_at, shapes_from, shapes_inside}
use Rattle.asn1_records.proofs.NamedEntries.{shapes_inside-none, shapes_inside-step}
use Rattle.asn1_records.proofs.paths.encoding_of.Goals as goal

pub returns-in_default-2-clause-named : goal.returns-in_default-2-clause-named
returns-in_default-2-clause-named c all has =
    let rest = c.in-Some.rest.now in
    let whole : c.args.path.now ≡ c.in-Some.first.now ∷ rest = grind (arith, common_steps) in
    let none : shapes_from c.in-Some.first.now all ≡ no_shapes =
    MatchOption-at_none _ _ c.in_default-2.is (c.in_ok-found.ensures.item all has.shapes) in
    ap (shapes_at all) whole ∙ ap (λ z. shapes_inside z rest) none ∙ shapes_inside-none rest

pub returns-in_default-3-clause-named : goal.returns-in_default-3-clause-named
returns-in_default-3-clause-named c all has =
    let rest = c.in-Some.rest.now in
    let k = c.loop-step.step-index in
    let f = c.loop-step.found in
    let (items, later, h, same) = c.loop-step.invariant.named all has in
    let below : k < length rest = grind (arith, common_steps) in
    let none : shapes_from (get_or rest k 0) items ≡ no_shapes =
    MatchOption-at_none _ _ c.in_default-3.is
    (c.in_ok-inside.ensures.item items (c.in_ok-start.ensures.items items h)) in
    sym same ∙ shapes_inside-step f.offset f.header items later rest k below
    ∙ ap (λ z. shapes_inside z (drop (k + 1) rest)) none ∙ shapes_inside-none (drop (k + 1) rest)

pub loop-step-preserved : goal.loop-step-preserved
loop-step-preserved c =
    let rest = c.in-Some.rest.now in
    let k = c.loop-step.step-index in
    let f = c.loop-step.found in
    let g = c.in-Some-3.inside in
    let below : k < length rest = grind (arith, common_steps) in
    record {
      placed = subst (λ z. IfSome z (IsPlacedIn c.args.octets.now)) c.in-Some-3.is c.in_ok-inside.ensures.placed;
      named = λ all has.
          let (items, later, h, same) = c.loop-step.invariant.named all has in
          let (inner, behind, is, has_inner) =
          MatchOption-at_some _ _ g c.in-Some-3.is
          (c.in_ok-inside.ensures.item items (c.in_ok-start.ensures.items items h)) in
          let first : shapes_from (get_or rest k 0) items ≡ more_shapes g.offset g.header inner behind = is in (
            inner,
            behind,
            has_inner,
            sym (ap (λ z. shapes_inside z (drop (k + 1) rest)) first)
                ∙ sym (shapes_inside-step f.offset f.header items later rest k below) ∙ same,
          );
    }
