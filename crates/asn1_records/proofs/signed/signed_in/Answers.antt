-- For `signed::signed_in`: what it returns is right, and `parts_in` may be called.
use Rattle.std.proofs.Common.{◌≡◌, ◌<◌, ◌≤◌, inl, length, sym, ap, ◌∙◌, arith, length-append}
use Rattle.std.proofs.lemmas.Grind.{common_steps}
use Rattle.std.proofs.lemmas.List.{get_or_append_left, get_or_default}
use Rattle.asn1_outline.specs.Entries.{no_entry}
use Rattle.asn1_outline.specs.Triple.{entry_at}
use Rattle.asn1_records.specs.Answers.{IsRefusal, is_of_another_shape, was_refused_signed}
use Rattle.asn1_records.proofs.Outcomes.{OrNoMemory-at}
use Rattle.asn1_records.proofs.TripleParts.{BeginWithTriple-two, IsOfAnotherShape-entries}
use Rattle.asn1_records.proofs.signed.signed_in.Goals as goal

pub parts_in-requires : goal.parts_in-requires
parts_in-requires c =
    let (all, outline, front) = c.in-Ok.ensures.document in
    let kept = c.in-Ok.first.kept.items in
    let two : 2 ≤ length kept = grind (arith, common_steps) in
    let size = ap length front.whole in (
      all,
      outline,
      omega (arith, size, length-append kept front.others, two),
      c.index.ensures ∙ get_or_default kept 0 c.index.result.now no_entry (omega (arith, two))
          ∙ sym (ap (λ z. entry_at z 0) front.whole
          ∙ get_or_append_left kept front.others no_entry 0 (omega (arith, two))),
      c.index-then-len-ge-KEPT.ensures
          ∙ get_or_default kept 1 c.index-then-len-ge-KEPT.result.now no_entry (omega (arith, two))
          ∙ sym (ap (λ z. entry_at z 1) front.whole
          ∙ get_or_append_left kept front.others no_entry 1 (omega (arith, two))),
    )

pub returns-in-Err : goal.returns-in-Err
returns-in-Err c =
    let (status, offset, none) = c.no_parts.ensures in
    was_refused_signed (OrNoMemory-at (IsRefusal c.args.octets.now) _ _ _ _ status offset c.in-Err.ensures.fault) none

pub returns-then-first-gt0 : goal.returns-then-first-gt0
returns-then-first-gt0 c =
    let (status, offset, none) = c.no_parts-then-first-gt0.ensures in
    was_refused_signed (inl (status, offset)) none

pub returns : goal.returns
returns c =
    let (all, outline, front) = c.in-Ok.ensures.document in
    let kept = c.in-Ok.first.kept.items in
    let one : length kept < 2 = grind (arith, common_steps) in
    let beyond : c.in-Ok.first.beyond ≡ 0 = grind (arith, common_steps) in
    let few : length all < 2 =
    omega (arith, ap length front.whole, length-append kept front.others, front.count, one, beyond) in
    let (status, offset, none) = c.no_parts-2.ensures in
    is_of_another_shape status
    (IsOfAnotherShape-entries c.args.octets.now all outline (BeginWithTriple-two all few)) offset none
