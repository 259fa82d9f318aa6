-- For `attribute::are_attributes`: what it returns is right, its loop keeps its invariant, and its loop ends.
use Rattle.std.proofs.Common.{◌≡◌, true, false, length, sym, ap, ◌∙◌, arith}
use Rattle.std.proofs.lemmas.Grind.{common_steps}
use Rattle.asn1_certificate.specs.Sequences.{each}
use Rattle.asn1_certificate.specs.Reading.{left, trees_at}
use Rattle.asn1_certificate.specs.Types.{is_attribute}
use Rattle.asn1_certificate.proofs.Steps.{each-step, each-stop}
use Rattle.asn1_certificate.proofs.attribute.are_attributes.Goals as goal

pub loop-index-smaller : goal.loop-index-smaller
loop-index-smaller c = omega (arith, ap length c.in-Some.ensures)

pub loop-index-preserved : goal.loop-index-preserved
loop-index-preserved c ns d =
    let is : c.is_attribute.result ≡ true = grind (arith, common_steps) in
    let told = sym (c.is_attribute.ensures ns d) ∙ is in
    c.loop-index.invariant ns d
    ∙ each-step ns is_attribute (left c.loop-index.items) (left c.take.new.self) c.in-Some.index
    c.in-Some.ensures told

pub returns-then-not-is_attribute : goal.returns-then-not-is_attribute
returns-then-not-is_attribute c ns d =
    let is : c.is_attribute.result ≡ false = grind (arith, common_steps) in
    let refused = sym (c.is_attribute.ensures ns d) ∙ is in
    sym (c.loop-index.invariant ns d
    ∙ each-stop ns is_attribute (left c.loop-index.items) (left c.take.new.self) c.in-Some.index
    c.in-Some.ensures refused)

pub returns : goal.returns
returns c ns d =
    sym (c.loop-index.invariant ns d ∙ ap (λ z. each is_attribute (trees_at ns z)) c.in_default.ensures.0)
