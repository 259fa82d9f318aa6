-- For `faithful::is_faithful_alone`: what it returns is right.
use Rattle.std.proofs.Common.{◌≡◌, ◌↔◌, sym, ap, ◌∙◌, subst}
use Rattle.std.specs.Prelude.{IfOk, IsTrue}
use Rattle.asn1_blocks.specs.Tree.{unknown}
use Rattle.asn1_blocks.specs.View.{view}
use Rattle.asn1_blocks.specs.Grammar.{StaysAsItCame}
use Rattle.asn1_blocks.specs.Inner.FaithfulWalk.{IsFaithfulAlone}
use Rattle.asn1_blocks.proofs.ReadSteps.{view-Unknown}
use Rattle.asn1_blocks.proofs.faithful.is_faithful_alone.Goals as goal

pub returns-in-Unknown : goal.returns-in-Unknown
returns-in-Unknown c =
    let u = c.in-Unknown in
    let e : view c.args.b.now ≡ unknown u.class u.constructed u.field-2 u.tag u.contents.items = ap view u.is ∙
    view-Unknown u.class u.constructed u.field-2 u.tag u.contents in
    let s = subst (λ z. IfOk c.stays_as_it_came.result (λ r. IsTrue r ↔ StaysAsItCame u.class u.constructed u.tag z))
    c.deref.ensures.value c.stays_as_it_came.ensures in
    subst (λ z. IfOk c.stays_as_it_came.result (λ r. IsTrue r ↔ IsFaithfulAlone z)) (sym e) s
