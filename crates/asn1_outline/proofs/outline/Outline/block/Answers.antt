-- For `outline::Outline::block`: what it returns is right (`entry`, `tree`) and keeps the invariant of its type.
use Rattle.std.proofs.Common.{sym, subst}
use Rattle.asn1_outline.specs.Structure.{tree_at}
use Rattle.asn1_outline.specs.Values.{IsEntryOf, IsOfSomeTree}
use Rattle.asn1_outline.proofs.BlockRefs.{IsEntryOf-some, IsEntryOf-structure}
use Rattle.asn1_outline.proofs.Lent.{get_or-looked_up}
use Rattle.asn1_outline.proofs.outline.Outline.block.Goals as goal

pub returns-clause-tree : goal.returns-clause-tree
returns-clause-tree c ns d =
    let o = c.args.self.now in
    let k = c.args.index in
    let (h, is) =
    get_or-looked_up o.entries.items c.deref.result.now k c.in-Some.entry.now c.deref.ensures.value
    c.in-Some.ensures.lookup.3 in
    subst (IsEntryOf o.octets.now (tree_at ns k)) (sym is)
    (IsEntryOf-structure o.octets.now o.entries.items ns k o.document d h)

pub invariant_of-result : goal.invariant_of-result
invariant_of-result c =
    let o = c.args.self.now in
    let k = c.args.index in
    let (h, is) =
    get_or-looked_up o.entries.items c.deref.result.now k c.in-Some.entry.now c.deref.ensures.value
    c.in-Some.ensures.lookup.3 in
    record {
      tree = subst (λ z. ∥ IsOfSomeTree o.octets.now z ∥₁) (sym is)
          (IsEntryOf-some o.octets.now o.entries.items k o.document h);
    }
