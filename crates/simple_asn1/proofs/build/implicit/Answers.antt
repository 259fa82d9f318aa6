-- For `build::implicit`: what it returns is right (`encoded`, `writable`, `items`, `faithful`).
use Rattle.std.proofs.lemmas.Result.{IfOk-weaker}
use Rattle.simple_asn1.proofs.HeldItems.{IsMadeOf-held}
use Rattle.simple_asn1.proofs.build.implicit.Goals as goal

pub returns-clause-encoded : goal.returns-clause-encoded
returns-clause-encoded c =
    let made =
    IsMadeOf-held c.args.class c.args.tag c.in_ok-tag.tag c.args.items.items c.of.result c.tagged_items.result
    c.of.ensures c.in_ok-tag.ensures c.tagged_items.ensures.one c.tagged_items.ensures.other in
    IfOk-weaker c.tagged_items.result _ _ (λ b h. h.encoded) made

pub returns-clause-writable : goal.returns-clause-writable
returns-clause-writable c =
    let made =
    IsMadeOf-held c.args.class c.args.tag c.in_ok-tag.tag c.args.items.items c.of.result c.tagged_items.result
    c.of.ensures c.in_ok-tag.ensures c.tagged_items.ensures.one c.tagged_items.ensures.other in
    IfOk-weaker c.tagged_items.result _ _ (λ b h. h.writable) made

pub returns-clause-items : goal.returns-clause-items
returns-clause-items c faithful =
    let made =
    IsMadeOf-held c.args.class c.args.tag c.in_ok-tag.tag c.args.items.items c.of.result c.tagged_items.result
    c.of.ensures c.in_ok-tag.ensures c.tagged_items.ensures.one c.tagged_items.ensures.other in
    IfOk-weaker c.tagged_items.result _ _ (λ b h. h.items_back faithful) made

pub returns-clause-faithful : goal.returns-clause-faithful
returns-clause-faithful c other faithful =
    let made =
    IsMadeOf-held c.args.class c.args.tag c.in_ok-tag.tag c.args.items.items c.of.result c.tagged_items.result
    c.of.ensures c.in_ok-tag.ensures c.tagged_items.ensures.one c.tagged_items.ensures.other in
    IfOk-weaker c.tagged_items.result _ _ (λ b h. h.faithful other faithful) made
