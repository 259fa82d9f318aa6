-- For `contents::object_identifier::push`: what it returns is right.
use Rattle.std.proofs.Common.{◌∷◌, [], ap, sym, subst, ◌∙◌}
use Rattle.std.specs.List.{flat_map}
use Rattle.asn1_numbers.specs.Base128.{shortest_base128}
use Rattle.asn1_leaves.proofs.contents.object_identifier.push.Goals as goal

pub returns : goal.returns
returns g c =
    let b = c.in-Ok.octet in
    let e = c.in-Ok.ensures.octet
    ∙ ap (λ ns. b ∷ flat_map shortest_base128 ns) (sym c.split_at.ensures.back) in
    let all = g.S.Sink.more c.args.out.now c.push_octet.new.self c.push_shortest.new.out (b ∷ []) _ c.push_octet.ensures
    c.push_shortest.ensures in
    subst (λ xs. g.S.Sink.pushes c.args.out.now xs c.push_shortest.new.out) (sym e) all
