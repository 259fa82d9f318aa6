-- For `single::split_front`: what it returns is right.
use Rattle.std.proofs.Common.{◌∙◌}
use Rattle.asn1_der.proofs.single.split_front.Goals as goal

pub returns : goal.returns
returns c front =
    let h = c.args.header.now in
    c.split_identifier.ensures front.identifier front.len h.tag (h.class, h.constructed, front.fields)
    (c.split_at.ensures.front ∙ front.front_is)
