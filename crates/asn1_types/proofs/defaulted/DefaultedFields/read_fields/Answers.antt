-- For `read_fields` of `Defaulted`: what it returns is right.
use Rattle.asn1_types.specs.FieldTrees.{unless_default}
use Rattle.asn1_types.proofs.defaulted.DefaultedFields.read_fields.Goals as goal

pub returns-in-Err : goal.returns-in-Err
returns-in-Err g c at s x e =
    c.in-Err.ensures at s (record {
      first = unless_default g.D.DefaultOf.is_default x.first;
      rest = x.rest;
      apart = record {};
    }) e
