-- For `read_fields` of `Fields4`: what it returns is right.
use Rattle.asn1_types.proofs.wide.Fields4Fields.read_fields.Goals as goal

pub returns-in-Err : goal.returns-in-Err
returns-in-Err g c at s x e =
    c.in-Err.ensures at s (record {
      first = x.first;
      rest = record {
        first = x.second;
        rest = record { first = x.third; rest = record { first = x.fourth; rest = x.rest } };
      };
    }) e
