-- For `single::encodings_found`: what it returns is right.
use Rattle.std.proofs.Common.{refl}
use Rattle.asn1_der.specs.Departures.{kept}
use Rattle.asn1_der.proofs.Found.{Found-failed}
use Rattle.asn1_der.proofs.single.encodings_found.Goals as goal

pub returns-then-are_encodings : goal.returns-then-are_encodings
returns-then-are_encodings c = kept (c.are_encodings.ensures.0 c.if-are_encodings.true)

pub returns-else-are_encodings : goal.returns-else-are_encodings
returns-else-are_encodings c = Found-failed _ _ _ _ refl c.are_encodings.ensures c.if-are_encodings.false
