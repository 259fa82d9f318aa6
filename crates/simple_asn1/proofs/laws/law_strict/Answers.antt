-- For `laws::law_strict`: what it returns is right.
use Rattle.asn1_writing.proofs.CanonicalDocuments.{EachIsCanonical-iff_canonical, CanonicalDocument-or_fault, EqualByOctets-canonical, StrictFault-unique, CanonicalDocument-no_fault}
use Rattle.simple_asn1.proofs.laws.law_strict.Goals as goal

pub returns : goal.returns
returns c = record {
  canonical = EachIsCanonical-iff_canonical;
  either = CanonicalDocument-or_fault;
  not_both = CanonicalDocument-no_fault;
  one_fault = StrictFault-unique;
  equal = EqualByOctets-canonical;
}
