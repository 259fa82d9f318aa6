-- For `laws::law_departures`: what it returns is right.
use Rattle.asn1_der.proofs.Alone.{IsDer-no_fault, Lists-unique, Lists-are_encodings, AreEncodings-no_fault, NoEncodingsFault-unique}
use Rattle.asn1_der.proofs.laws.law_departures.Goals as goal

pub returns : goal.returns
returns c = record {
  one_list = λ octets some others a b. Lists-unique 0 0 octets some others a b;
  not_both = λ octets found place fault small some a f. AreEncodings-no_fault octets place fault small some
      (Lists-are_encodings 0 0 octets found a) f;
  one_fault = NoEncodingsFault-unique;
  der_has_no_fault = IsDer-no_fault;
}
