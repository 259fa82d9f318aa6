-- For `iri::are_labels`: what it returns is right.
use Rattle.std.proofs.Common.{◌==◌, rules, tests}
use Rattle.std.specs.Str.{byte}
use Rattle.std.proofs.lemmas.Iterator.Search.{all_from_yields_List}
use Rattle.std.proofs.lemmas.Iterator.Splits.{YieldsList-from_slice_split}
use Rattle.asn1_der.specs.Iri.{are_labels, is_label}
use Rattle.asn1_der.proofs.iri.are_labels.Goals as goal

pub returns : goal.returns
unfolding are_labels
returns c =
    all_from_yields_List is_label _ _ _ c.all.ensures.ran
    (YieldsList-from_slice_split _ (λ octet. octet == byte "/") c.args.octets.now c.split.ensures.rest
    c.split.ensures.done c.split.ensures.closure (λ x b q k. search (rules, tests)))
    (λ x b q k. search (rules, tests))
