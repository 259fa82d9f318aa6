-- For `SetOf::in_order`: what it returns is right (`ordered`).
use Rattle.std.proofs.Common.{rules}
use Rattle.std.proofs.lemmas.Cmp.{nat_list_cmp_total}
use Rattle.std.proofs.lemmas.List.Sorted.{IsPermutation-map, answers_always, ranks_by}
use Rattle.std.specs.Cmp.Lexicographic.{slice_cmp}
use Rattle.std.specs.Ordering.{is_lt, nat_cmp}
use Rattle.asn1_types.specs.Inner.Encodings.{octets_of, value_of}
use Rattle.asn1_types.proofs.Encodings.{octets_of-items}
use Rattle.simple_asn1.proofs.Order.{Ascend-sorted}
use Rattle.asn1_types.proofs.lists.SetOf.in_order.Goals as goal

pub returns-clause-ordered : goal.returns-clause-ordered
returns-clause-ordered g c =
    let made = c.in_ok-values.ensures in
    let given = c.in_ok-items.ensures.values in
    let sorted = c.in_ok-sort_by.ensures in
    record {
      same =
          rw (made, ← given)
          (IsPermutation-map value_of c.in_ok-items.items.items c.sort_by.new.self.items sorted.permutation);
      ascending =
          rw (made, ← octets_of-items g.T.Asn1Type c.sort_by.new.self.items)
          (Ascend-sorted octets_of c.sort_by.new.self.items
          (sorted.sorted (λ x y. is_lt (slice_cmp nat_cmp (octets_of x) (octets_of y)))
          (ranks_by nat_list_cmp_total octets_of) (answers_always _ _ _ (λ f a r h called. search rules))));
    }
