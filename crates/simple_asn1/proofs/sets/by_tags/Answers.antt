-- For `sets::by_tags`: what it returns is right.
use Rattle.std.proofs.Common.{ℕ, List, rules}
use Rattle.std.proofs.lemmas.Cmp.{nat_list_cmp_total}
use Rattle.std.proofs.lemmas.List.Sorted.{answers_always, ranks_by}
use Rattle.std.specs.Cmp.Lexicographic.{slice_cmp}
use Rattle.std.specs.Ordering.{is_lt, nat_cmp}
use Rattle.asn1_blocks.specs.View.{view}
use Rattle.asn1_blocks.specs.declared.block.ASN1Block.{ASN1Block}
use Rattle.simple_asn1.specs.Sets.{tag_key}
use Rattle.simple_asn1.proofs.Order.{Ascend-sorted}
use Rattle.simple_asn1.proofs.sets.by_tags.Goals as goal

abbrev key : ASN1Block → List ℕ
key block = tag_key (view block)

pub returns-in-Ok : goal.returns-in-Ok
returns-in-Ok c = record {
  same = c.in-Ok.ensures.permutation;
  ascending =
      Ascend-sorted key _
      (c.in-Ok.ensures.sorted (λ x y. is_lt (slice_cmp nat_cmp (key x) (key y))) (ranks_by nat_list_cmp_total key)
      (answers_always _ _ _ (λ f a r g called. search rules)));
}
