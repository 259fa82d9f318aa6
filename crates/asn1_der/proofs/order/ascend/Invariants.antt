-- For `order::ascend`: what each turn of its loop keeps.
use Rattle.std.proofs.Common.{◌≡◌, ℕ, List}
use Rattle.std.specs.Prelude.{option_map}
use Rattle.std.specs.List.{All, concat}
use Rattle.asn1_blocks.specs.Places.{IsEncoding}
use Rattle.asn1_der.proofs.Orders.{IsLeft}
use Rattle.asn1_der.proofs.order.ascend.Given as goal

abbrev pub invariant-loop-encoding : goal.invariant-loop-encoding
invariant-loop-encoding l =
    (items : List (List ℕ)) → All IsEncoding items → l.contents ≡ concat items →
    IsLeft l.order items (option_map (λ b. b.now) l.before) l.encoding-iterator.rest.now
