-- For `order::without_zeros`: its loop keeps its invariant and what it returns is right.
use Rattle.std.proofs.Common.{◌≡◌, ◌-◌, ◌<◌, ap, arith, drop, get_or, length, length-drop, subst, sym, take}
use Rattle.std.proofs.lemmas.List.{take_all}
use Rattle.std.proofs.lemmas.List.Elements.{All-drop, All-from_get_or}
use Rattle.asn1_headers.proofs.Shortest.{shortest_base128-without_80}
use Rattle.asn1_numbers.specs.Base128.{IsBase128}
use Rattle.asn1_numbers.specs.Octets.{AreOctets}
use Rattle.asn1_der.proofs.Tags.{IsBase128-behind_80}
use Rattle.asn1_der.proofs.order.without_zeros.Goals as goal

pub loop-rest-init : goal.loop-rest-init
loop-rest-init c = record {
  fit = All-from_get_or (λ b. b < 256) c.args.octets.now 0 (λ k h. omega (arith, c.type_inv.octets k));
  same = λ n is. is;
}

pub loop-rest-preserved : goal.loop-rest-preserved
loop-rest-preserved c =
    let rest = c.loop-rest.rest.now in
    let leading : get_or rest 0 0 ≡ 128 = omega (arith, c.if-first.false) in
    let whole : take (length rest - 1) (drop 1 rest) ≡ drop 1 rest =
    take_all (length rest - 1) (drop 1 rest) (omega (arith, length-drop 1 rest)) in
    record {
      fit = subst AreOctets (sym whole) (All-drop (λ b. b < 256) 1 rest c.loop-rest.invariant.fit);
      same = λ n is. subst (λ z. IsBase128 z n) (sym whole)
          (IsBase128-behind_80 rest n leading (c.loop-rest.invariant.same n is));
    }

pub returns-then-first : goal.returns-then-first
returns-then-first c n is =
    shortest_base128-without_80 c.loop-rest.rest.now n c.loop-rest.invariant.fit (c.loop-rest.invariant.same n is)
    (λ tail e. c.if-first.true (ap (λ xs. get_or xs 0 0) e))
