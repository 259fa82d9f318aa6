-- Where blocks one after another are at fault, one of them is, for all that tells documents from faults.
use Rattle.std.proofs.Common.{◌≡◌, ℕ, ◌+◌, ◌<◌, Bool, List, ◌++◌, length, refl, ap, ◌∙◌, subst, arith, length-append}
use Rattle.asn1_headers.specs.Fault.{DecodeFault}
use Rattle.asn1_blocks.specs.Grammar.{AreBlocks, BlocksFaultAt, in_header, in_contents, in_item}
use Rattle.asn1_blocks.specs.Inner.BlockFault.{BlockFaultAt, at_header, at_leaf, at_item}
use Rattle.asn1_headers.specs.Header.{Encoding}
use Rattle.asn1_headers.specs.declared.header.ASN1Class.{ASN1Class}
use Rattle.asn1_headers.proofs.Prefixes.{Encoding-not_empty}

-- the block at fault, and the blocks before it
pub record FaultyBlock (octets : List ℕ) (e : DecodeFault) (offset : ℕ) : Type 0 where
  pub front : List ℕ
  pub rest : List ℕ
  pub whole : octets ≡ front ++ rest
  pub blocks : AreBlocks front
  pub some : 0 < length rest
  pub inside : ℕ
  pub fault : BlockFaultAt (length front) rest e inside
  pub offset_is : offset ≡ length front + inside

-- an encoding and what follows it are not empty
pub Encoding-append_not_empty : (x rest : List ℕ) (c : ASN1Class) (k : Bool) (n : ℕ) (contents : List ℕ) (h : ℕ) →
    Encoding x c k n contents h
    → 0 < length (x ++ rest)
Encoding-append_not_empty x rest c k n contents h f =
    omega (arith, Encoding-not_empty x c k n contents h f, length-append x rest)

-- where blocks are at fault, the first faulty block stands behind blocks
pub BlocksFaultAt-faulty_block : (octets : List ℕ) (e : DecodeFault) (o : ℕ) → BlocksFaultAt octets e o →
    FaultyBlock octets e o
BlocksFaultAt-faulty_block octets e o (in_header front rest g bs some w) = record {
  front = front;
  rest = rest;
  whole = g;
  blocks = bs;
  some = some;
  inside = 0;
  fault = at_header w;
  offset_is = omega arith;
}
BlocksFaultAt-faulty_block octets e o (in_contents front x rest g bs f l) = record {
  front = front;
  rest = x ++ rest;
  whole = g;
  blocks = bs;
  some = Encoding-append_not_empty x rest _ _ _ _ _ f;
  inside = 0;
  fault = at_leaf x rest refl f l;
  offset_is = omega arith;
}
BlocksFaultAt-faulty_block octets e o (in_item {header = h} {inside = i} front x rest g bs y f p) = record {
  front = front;
  rest = x ++ rest;
  whole = g;
  blocks = bs;
  some = Encoding-append_not_empty x rest _ _ _ _ _ f;
  inside = h + i;
  fault = at_item x rest refl y f p;
  offset_is = refl;
}

-- a fault of the block behind blocks is a fault of all these octets
pub BlocksFaultAt-behind_blocks : (octets front rest : List ℕ) (e : DecodeFault) (i : ℕ) → octets ≡ front ++ rest →
    AreBlocks front →
    0 < length rest
    → BlockFaultAt (length front) rest e i → BlocksFaultAt octets e (length front + i)
BlocksFaultAt-behind_blocks octets front rest e i g bs some (at_header w) =
    let o : length front ≡ length front + 0 = omega arith in
    subst (BlocksFaultAt octets e) o (in_header front rest g bs some w)
BlocksFaultAt-behind_blocks octets front rest e i g bs some (at_leaf x r d f l) =
    let o : length front ≡ length front + 0 = omega arith in
    subst (BlocksFaultAt octets e) o (in_contents front x r (g ∙ ap (λ z. front ++ z) d) bs f l)
BlocksFaultAt-behind_blocks octets front rest e i g bs some (at_item x r d y f p) =
    in_item front x r (g ∙ ap (λ z. front ++ z) d) bs y f p
