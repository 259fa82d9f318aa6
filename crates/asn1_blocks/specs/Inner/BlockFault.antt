-- A block at fault at the front of octets that are read as blocks.
use Rattle.std.specs.Prelude.{◌≡◌, ℕ, ◌+◌, ◌++◌, Bool, List}
use Rattle.asn1_headers.specs.declared.header.ASN1Class.TheVariants.{Universal}
use Rattle.asn1_blocks.specs.declared.block.GroupKind.{GroupKind}
use Rattle.asn1_headers.specs.Header.{Encoding}
use Rattle.asn1_headers.specs.Fault.{DecodeFault}
use Rattle.asn1_headers.specs.HeaderFault.{HeaderFault}
use Rattle.asn1_blocks.specs.Contents.{group_tag, LeafFault}
use Rattle.asn1_blocks.specs.Grammar.{BlocksFaultAt}

-- the first block of the octets is at fault, where so many octets of the enclosing contents stand before it, and the
-- innermost block at fault begins so many octets after it: it is that block itself, or an item of it
pub data BlockFaultAt : ℕ → List ℕ → DecodeFault → ℕ → Type 0 where
  at_header :
      {offset : ℕ} {octets : List ℕ} {e : DecodeFault} →
      HeaderFault offset octets e → BlockFaultAt offset octets e 0
  at_leaf :
      {offset : ℕ} {octets : List ℕ} {e : DecodeFault}
      (x rest : List ℕ) {constructed : Bool} {tag : ℕ} {contents : List ℕ} {header : ℕ} →
      octets ≡ x ++ rest → Encoding x Universal constructed tag contents header → LeafFault tag contents e →
      BlockFaultAt offset octets e 0
  at_item :
      {offset : ℕ} {octets : List ℕ} {e : DecodeFault}
      (x rest : List ℕ) {constructed : Bool} {contents : List ℕ} {header inside : ℕ} →
      octets ≡ x ++ rest → (g : GroupKind) → Encoding x Universal constructed (group_tag g) contents header →
      BlocksFaultAt contents e inside → BlockFaultAt offset octets e (header + inside)
