-- How many headers a reader begins.
use Rattle.std.specs.Prelude.{◌≡◌, ◌≢◌, ℕ, ◌+◌, ◌<◌, ◌⊎◌, ◌++◌, Bool, true, List, [], length}
use Rattle.asn1_headers.specs.declared.header.ASN1Class.{ASN1Class}
use Rattle.asn1_headers.specs.declared.header.ASN1Class.TheVariants.{Universal}
use Rattle.asn1_headers.specs.Header.{Encoding}
use Rattle.asn1_blocks.specs.Tree.{Tree, Trees, leaf, group, explicit, unknown, no_trees, more_trees}
use Rattle.asn1_blocks.specs.Contents.{is_group_tag}
use Rattle.asn1_blocks.specs.Grammar.{IsBlock}

-- contents octets with these fields are read as blocks: those of a SEQUENCE or SET, and those of a constructed encoding
-- of another class
abbrev pub IsReadInside : ASN1Class → Bool → ℕ → Type 0
IsReadInside class constructed tag =
    ((class ≡ Universal) × (is_group_tag tag ≡ true)) ⊎ ((class ≢ Universal) × (constructed ≡ true))

mutual
  -- reading the octets begins n headers: of no octets none, else one, those inside the first encoding and those after
  -- the first block. Failed attempts count
  pub data HeadersBegun : List ℕ → ℕ → Type 0 where
    begun_none : {octets : List ℕ} → octets ≡ [] → HeadersBegun octets 0
    begun_some : {octets : List ℕ} {n : ℕ} → 0 < length octets → (a b : ℕ) → BegunInside octets a
        → BegunAfter octets b → n ≡ 1 + (a + b) → HeadersBegun octets n

  pub data BegunInside : List ℕ → ℕ → Type 0 where
    inside_first : {octets : List ℕ} {a : ℕ} (x rest : List ℕ)
        {class : ASN1Class} {constructed : Bool} {tag : ℕ} {contents : List ℕ} {header : ℕ}
        → octets ≡ x ++ rest → Encoding x class constructed tag contents header
        → IsReadInside class constructed tag → HeadersBegun contents a → BegunInside octets a
    nothing_inside : {octets : List ℕ}
        → ((x rest : List ℕ) (class : ASN1Class) (constructed : Bool) (tag : ℕ)
        (contents : List ℕ) (header : ℕ) → octets ≡ x ++ rest
        → Encoding x class constructed tag contents header → IsReadInside class constructed tag → ⊥)
        → BegunInside octets 0

  pub data BegunAfter : List ℕ → ℕ → Type 0 where
    after_first : {octets : List ℕ} {b : ℕ} (x rest : List ℕ) → octets ≡ x ++ rest → IsBlock x
        → HeadersBegun rest b → BegunAfter octets b
    nothing_after : {octets : List ℕ} → ((x rest : List ℕ) → octets ≡ x ++ rest → IsBlock x → ⊥)
        → BegunAfter octets 0

abbrev mutual
  -- the number of blocks of a tree, at all depths
  pub blocks_in : {O : Type 0} → Tree O → ℕ
  blocks_in (leaf o l) = 1
  blocks_in (group o g bs) = 1 + all_blocks_in bs
  blocks_in (explicit class o tag b) = 1 + blocks_in b
  blocks_in (unknown class constructed o tag contents) = 1

  pub all_blocks_in : {O : Type 0} → Trees O → ℕ
  all_blocks_in no_trees = 0
  all_blocks_in (more_trees b bs) = blocks_in b + all_blocks_in bs
