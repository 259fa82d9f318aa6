-- Where the blocks of a document stand, and which octets they have.
use denote.Ref.{Bor}
use Rattle.std.specs.Prelude.{◌≡◌, ◌&&◌, ℕ, ◌+◌, ◌-◌, ◌<◌, ◌≤◌, ◌++◌, Bool, List, length, drop, slice_range, MatchOption, Option}
use Rattle.asn1_headers.specs.declared.header.ASN1Class.{ASN1Class}
use Rattle.asn1_blocks.specs.declared.block.GroupKind.{GroupKind}
use Rattle.asn1_blocks.specs.declared.parsed.PlacedHeader.{PlacedHeader}
use Rattle.asn1_headers.specs.Header.{Encoding}
use Rattle.asn1_headers.specs.Indefinite.{is_indefinite}
use Rattle.asn1_blocks.specs.Tree.{Tree, Trees, group, explicit, no_trees, more_trees, mapped, all_mapped}
use Rattle.asn1_blocks.specs.View.{tree_offset}
use Rattle.asn1_blocks.specs.Grammar.{IsDocument}

-- the tree with each offset changed
abbrev pub with_offsets : (ℕ → ℕ) → Tree ℕ → Tree ℕ
with_offsets f b = mapped f (λ l. l) b

abbrev pub all_with_offsets : (ℕ → ℕ) → Trees ℕ → Trees ℕ
all_with_offsets f bs = all_mapped f (λ l. l) bs

-- all offsets less by the tree's own
abbrev pub rebased : Tree ℕ → Tree ℕ
rebased b = with_offsets (λ o. o - tree_offset b) b

-- all offsets greater by so much
abbrev pub all_later : ℕ → Trees ℕ → Trees ℕ
all_later n bs = all_with_offsets (λ o. o + n) bs

-- trees, and then others
abbrev pub joined : Trees ℕ → Trees ℕ → Trees ℕ
joined no_trees ys = ys
joined (more_trees x xs) ys = more_trees x (joined xs ys)

-- there are trees, and the first has the offset
abbrev pub BeginAt : Trees ℕ → ℕ → Type 0
BeginAt no_trees offset = ⊥
BeginAt (more_trees b bs) offset = tree_offset b ≡ offset

-- where what stands before the trees ends: at the first of them, or with none at the end of all
abbrev pub end_before : Trees ℕ → ℕ → ℕ
end_before no_trees end = end
end_before (more_trees b bs) end = tree_offset b

mutual
  -- in a tree that ends at an offset stands a tree, as itself or however deep, that ends at another
  pub data StandsIn : Tree ℕ → ℕ → Tree ℕ → ℕ → Type 0 where
    itself : {a : Tree ℕ} {end : ℕ} → StandsIn a end a end
    in_group :
        {o : ℕ} {g : GroupKind} {bs : Trees ℕ} {end : ℕ} {b : Tree ℕ} {stop : ℕ} →
        StandsAmong bs end b stop → StandsIn (group o g bs) end b stop
    in_explicit :
        {class : ASN1Class} {o tag : ℕ} {a : Tree ℕ} {end : ℕ} {b : Tree ℕ} {stop : ℕ} →
        StandsIn a end b stop → StandsIn (explicit class o tag a) end b stop

  -- the tree b stands in one of trees one after another, the last of which ends at an offset
  pub data StandsAmong : Trees ℕ → ℕ → Tree ℕ → ℕ → Type 0 where
    in_first :
        {a : Tree ℕ} {bs : Trees ℕ} {end : ℕ} {b : Tree ℕ} {stop : ℕ} →
        StandsIn a (end_before bs end) b stop → StandsAmong (more_trees a bs) end b stop
    in_later :
        {a : Tree ℕ} {bs : Trees ℕ} {end : ℕ} {b : Tree ℕ} {stop : ℕ} →
        StandsAmong bs end b stop → StandsAmong (more_trees a bs) end b stop

-- a tree of the document, at any depth, has these octets: from its offset to where it ends
pub record HasOctets (document : List ℕ) (bs : Trees ℕ) (b : Tree ℕ) (octets : List ℕ) : Type 0 where
  pub end : ℕ
  pub place : StandsAmong bs (length document) b end
  pub octets_are : octets ≡ slice_range document (tree_offset b) end

-- the octets are an encoding, of whatever fields
pub record IsEncoding (octets : List ℕ) : Type 0 where
  pub class : ASN1Class
  pub constructed : Bool
  pub tag : ℕ
  pub contents : List ℕ
  pub header : ℕ
  pub encoding : Encoding octets class constructed tag contents header

-- the octets are an encoding, and stand at the offset
pub record EncodingAt (document : List ℕ) (offset : ℕ) (octets : List ℕ) : Type 0 where
  pub rest : List ℕ
  pub at_offset : drop offset document ≡ octets ++ rest
  pub encoding : IsEncoding octets

-- no encoding stands at the offset
abbrev pub HasNoEncodingAt : List ℕ → ℕ → Type 0
HasNoEncodingAt document offset = (octets : List ℕ) → EncodingAt document offset octets → ⊥

-- of octets the encoding at the front is given, and the octets behind it are left; or none begins, and all are left
abbrev pub GivesEncoding : List ℕ → Option (Bor (List ℕ)) → List ℕ → Type 0
GivesEncoding octets given rest =
    MatchOption given (HasNoEncodingAt octets 0 × (rest ≡ octets))
    (λ encoding. IsEncoding encoding.now × (octets ≡ encoding.now ++ rest))

-- the octets are those of a tree of the document, and stand at the offset
pub record TreeAt (document : List ℕ) (offset : ℕ) (octets : List ℕ) : Type 0 where
  pub all : Trees ℕ
  pub tree : Tree ℕ
  pub read : IsDocument document all
  pub own_octets : HasOctets document all tree octets
  pub offset_is : tree_offset tree ≡ offset

-- an encoding stands from the offset to the end, and its contents octets begin at the start
abbrev pub IsEncodingBetween : List ℕ → ASN1Class → Bool → ℕ → ℕ → ℕ → ℕ → Type 0
IsEncodingBetween octets class constructed tag offset start end =
    Encoding (slice_range octets offset end) class constructed tag (slice_range octets start end)
    (start - offset)

-- the encoding at the offset has this header, which tells its parts, and ends before the limit
pub record HeaderFound (octets : List ℕ) (offset limit : ℕ) (h : PlacedHeader) : Type 0 where
  pub encoding : IsEncodingBetween octets h.class h.constructed h.tag offset h.start h.end
  pub starts_after : offset < h.start
  pub order : h.start ≤ h.end
  pub ends_within : h.end ≤ limit
  pub identifier_size : h.identifier ≡ length encoding.identifier
  pub size_is : h.size ≡ h.start - offset
  pub length_80 : h.has_length_80 ≡ is_indefinite encoding.len
  pub indefinite : h.is_indefinite ≡ (h.constructed && h.has_length_80)
