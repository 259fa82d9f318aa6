-- For `contents::check_by_reading`: what it returns is right (`found`).
use Rattle.std.proofs.Common.{◌≡◌, ℕ, false, List, Option, Some, None, inl, inr, subst}
use Rattle.std.specs.Prelude.{MatchOption}
use Rattle.asn1_blocks.specs.declared.block.ASN1Block.{ASN1Block}
use Rattle.asn1_blocks.specs.Contents.{is_leaf_tag}
use Rattle.asn1_blocks.specs.Inner.LeafBlocks.{IsLeafOf, IsNoLeafOrMeant}
use Rattle.asn1_blocks.specs.Tree.{Tree, explicit, group, leaf, unknown}
use Rattle.asn1_blocks.specs.View.{view}
use Rattle.asn1_blocks.proofs.contents.check_by_reading.Goals as goal

-- contents octets of which a leaf was read mean it
IsNoLeafOrMeant-read : (tag : ℕ) (contents : List ℕ) (b : Tree ℕ) → IsLeafOf 0 tag contents b →
    IsNoLeafOrMeant tag contents
IsNoLeafOrMeant-read tag contents (leaf o l) m = inr (l, m.1, m.2)
IsNoLeafOrMeant-read tag contents (group o g bs) m = absurd m
IsNoLeafOrMeant-read tag contents (explicit c o n b) m = absurd m
IsNoLeafOrMeant-read tag contents (unknown c k o n v) m = absurd m

-- contents octets of which a leaf was read mean it, and those of which none was read have the tag of no leaf
IsNoLeafOrMeant-found : (tag : ℕ) (contents : List ℕ) (found : Option ASN1Block)
    → MatchOption found (is_leaf_tag tag ≡ false) (λ b. IsLeafOf 0 tag contents (view b)) → IsNoLeafOrMeant tag contents
IsNoLeafOrMeant-found tag contents None none = inl none
IsNoLeafOrMeant-found tag contents (Some b) m = IsNoLeafOrMeant-read tag contents (view b) m

pub returns-clause-found : goal.returns-clause-found
returns-clause-found c =
    let contents = c.args.contents.now in
    let found = IsNoLeafOrMeant-found c.in_ok-tag.tag contents c.in_ok-leaf.leaf c.in_ok-leaf.ensures.found in
    subst (λ z. IsNoLeafOrMeant z contents) c.in_ok-tag.ensures found
