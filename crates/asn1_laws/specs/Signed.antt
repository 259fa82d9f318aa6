-- What is signed of a certificate, a list of revoked ones or a certification request, by two definitions of it.
use Rattle.std.specs.Prelude.{◌≡◌, ℕ, List, [], ◌∷◌, Some}
use Rattle.asn1_blocks.specs.Tree.{Tree, Trees}
use Rattle.asn1_outline.specs.Structure.{IsStructure, Nodes, tree_at}
use Rattle.simple_asn1.specs.SignedTrees.{IsSigned, SignedParts}
use Rattle.asn1_certificate.specs.Types.{certificate, certificate_list, certification_request}

-- the octets are a document that begins with a signed triple, whose content is the tree
abbrev pub IsSignedWith : List ℕ → Tree ℕ → Type 0
IsSignedWith octets content = (p : SignedParts) × IsSigned octets p × (p.content ≡ content)

-- what begins with one of these types begins with a signed triple, whose content is the first field
pub record FieldsAreSigned : Type 0 where
  pub certificate :
      (octets : List ℕ) (ns : Nodes) (content algorithm signature : Tree ℕ) → IsStructure octets ns →
      certificate (tree_at ns 0) ≡ Some (Some content ∷ Some algorithm ∷ Some signature ∷ []) →
      IsSignedWith octets content
  pub list :
      (octets : List ℕ) (ns : Nodes) (content algorithm signature : Tree ℕ) → IsStructure octets ns →
      certificate_list (tree_at ns 0) ≡ Some (Some content ∷ Some algorithm ∷ Some signature ∷ []) →
      IsSignedWith octets content
  -- held says which trees the attributes hold, whose tag is implicit
  pub request :
      (octets : List ℕ) (ns : Nodes) (held : Tree ℕ → Trees ℕ) (content algorithm signature : Tree ℕ) →
      IsStructure octets ns →
      certification_request held (tree_at ns 0) ≡ Some (Some content ∷ Some algorithm ∷ Some signature ∷ []) →
      IsSignedWith octets content
