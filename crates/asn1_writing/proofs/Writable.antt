-- What is read can be written, for `write::rewrite`, `write::written_anew` and `strict`.
use Rattle.std.proofs.Common.{◌≡◌, ℕ, ◌+◌, ◌<◌, length, take, drop, List, Bool, ◌++◌, None, refl, ap, ◌∙◌, subst}
use Rattle.std.specs.Prelude.{All}
use Rattle.std.proofs.lemmas.List.{drop_at, take_at}
use Rattle.std.proofs.lemmas.List.Elements.{All-drop, All-take}
use Rattle.asn1_headers.specs.declared.header.ASN1Class.{ASN1Class}
use Rattle.asn1_numbers.specs.Octets.{AreOctets}
use Rattle.asn1_headers.specs.Header.{Encoding}
use Rattle.asn1_blocks.specs.Tree.{Tree, Trees, leaf, group, explicit, unknown, no_trees, more_trees}
use Rattle.asn1_blocks.specs.Grammar.{Encodes, EncodesAll, IsDocument}
use Rattle.asn1_writing.specs.Canonical.{first_of, write_fault, first_write_fault}
use Rattle.asn1_blocks.proofs.Leaves.{leaf_write_fault-read}

-- the rest of octets, behind a front, is octets
pub AreOctets-second : (all front rest : List ℕ) → all ≡ front ++ rest → AreOctets all → AreOctets rest
AreOctets-second all front rest e h =
    subst AreOctets (ap (drop (length front)) e ∙ drop_at front rest (length front) refl)
    (All-drop (λ b. b < 256) (length front) all h)

-- a front of octets is octets
pub AreOctets-first : (all front rest : List ℕ) → all ≡ front ++ rest → AreOctets all → AreOctets front
AreOctets-first all front rest e h =
    subst AreOctets (ap (take (length front)) e ∙ take_at front rest (length front) refl)
    (All-take (λ b. b < 256) (length front) all h)

-- the contents octets of an encoding of octets are octets
pub AreOctets-contents :
    (octets : List ℕ) (c : ASN1Class) (k : Bool) (n : ℕ) (contents : List ℕ) (h : ℕ) →
    Encoding octets c k n contents h → AreOctets octets → AreOctets contents
AreOctets-contents octets c k n contents h f a =
    AreOctets-second (f.len ++ contents) f.len contents refl
    (AreOctets-second octets f.identifier (f.len ++ contents) f.whole a)

mutual
  -- a tree that was read can be written
  write_fault-read : (o : ℕ) (octets : List ℕ) (b : Tree ℕ) → AreOctets octets → Encodes o octets b →
      write_fault b ≡ None
  write_fault-read o octets (leaf p l) a (_, _, contents, _, F, means) =
      leaf_write_fault-read l contents (AreOctets-contents octets _ _ _ contents _ F a) means
  write_fault-read o octets (group p g bs) a (_, _, contents, header, F, items) =
      first_write_fault-read (o + header) contents bs (AreOctets-contents octets _ _ _ contents _ F a) items
  write_fault-read o octets (explicit c p n b) a (_, _, contents, header, F, item) =
      write_fault-read (o + header) contents b (AreOctets-contents octets _ _ _ contents _ F a) item
  write_fault-read o octets (unknown c k p n v) a s = refl

  -- trees that octets encode can be written
  first_write_fault-read : (o : ℕ) (octets : List ℕ) (bs : Trees ℕ) → AreOctets octets → EncodesAll o octets bs →
      first_write_fault bs ≡ None
  first_write_fault-read o octets no_trees a s = refl
  first_write_fault-read o octets (more_trees b bs) a s =
      ap (λ z. first_of z (first_write_fault bs))
      (write_fault-read o s.first b (AreOctets-first octets s.first s.rest s.whole a) s.item) ∙
      first_write_fault-read (o + length s.first) s.rest bs (AreOctets-second octets s.first s.rest s.whole a) s.items

-- the trees of a document can be written
pub first_write_fault-document : (octets : List ℕ) (bs : Trees ℕ) → All (λ b. b < 256) octets → IsDocument octets bs →
    first_write_fault bs ≡ None
first_write_fault-document octets bs a d = first_write_fault-read 0 octets bs a d.blocks
