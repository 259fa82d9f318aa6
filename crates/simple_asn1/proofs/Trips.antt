-- What is written of a value, and read again, for `convert::round_trip`.
use Rattle.std.proofs.Common.{◌≡◌, ℕ, ◌<◌, ◌^◌, List, length, Result, Ok, refl, sym, ap, ◌∙◌, subst, arith, inl, inr, length-append}
use Rattle.std.proofs.lemmas.Option.{none-some}
use Rattle.asn1_headers.specs.declared.error.ASN1DecodeErr.{ASN1DecodeErr}
use Rattle.asn1_headers.specs.declared.error.ASN1EncodeErr.{ASN1EncodeErr}
use Rattle.asn1_writing.specs.Canonical.{canonical, all_canonical, first_write_fault}
use Rattle.simple_asn1.specs.Conversions.{AreReadAgain, Decodes, DecodeFails, EncodesValue, EncodeFails, OwnDecodeFault, OwnEncodeFault}
use Rattle.asn1_blocks.specs.Faithful.{AreFaithful}
use Rattle.asn1_headers.specs.Fault.{fault_of}
use Rattle.asn1_blocks.specs.Grammar.{IsDocument}
use Rattle.asn1_blocks.specs.Tree.{Tree, Trees, leaf, group, explicit, unknown, no_trees, more_trees, shape, shapes}
use Rattle.asn1_blocks.proofs.OneReading.{EncodesAll-unique}
use Rattle.asn1_writing.proofs.Placed.{all_placed, EncodesAll-all_canonical, canonical-not_empty, shapes-all_placed, first_write_fault-faithful}
use Rattle.asn1_writing.proofs.Shapes.{all_canonical-shapes, first_write_fault-shapes}
use Rattle.asn1_blocks.proofs.Readings.{IsDocument-no_fault}

mutual
  -- a tree that has no offsets is unchanged without them
  shape-shape : (t : Tree (Unit {0})) → shape t ≡ t
  shape-shape (leaf o l) = refl
  shape-shape (group o g bs) = ap (group tt g) (shapes-shapes bs)
  shape-shape (explicit c o n b) = ap (explicit c tt n) (shape-shape b)
  shape-shape (unknown c k o n v) = refl

  -- trees that have no offsets are unchanged without them
  shapes-shapes : (ts : Trees (Unit {0})) → shapes ts ≡ ts
  shapes-shapes no_trees = refl
  shapes-shapes (more_trees b bs) =
      ap (λ z. more_trees z (shapes bs)) (shape-shape b) ∙ ap (more_trees b) (shapes-shapes bs)

-- the canonical octets of faithful trees are a document of these trees, placed where they stand
IsDocument-all_canonical : (ss : Trees (Unit {0})) → AreReadAgain ss → length (all_canonical ss) < 2 ^ 64 →
    IsDocument (all_canonical ss) (all_placed 0 ss)
IsDocument-all_canonical no_trees k small = absurd (k.0 refl)
IsDocument-all_canonical (more_trees b bs) k small = record {
  some = omega (arith, canonical-not_empty b, length-append (canonical b) (all_canonical bs));
  blocks = EncodesAll-all_canonical 0 (more_trees b bs) small k.1;
}

-- what is written of trees is read as these trees alone
shapes-read : (ss : Trees (Unit {0})) (bs : Trees ℕ) → AreFaithful ss → length (all_canonical ss) < 2 ^ 64
    → IsDocument (all_canonical ss) bs → shapes bs ≡ ss
shapes-read ss bs f small d =
    ap shapes
    (EncodesAll-unique 0 (all_canonical ss) bs (all_placed 0 ss) d.blocks (EncodesAll-all_canonical 0 ss small f))
    ∙ (shapes-all_placed 0 ss ∙ shapes-shapes ss)

module _ {E : Type 0} (writes : Result (Trees ℕ) E → Type 0) (ss : Trees (Unit {0}))
    (written : (bs : Trees ℕ) → writes (Ok bs) → shapes bs ≡ ss) where
  -- octets that are encoded are the canonical octets of the trees
  pub all_canonical-encoded : (octets : List ℕ) → EncodesValue writes octets → octets ≡ all_canonical ss
  all_canonical-encoded octets e =
      e.canonical ∙ (sym (all_canonical-shapes e.trees) ∙ ap all_canonical (written e.trees e.are_written))

  -- encoding what is read again fails by itself or for want of memory alone
  pub OwnEncodeFault-own : (from : ASN1EncodeErr → E → Type 0) (e : E) → AreReadAgain ss → EncodeFails writes from e →
      OwnEncodeFault writes from e
  OwnEncodeFault-own from e k (inl w) = inl w
  OwnEncodeFault-own from e k (inr (bs, f, w, inl m, g)) = inr (subst (λ z. from z e) m g)
  OwnEncodeFault-own from e k (inr (bs, f, w, inr r, g)) =
      absurd (none-some f (sym (first_write_fault-faithful ss k.1)
      ∙ (ap first_write_fault (sym (written bs w)) ∙ (first_write_fault-shapes bs ∙ r))))

module _ {T D : Type 0} (reads : Trees ℕ → Result (T × Trees ℕ) D → Type 0) (x : T) (ss : Trees (Unit {0}))
    (small : length (all_canonical ss) < 2 ^ 64) where
  -- a value that is decoded from what was encoded is the value
  pub Decodes-same : ((y : T) (bs rest : Trees ℕ) → shapes bs ≡ ss → reads bs (Ok (y, rest)) →
      (y ≡ x) × (rest ≡ no_trees)) →
      (y : T) → AreFaithful ss → Decodes reads (all_canonical ss) y → y ≡ x
  Decodes-same back y f d = (back y d.trees d.rest (shapes-read ss d.trees f small d.document) d.is_read).0

  -- decoding what was encoded fails by itself or for want of memory alone
  pub OwnDecodeFault-own : (from : ASN1DecodeErr → D → Type 0) (e : D) → AreReadAgain ss →
      DecodeFails reads from (all_canonical ss) e
      → OwnDecodeFault reads from ss e
  OwnDecodeFault-own from e k (inl (bs, d, r)) = inl (bs, shapes-read ss bs k.1 small d, r)
  OwnDecodeFault-own from e k (inr (f, inl m, g)) = inr (subst (λ z. from z e) m g)
  OwnDecodeFault-own from e k (inr (f, inr r, g)) =
      absurd
      (IsDocument-no_fault (all_canonical ss) (all_placed 0 ss) (fault_of f) small
      (IsDocument-all_canonical ss k small) r)
