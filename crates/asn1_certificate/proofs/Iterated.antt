-- What a call of `next` gives of items that all are of a type, for the iterators of `extension`, `revocation` and
-- `attribute`.
use Rattle.std.proofs.Common.{◌≡◌, ℕ, Bool, true, false, List, [], ◌∷◌, Option, None, Some, refl, sym, ap, subst, ◌∙◌}
use Rattle.std.specs.Prelude.{MatchOption}
use Rattle.std.proofs.Props.{props}
use Rattle.std.proofs.lemmas.Bool.{false≢true}
use mathlib.Core.Logic.{∥∥₁_elim}
use Rattle.asn1_blocks.specs.declared.block.GroupKind.TheVariants.{Sequence}
use Rattle.asn1_blocks.specs.Grammar.{IsDocument}
use Rattle.asn1_blocks.specs.Tree.{Tree}
use Rattle.asn1_outline.specs.Entries.{IsOutline}
use Rattle.asn1_outline.specs.Structure.{IsStructure, Nodes, tree_at}
use Rattle.asn1_outline.specs.declared.entry.Entry.{Entry}
use Rattle.asn1_certificate.specs.Items.{AreOf, GivesFields, HasFields, Items}
use Rattle.asn1_certificate.specs.Reading.{IsGroupOf, IsTagged, trees_at}
use Rattle.asn1_certificate.specs.Sequences.{Found, is_found, tagged}
use Rattle.asn1_certificate.proofs.EntryTrees.{tagged-inside}
use Rattle.asn1_certificate.proofs.Steps.{each-stop}

module _ {A : Type 0} (found_of : Tree ℕ → Option Found) (given : Nodes → A → Found) (octets : List ℕ) (es : List Entry)
    (lent : ∥ IsOutline octets es ∥₁) (old new : List ℕ) (k : ℕ) (first : old ≡ k ∷ new)
    (are : AreOf (λ b. is_found (found_of b)) octets old) where
  -- the first of the items is of the type, so its fields are found
  first-fields : (result : Option A) →
      ((ns : Nodes) → IsStructure octets ns → MatchOption result (found_of (tree_at ns k) ≡ None)
      (λ item. found_of (tree_at ns k) ≡ Some (given ns item))) →
      MatchOption result ((old ≡ []) × (new ≡ []))
      (λ item. (j : ℕ) × (old ≡ j ∷ new) × HasFields found_of given octets j item)
  first-fields None none =
      let prop : IsProp ⊥ = hlevel props in
      absurd (∥∥₁_elim lent prop (λ o.
      let (cs, e, entries) = o in
      let ns = entries.nodes in
      let own : IsStructure octets ns = (subst (IsDocument octets) (sym entries.trees) e, entries.structure) in
      let other = each-stop ns (λ b. is_found (found_of b)) old new k first (ap is_found (none ns own)) in
      false≢true (sym other ∙ are ns own)))
  first-fields (Some item) some = (k, first, some)

  -- a call that takes the first item and gives its fields
  pub GivesFields-first : (before : Items) (result : Option A) →
      record { octets = octets; indices = old } ≡ before →
      ((ns : Nodes) → IsStructure octets ns → MatchOption result (found_of (tree_at ns k) ≡ None)
      (λ item. found_of (tree_at ns k) ≡ Some (given ns item))) →
      GivesFields found_of given before result (record { octets = octets; indices = new })
  GivesFields-first before result view fields =
      subst (λ z. GivesFields found_of given z result (record { octets = octets; indices = new })) view
      (refl, first-fields result fields)

-- the items of what is in explicit tagging are those of what was given of it
pub tagged-items : {X : Type 0} (ns : Nodes) (is : Tree ℕ → Bool) (index k n : ℕ) (indices : X → List ℕ)
    (result : Option X) → IsTagged n (tree_at ns k) (tree_at ns index) →
    MatchOption result (is (tree_at ns k) ≡ false)
    (λ x. (is (tree_at ns k) ≡ true) × IsGroupOf Sequence (trees_at ns (indices x)) (tree_at ns k)) →
    MatchOption result (tagged n is (tree_at ns index) ≡ false)
    (λ x. (tagged n is (tree_at ns index) ≡ true) × (b : Tree ℕ) × IsTagged n b (tree_at ns index)
    × IsGroupOf Sequence (trees_at ns (indices x)) b)
tagged-items ns is index k n indices None tag other =
    tagged-inside (tree_at ns index) n (tree_at ns k) is tag ∙ other
tagged-items ns is index k n indices (Some x) tag (told, items) =
    (tagged-inside (tree_at ns index) n (tree_at ns k) is tag ∙ told, tree_at ns k, tag, items)
