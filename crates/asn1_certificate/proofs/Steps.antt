-- What is found of fields when one is taken, and what tests of them say. For the functions of `fields`, and all that
-- read a type.
use Rattle.std.proofs.Common.{◌≡◌, ℕ, Bool, true, false, List, [], ◌∷◌, Option, None, Some, refl, sym, ap, subst, ◌∙◌}
use Rattle.std.specs.Prelude.{◌&&◌, if◌then◌else◌, is_some, option_map, IfSome, MatchOption}
use Rattle.std.proofs.lemmas.Bool.{false≢true}
use Rattle.asn1_blocks.specs.Tree.{Tree, Trees}
use Rattle.asn1_outline.specs.Structure.{Nodes, tree_at}
use Rattle.asn1_outline.specs.declared.entry.Entry.{Entry}
use Rattle.asn1_certificate.specs.Sequences.{Found, each, field, found_then, is_found, no_more, optional}
use Rattle.asn1_certificate.specs.Reading.{Tells, first_of_indices, indices_left, some_index, trees_at}
use Rattle.asn1_certificate.specs.Types.{is_any}

-- what is returned where there was none
pub from-none : {X : Type 0} (r : Option X) (P : Type 0) (Q : X → Type 0) → r ≡ None → P → MatchOption r P Q
from-none r P Q e p = subst (λ z. MatchOption z P Q) (sym e) p

module _ (ns : Nodes) (is : Tree ℕ → Bool) (others : Trees ℕ → Option Found) where
  -- a field that is there
  pub field-taken : (old new : List ℕ) (k : ℕ) → Tells ns is true old → old ≡ k ∷ new →
      field is others (trees_at ns old) ≡ found_then (Some (tree_at ns k)) (others (trees_at ns new))
  field-taken old new k tells e =
      let told : true ≡ is (tree_at ns k) = subst (Tells ns is true) e tells in
      ap (λ z. field is others (trees_at ns z)) e
      ∙ ap (λ z. if z then found_then (Some (tree_at ns k)) (others (trees_at ns new)) else None) (sym told)

  -- a field that was taken and is of the type
  pub field-is : (old new : List ℕ) (k : ℕ) → old ≡ k ∷ new → is (tree_at ns k) ≡ true →
      field is others (trees_at ns old) ≡ found_then (Some (tree_at ns k)) (others (trees_at ns new))
  field-is old new k e told =
      ap (λ z. field is others (trees_at ns z)) e
      ∙ ap (λ z. if z then found_then (Some (tree_at ns k)) (others (trees_at ns new)) else None) told

  -- a field that was taken and is not of the type
  pub field-other : (old new : List ℕ) (k : ℕ) → old ≡ k ∷ new → is (tree_at ns k) ≡ false →
      field is others (trees_at ns old) ≡ None
  field-other old new k e told =
      ap (λ z. field is others (trees_at ns z)) e
      ∙ ap (λ z. if z then found_then (Some (tree_at ns k)) (others (trees_at ns new)) else None) told

  -- a field where none is left
  pub field-none : (old : List ℕ) → old ≡ [] → field is others (trees_at ns old) ≡ None
  field-none old e = ap (λ z. field is others (trees_at ns z)) e

  -- a field that is not there
  pub field-missing : (old : List ℕ) (told : Bool) → Tells ns is told old → told ≡ false →
      field is others (trees_at ns old) ≡ None
  field-missing [] told tells e = refl
  field-missing (k ∷ ks) told tells e =
      ap (λ z. if z then found_then (Some (tree_at ns k)) (others (trees_at ns ks)) else None) (sym tells ∙ e)

  -- an optional field that is there
  pub optional-taken : (old new : List ℕ) (k : ℕ) → Tells ns is true old → old ≡ k ∷ new →
      optional is others (trees_at ns old) ≡ found_then (Some (tree_at ns k)) (others (trees_at ns new))
  optional-taken old new k tells e =
      let told : true ≡ is (tree_at ns k) = subst (Tells ns is true) e tells in
      ap (λ z. optional is others (trees_at ns z)) e
      ∙ ap (λ z. if z then found_then (Some (tree_at ns k)) (others (trees_at ns new))
      else found_then None (others (trees_at ns (k ∷ new)))) (sym told)

  -- an optional field that is not there
  pub optional-missing : (old : List ℕ) (told : Bool) → Tells ns is told old → told ≡ false →
      optional is others (trees_at ns old) ≡ found_then None (others (trees_at ns old))
  optional-missing [] told tells e = refl
  optional-missing (k ∷ ks) told tells e =
      ap (λ z. if z then found_then (Some (tree_at ns k)) (others (trees_at ns ks))
      else found_then None (others (trees_at ns (k ∷ ks)))) (sym tells ∙ e)

-- what was found of a field, and then of those behind it, as that is known
pub through : (whole behind known : Option Found) (b : Option (Tree ℕ)) → whole ≡ found_then b behind → behind ≡ known →
    whole ≡ found_then b known
through whole behind known b e f = e ∙ ap (found_then b) f

-- behind the last field stands a tree
pub end-some : (ns : Nodes) (ks : List ℕ) → some_index ks ≡ true → no_more (trees_at ns ks) ≡ None
end-some ns [] e = absurd (false≢true e)
end-some ns (k ∷ ks) e = refl

-- behind the last field stands none
pub end-none : (ns : Nodes) (ks : List ℕ) → some_index ks ≡ false → no_more (trees_at ns ks) ≡ Some []
end-none ns [] e = refl
end-none ns (k ∷ ks) e = absurd (false≢true (sym e))

-- a test that says told tells of ANY
pub Tells-any : (ns : Nodes) (ks : List ℕ) → Tells ns is_any true ks
Tells-any ns [] = tt
Tells-any ns (k ∷ ks) = refl

-- all trees are of ANY
each-any : (ns : Nodes) (ks : List ℕ) → each is_any (trees_at ns ks) ≡ true
each-any ns [] = refl
each-any ns (k ∷ ks) = each-any ns ks

-- trees of ANY are one or more if there is an index
pub some-any : (ns : Nodes) (ks : List ℕ) → some_index ks && each is_any (trees_at ns ks) ≡ some_index ks
some-any ns [] = refl
some-any ns (k ∷ ks) = each-any ns (k ∷ ks)

-- the first index is the one that is left
pub first-left : (next : Option ℕ) (others : List (ℕ × Entry)) → next ≡ first_of_indices (indices_left next others)
first-left None others = refl
first-left (Some k) others = refl

-- there is an index if one is left
pub some-left : (next : Option ℕ) (others : List (ℕ × Entry)) → is_some next ≡ some_index (indices_left next others)
some-left None others = refl
some-left (Some k) others = refl

-- a test of the tree at the first index tells of it
pub Tells-first : (ns : Nodes) (is : Tree ℕ → Bool) (told : Bool) (ks : List ℕ) (k : ℕ) → Some k ≡ first_of_indices ks →
    told ≡ is (tree_at ns k) → Tells ns is told ks
Tells-first ns is told ks k e f = subst (λ z. IfSome z (λ j. told ≡ is (tree_at ns j))) e f

-- of no index there is nothing to tell
pub Tells-none : (ns : Nodes) (is : Tree ℕ → Bool) (told : Bool) (ks : List ℕ) → None ≡ first_of_indices ks →
    Tells ns is told ks
Tells-none ns is told ks e = subst (λ z. IfSome z (λ j. told ≡ is (tree_at ns j))) e tt

-- fields were found if there is something that has them
pub found-is : {X : Type 0} (o : Option X) (t : Option Found) (f : X → Found) →
    MatchOption o (t ≡ None) (λ x. t ≡ Some (f x)) → is_some o ≡ is_found t
found-is None t f e = sym (ap is_found e)
found-is (Some x) t f e = sym (ap is_found e)

module _ (ns : Nodes) (is : Tree ℕ → Bool) (old new : List ℕ) (k : ℕ) (e : old ≡ k ∷ new) where
  -- trees of which the first is of the type
  pub each-step : is (tree_at ns k) ≡ true → each is (trees_at ns old) ≡ each is (trees_at ns new)
  each-step told = ap (λ z. each is (trees_at ns z)) e ∙ ap (λ z. z && each is (trees_at ns new)) told

  -- trees of which the first is not of the type
  pub each-stop : is (tree_at ns k) ≡ false → each is (trees_at ns old) ≡ false
  each-stop refused = ap (λ z. each is (trees_at ns z)) e ∙ ap (λ z. z && each is (trees_at ns new)) refused

module _ (ns : Nodes) (is : Tree ℕ → Bool) (others : Trees ℕ → Option Found) (old new : List ℕ) (told : Bool)
    (tells : Tells ns is told old) (e : told ≡ true) where
  -- a field that was taken after a test
  pub field-tested : (found : Option ℕ) →
      MatchOption found ((old ≡ []) × (new ≡ [])) (λ k. old ≡ k ∷ new) →
      MatchOption found (field is others (trees_at ns old) ≡ None)
      (λ k. field is others (trees_at ns old) ≡ found_then (Some (tree_at ns k)) (others (trees_at ns new)))
  field-tested None (none, _) = ap (λ z. field is others (trees_at ns z)) none
  field-tested (Some k) begin = field-taken ns is others old new k (subst (λ z. Tells ns is z old) e tells) begin

  -- an optional field that was taken after a test
  pub optional-tested : (found : Option ℕ) →
      MatchOption found ((old ≡ []) × (new ≡ [])) (λ k. old ≡ k ∷ new) →
      optional is others (trees_at ns old)
      ≡ found_then (option_map (tree_at ns) found) (others (trees_at ns new))
  optional-tested None (none, after) =
      ap (λ z. optional is others (trees_at ns z)) none
      ∙ ap (λ z. found_then None (others (trees_at ns z))) (sym after)
  optional-tested (Some k) begin =
      optional-taken ns is others old new k (subst (λ z. Tells ns is z old) e tells) begin
