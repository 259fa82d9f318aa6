-- A SEQUENCE or SET with the same tree has the same fields.
use Rattle.std.specs.Prelude.{◌≡◌}
use Rattle.std.proofs.Common.{ap}
use Rattle.asn1_blocks.specs.Tree.{Trees}
use Rattle.asn1_blocks.specs.declared.block.GroupKind.TheVariants.{Sequence as a_sequence, Set as a_set}
use Rattle.asn1_types.specs.Laws.{group_tree, group-inner}
use Rattle.asn1_types.specs.declared.groups.Sequence.{Sequence}
use Rattle.asn1_types.specs.declared.groups.Set.{Set}

pub sequence-distinct : {F : Type 0} (g : F → Trees (Unit {0})) (d : (x y : F) → g x ≡ g y → x ≡ y)
    (x y : Sequence F) → group_tree a_sequence (g x.fields) ≡ group_tree a_sequence (g y.fields) → x ≡ y
sequence-distinct {F = F} g d x y e =
    let with_fields : F → Sequence F = λ fields. record { fields = fields } in
    ap with_fields (d x.fields y.fields (group-inner a_sequence (g x.fields) (g y.fields) e))

pub set-distinct : {F : Type 0} (g : F → Trees (Unit {0})) (d : (x y : F) → g x ≡ g y → x ≡ y)
    (x y : Set F) → group_tree a_set (g x.fields) ≡ group_tree a_set (g y.fields) → x ≡ y
set-distinct {F = F} g d x y e =
    let with_fields : F → Set F = λ fields. record { fields = fields } in
    ap with_fields (d x.fields y.fields (group-inner a_set (g x.fields) (g y.fields) e))
