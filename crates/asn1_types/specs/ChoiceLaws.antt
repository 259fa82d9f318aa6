-- The alternatives of a CHOICE.
use Rattle.std.specs.Prelude.{◌≡◌, ◌≢◌}
use Rattle.std.proofs.Common.{sym, ap}
use Rattle.asn1_blocks.specs.Tree.{Tree}
use Rattle.asn1_types.specs.declared.choice.Or.{Or}
use Rattle.asn1_types.specs.declared.choice.Or.TheVariants.{First, Second}

abbrev pub or_tree : {A B U : Type 0} → (A → Tree (Unit {0})) → (B → Tree (Unit {0}))
    → Or A B U → Tree (Unit {0})
or_tree f g (First x) = f x
or_tree f g (Second y u) = g y

pub or-distinct : {A B U : Type 0} (f : A → Tree (Unit {0})) (g : B → Tree (Unit {0}))
    (d : (x y : A) → f x ≡ f y → x ≡ y) (c : (x y : B) → g x ≡ g y → x ≡ y)
    (unlike : (x : A) (y : B) → f x ≢ g y)
    (x y : Or A B U) → or_tree f g x ≡ or_tree f g y → x ≡ y
or-distinct f g d c unlike (First x) (First y) e = ap First (d x y e)
or-distinct f g d c unlike (First x) (Second y v) e = absurd (unlike x y e)
or-distinct f g d c unlike (Second x u) (First y) e = absurd (unlike y x (sym e))
or-distinct f g d c unlike (Second x u) (Second y v) e = ap (λ t. Second t v) (c x y e)
