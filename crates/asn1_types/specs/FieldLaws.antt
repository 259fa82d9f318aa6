-- Fields of the same trees are equal.
use Rattle.std.specs.Prelude.{◌≡◌, ◌≢◌, Bool, true, false, Option, Some, None, if◌then◌else◌}
use Rattle.std.proofs.Common.{sym, ap, ◌∙◌, refl}
use Rattle.asn1_blocks.specs.Tree.{Tree, Trees, more_trees}
use Rattle.asn1_types.specs.FieldTrees.{optional_trees, unless_default, four_trees}
use Rattle.asn1_types.specs.Laws.{first-same, rest-same}
use Rattle.asn1_types.specs.declared.fields.Optional.{Optional}
use Rattle.asn1_types.specs.declared.fields.Field.{Field}
use Rattle.asn1_types.specs.declared.defaulted.Defaulted.{Defaulted}
use Rattle.asn1_types.specs.declared.wide.Fields4.{Fields4}

pub field-distinct : {A B : Type 0} (f : A → Tree (Unit {0})) (g : B → Trees (Unit {0}))
    (d : (x y : A) → f x ≡ f y → x ≡ y) (c : (x y : B) → g x ≡ g y → x ≡ y)
    (x y : Field A B) → more_trees (f x.first) (g x.rest) ≡ more_trees (f y.first) (g y.rest) → x ≡ y
field-distinct {A = A} {B = B} f g d c x y e =
    let p : x.first ≡ y.first = d x.first y.first (first-same (f x.first) (f y.first) (g x.rest) (g y.rest) e) in
    let q : x.rest ≡ y.rest = c x.rest y.rest (rest-same (f x.first) (f y.first) (g x.rest) (g y.rest) e) in
    let with_first : A → Field A B = λ t. record { first = t; rest = x.rest } in
    let with_rest : B → Field A B = λ r. record { first = y.first; rest = r } in
    ap with_first p ∙ ap with_rest q

pub optional-distinct : {A B : Type 0} (f : A → Tree (Unit {0})) (g : B → Trees (Unit {0}))
    (d : (x y : A) → f x ≡ f y → x ≡ y) (c : (x y : B) → g x ≡ g y → x ≡ y)
    (apart : (x : A) (y : B) (rest : Trees (Unit {0})) → g y ≢ more_trees (f x) rest)
    (a b : Option A) (x y : B) → optional_trees f g a x ≡ optional_trees f g b y → (a ≡ b) × (x ≡ y)
optional-distinct f g d c apart None None x y e = (refl, c x y e)
optional-distinct f g d c apart None (Some b) x y e = absurd (apart b x (g y) e)
optional-distinct f g d c apart (Some a) None x y e = absurd (apart a y (g x) (sym e))
optional-distinct f g d c apart (Some a) (Some b) x y e =
    (ap Some (d a b (first-same (f a) (f b) (g x) (g y) e)), c x y (rest-same (f a) (f b) (g x) (g y) e))

pub optional-same : {A B C : Type 0} (x y : Optional A B C) → (x.first ≡ y.first) × (x.rest ≡ y.rest) → x ≡ y
optional-same {A = A} {B = B} {C = C} x y e =
    let with_first : Option A → Optional A B C = λ t. record { first = t; rest = x.rest; apart = x.apart } in
    let with_rest : B → Optional A B C = λ r. record { first = y.first; rest = r; apart = y.apart } in
    ap with_first e.0 ∙ ap with_rest e.1

-- a field is apart from the next one, where the two are unlike
pub field-apart : {A B : Type 0} (f : A → Tree (Unit {0})) (g : B → Tree (Unit {0}))
    (unlike : (x : A) (y : B) → f x ≢ g y) (x : A) (y : B) (ts rest : Trees (Unit {0}))
    → more_trees (g y) ts ≢ more_trees (f x) rest
field-apart f g unlike x y ts rest e = unlike x y (sym (first-same (g y) (f x) ts rest e))

-- and where the next one may be missing, from those after it
pub optional-apart : {A B C : Type 0} (f : A → Tree (Unit {0})) (g : B → Tree (Unit {0}))
    (h : C → Trees (Unit {0}))
    (unlike : (x : A) (y : B) → f x ≢ g y)
    (apart : (x : A) (z : C) (rest : Trees (Unit {0})) → h z ≢ more_trees (f x) rest)
    (x : A) (y : Option B) (z : C) (rest : Trees (Unit {0})) → optional_trees g h y z ≢ more_trees (f x) rest
optional-apart f g h unlike apart x None z rest e = apart x z rest e
optional-apart f g h unlike apart x (Some y) z rest e = field-apart f g unlike x y (h z) rest e

-- values of which the same is written are equal, where only one is the default
written_by-same : {A : Type 0} (d : A → Bool)
    (only : (x y : A) → d x ≡ true → d y ≡ true → x ≡ y) (x y : A)
    (b c : Bool) → d x ≡ b → d y ≡ c
    → ◌≡◌ {A = Option A} (if b then None else Some x) (if c then None else Some y) → x ≡ y
written_by-same d only x y true true p q e = only x y p q
written_by-same d only x y true false p q e = cc
written_by-same d only x y false true p q e = cc
written_by-same d only x y false false p q e = cc

pub unless_default-same : {A : Type 0} (d : A → Bool)
    (only : (x y : A) → d x ≡ true → d y ≡ true → x ≡ y) (x y : A)
    → unless_default d x ≡ unless_default d y → x ≡ y
unless_default-same d only x y e = written_by-same d only x y (d x) (d y) refl refl e

pub defaulted-same : {A B C D : Type 0} (x y : Defaulted A B C D)
    → (x.first ≡ y.first) × (x.rest ≡ y.rest) → x ≡ y
defaulted-same {A = A} {B = B} {C = C} {D = D} x y e =
    let made : A → B → Defaulted A B C D =
    λ t r. record { first = t; rest = r; apart = x.apart; default = x.default } in
    ap (λ t. made t x.rest) e.0 ∙ ap (λ r. made y.first r) e.1

pub defaulted-distinct : {A B C D : Type 0} (f : A → Tree (Unit {0})) (g : B → Trees (Unit {0}))
    (fd : (x y : A) → f x ≡ f y → x ≡ y) (gd : (x y : B) → g x ≡ g y → x ≡ y)
    (apart : (x : A) (y : B) (rest : Trees (Unit {0})) → g y ≢ more_trees (f x) rest)
    (d : A → Bool) (only : (x y : A) → d x ≡ true → d y ≡ true → x ≡ y) (x y : Defaulted A B C D)
    → optional_trees f g (unless_default d x.first) x.rest ≡ optional_trees f g (unless_default d y.first) y.rest
    → x ≡ y
defaulted-distinct f g fd gd apart d only x y e =
    let p = optional-distinct f g fd gd apart (unless_default d x.first) (unless_default d y.first) x.rest y.rest e in
    defaulted-same x y (unless_default-same d only x.first y.first p.0, p.1)

pub four-distinct : {A B C D R : Type 0} (f : A → Tree (Unit {0})) (g : B → Tree (Unit {0}))
    (h : C → Tree (Unit {0})) (k : D → Tree (Unit {0})) (r : R → Trees (Unit {0}))
    (fd : (x y : A) → f x ≡ f y → x ≡ y) (gd : (x y : B) → g x ≡ g y → x ≡ y)
    (hd : (x y : C) → h x ≡ h y → x ≡ y) (kd : (x y : D) → k x ≡ k y → x ≡ y)
    (rd : (x y : R) → r x ≡ r y → x ≡ y) (x y : Fields4 A B C D R)
    → four_trees f g h k r x ≡ four_trees f g h k r y → x ≡ y
four-distinct {A = A} {B = B} {C = C} {D = D} {R = R} f g h k r fd gd hd kd rd x y e =
    let e1 = rest-same (f x.first) (f y.first) _ _ e in
    let e2 = rest-same (g x.second) (g y.second) _ _ e1 in
    let e3 = rest-same (h x.third) (h y.third) _ _ e2 in
    let p1 : x.first ≡ y.first = fd x.first y.first (first-same (f x.first) (f y.first) _ _ e) in
    let p2 : x.second ≡ y.second = gd x.second y.second (first-same (g x.second) (g y.second) _ _ e1) in
    let p3 : x.third ≡ y.third = hd x.third y.third (first-same (h x.third) (h y.third) _ _ e2) in
    let p4 : x.fourth ≡ y.fourth = kd x.fourth y.fourth (first-same (k x.fourth) (k y.fourth) _ _ e3) in
    let p5 : x.rest ≡ y.rest = rd x.rest y.rest (rest-same (k x.fourth) (k y.fourth) _ _ e3) in
    let four : A → B → C → D → R → Fields4 A B C D R =
    λ a b c d t. record { first = a; second = b; third = c; fourth = d; rest = t } in
    ap (λ v. four v x.second x.third x.fourth x.rest) p1
    ∙ (ap (λ v. four y.first v x.third x.fourth x.rest) p2
    ∙ (ap (λ v. four y.first y.second v x.fourth x.rest) p3
    ∙ (ap (λ v. four y.first y.second y.third v x.rest) p4
    ∙ ap (λ v. four y.first y.second y.third y.fourth v) p5)))
