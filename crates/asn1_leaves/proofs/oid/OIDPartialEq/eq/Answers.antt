-- For `oid::OIDPartialEq::eq`: what it returns is right.
use Rattle.std.proofs.Common.{◌≡◌, ◌==◌, ap, sym, subst, ◌∙◌}
use Rattle.std.specs.Cmp.Lexicographic.{pointwise}
use Rattle.asn1_leaves.specs.Inner.IdentifierForms.{HaveShortContents, IsKeptOnce, IsShortForm, components_of, kept_components}
use Rattle.asn1_leaves.proofs.IdentifierForms.{pointwise-one_short, pointwise-short_forms}
use Rattle.asn1_leaves.proofs.oid.OIDPartialEq.eq.Goals as goal

pub returns-in-Octets-Octets : goal.returns-in-Octets-Octets
returns-in-Octets-Octets c =
    let x = c.in-Octets-Octets.a.items in
    let y = c.in-Octets-Octets.b.items in
    let here : IsShortForm x = subst IsKeptOnce c.in-Octets-Octets.is-0 c.self.invariant in
    let there : IsShortForm y = subst IsKeptOnce c.in-Octets-Octets.is-1 c.other.invariant in
    let mine : components_of x ≡ c.args.self.now = ap kept_components (sym c.in-Octets-Octets.is-0) ∙ c.self.view_is in
    let others : components_of y ≡ c.args.other.now =
    ap kept_components (sym c.in-Octets-Octets.is-1) ∙ c.other.view_is in
    let equal : c.eq.result ≡ pointwise (λ m n. m == n) x y =
    rw (← c.as_slice.ensures.value, ← c.as_slice-in-Octets-Octets.ensures.value) c.eq.ensures in
    pointwise-short_forms x y c.args.self.now c.args.other.now c.eq.result here there mine others equal

pub returns-in_default : goal.returns-in_default
returns-in_default c =
    let here : IsShortForm c.in_default.field-0-0.items = subst IsKeptOnce c.in_default.is-0 c.self.invariant in
    let there : HaveShortContents c.in_default.field-0-1.items →
    ⊥ = subst IsKeptOnce c.in_default.is-1 c.other.invariant in
    let mine : components_of c.in_default.field-0-0.items ≡ c.args.self.now =
    ap kept_components (sym c.in_default.is-0) ∙ c.self.view_is in
    let others : c.in_default.field-0-1.items ≡ c.args.other.now =
    ap kept_components (sym c.in_default.is-1) ∙ c.other.view_is in
    (pointwise-one_short c.args.self.now c.args.other.now (subst HaveShortContents mine here.0)
    (subst (λ ns. HaveShortContents ns → ⊥) others there)).0

pub returns-in_default-2 : goal.returns-in_default-2
returns-in_default-2 c =
    let here : HaveShortContents c.in_default.field-0-0.items →
    ⊥ = subst IsKeptOnce c.in_default.is-0 c.self.invariant in
    let there : IsShortForm c.in_default.field-0-1.items = subst IsKeptOnce c.in_default.is-1 c.other.invariant in
    let mine : c.in_default.field-0-0.items ≡ c.args.self.now =
    ap kept_components (sym c.in_default.is-0) ∙ c.self.view_is in
    let others : components_of c.in_default.field-0-1.items ≡ c.args.other.now =
    ap kept_components (sym c.in_default.is-1) ∙ c.other.view_is in
    (pointwise-one_short c.args.other.now c.args.self.now (subst HaveShortContents others there.0)
    (subst (λ ns. HaveShortContents ns → ⊥) mine here)).1
