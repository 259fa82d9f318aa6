-- For `in_place::are_clearly_canonical_in_place`: its loop keeps its invariant and what it returns is right
-- (`canonical`).
use Rattle.std.proofs.Common.{◌≡◌, ◌++◌, ◌∷◌, [], ℕ, List, Bor, Some, sym, subst, arith}
use Rattle.std.specs.Prelude.{All, IfSome}
use Rattle.std.proofs.lemmas.Grind.{common_steps}
use Rattle.std.proofs.lemmas.List.Elements.{All-nil, All-pop, All-push}
use Rattle.asn1_writing.specs.Inner.InPlace.{AreCanonical, LeavesBoth}
use Rattle.asn1_writing.proofs.InPlace.{AreCanonical-empty}
use Rattle.asn1_writing.proofs.in_place.are_clearly_canonical_in_place.Goals as goal

-- octets that wait to be gone over are canonical
abbrev Waits : Bor (List ℕ) → Type 0
Waits x = AreCanonical x.now

-- where all octets that wait are canonical, those before the last are, and the last are
All-append_last : (xs ys : List (Bor (List ℕ))) (x : Bor (List ℕ)) → ys ≡ xs ++ x ∷ [] → All Waits ys →
    All Waits xs × Waits x
All-append_last xs ys x e all = All-pop Waits ys xs (Some x) e all

pub headers-preserved : goal.headers-preserved
headers-preserved c next outer =
    let left = c.pop.new.self.items in
    let items : c.headers.outer.items ≡ left ++ c.in-Some-pop.next ∷ [] = grind (arith, common_steps) in
    c.headers.invariant (AreCanonical-empty c.headers.rest.now (grind (arith, common_steps)))
    (subst (All Waits) (sym items) (All-push Waits left c.in-Some-pop.next outer next))

pub returns-in-None-clause-canonical : goal.returns-in-None-clause-canonical
returns-in-None-clause-canonical c is_true =
    let items : c.headers.outer.items ≡ [] = grind (arith, common_steps) in
    c.headers.invariant (AreCanonical-empty c.headers.rest.now (grind (arith, common_steps)))
    (subst (All Waits) (sym items) (All-nil Waits))

pub headers-preserved-then-is_empty : goal.headers-preserved-then-is_empty
headers-preserved-then-is_empty c after outer =
    let leaves : LeavesBoth c.headers.rest.now c.in-Some.inside.now c.in-Some.after.now =
    subst (λ f. IfSome f (λ x. LeavesBoth c.headers.rest.now x.0.now x.1.now)) c.in-Some.is c.in_ok-inside.ensures in
    c.headers.invariant (leaves.canonical (AreCanonical-empty c.in-Some.inside.now (grind (arith, common_steps))) after)
    outer

pub headers-preserved-else-is_empty : goal.headers-preserved-else-is_empty
headers-preserved-else-is_empty c inside outer =
    let waits = c.in-Some.after in
    let leaves : LeavesBoth c.headers.rest.now c.in-Some.inside.now waits.now =
    subst (λ f. IfSome f (λ x. LeavesBoth c.headers.rest.now x.0.now x.1.now)) c.in-Some.is c.in_ok-inside.ensures in
    let pushed = All-append_last c.headers.outer.items c.push.new.self.items waits c.in_ok-push.ensures.ok outer in
    c.headers.invariant (leaves.canonical inside pushed.1) pushed.0
