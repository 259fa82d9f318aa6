-- For `frequent::begin_with_frequent`: what it returns is right.
use Rattle.std.proofs.Common.{◌≡◌, ◌∷◌, ◌∙◌, ap, drop, get_or, length, subst, sym, arith}
use Rattle.std.specs.List.{slice_range}
use Rattle.std.proofs.lemmas.Grind.{common_steps}
use Rattle.std.proofs.lemmas.List.{length-drop, take_all}
use Rattle.asn1_writing.specs.Inner.CanonicalEncoding.{BeginsCanonical}
use Rattle.asn1_writing.proofs.FrequentEncodings.{BeginsCanonical-leaf}
use Rattle.asn1_writing.proofs.frequent.begin_with_frequent.Goals as goal

pub returns-in-2 : goal.returns-in-2
returns-in-2 c is_true =
    let x = c.args.octets.now in
    let rest = slice_range x 2 (length x) in
    let same : drop 2 x ≡ rest = sym (take_all _ (drop 2 x) (omega (arith, length-drop 2 x))) in
    let front : x ≡ 2 ∷ get_or x 1 0 ∷ drop 2 x = grind (arith, common_steps) in
    BeginsCanonical-leaf x rest 2 (get_or x 1 0) (omega arith) (c.begin_with_integer.ensures.short is_true)
    (front ∙ ap (λ z. 2 ∷ get_or x 1 0 ∷ z) same) (c.begin_with_integer.ensures.canonical is_true)

pub returns-in-len2-up : goal.returns-in-len2-up
returns-in-len2-up c is_true =
    let x = c.args.octets.now in
    let rest = slice_range x 2 (length x) in
    let same : drop 2 x ≡ rest = sym (take_all _ (drop 2 x) (omega (arith, length-drop 2 x))) in
    let front : x ≡ get_or x 0 0 ∷ get_or x 1 0 ∷ drop 2 x = grind (arith, common_steps) in
    subst BeginsCanonical (sym (front ∙ ap (λ z. get_or x 0 0 ∷ get_or x 1 0 ∷ z) same)) (c.is_frequent.ensures is_true)
