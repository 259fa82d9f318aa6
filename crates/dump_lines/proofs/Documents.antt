-- What is wrong with a document, for `document`.
use Rattle.std.proofs.Common.{◌≡◌, ℕ, Bool, false, List, [], ◌∷◌, ◌++◌, refl, ap, ◌∙◌, subst}
use Rattle.std.specs.Prelude.{Option}
use Rattle.dump_lines.specs.Dump.{AreShown, AreTextsOf, IsDumpOfSome, verdict_of}
use Rattle.dump_lines.specs.Steps.{IsWhole, first_of}
use Rattle.dump_lines.specs.declared.document.Verdict.{Verdict}
use Rattle.dump_rows.proofs.Printed.{IsPrinted-append}
use Rattle.dump_rows.specs.Printing.{IsPrinted, PrintsText}
use Rattle.dump_rows.specs.declared.printer.Printer.{Printer}
use Rattle.dump_walk.specs.declared.place.Place.{Place}

-- the first fault decides as all do
verdict_of-first : (marks faults : List ℕ) → verdict_of (marks ++ first_of faults) ≡ verdict_of (marks ++ faults)
verdict_of-first [] [] = refl
verdict_of-first [] (offset ∷ faults) = refl
verdict_of-first (mark ∷ marks) faults = refl

-- where the encodings of a document were put, and then what is wrong with it, its dump was
pub IsDumpOfSome-put :
    {W : Type 0} (contents : W → Option (List ℕ)) (strict : Bool) (most : Option ℕ) (place : Place)
    (octets first marks : List ℕ) (a b c : Printer W) (verdict : Verdict) → place.is_inside ≡ false →
    place.base ≡ 0 → place.depth ≡ 0 → place.style.most_depth ≡ most → verdict ≡ verdict_of (marks ++ first) →
    IsPrinted contents (IsWhole strict place octets first [] marks) a b → PrintsText contents b c →
    IsPrinted contents (IsDumpOfSome strict most octets verdict) a c
IsDumpOfSome-put contents strict most place octets first marks a b c verdict i z d m v these =
    IsPrinted-append contents _ _ (IsDumpOfSome strict most octets verdict) a b c
    (λ lines rest s last.
    let (all, texts) = s.put in
    let one = subst (λ x. AreShown x place.base place.depth octets s.fronts s.shown) i s.are in
    let two = subst (λ x. AreShown false x place.depth octets s.fronts s.shown) z one in (
      s.fronts,
      s.faults,
      s.shown,
      lines,
      rest,
      refl,
      s.read,
      subst (λ x. AreShown false 0 x octets s.fronts s.shown) d two,
      subst (λ x. AreTextsOf x s.shown lines) m texts,
      v
          ∙ (ap (λ x. verdict_of (marks ++ x)) s.first_is
          ∙ (verdict_of-first marks s.faults ∙ ap (λ x. verdict_of (x ++ s.faults)) all)),
    )) these
