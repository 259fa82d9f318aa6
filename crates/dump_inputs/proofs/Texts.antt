-- Texts that are written one after another, for `sources`.
use Rattle.std.proofs.Common.{◌≡◌, ℕ, List, [], ◌∷◌, ◌++◌, refl, sym, true, ap, ◌∙◌, append_assoc, append-nil}
use Rattle.std.proofs.KnownBytes.{Appends-kept, Appends-nil}
use Rattle.std.specs.Io.KnownBytes.{Keeps}
use Rattle.std.specs.Prelude.{Option}
use Rattle.der_io.proofs.Written.{IsWritten-append}
use Rattle.dump_inputs.specs.Inputs.{IsDone, is_extract}
use Rattle.dump_inputs.specs.Texts.{AreTexts}
use Rattle.dump_options.specs.declared.options.Task.{Task}
use Rattle.dump_options.specs.declared.options.Task.TheVariants.{At, Dump, Extract}

module _ {A B : Type 0} (Is : A → B → List ℕ → Type 0) where
  -- texts of several, and the text of one more behind them, are the texts of all
  AreTexts-append_last :
      (xs : List A) (results : List B) (x : A) (last : B) (text own : List ℕ) →
      AreTexts Is xs results text → Is x last own →
      AreTexts Is (xs ++ x ∷ []) (results ++ last ∷ []) (text ++ own)
  AreTexts-append_last [] [] x last text own e is = (own, [], ap (λ z. z ++ own) e ∙ sym (append-nil own), is, refl)
  AreTexts-append_last (y ∷ ys) (v ∷ vs) x last text own (first, rest, e, h, later) is = (
    first,
    rest ++ own,
    ap (λ z. z ++ own) e ∙ append_assoc first rest own,
    h,
    AreTexts-append_last ys vs x last rest own later is,
  )
  AreTexts-append_last [] (v ∷ vs) x last text own h is = absurd h
  AreTexts-append_last (y ∷ ys) [] x last text own h is = absurd h

  -- where a task was done for several so far, and then for the next one, it was done for all
  pub IsDone-append_next :
      (task : Task) (xs : List A) (results : List B) (x : A) (last : B) (a b c : Option (List ℕ)) →
      IsDone task (AreTexts Is xs results) a b → IsDone task (Is x last) b c →
      IsDone task (AreTexts Is (xs ++ x ∷ []) (results ++ last ∷ [])) a c
  IsDone-append_next Dump xs results x last a b c (text, are) (own, is) =
      (text ++ own, AreTexts-append_last xs results x last text own are is)
  IsDone-append_next (At target) xs results x last a b c (text, are) (own, is) =
      (text ++ own, AreTexts-append_last xs results x last text own are is)
  IsDone-append_next (Extract part target) xs results x last a b c earlier one =
      IsWritten-append _ _ _ a b c (AreTexts-append_last xs results x last) earlier one

-- a task is done by no text
pub IsDone-nil : (task : Task) (Is : List ℕ → Type 0) (a : Option (List ℕ)) → Is [] → IsDone task Is a a
IsDone-nil Dump Is a is = ([], is)
IsDone-nil (At target) Is a is = ([], is)
IsDone-nil (Extract part target) Is a is = ([], Appends-nil a, is)

-- a task that was done still is, where octets as they stand are kept
pub IsDone-kept :
    (task : Task) (Is : List ℕ → Type 0) (a b c : Option (List ℕ)) → IsDone task Is a b →
    (is_extract task ≡ true → Keeps b c) → IsDone task Is a c
IsDone-kept Dump Is a b c done kept = done
IsDone-kept (At target) Is a b c done kept = done
IsDone-kept (Extract part target) Is a b c (text, put, is) kept = (text, Appends-kept a b c text put (kept refl), is)
