-- Inputs that were written and readers that were read, one after another, for `sources::answer_all`.
use Rattle.std.proofs.Common.{◌≡◌, ◌<◌, ◌+◌, ℕ, suc, List, [], ◌∷◌, ◌++◌, arith, drop, get_or, length, map, refl, false, is_err, is_ok, if◌then◌else◌, set, sym, take, ◌∙◌}
use Rattle.std.specs.Prelude.{Option, Result, Ok, Err}
use Rattle.std.proofs.lemmas.List.{drop-set-lt, map-append, take_more}
use Rattle.std.proofs.lemmas.Grind.{take-set_at}
use Rattle.std.proofs.Math.Seq.{drop-cons}
use Rattle.dump_inputs.proofs.Texts.{IsDone-append_next}
use Rattle.dump_inputs.specs.Inputs.{AreReadToEnds, IsDone, IsReadToEnd}
use Rattle.dump_inputs.specs.Texts.{AreTexts}
use Rattle.dump_inputs.specs.declared.outcome.Outcome.{Outcome}
use Rattle.dump_options.specs.declared.options.Task.{Task}

-- readers that were read to their ends, and one more, are all read to their ends
AreReadToEnds-append_last :
    (outcomes : List Outcome) (left : List (Option (List ℕ))) (last : Outcome) (its : Option (List ℕ)) →
    AreReadToEnds outcomes left → IsReadToEnd last its → AreReadToEnds (outcomes ++ last ∷ []) (left ++ its ∷ [])
AreReadToEnds-append_last [] [] last its h e = (e, tt)
AreReadToEnds-append_last (v ∷ vs) (x ∷ xs) last its (first, rest) e =
    (first, AreReadToEnds-append_last vs xs last its rest e)
AreReadToEnds-append_last [] (x ∷ xs) last its h e = absurd h
AreReadToEnds-append_last (v ∷ vs) [] last its h e = absurd h

-- where a result is no `Err`, the outcome was pushed behind the others
append-pushed :
    {T E : Type 0} (r : Result T E) (was now : List Outcome) (last : Outcome) → is_err r ≡ false →
    now ≡ (if is_ok r then was ++ last ∷ [] else was) → now ≡ was ++ last ∷ []
append-pushed (Ok x) was now last e p = p
append-pushed (Err x) was now last e p = absurd (cc e)

-- a loop has come to the source at a place: those from there on are as they were
module _ {S T E : Type 0} (i : ℕ) (all now : List S) (l : i < length all) (n : length now ≡ length all)
    (left : drop i now ≡ drop i all) (r : Result T E) (were are : List Outcome) (last : Outcome)
    (e : is_err r ≡ false) (p : are ≡ (if is_ok r then were ++ last ∷ [] else were)) where
  -- the source at the place and those behind it are as they were
  cons-get_or_drop : (d : S) → get_or now i d ∷ drop (i + 1) now ≡ get_or all i d ∷ drop (i + 1) all
  cons-get_or_drop d =
      let m : i < length now = omega arith in
      let next : i + 1 ≡ suc i = omega arith in
      rw next (sym (drop-cons now i d m) ∙ left ∙ drop-cons all i d l)

  -- the source at the place is as it was
  get_or-not_come_to : (d : S) → get_or now i d ≡ get_or all i d
  get_or-not_come_to d = let both = cons-get_or_drop d in cc

  -- where the source at the place is replaced, those behind it are as they were
  pub drop-set_next : (y : S) → drop (i + 1) (set now i y) ≡ drop (i + 1) all
  drop-set_next y = drop-set-lt (i + 1) now i y (omega arith) ∙ (let both = cons-get_or_drop y in cc)

  -- where a task was done for the sources before the place, and then for the next one, it was for all up to it
  pub IsDone-next_source :
      {A : Type 0} (Is : A → Outcome → List ℕ → Type 0) (input : S → A) (d : S) (task : Task)
      (a b c : Option (List ℕ)) →
      IsDone task (AreTexts Is (map input (take i all)) were) a b →
      IsDone task (Is (input (get_or now i d)) last) b c →
      IsDone task (AreTexts Is (map input (take (i + 1) all)) are) a c
  IsDone-next_source Is input d task a b c earlier one =
      let more = map-append input (take i all) (get_or all i d ∷ []) in
      rw (take_more all i d l, more, ← get_or-not_come_to d, append-pushed r were are last e p)
      (IsDone-append_next Is task (map input (take i all)) were (input (get_or now i d)) last a b c earlier one)

  -- where the readers before the place were read to their ends, and the next one was, all up to it were
  pub AreReadToEnds-next_source :
      (rest : S → Option (List ℕ)) (y : S) → AreReadToEnds were (map rest (take i now)) → IsReadToEnd last (rest y) →
      AreReadToEnds are (map rest (take (i + 1) (set now i y)))
  AreReadToEnds-next_source rest y earlier one =
      let m : i < length now = omega arith in
      let more = map-append rest (take i now) (y ∷ []) in
      rw (take-set_at now i (i + 1) y refl m, more, append-pushed r were are last e p)
      (AreReadToEnds-append_last were (map rest (take i now)) last (rest y) earlier one)
