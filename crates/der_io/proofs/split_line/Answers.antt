-- For `split_line`: what it returns is right (`first`).
use Rattle.std.proofs.Common.{◌≡◌, ◌≢◌, ◌+◌, ◌-◌, ◌<◌, ℕ, zero, suc, List, [], ◌∷◌, take, drop, length, slice_index, refl, sym, ap, ◌∙◌, arith}
use Rattle.std.proofs.lemmas.Bool.{eq-eqb, eqb-true, ne_eqb}
use Rattle.std.proofs.lemmas.List.{take_all, length-drop}
use Rattle.memchr.specs.Find.{Nowhere, Passes, is_byte}
use Rattle.der_io.specs.Lines.{lines_of, onto_first_line}
use Rattle.der_io.proofs.split_line.Goals as goal

-- the first line goes to the first byte 0A
lines_of-ended : (input : List ℕ) (n : ℕ) → n < length input → ((i : ℕ) → i < n → slice_index input i ≢ 10) →
    slice_index input n ≡ 10
    → lines_of input ≡ take n input ∷ lines_of (drop (suc n) input)
lines_of-ended [] n l h e = absurd (omega (arith, l))
lines_of-ended (b ∷ input) zero l h e =
    let f : b ≡ 10 = e in
    rw f refl
lines_of-ended (b ∷ input) (suc n) l h e =
    rw (ne_eqb b 10 (h 0 (omega arith)))
    (ap (onto_first_line b) (lines_of-ended input n (omega arith) (λ i lt. h (suc i) (omega arith)) e))

-- where no byte 0A stands, all is one line
lines_of-unended : (input : List ℕ) → 0 < length input → ((i : ℕ) → i < length input → slice_index input i ≢ 10) →
    lines_of input ≡ input ∷ []
lines_of-unended [] l h = absurd (omega (arith, l))
lines_of-unended (b ∷ []) l h = rw (ne_eqb b 10 (h 0 (omega arith))) refl
lines_of-unended (b ∷ c ∷ input) l h =
    rw (ne_eqb b 10 (h 0 (omega arith)))
    (ap (onto_first_line b) (lines_of-unended (c ∷ input) (omega arith) (λ i lt. h (suc i) (omega arith))))

-- as many octets as stand behind a place are all of those behind it
take-drop_suc : (n : ℕ) (xs : List ℕ) → take (length xs - (n + 1)) (drop (n + 1) xs) ≡ drop (suc n) xs
take-drop_suc n xs =
    let e : n + 1 ≡ suc n = omega arith in
    take_all (length xs - (n + 1)) (drop (n + 1) xs) (omega (arith, length-drop (n + 1) xs)) ∙ ap (λ m. drop m xs) e

-- where no byte 0A is found, none stands
slice_index-no_line_feed :
    (input : List ℕ) (n : ℕ) → Nowhere (Passes (is_byte 10) input) 0 n → (i : ℕ) → i < n → slice_index input i ≢ 10
slice_index-no_line_feed input n nowhere i lt e = nowhere i (omega arith) lt (eq-eqb (slice_index input i) 10 e)

pub returns-in-Some-clause-first : goal.returns-in-Some-clause-first
returns-in-Some-clause-first c =
    let input = c.args.input.now in
    let n = c.in-Some.end in
    let found = c.in-Some.ensures in
    lines_of-ended input n found.0.high (slice_index-no_line_feed input n found.0.before)
    (eqb-true (slice_index input n) 10 found.1)
    ∙ ap (λ rest. take n input ∷ lines_of rest) (sym (take-drop_suc n input))

pub returns-in-None-clause-first : goal.returns-in-None-clause-first
returns-in-None-clause-first c =
    lines_of-unended c.args.input.now c.requires (slice_index-no_line_feed c.args.input.now
    (length c.args.input.now) c.in-None.ensures)
