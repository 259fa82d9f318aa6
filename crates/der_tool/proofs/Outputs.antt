-- Each input has one output that answers it, for `laws::law_one_output`.
use Rattle.std.proofs.Common.{◌≡◌, ◌==◌, ◌<◌, ◌≤◌, ◌^◌, ◌++◌, ◌⊎◌, ℕ, zero, suc, List, [], ◌∷◌, length, Result, Ok, Err, inl, inr, refl, sym, ap, ◌∙◌, arith}
use Rattle.std.specs.Prelude.{MatchResult, codes}
use Rattle.std.proofs.lemmas.Bool.{cond_both}
use Rattle.hex.specs.declared.error.FromHexError.{FromHexError}
use Rattle.hex.specs.Hex.{decode_of, encode_upper}
use Rattle.hex.proofs.HexLemmas.{decode_of-ok}
use Rattle.simple_asn1.specs.Canonical.{all_canonical}
use Rattle.simple_asn1.specs.Laws.Unambiguous.{Unambiguous}
use Rattle.simple_asn1.specs.Laws.Strict.{StrictReading}
use Rattle.simple_asn1.specs.Fault.{DecodeFault}
use Rattle.der_io.specs.Lines.{lines_of, onto_first_line}
use Rattle.der_tool.specs.declared.answers.Reading.{Reading}
use Rattle.der_tool.specs.declared.answers.Reading.TheVariants.{Lenient, Strict}
use Rattle.der_tool.specs.Answers.{IsAccepted, IsRefused, refusal, IsVerdict, IsAnswer, AreLineAnswers}

-- no line is longer than n
abbrev AreWithin : ℕ → List (List ℕ) → Type 0
AreWithin n [] = Unit {0}
AreWithin n (line ∷ lines) = (length line ≤ n) × AreWithin n lines

-- lines that are no longer than a number are no longer than the next one
AreWithin-suc : (lines : List (List ℕ)) (n : ℕ) → AreWithin n lines → AreWithin (suc n) lines
AreWithin-suc [] n all = tt
AreWithin-suc (line ∷ lines) n all = (omega (arith, all.0), AreWithin-suc lines n all.1)

-- with an octet put onto the first line, no line is longer than one octet more
AreWithin-onto_first_line :
    (b : ℕ) (lines : List (List ℕ)) (n : ℕ) → AreWithin n lines → AreWithin (suc n) (onto_first_line b lines)
AreWithin-onto_first_line b [] n all = (omega arith, tt)
AreWithin-onto_first_line b (line ∷ lines) n all = (omega (arith, all.0), AreWithin-suc lines n all.1)

-- no line is longer than the input
AreWithin-lines_of : (input : List ℕ) (n : ℕ) → length input ≤ n → AreWithin n (lines_of input)
AreWithin-lines_of [] n h = tt
AreWithin-lines_of (b ∷ input) zero h = absurd (omega (arith, h))
AreWithin-lines_of (b ∷ input) (suc n) h =
    let all = AreWithin-lines_of input n (omega (arith, h)) in
    cond_both (b == 10) ([] ∷ lines_of input) (onto_first_line b (lines_of input)) (AreWithin (suc n)) (λ _. (
      omega arith,
      AreWithin-suc (lines_of input) n all,
    )) (λ _. AreWithin-onto_first_line b (lines_of input) n all)

-- the octets of a line are fewer than its digits
length-decoded_lt : (line octets : List ℕ) (n : ℕ) → length line ≤ n → n < 2 ^ 64 → decode_of line ≡ Ok octets →
    length octets < 2 ^ 64
length-decoded_lt line octets n within small is = omega (arith, within, small, (decode_of-ok line octets is).2)

-- octets are accepted with one canonical form, or refused with one fault, and not both
record Settled (reading : Reading) : Type 0 where
  either :
      (octets : List ℕ) → length octets < 2 ^ 64 →
      ((canonical : List ℕ) × IsAccepted reading octets canonical) ⊎ ((e : DecodeFault) × IsRefused reading octets e)
  not_both : (octets a : List ℕ) (e : DecodeFault) → length octets < 2 ^ 64 → IsAccepted reading octets a →
      IsRefused reading octets e → ⊥
  one : (octets a b : List ℕ) → IsAccepted reading octets a → IsAccepted reading octets b → a ≡ b
  one_fault : (octets : List ℕ) (e d : DecodeFault) → length octets < 2 ^ 64 → IsRefused reading octets e →
      IsRefused reading octets d → e ≡ d

-- where the laws of unambiguous and of strict reading hold, each reading settles all octets
Settled-laws : Unambiguous → StrictReading → (reading : Reading) → Settled reading
Settled-laws law strict Lenient = record {
  either = λ octets small. elim (law.either octets small)
      [ inl d ↦ inl (all_canonical d.0, (d.0, d.1, refl)) | inr f ↦ inr f ];
  not_both = λ octets a e small d f. law.not_both octets d.0 e small d.1 f;
  one = λ octets a b d e. d.2 ∙ (ap all_canonical (law.one_document octets d.0 e.0 d.1 e.1) ∙ sym e.2);
  one_fault = law.one_fault;
}
Settled-laws law strict Strict = record {
  either = λ octets small. elim (strict.either octets small) [ inl d ↦ inl (octets, (d, refl)) | inr f ↦ inr f ];
  not_both = λ octets a e small d f. strict.not_both octets d.0.0 e small d.0.1 f;
  one = λ octets a b d e. d.1 ∙ sym e.1;
  one_fault = strict.one_fault;
}

-- fewer than 2^64 octets have no two answers, where the reading settles them
IsVerdict-unique :
    (reading : Reading) → Settled reading → (octets a b : List ℕ) → length octets < 2 ^ 64 →
    IsVerdict reading octets a → IsVerdict reading octets b → a ≡ b
IsVerdict-unique reading law octets a b small (inl d) (inl e) =
    d.2 ∙ (ap (λ s. codes "ok " ++ encode_upper s) (law.one octets d.0 e.0 d.1 e.1) ∙ sym e.2)
IsVerdict-unique reading law octets a b small (inl d) (inr f) = absurd (law.not_both octets d.0 f.0 small d.1 f.1)
IsVerdict-unique reading law octets a b small (inr f) (inl d) = absurd (law.not_both octets d.0 f.0 small d.1 f.1)
IsVerdict-unique reading law octets a b small (inr f) (inr g) =
    f.2 ∙ (ap refusal (law.one_fault octets f.0 g.0 small f.1 g.1) ∙ sym g.2)

-- fewer than 2^64 octets have an answer, where the reading settles them
IsVerdict-some : (reading : Reading) → Settled reading → (octets : List ℕ) → length octets < 2 ^ 64
    → (answer : List ℕ) × IsVerdict reading octets answer
IsVerdict-some reading law octets small =
    elim (law.either octets small) [
      | inl d ↦ (codes "ok " ++ encode_upper d.0, inl (d.0, d.1, refl))
      | inr f ↦ (refusal f.0, inr (f.0, f.1, refl))
    ]

-- a line of fewer than 2^64 octets has no two answers, where the reading settles octets
IsAnswer-unique :
    (reading : Reading) → Settled reading → (line a b : List ℕ) (n : ℕ) → length line ≤ n → n < 2 ^ 64 →
    IsAnswer reading line a → IsAnswer reading line b → a ≡ b
IsAnswer-unique reading law line a b n within small u v = go (decode_of line) refl u v
  where
    go : (r : Result (List ℕ) FromHexError) → decode_of line ≡ r →
        MatchResult r (λ octets. IsVerdict reading octets a) (λ _. a ≡ codes "badhex")
        → MatchResult r (λ octets. IsVerdict reading octets b) (λ _. b ≡ codes "badhex") → a ≡ b
    go (Ok octets) is u v =
        IsVerdict-unique reading law octets a b (length-decoded_lt line octets n within small is) u v
    go (Err e) is u v = u ∙ sym v

-- a line of fewer than 2^64 octets has an answer, where the reading settles octets
IsAnswer-some : (reading : Reading) → Settled reading → (line : List ℕ) (n : ℕ) → length line ≤ n → n < 2 ^ 64
    → (answer : List ℕ) × IsAnswer reading line answer
IsAnswer-some reading law line n within small = go (decode_of line) refl
  where
    go :
        (r : Result (List ℕ) FromHexError) → decode_of line ≡ r →
        (answer : List ℕ) × MatchResult r (λ octets. IsVerdict reading octets answer) (λ _. answer ≡ codes "badhex")
    go (Ok octets) is = IsVerdict-some reading law octets (length-decoded_lt line octets n within small is)
    go (Err e) is = (codes "badhex", refl)

-- lines of fewer than 2^64 octets each have no two outputs that answer them, where the reading settles octets
AreLineAnswers-unique :
    (reading : Reading) → Settled reading → (lines : List (List ℕ)) (a b : List ℕ) (n : ℕ) → AreWithin n lines →
    n < 2 ^ 64 →
    AreLineAnswers reading lines a → AreLineAnswers reading lines b → a ≡ b
AreLineAnswers-unique reading law [] a b n all small u v = u ∙ sym v
AreLineAnswers-unique reading law (line ∷ lines) a b n all small u v =
    let (x, xs, p, i, r) = u in
    let (y, ys, q, j, s) = v in
    let first = IsAnswer-unique reading law line x y n all.0 small i j in
    let rest = AreLineAnswers-unique reading law lines xs ys n all.1 small r s in
    p ∙ (ap (λ z. z ++ 10 ∷ xs) first ∙ (ap (λ z. y ++ 10 ∷ z) rest ∙ sym q))

-- lines of fewer than 2^64 octets each have an output that answers them, where the reading settles octets
AreLineAnswers-some :
    (reading : Reading) → Settled reading → (lines : List (List ℕ)) (n : ℕ) → AreWithin n lines → n < 2 ^ 64 →
    (output : List ℕ) × AreLineAnswers reading lines output
AreLineAnswers-some reading law [] n all small = ([], refl)
AreLineAnswers-some reading law (line ∷ lines) n all small =
    let x = IsAnswer-some reading law line n all.0 small in
    let r = AreLineAnswers-some reading law lines n all.1 small in
    (x.0 ++ 10 ∷ r.0, (x.0, r.0, refl, x.1, r.1))

-- an input has an output that answers it
pub AreAnswers-some :
    Unambiguous → StrictReading → (reading : Reading) (input : List ℕ) → length input < 2 ^ 64 →
    (output : List ℕ) × AreLineAnswers reading (lines_of input) output
AreAnswers-some law strict reading input small =
    AreLineAnswers-some reading (Settled-laws law strict reading) (lines_of input) (length input)
    (AreWithin-lines_of input (length input) (omega arith)) small

-- an input has no two outputs
pub AreAnswers-unique :
    Unambiguous → StrictReading → (reading : Reading) (input a b : List ℕ) → length input < 2 ^ 64 →
    AreLineAnswers reading (lines_of input) a → AreLineAnswers reading (lines_of input) b → a ≡ b
AreAnswers-unique law strict reading input a b small u v =
    AreLineAnswers-unique reading (Settled-laws law strict reading) (lines_of input) a b (length input)
    (AreWithin-lines_of input (length input) (omega arith)) small u v
