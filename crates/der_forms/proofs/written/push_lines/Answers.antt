-- For `written::push_lines`: its loop keeps its invariant.
use Rattle.std.proofs.Common.{◌≡◌, ◌∙◌, ◌<◌, ℕ, suc, min, List, [], ◌∷◌, ◌++◌, ap, refl, arith, rules, append_assoc, drop, length, length-append, take, inl, inr}
use Rattle.std.proofs.lemmas.Bool.{cases_lt}
use Rattle.std.proofs.lemmas.List.{append-nil, drop_all, drop_at, nil_from_length, take_all, take_at}
use Rattle.std.specs.Slice.Iter.{chunks_rest}
use Rattle.std.specs.String.{string_bytes}
use Rattle.base64.specs.Engines.{standard}
use Rattle.base64.specs.GeneralPurpose.{encode_of}
use Rattle.der_forms.specs.Written.{base64_lines, line_count}
use Rattle.der_io.specs.Characters.{line_feed}
use Rattle.der_forms.proofs.written.push_lines.Goals as goal

-- the first part of the octets, of which one line is, and the rest
parts :
    (part rest : List ℕ) → length part ≡ min 48 (length (part ++ rest)) →
    (take 48 (part ++ rest) ≡ part) × (drop 48 (part ++ rest) ≡ rest)
parts part rest size =
    let sum = length-append part rest in
    elim (cases_lt (length (part ++ rest)) 48) [
      | inl short ↦
          let none : rest ≡ [] = nil_from_length rest (omega (arith, sum, size)) in
          rw (none, append-nil part)
          (take_all 48 part (omega (arith, sum, size, short)), drop_all 48 part (omega (arith, sum, size, short)))
      | inr long ↦
          let full : length part ≡ 48 = omega (arith, size, long) in
          (take_at part rest 48 full, drop_at part rest 48 full)
    ]

first_line :
    (part rest : List ℕ) → length part ≡ min 48 (length (part ++ rest)) → 0 < length (part ++ rest) →
    base64_lines (line_count (part ++ rest)) (part ++ rest)
    ≡ encode_of standard part ++ line_feed ∷ base64_lines (line_count rest) rest
first_line part rest size some =
    let sum = length-append part rest in
    let count : line_count (part ++ rest) ≡ suc (line_count rest) = omega (arith, sum, size, some) in
    let both = parts part rest size in
    rw (count, both.0, both.1) refl

joined : (t e b : List ℕ) → ((t ++ e) ++ line_feed ∷ []) ++ b ≡ t ++ (e ++ line_feed ∷ b)
joined t e b = append_assoc (t ++ e) (line_feed ∷ []) b ∙ append_assoc t e (line_feed ∷ b)

pub loop-part-preserved : goal.loop-part-preserved
unfolding lib.Utf8.encode
loop-part-preserved c =
    let steps = c.in-Some.ensures.steps in
    let size = c.loop-part.invariant.2 in
    let part : List ℕ = c.in-Some.part.now in
    let rest : List ℕ = chunks_rest c.next.new.self in
    let text : List ℕ = string_bytes c.loop-part.text in
    let appended : string_bytes c.push.new.self ≡ (text ++ encode_of standard part) ++ line_feed ∷ [] =
    c.in_ok-push.ensures.bytes ∙ ap (λ (t : List ℕ). t ++ line_feed ∷ []) c.in_ok-encode_string.ensures.ok in
    let line = first_line part rest (rw (size, steps.1.0) at steps.1.1) (rw steps.1.0 at steps.1.2) in
    let whole = rw (steps.1.0, line) at c.loop-part.invariant.3 in
    let lines = joined text (encode_of standard part) (base64_lines (line_count rest) rest) in
    (search rules, tt, steps.0 ∙ size, rw appended (lines ∙ whole))
