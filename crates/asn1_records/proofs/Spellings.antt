-- One record more is spelled before the others, for the functions of `spelling`.
use Rattle.std.proofs.Common.{◌≡◌, ℕ, zero, suc, ◌+◌, ◌-◌, ◌<◌, ◌≤◌, ◌^◌, Bool, true, List, [], ◌∷◌, ◌++◌, drop, get_or, length, take, refl, sym, subst, ap, ◌∙◌, arith, length-append, append_assoc, Result, Ok, Err}
use Rattle.std.specs.Prelude.{IfErr, IsTrue, nat_lt}
use Rattle.std.specs.List.{concat}
use Rattle.std.proofs.Math.Seq.{get_or-append_seam, take-length}
use Rattle.std.proofs.lemmas.List.{get_or_append_left, length-take-le, take-append-drop, take-append-le}
use Rattle.std.proofs.lemmas.List.Folds.{concat-append}
use Rattle.simple_asn1.specs.Canonical.{shortest_encoding}
use Rattle.simple_asn1.specs.Header.{class_number, shortest_identifier, shortest_length}
use Rattle.asn1_headers.specs.declared.header.ASN1Class.{ASN1Class}
use Rattle.asn1_records.specs.declared.record.Block.{Block}
use Rattle.asn1_records.specs.Inner.InRecords.{HoldsBlocks, IsCanonicalBlock}
use Rattle.asn1_records.proofs.CanonicalRecords.{AreCanonicalBlocks-drop, AreCanonicalBlocks-take, IsCanonicalBlock-holding}
use Rattle.asn1_records.specs.Spelled.{IsState, IsUnspellable, spelled_contents, greatest_tag, has_too_many, spells_contents, spells_items, starts_of}

-- encodings have as many places as there are encodings
pub length-starts_of : (xs : List (List ℕ)) → length (starts_of xs) ≡ length xs
length-starts_of [] = refl
length-starts_of (x ∷ xs) = omega (arith, length-starts_of xs, length-append (starts_of xs) (length (concat xs) ∷ []))

-- without the first k encodings, the places of encodings are the first of the places of all, which begin with the last
take-starts_of : (k : ℕ) (xs : List (List ℕ)) → k ≤ length xs →
    take (length xs - k) (starts_of xs) ≡ starts_of (drop k xs)
take-starts_of zero xs h =
    let n : length xs - zero ≡ length (starts_of xs) = omega (arith, length-starts_of xs) in
    ap (λ z. take z (starts_of xs)) n ∙ take-length (starts_of xs)
take-starts_of (suc k) [] h = absurd (omega (arith, h))
take-starts_of (suc k) (x ∷ xs) h =
    let n : length (x ∷ xs) - suc k ≡ length xs - k = omega arith in
    let l : length xs - k ≤ length (starts_of xs) = omega (arith, length-starts_of xs) in
    ap (λ z. take z (starts_of (x ∷ xs))) n ∙ take-append-le (length xs - k) (starts_of xs) (length (concat xs) ∷ []) l
    ∙ take-starts_of k xs (omega (arith, h))

-- the place of the encoding behind k others is the length of the encodings behind it
get_or-starts_of : (k : ℕ) (xs : List (List ℕ)) → suc k ≤ length xs →
    get_or (starts_of xs) (length xs - suc k) 0 ≡ length (concat (drop (suc k) xs))
get_or-starts_of k [] h = absurd (omega (arith, h))
get_or-starts_of zero (x ∷ xs) h =
    let n : length (x ∷ xs) - suc zero ≡ length (starts_of xs) = omega (arith, length-starts_of xs) in
    ap (λ z. get_or (starts_of (x ∷ xs)) z 0) n ∙ get_or-append_seam (starts_of xs) (length (concat xs)) [] 0
get_or-starts_of (suc k) (x ∷ xs) h =
    let n : length (x ∷ xs) - suc (suc k) ≡ length xs - suc k = omega arith in
    let l : length xs - suc k < length (starts_of xs) = omega (arith, h, length-starts_of xs) in
    ap (λ z. get_or (starts_of (x ∷ xs)) z 0) n
    ∙ get_or_append_left (starts_of xs) (length (concat xs) ∷ []) 0 (length xs - suc k) l
    ∙ get_or-starts_of k xs (omega (arith, h))

-- there is an encoding for each place, and each begins among the octets
module _ (octets : List ℕ) (rs : List Block) (spelled starts : List ℕ) (was : Bool)
    (state : IsState octets rs spelled starts was) where
  -- there are as many places as encodings
  pub length-starts : length starts ≡ length state.xs
  length-starts = ap length state.places ∙ length-starts_of state.xs

  -- the first of the last encodings starts among the octets
  pub start-within : (k start : ℕ) → 0 < k → k ≤ length starts → start ≡ get_or starts (length starts - k) 0 →
      start ≤ length spelled
  start-within zero start some few began = absurd (omega (arith, some))
  start-within (suc k) start some few began =
      let xs = state.xs in
      let fits : suc k ≤ length xs = omega (arith, few, length-starts) in
      let at : start ≡ length (concat (drop (suc k) xs)) =
      began ∙ ap (λ z. get_or z (length z - suc k) 0) state.places
      ∙ ap (λ z. get_or (starts_of xs) (z - suc k) 0) (length-starts_of xs) ∙ get_or-starts_of k xs fits in
      let whole : concat (take (suc k) xs) ++ concat (drop (suc k) xs) ≡ concat xs =
      sym (concat-append (take (suc k) xs) (drop (suc k) xs)) ∙ ap concat (take-append-drop (suc k) xs) in
      omega (
        arith,
        at,
        ap length state.joined,
        ap length whole,
        length-append (concat (take (suc k) xs)) (concat (drop (suc k) xs)),
      )

module _ (octets : List ℕ) (r : Block) (class : ASN1Class) (is : class_number class ≡ r.tag_class)
    (rs : List Block) (spelled starts new_spelled new_starts : List ℕ) (was now : Bool)
    (state : IsState octets rs spelled starts was) where
  open state use {xs}

  -- a record with contents octets of its own is spelled before the others
  pub IsState-contents :
      r.tag < greatest_tag → r.items ≡ 0 → r.offset + r.header + r.contents ≤ length octets → (with_contents : List ℕ) →
      with_contents ≡ spelled_contents octets r ++ spelled →
      new_spelled ≡ shortest_identifier class (nat_lt 0 r.constructed) r.tag ++
      (shortest_length (length (spelled_contents octets r)) ++ with_contents) →
      new_starts ≡ starts ++ length spelled ∷ [] → (IsTrue now → IsTrue was) →
      (IsTrue now →
      IsCanonicalBlock (shortest_encoding class (nat_lt 0 r.constructed) r.tag (spelled_contents octets r))) →
      IsState octets (r ∷ rs) new_spelled new_starts now
  IsState-contents low none within with_contents put headed started so_far this =
      let v = spelled_contents octets r in
      let i = shortest_identifier class (nat_lt 0 r.constructed) r.tag in
      let l = shortest_length (length v) in
      let inner : with_contents ≡ v ++ concat xs = put ∙ ap (λ z. v ++ z) state.joined in
      record {
        xs = shortest_encoding class (nat_lt 0 r.constructed) r.tag v ∷ xs;
        spells = spells_contents r class is low none within state.spells;
        joined = headed ∙ ap (λ z. i ++ (l ++ z)) inner
            ∙ sym (append_assoc i (l ++ v) (concat xs) ∙ ap (λ z. i ++ z) (append_assoc l v (concat xs)));
        places = started ∙ ap (λ z. z ++ length spelled ∷ []) state.places
            ∙ ap (λ z. starts_of xs ++ length z ∷ []) state.joined;
        found = λ yes. (this yes, state.found (so_far yes));
      }

  -- a record around the encodings that follow it is spelled before the others
  pub IsState-items :
      (start size : ℕ) (left : List ℕ) → r.tag < greatest_tag → 0 < r.items → r.items ≤ length starts →
      left ≡ take (length starts - r.items) starts →
      start ≡ get_or starts (length starts - r.items) 0 → size + start ≡ length spelled →
      new_spelled ≡ shortest_identifier class true r.tag ++ (shortest_length size ++ spelled) →
      new_starts ≡ left ++ start ∷ [] → size < 2 ^ 64 → (IsTrue now → IsTrue was) →
      (IsTrue now → HoldsBlocks class r.tag r.items) →
      IsState octets (r ∷ rs) new_spelled new_starts now
  IsState-items start size left low some few taken began sized headed started small so_far this =
      let k = r.items in
      let count : length starts ≡ length xs = ap length state.places ∙ length-starts_of xs in
      let fits : k ≤ length xs = omega (arith, few, count) in
      let whole : concat (take k xs) ++ concat (drop k xs) ≡ concat xs =
      sym (concat-append (take k xs) (drop k xs)) ∙ ap concat (take-append-drop k xs) in
      let at : start ≡ length (concat (drop k xs)) =
      began ∙ ap (λ z. get_or z (length z - k) 0) state.places
      ∙ ap (λ z. get_or (starts_of xs) (z - k) 0) (length-starts_of xs)
      ∙ begins k some fits in
      let i = shortest_identifier class true r.tag in
      let inside : size ≡ length (concat (take k xs)) =
      omega (
        arith,
        sized,
        at,
        ap length state.joined,
        ap length whole,
        length-append (concat (take k xs)) (concat (drop k xs)),
      ) in
      let v = concat (take k xs) in
      let l = shortest_length (length v) in
      let rest : left ≡ starts_of (drop k xs) =
      taken ∙ ap (λ z. take (length z - k) z) state.places ∙ ap (λ z. take (z - k) (starts_of xs)) (length-starts_of xs)
      ∙ take-starts_of k xs fits in
      record {
        xs = shortest_encoding class true r.tag v ∷ drop k xs;
        spells = spells_items r class is low some fits state.spells;
        joined = headed ∙ ap (λ z. i ++ (shortest_length z ++ spelled)) inside
            ∙ ap (λ z. i ++ (l ++ z)) (state.joined ∙ sym whole)
            ∙ sym (append_assoc i (l ++ v) (concat (drop k xs))
            ∙ ap (λ z. i ++ z) (append_assoc l v (concat (drop k xs))));
        places = started ∙ ap (λ z. z ++ start ∷ []) rest ∙ ap (λ z. starts_of (drop k xs) ++ z ∷ []) at;
        found = λ yes. (
          IsCanonicalBlock-holding class r.tag k (take k xs) (this yes) (sym (length-take-le k xs fits))
              (subst (λ z. z < 2 ^ 64) inside small)
              (AreCanonicalBlocks-take k xs (state.found (so_far yes))),
          AreCanonicalBlocks-drop k xs (state.found (so_far yes)),
        );
      }
    where
      -- the place of the last of some encodings in front is the length of the encodings behind it
      begins : (k : ℕ) → 0 < k → k ≤ length xs → get_or (starts_of xs) (length xs - k) 0 ≡ length (concat (drop k xs))
      begins zero some fits = absurd (omega (arith, some))
      begins (suc k) some fits = get_or-starts_of k xs fits

-- a record that holds more encodings than there are has no spelling
pub IsUnspellable-too_many :
    (octets : List ℕ) (r : Block) (spelled starts : List ℕ) (was : Bool) (E : Type 0) (bad : E)
    (put : Result (Unit {0}) E) →
    IfErr put (λ e. e ≡ bad → (rs : List Block) → IsState octets rs spelled starts was → length starts < r.items) →
    IfErr put (λ e. e ≡ bad → (rs : List Block) → (s : IsState octets rs spelled starts was) →
    IsUnspellable octets s.xs r)
IsUnspellable-too_many octets r spelled starts was E bad (Ok x) h = h
IsUnspellable-too_many octets r spelled starts was E bad (Err e) h =
    λ same rs s. let few = h same rs s in
    has_too_many (omega (arith, few, length-starts octets rs spelled starts was s))
