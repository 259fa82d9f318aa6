-- An encoding of class Universal with a header of two octets, for `alone::short_universal_at`.
use Rattle.std.proofs.Common.{◌≡◌, ℕ, ◌-◌, ◌<◌, ◌≤◌, ◌%◌, Bool, true, false, List, [], ◌∷◌, ◌++◌, drop, get_or, length, take, refl, sym, ap, ◌∙◌, inl, inr, arith}
use Rattle.std.proofs.lemmas.Bool.{cases_lt}
use Rattle.std.proofs.lemmas.List.{length-take-le, take-append-drop, take_all}
use Rattle.asn1_headers.specs.declared.header.ASN1Class.TheVariants.{Universal}
use Rattle.simple_asn1.specs.Header.{Encoding, leading_octet}
use Rattle.asn1_records.specs.Values.{UniversalAt}

-- the octets begin with two octets and as many as the second says
pub record BeginsWithTwo (rest v : List ℕ) (b n : ℕ) : Type 0 where
  pub whole : rest ≡ b ∷ n ∷ (v ++ drop n (drop 2 rest))
  pub size : length v ≡ n

-- octets split behind their first two begin with them and with as many as the second says
pub BeginsWithTwo-short : (rest v : List ℕ) → 2 ≤ length rest →
    get_or rest 1 0 ≤ length (take (length rest - 2) (drop 2 rest))
    → v ≡ take (get_or rest 1 0) (take (length rest - 2) (drop 2 rest)) →
    BeginsWithTwo rest v (get_or rest 0 0) (get_or rest 1 0)
BeginsWithTwo-short [] v some within is = absurd (omega (arith, some))
BeginsWithTwo-short (b ∷ []) v some within is = absurd (omega (arith, some))
BeginsWithTwo-short (b ∷ n ∷ more) v some within is =
    let all : take (length (b ∷ n ∷ more) - 2) more ≡ more = take_all (length (b ∷ n ∷ more) - 2) more (omega arith) in
    let v_is : v ≡ take n more = is ∙ ap (take n) all in
    let low : n ≤ length more = omega (arith, within, ap length all) in
    record {
      whole = ap (λ z. b ∷ n ∷ z) (sym (take-append-drop n more) ∙ ap (λ z. z ++ drop n more) (sym v_is));
      size = ap length v_is ∙ length-take-le n more low;
    }

module _ (x : List ℕ) (offset b n : ℕ) (v behind : List ℕ) (here : drop offset x ≡ b ∷ n ∷ (v ++ behind))
    (low : b % 32 < 31) (short : n < 128) (size : length v ≡ n) where
  -- at the offset stands an encoding of class Universal with a header of two octets, by its leading octet
  UniversalAt-leading_octet : (k : Bool) → b ≡ leading_octet Universal k (b % 32) → UniversalAt x offset (b % 32) v
  UniversalAt-leading_octet k leading =
      let own : Encoding (b ∷ n ∷ v) Universal k (b % 32) v 2 = record {
        identifier = b ∷ [];
        len = n ∷ [];
        identifier_octets = (low, leading);
        length_octets = inl (short, refl, size);
        whole = refl;
        size = refl;
      } in
      record {
        whole = b ∷ n ∷ v;
        at = record {
          rest = behind;
          at_offset = here;
          encoding = record {
            class = Universal;
            constructed = k;
            tag = b % 32;
            contents = v;
            header = 2;
            encoding =
                own;
          };
        };
        constructed = k;
        header = 2;
        encoding = own;
      }

  -- at the offset stands an encoding of class Universal with a header of two octets
  pub UniversalAt-short : b < 64 → UniversalAt x offset (b % 32) v
  UniversalAt-short small = elim (cases_lt b 32) [
    | inl lt ↦ UniversalAt-leading_octet false (omega (arith, lt))
    | inr ge ↦ UniversalAt-leading_octet true (omega (arith, ge, small))
  ]
