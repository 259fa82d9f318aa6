-- One turn over open encodings, for `der::take_turn`, `der::advance` and `der::close`.
use Rattle.std.proofs.Common.{◌≡◌, ℕ, ◌-◌, ◌<◌, ◌≤◌, ◌^◌, true, List, [], ◌∷◌, length, sym, subst, arith}
use Rattle.std.specs.Prelude.{◌↔◌}
use Rattle.std.specs.List.{slice_range}
use Rattle.asn1_blocks.specs.Places.{HeaderFound}
use Rattle.asn1_blocks.specs.declared.parsed.PlacedHeader.{PlacedHeader}
use Rattle.asn1_blocks.proofs.PlacedHeaders.{length-slice_range-at_header, slice_range-at_header, starts_before_end}
use Rattle.asn1_blocks.proofs.ReadSteps.{length-slice_range}
use Rattle.asn1_der.specs.Der.{AreDerEncodings, more_encodings, no_encodings}
use Rattle.asn1_der.specs.Steps.{AreDer, AreDerUpTo, AreEnds, IsDerAlone, IsWhole}
use Rattle.asn1_der.proofs.DerEncodings.{AreDer-first, IsDerEncoding-whole, IsWhole-der}
use Rattle.asn1_blocks.proofs.Frames.Slices.{slice_range-empty}

-- the encoding with the header is of DER, and so is what follows it
pub record IsAhead (x : List ℕ) (e : ℕ) (i : ℕ) (h : PlacedHeader) : Type 0 where
  pub whole : IsWhole (slice_range x i h.end) h.class h.constructed h.tag (slice_range x h.start h.end)
  pub behind : AreDer (slice_range x h.end e)

module _ (x : List ℕ) (small : length x < 2 ^ 64) (i e : ℕ) (within : e ≤ length x) (h : PlacedHeader)
    (f : HeaderFound x i e h) where
  -- where the octets left are DER, the encoding with the header is of DER, and what follows it is DER
  pub IsAhead-der : AreDer (slice_range x i e) → IsAhead x e i h
  IsAhead-der d =
      let size = length-slice_range x i e (omega (arith, starts_before_end x i e h f within, f.ends_within)) within in
      let s = AreDer-first (slice_range x i e) (slice_range x i h.end) (slice_range x h.end e) h.class h.constructed
      h.tag (slice_range x h.start h.end) (h.start - i) f.encoding (slice_range-at_header x i e h f within)
      (omega (arith, size, small, within)) d in
      record {
        whole = IsWhole-der (slice_range x i h.end) h.class h.constructed h.tag (slice_range x h.start h.end)
            (h.start - i)
            (omega (arith, length-slice_range-at_header x i e h f within, small, within, f.ends_within))
            f.encoding s.der;
        behind = s.more;
      }

  -- where the encoding with the header is of DER, and what follows it is DER, the octets left are DER
  pub AreDer-ahead : IsAhead x e i h → AreDer (slice_range x i e)
  AreDer-ahead a =
      let (items, ds) = a.behind in (
        slice_range x i h.end ∷ items,
        more_encodings (slice_range-at_header x i e h f within)
            (IsDerEncoding-whole (slice_range x i h.end) h.class h.constructed h.tag (slice_range x h.start h.end)
            a.whole) ds,
      )

-- the last of ends that ascend from an index is not before the index
pub AreEnds-le : (i : ℕ) (es : List ℕ) (n : ℕ) → AreEnds i es n → i ≤ n
AreEnds-le i [] n h = omega (arith, h)
AreEnds-le i (e ∷ es) n h = omega (arith, h.0, AreEnds-le e es n h.1)

-- of an encoding that has ended nothing is left, so that what is left is DER
pub AreDer-none_left : (x : List ℕ) (i e : ℕ) → i ≡ e → AreDer (slice_range x i e)
AreDer-none_left x i e h =
    ([], subst (λ z. AreDerEncodings z []) (sym (slice_range-empty x i e h)) no_encodings)

-- where an encoding is opened, the octets left are DER exactly if those inside it and those behind it are
pub AreDerUpTo-opened :
    (x : List ℕ) (i e : ℕ) (es : List ℕ) (h : PlacedHeader) → length x < 2 ^ 64 → e ≤ length x → HeaderFound x i e h →
    h.constructed ≡ true →
    IsDerAlone (slice_range x i h.end) h.class h.constructed h.tag (slice_range x h.start h.end) →
    AreDerUpTo x i (e ∷ es) ↔ AreDerUpTo x h.start (h.end ∷ e ∷ es)
AreDerUpTo-opened x i e es h small within f constructed alone = (
  λ p. let a = IsAhead-der x small i e within h f p.0 in (a.whole.items constructed, (a.behind, p.1)),
  λ (inside, (behind, more)). (
    AreDer-ahead x small i e within h f (record {
      whole = record { alone = alone; items = λ t. inside };
      behind = behind;
    }),
    more,
  ),
)

-- where a primitive encoding that is right by itself is passed, the octets left are DER exactly if what follows it is
pub AreDerUpTo-passed :
    (x : List ℕ) (i e : ℕ) (es : List ℕ) (h : PlacedHeader) → length x < 2 ^ 64 → e ≤ length x → HeaderFound x i e h →
    (h.constructed ≡ true → ⊥) →
    IsDerAlone (slice_range x i h.end) h.class h.constructed h.tag (slice_range x h.start h.end) →
    AreDerUpTo x i (e ∷ es) ↔ AreDerUpTo x h.end (e ∷ es)
AreDerUpTo-passed x i e es h small within f primitive alone = (
  λ p. let a = IsAhead-der x small i e within h f p.0 in (a.behind, p.1),
  λ q. (
    AreDer-ahead x small i e within h f (record {
      whole = record { alone = alone; items = λ t. absurd (primitive t) };
      behind = q.0;
    }),
    q.1,
  ),
)
