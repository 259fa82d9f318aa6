-- A header in a frame, and what it leads: a frame inside, or a leaf, for `read_loop`, `read::TreeBuilderBuilder` and
-- `faithful::is_block`.
use Rattle.std.proofs.Common.{◌≡◌, ℕ, ◌+◌, ◌-◌, ◌<◌, ◌≤◌, ◌^◌, true, List, [], ◌∷◌, inl, inr, length, refl, sym, ap, ◌∙◌, subst, append-nil, arith}
use Rattle.std.specs.List.{slice_range}
use Rattle.asn1_headers.specs.declared.error.ASN1DecodeErr.{ASN1DecodeErr}
use Rattle.asn1_headers.specs.declared.error.ASN1DecodeErr.TheVariants.{OutOfMemory}
use Rattle.asn1_headers.specs.declared.header.ASN1Class.{ASN1Class}
use Rattle.asn1_headers.specs.declared.header.ASN1Class.TheVariants.{Universal}
use Rattle.asn1_blocks.specs.declared.parsed.PlacedHeader.{PlacedHeader}
use Rattle.asn1_blocks.specs.declared.read_loop.Attempt as declared
use Rattle.asn1_blocks.specs.declared.read_loop.FrameKind.{FrameKind}
use Rattle.asn1_blocks.specs.declared.read_loop.FrameKind.TheVariants.{Whole, Group, Attempt}
use Rattle.asn1_headers.specs.Fault.{DecodeFault, OutOfMemoryOr, fault_of}
use Rattle.asn1_blocks.specs.Contents.{group_tag, LeafFault}
use Rattle.asn1_headers.specs.HeaderFault.{HeaderFault}
use Rattle.asn1_blocks.specs.Grammar.{Encodes, EncodesAll}
use Rattle.asn1_blocks.specs.Inner.BlockFault.{BlockFaultAt, at_header, at_leaf}
use Rattle.asn1_blocks.specs.HeadersBegun.{IsReadInside, begun_none, begun_some, nothing_inside, nothing_after}
use Rattle.asn1_blocks.specs.Inner.OpenFrames.{Frame, IsAttemptAt, IsHeaded, AreOpen, IsStopping, IsKindOf}
use Rattle.asn1_blocks.specs.Places.{IsEncodingBetween, HeaderFound}
use Rattle.asn1_blocks.specs.Tree.{Tree, trees_of}
use Rattle.asn1_blocks.proofs.Faults.{BlockFaultAt-not_block, HeaderFault-not_encoding}
use Rattle.asn1_blocks.proofs.Frames.Advances.{Follows, AreOpen-places}
use Rattle.asn1_blocks.proofs.Frames.Slices.{slice_range-empty}
use Rattle.asn1_blocks.proofs.HeaderCounts.{HeadersBegun-not_read_inside}
use Rattle.asn1_blocks.proofs.OneReading.{IsBlock-encodes}
use Rattle.asn1_headers.proofs.Prefixes.{Encoding-unique}
use Rattle.asn1_blocks.proofs.ReadSteps.{length-slice_range, slice_range-append}

-- a header that was found stands before the contents octets of a frame of its kind
pub IsHeaded-by_header : (octets : List ℕ) (kind : FrameKind) (reached limit : ℕ) (h : PlacedHeader) → IsKindOf kind h →
    HeaderFound octets reached limit h
    → IsHeaded octets kind reached h.start h.end
IsHeaded-by_header octets Whole reached limit h k w = absurd k
IsHeaded-by_header octets (Group g) reached limit h k w =
    let tag = subst (λ z. IsEncodingBetween octets h.class h.constructed z reached h.start h.end) k.1 w.encoding in
    let own = subst (λ z. IsEncodingBetween octets z h.constructed (group_tag g) reached h.start h.end) k.0 tag in
    record { constructed = h.constructed; encoding = own }
IsHeaded-by_header octets Attempt reached limit h k w =
    let bit = subst (λ z. IsEncodingBetween octets h.class z h.tag reached h.start h.end) k.1 w.encoding in
    (record { class = h.class; offset = reached; tag = h.tag }, refl, record { other = k.0; encoding = bit })

-- the attempt with these fields
abbrev pub attempt_with : ASN1Class → ℕ → ℕ → declared.Attempt
attempt_with class offset tag = record { class = class; offset = offset; tag = tag }

-- whichever attempt begins where the header was found, it has the header's class and tag
pub HeaderFound-same_attempt : (octets : List ℕ) (o e : ℕ) (h : PlacedHeader) → HeaderFound octets o e h →
    (b : declared.Attempt) (start : ℕ) → b.offset ≡ o
    → IsAttemptAt octets b start e → attempt_with h.class o h.tag ≡ b
HeaderFound-same_attempt octets o e h found b start here at =
    let behind = slice_range octets h.end e in
    let d = slice_range-append octets o h.end e (omega (arith, found.starts_after, found.order)) found.ends_within in
    let moved = subst (λ z. IsEncodingBetween octets b.class true b.tag z start e) here at.encoding in
    let z = Encoding-unique _ _ _ _ _ _ _ _ _ _ _ _ behind [] found.encoding moved
    (sym d ∙ sym (append-nil (slice_range octets o e))) in
    ap (λ c. attempt_with c o h.tag) z.class
    ∙ (ap (λ i. attempt_with b.class i h.tag) (sym here) ∙ ap (attempt_with b.class b.offset) z.tag)

-- a frame that is opened inside the innermost one is open, with one header more
pub AreOpen-open : (octets : List ℕ) (f h : Frame) (gs : List Frame) (p n : ℕ) → h.trees ≡ []
    → IsHeaded octets h.extent.kind h.extent.offset h.extent.start h.extent.end → h.extent.offset ≡ p
    → p < h.extent.start → h.extent.start ≤ h.extent.end → h.extent.end ≤ f.extent.end → AreOpen octets f gs p n
    → AreOpen octets h (f ∷ gs) h.extent.start (n + 1)
AreOpen-open octets f h gs p n e H at lt le fits o =
    let w = AreOpen-places octets f gs p n o in
    let s = h.extent.start in
    let none_yet = slice_range-empty octets s s refl in
    record {
      before = n;
      own = 0;
      headed = H;
      after = omega (arith, at, lt);
      ends_within = fits;
      read = record {
        from = omega arith;
        to = le;
        within = omega (arith, fits, w.within);
        encoded = subst (λ z. EncodesAll s (slice_range octets s s) (trees_of z)) (sym e) none_yet;
        begun = begun_none none_yet;
      };
      around = subst (λ z. AreOpen octets f gs z n) (sym at) o;
      total = omega arith;
    }

-- where the next header of a frame is at fault, reading stops there
pub IsStopping-header : (octets : List ℕ) (f : Frame) (gs : List Frame) (p n : ℕ) (e : DecodeFault) →
    length octets < 2 ^ 64 → p < f.extent.end
    → AreOpen octets f gs p n → HeaderFault (p - f.extent.start) (slice_range octets p f.extent.end) e →
    IsStopping octets f gs e p (n + 1)
IsStopping-header octets f gs p n e small here o u =
    let v = AreOpen-places octets f gs p n o in
    let i = p - f.extent.start in
    let rest = slice_range octets p f.extent.end in
    let l = length-slice_range octets p f.extent.end v.to v.within in
    let near : i + length rest < 2 ^ 64 = omega (arith, l, v.from, v.to, v.within, small) in
    let no_header = nothing_inside
    (λ x r c k t contents h g F op. HeaderFault-not_encoding i rest x r e c k t contents h u near g F) in
    let no_block = nothing_after (λ x r g b. BlockFaultAt-not_block i rest x r e 0 (at_header u) near g b) in
    record {
      reached = p;
      before = n;
      own = 1;
      opened = o;
      stops = record {
        here = here;
        inside = 0;
        stops = at_header u;
        innermost = omega arith;
        begun = begun_some (omega (arith, l, here)) 0 0 no_header no_block refl;
      };
      total = refl;
    }

-- where the contents octets of a leaf are at fault, reading stops there
pub IsStopping-leaf : (octets : List ℕ) (f : Frame) (gs : List Frame) (p n : ℕ) (h : PlacedHeader) (e : DecodeFault) →
    length octets < 2 ^ 64
    → HeaderFound octets p f.extent.end h → AreOpen octets f gs p n → (IsReadInside h.class h.constructed h.tag → ⊥) →
    h.class ≡ Universal
    → LeafFault h.tag (slice_range octets h.start h.end) e → IsStopping octets f gs e p (n + 1)
IsStopping-leaf octets f gs p n h e small found o shut u w =
    let v = AreOpen-places octets f gs p n o in
    let i = p - f.extent.start in
    let q = h.end in
    let rest = slice_range octets p f.extent.end in
    let first = slice_range octets p q in
    let behind = slice_range octets q f.extent.end in
    let d =
    slice_range-append octets p q f.extent.end (omega (arith, found.starts_after, found.order)) found.ends_within in
    let l = length-slice_range octets p f.extent.end v.to v.within in
    let near : i + length rest < 2 ^ 64 = omega (arith, l, v.from, v.to, v.within, small) in
    let F = subst (λ z. IsEncodingBetween octets z h.constructed h.tag p h.start h.end) u found.encoding in
    let stops : BlockFaultAt i rest e 0 = at_leaf first behind d F w in
    let here : p < f.extent.end = omega (arith, found.starts_after, found.order, found.ends_within) in
    let no_header = nothing_inside (λ y r c k t contents m g G op.
    let z = Encoding-unique _ _ _ _ _ _ _ _ _ _ _ _ behind r found.encoding G (sym d ∙ g) in
    let tag = subst (λ i. IsReadInside c k i) (sym z.tag) op in
    let bit = subst (λ i. IsReadInside c i h.tag) (sym z.constructed) tag in
    shut (subst (λ i. IsReadInside i h.constructed h.tag) (sym z.class) bit)) in
    let no_block = nothing_after (λ x r g b. BlockFaultAt-not_block i rest x r e 0 stops near g b) in
    record {
      reached = p;
      before = n;
      own = 1;
      opened = o;
      stops = record {
        here = here;
        inside = 0;
        stops = stops;
        innermost = omega arith;
        begun = begun_some (omega (arith, l, here)) 0 0 no_header no_block refl;
      };
      total = refl;
    }

-- a leaf that is read follows in the frame, with one header
pub Follows-leaf : (octets : List ℕ) (f : Frame) (p : ℕ) (h : PlacedHeader) (t : Tree ℕ) →
    HeaderFound octets p f.extent.end h
    → (IsReadInside h.class h.constructed h.tag → ⊥) → Encodes p (slice_range octets p h.end) t →
    Follows octets f p h.end t 1
Follows-leaf octets f p h t found shut w =
    let all = slice_range octets p h.end in
    let contents = slice_range octets h.start h.end in
    record {
      from = omega (arith, found.starts_after, found.order);
      to = found.ends_within;
      encoded = w;
      begun = HeadersBegun-not_read_inside all h.class h.constructed h.tag contents (h.start - p) found.encoding shut
          (IsBlock-encodes p all t w);
    }

-- where memory did not run out, the fault is one of these
pub OutOfMemoryOr-fault : (P : DecodeFault → Type 0) (e : ASN1DecodeErr) → OutOfMemoryOr P e → (e ≡ OutOfMemory → ⊥) →
    P (fault_of e)
OutOfMemoryOr-fault P e (inl m) other = absurd (other m)
OutOfMemoryOr-fault P e (inr p) other = p
