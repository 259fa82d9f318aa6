-- A fault goes outward through the frames of the reader, for `read_loop::refuse`.
use Rattle.std.proofs.Common.{◌≡◌, ℕ, ◌<◌, ◌≤◌, ◌^◌, List, [], ◌∷◌, ◌++◌, Global, Vec, length, reverse, true, refl, sym, ap, ◌∙◌, subst, arith, append_assoc, length-append}
use Rattle.std.proofs.lemmas.Bool.{false≢true}
use Rattle.std.proofs.lemmas.List.{length-reverse}
use Rattle.asn1_headers.specs.declared.error.ASN1DecodeErr.{ASN1DecodeErr}
use Rattle.asn1_headers.specs.Fault.{DecodeFault}
use Rattle.asn1_blocks.specs.declared.read_loop.Attempt as declared
use Rattle.asn1_blocks.specs.declared.read_loop.Extent.{Extent}
use Rattle.asn1_blocks.specs.declared.read_loop.FrameKind.{FrameKind}
use Rattle.asn1_blocks.specs.declared.read_loop.FrameKind.TheVariants.{Whole, Group, Attempt}
use Rattle.asn1_blocks.specs.declared.read_loop.OpenFrame.{OpenFrame}
use Rattle.asn1_blocks.specs.Inner.OpenFrames.{IsAttemptAt, IsHeaded, IsStopping, is_attempt}
use Rattle.asn1_blocks.specs.Inner.ReaderSteps.{CanBeKept, GoesOn, HasKept, Holding, IsFaultyDocument, IsRefused, frame, frames, work_left}
use Rattle.asn1_blocks.proofs.Frames.Stopping.{StoppingPlaces, IsClosed-failed_attempt, IsFaultyDocument-stopping, IsStopping-not_blocks, IsStopping-leave_frame, IsStopping-places}
use Rattle.asn1_blocks.proofs.Reader.Closing.{HasNext, GoesOn-follows, HasNext-longer}
use Rattle.asn1_blocks.proofs.Reader.Popping.{reverse-empty, reverse-append_last}

-- the attempt of a frame that is one
pub record HasAttempt (octets : List ℕ) (e : Extent) : Type 0 where
  pub attempt : declared.Attempt
  pub offset : attempt.offset ≡ e.offset
  pub headed : IsAttemptAt octets attempt e.start e.end

-- a frame that is an attempt has the header of one
pub HasAttempt-headed : (octets : List ℕ) (e : Extent) → is_attempt e.kind ≡ true →
    IsHeaded octets e.kind e.offset e.start e.end → HasAttempt octets e
HasAttempt-headed octets e tries H = go e.kind refl
  where
    -- for each kind that a frame could have, it has the header of an attempt if it is one
    go : (kind : FrameKind) → e.kind ≡ kind → HasAttempt octets e
    go Whole d = absurd (subst (λ z. IsHeaded octets z e.offset e.start e.end) d H)
    go (Group y) d = absurd (false≢true (sym (ap is_attempt d) ∙ tries))
    go Attempt d =
        let (a, here, at) = subst (λ z. IsHeaded octets z e.offset e.start e.end) d H in
        record { attempt = a; offset = here; headed = at }

-- there is less left to do when the frame around was taken out of the list
pub work_left-taken_lt : {I : Type 0} (size : ℕ) (f k g : OpenFrame I) (before after : List (OpenFrame I)) → k ≡ f →
    before ≡ after ++ g ∷ []
    → work_left size k.extent.end after < work_left size f.extent.end before
work_left-taken_lt {I} size f k g before after own is =
    let e : k.extent.end ≡ f.extent.end = ap (λ (z : OpenFrame I). z.extent.end) own in
    omega (arith, e, ap length is, length-append after (g ∷ []))

module _ {B I : Type 0} (Holds : Holding B I) (octets : List ℕ) (b : B) where
  -- where the frame around was taken out of the list, the fault is in the innermost frame as before
  pub IsRefused-taken : (f k g h : OpenFrame I) (before after : List (OpenFrame I)) (e : DecodeFault) (offset n : ℕ) →
      k ≡ f → h ≡ g
      → before ≡ after ++ g ∷ [] → IsRefused Holds octets b f (reverse before) e offset n →
      IsRefused Holds octets b k (h ∷ reverse after) e offset n
  IsRefused-taken f k g h before after e offset n own new is r =
      subst (λ z. IsRefused Holds octets b k (z ∷ reverse after) e offset n) (sym new)
      (subst (λ z. IsRefused Holds octets b z (g ∷ reverse after) e offset n) (sym own)
      (subst (λ z. IsRefused Holds octets b f z e offset n) (reverse-append_last before after g is) r))

  -- a fault in a frame without others around it is that of the document
  pub IsFaultyDocument-refused : (f : OpenFrame I) (outer : List (OpenFrame I)) (e : DecodeFault) (offset n : ℕ) →
      length outer ≡ 0
      → IsRefused Holds octets b f (reverse outer) e offset n → IsFaultyDocument octets e offset n
  IsFaultyDocument-refused f outer e offset n none r =
      let alone = subst (λ z. IsStopping octets (frame f r.trees) (frames z r.outer) e offset n)
      (reverse-empty outer none) r.stopping in
      IsFaultyDocument-stopping octets (frame f r.trees) e offset n alone

  -- a fault in the frame k inside the frame h
  module _ (k h : OpenFrame I) (outer : Vec (OpenFrame I) Global) (e : DecodeFault) (offset n : ℕ)
      (small : length octets < 2 ^ 64)
      (r : IsRefused Holds octets b k (h ∷ reverse outer.items) e offset n) where
    -- the trees of the frame around, and those of the frames around that
    enclosing : HasNext r.outer (length (reverse outer.items))
    enclosing = HasNext-longer r.outer (length (reverse outer.items)) r.matched

    -- reading stops in the frame k inside the frame h
    IsStopping-enclosing : IsStopping octets (frame k r.trees)
        (frame h enclosing.next ∷ frames (reverse outer.items) enclosing.others) e offset n
    IsStopping-enclosing =
        subst (λ z. IsStopping octets (frame k r.trees) (frames (h ∷ reverse outer.items) z) e offset n) enclosing.are
        r.stopping

    -- the builder holds the frames around with those that were dropped
    Holds-enclosing : Holds octets b (r.inside ++ k ∷ h ∷ reverse outer.items)
        (r.lost ++ r.trees ∷ enclosing.next ∷ enclosing.others)
    Holds-enclosing =
        subst (λ z. Holds octets b (r.inside ++ k ∷ h ∷ reverse outer.items) (r.lost ++ r.trees ∷ z))
        enclosing.are r.holds

    -- a frame ends within the frame around it
    pub end-enclosing_le : k.extent.end ≤ h.extent.end
    end-enclosing_le = IsStopping-enclosing.opened.ends_within

    -- a fault in a group goes on to the frame around it
    pub IsRefused-leave_frame : (k.extent.kind ≡ Attempt → ⊥) →
        IsRefused Holds octets b h (reverse outer.items) e offset n
    IsRefused-leave_frame other_kind =
        let gs = reverse outer.items in
        let joined = append_assoc r.inside (k ∷ []) (h ∷ gs) in
        let lost = append_assoc r.lost (r.trees ∷ []) (enclosing.next ∷ enclosing.others) in
        record {
          trees = enclosing.next;
          outer = enclosing.others;
          inside = r.inside ++ k ∷ [];
          lost = r.lost ++ r.trees ∷ [];
          matched = enclosing.count;
          dropped = omega (arith, r.dropped, length-append r.inside (k ∷ []), length-append r.lost (r.trees ∷ []));
          holds =
              subst (λ z. Holds octets b z ((r.lost ++ r.trees ∷ []) ++ enclosing.next ∷ enclosing.others)) (sym joined)
              (subst (λ z. Holds octets b (r.inside ++ k ∷ h ∷ gs) z) (sym lost) Holds-enclosing);
          stopping =
              IsStopping-leave_frame octets (frame k r.trees) (frame h enclosing.next)
              (frames gs enclosing.others) e offset n small other_kind
              IsStopping-enclosing;
        }

    -- which attempt the frame is, if it is one
    pub HasAttempt-inside : is_attempt k.extent.kind ≡ true → HasAttempt octets k.extent
    HasAttempt-inside tries = HasAttempt-headed octets k.extent tries IsStopping-enclosing.opened.headed

    -- the encoding of an attempt that stops can be kept
    pub CanBeKept-inside : HasAttempt octets k.extent → CanBeKept octets k.extent
    CanBeKept-inside a =
        let p : StoppingPlaces octets (frame k r.trees) n = IsStopping-places octets (frame k r.trees)
        (frame h enclosing.next ∷ frames (reverse outer.items) enclosing.others) e offset n IsStopping-enclosing in
        record {
          attempt = a.attempt;
          offset = a.offset;
          headed = a.headed;
          after = IsStopping-enclosing.opened.after;
          order = p.order;
          within = p.within;
        }

    -- reading goes on behind an attempt that was kept
    pub GoesOn-kept : HasAttempt octets k.extent → (depth : ℕ) (c : B) (j : I) (fault : ASN1DecodeErr) (most : ℕ) →
        depth ≡ length outer.items → HasKept Holds octets k depth b h.items c j →
        work_left (length octets) k.extent.end outer.items < most →
        GoesOn Holds octets
        (record {
          inner = record { extent = h.extent; items = j };
          outer = outer;
          index = k.extent.end;
          builder =
              c;
          fault = fault;
        }) n most
    GoesOn-kept a depth c j fault most d kept near =
        let gs = reverse outer.items in
        let none =
        IsStopping-not_blocks octets (frame k r.trees) (frame h enclosing.next)
        (frames gs enclosing.others) e offset n small IsStopping-enclosing in
        let after = kept.holds r.inside r.lost h.extent gs r.trees enclosing.next enclosing.others a.attempt
        (omega (arith, d, length-reverse outer.items)) r.dropped a.offset a.headed none Holds-enclosing in
        let closed =
        IsClosed-failed_attempt octets (frame k r.trees) (frame h enclosing.next)
        (frames gs enclosing.others) e offset n a.attempt small a.offset a.headed IsStopping-enclosing in
        GoesOn-follows Holds octets h.extent j outer k.extent.end c fault enclosing.next enclosing.others _ n most near
        enclosing.count after closed
