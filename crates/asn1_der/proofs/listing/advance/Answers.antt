-- For `listing::advance`: what it returns is right and `push_own` may be called.
use Rattle.std.proofs.Common.{◌≡◌, ◌<◌, ◌++◌, ◌∙◌, [], ◌∷◌, ap, append-nil, append_assoc, arith, false, length, length-append, refl, reverse, subst, sym, true}
use Rattle.std.proofs.lemmas.List.Elements.{All-from_get_or}
use Rattle.std.specs.List.{slice_range}
use Rattle.std.specs.Prelude.{◌&&◌}
use Rattle.asn1_der.specs.Departures.{ListsInside, is_open, nothing_inside, own_departures}
use Rattle.asn1_der.specs.Listing.{AreExtents, Completes}
use Rattle.asn1_blocks.proofs.ReadSteps.{length-slice_range}
use Rattle.asn1_blocks.proofs.Reader.Popping.{reverse-append_last}
use Rattle.asn1_der.proofs.Walk.{AreExtents-step, Completes-opened, Completes-step, HeaderFaultBehind-next, StepsTo-next, unended_behind-not_open, unended_behind-open, is_looked_into-constructed, is_looked_into-open, is_looked_into-primitive}
use Rattle.asn1_der.proofs.Shortest.{HasParts-found}
use Rattle.asn1_der.proofs.listing.advance.Goals as goal

pub push_own-requires : goal.push_own-requires
push_own-requires c =
    let h = c.args.header.now in
    let f = c.requires.header in
    length-slice_range c.args.octets.now h.start h.end f.order (omega (arith, f.ends_within, c.requires.within))

pub returns-then-header : goal.returns-then-header
returns-then-header c =
    let x = c.args.octets.now in
    let w = c.args.place.now in
    let o = w.inner.offset in
    let e = w.inner.end in
    let u = w.inner.unended in
    let l = w.inner.listed in
    let h = c.args.header.now in
    let f = c.requires.header in
    let p = c.requires.placed in
    let es = reverse w.outer.items in
    let found = c.args.found.now.items in
    let within = c.requires.within in
    let len = f.encoding.len in
    let all = All-from_get_or (λ b. b < 256) x 0 (λ k h. omega (arith, c.type_inv.octets k)) in
    let (r, pushed) = c.in_ok-push_own.ensures f.encoding.identifier len (HasParts-found x w.index e h f all within) in
    let own = own_departures w.index r in
    let is : is_open h.constructed len ≡ true =
    sym (f.indefinite ∙ ap (λ b. h.constructed && b) f.length_80) ∙ c.if-header.true in
    let count = unended_behind-open u h.constructed len is in
    let looked = is_looked_into-open h.constructed len is in
    record {
      placed = AreExtents-step x o e u w.index _ _ l (length found) _ es p
          (HeaderFaultBehind-next x w.index e h f within u _ c.requires.no_end count) f.ends_within
          (omega (arith, p.room, f.starts_after, f.order)) (omega (arith, ap length pushed, length-append found own));
      all = λ all up.
          Completes-step x o e u w.index _ _ l _ es found _ all
          (StepsTo-next x w.index e h f within u _ c.requires.no_end count r [] (nothing_inside looked refl))
          p.among (pushed ∙ ap (λ z. found ++ z) (sym (append-nil own))) up;
      fewer = omega (arith, f.starts_after, f.order, f.ends_within, within);
    }

pub returns-then-not-header : goal.returns-then-not-header
returns-then-not-header c =
    let x = c.args.octets.now in
    let w = c.args.place.now in
    let o = w.inner.offset in
    let e = w.inner.end in
    let u = w.inner.unended in
    let l = w.inner.listed in
    let h = c.args.header.now in
    let f = c.requires.header in
    let p = c.requires.placed in
    let es = reverse w.outer.items in
    let found = c.args.found.now.items in
    let within = c.requires.within in
    let len = f.encoding.len in
    let all = All-from_get_or (λ b. b < 256) x 0 (λ k h. omega (arith, c.type_inv.octets k)) in
    let (r, pushed) = c.in_ok-push_own.ensures f.encoding.identifier len (HasParts-found x w.index e h f all within) in
    let own = own_departures w.index r in
    let is : is_open h.constructed len ≡ false =
    sym (f.indefinite ∙ ap (λ b. h.constructed && b) f.length_80) ∙ c.if-header.false in
    let count = unended_behind-not_open u h.constructed len is in
    let looked = is_looked_into-primitive h.constructed len c.if-not-header.true in
    record {
      placed = AreExtents-step x o e u w.index _ _ l (length found) _ es p
          (HeaderFaultBehind-next x w.index e h f within u _ c.requires.no_end count) f.ends_within
          (omega (arith, p.room, f.starts_after, f.order)) (omega (arith, ap length pushed, length-append found own));
      all = λ all up.
          Completes-step x o e u w.index _ _ l _ es found _ all
          (StepsTo-next x w.index e h f within u _ c.requires.no_end count r [] (nothing_inside looked refl))
          p.among (pushed ∙ ap (λ z. found ++ z) (sym (append-nil own))) up;
      fewer = omega (arith, f.starts_after, f.order, f.ends_within, within);
    }

pub returns : goal.returns
returns c =
    let x = c.args.octets.now in
    let w = c.args.place.now in
    let o = w.inner.offset in
    let e = w.inner.end in
    let u = w.inner.unended in
    let l = w.inner.listed in
    let h = c.args.header.now in
    let f = c.requires.header in
    let p = c.requires.placed in
    let es = reverse w.outer.items in
    let found = c.args.found.now.items in
    let within = c.requires.within in
    let len = f.encoding.len in
    let all = All-from_get_or (λ b. b < 256) x 0 (λ k h. omega (arith, c.type_inv.octets k)) in
    let (r, pushed) = c.in_ok-push_own.ensures f.encoding.identifier len (HasParts-found x w.index e h f all within) in
    let own = own_departures w.index r in
    let new = c.push_own.new.found.items in
    let n = c.len.result in
    let before : n ≡ length new = c.len.ensures ∙ c.push_own.new.found.ok.0 in
    let is : is_open h.constructed len ≡ false =
    sym (f.indefinite ∙ ap (λ b. h.constructed && b) f.length_80) ∙ c.if-header.false in
    let count = unended_behind-not_open u h.constructed len is in
    let looked = is_looked_into-constructed h.constructed len c.if-not-header.false is in
    let put : c.push.new.self.items ≡ w.outer.items ++ w.inner ∷ [] = c.in_ok-push.ensures.items in
    let round = reverse-append_last c.push.new.self.items w.outer.items w.inner put in
    let around = AreExtents-step x o e u w.index _ _ l (length found) n es p
    (HeaderFaultBehind-next x w.index e h f within u _ c.requires.no_end count) f.ends_within
    (omega (arith, p.room, f.starts_after, f.order))
    (omega (arith, before, ap length pushed, length-append found own)) in
    record {
      placed = record {
        order = f.order;
        room = omega arith;
        among = omega (arith, before);
        first_fault = λ none. absurd (omega (arith, ap length (sym round ∙ none)));
        around = subst (AreExtents x h.end n) (sym round) around;
      };
      all = λ all up.
          let at = subst (λ z. Completes x h.start
          (record { offset = w.index; end = h.end; unended = 0; listed = n } ∷ z) new all) round up in
          let (inside, ins, on) = Completes-opened x w.index h.start h.end e u o l es new all
          (subst (λ z. Completes x h.start (record { offset = w.index; end = h.end; unended = 0; listed = z }
          ∷ w.inner ∷ es) new all) before at) in
          Completes-step x o e u w.index _ _ l _ es found (new ++ inside) all
          (StepsTo-next x w.index e h f within u _ c.requires.no_end count r inside
          (subst (λ z. ListsInside w.index h.start z (slice_range x h.start h.end) inside) (sym looked) ins))
          p.among (ap (λ z. z ++ inside) pushed ∙ append_assoc found own inside) on;
      fewer = omega (
        arith,
        ap length put,
        length-append w.outer.items (w.inner ∷ []),
        f.starts_after,
        f.order,
        f.ends_within,
        within,
      );
    }
