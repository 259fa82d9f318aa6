-- For `listing::refuse`: what it returns is right.
use Rattle.std.proofs.Common.{◌≡◌, ◌∙◌, ◌+◌, ◌<◌, ◌^◌, ◌++◌, [], ◌∷◌, ap, arith, false, inl, inr, length, length-append, refl, reverse, subst, sym, take, true}
use Rattle.std.proofs.lemmas.Grind.{common_steps}
use Rattle.std.proofs.lemmas.List.{length-take-le}
use Rattle.std.specs.List.{slice_range}
use Rattle.std.specs.Prelude.{Some}
use Rattle.asn1_blocks.proofs.Reader.Popping.{reverse-append_last}
use Rattle.asn1_blocks.proofs.ReadSteps.{length-slice_range}
use Rattle.asn1_der.specs.Departures.{listed}
use Rattle.asn1_der.specs.Listing.{AreExtents, Completes}
use Rattle.asn1_der.specs.declared.rule.Rule.TheVariants.{NotEncodings}
use Rattle.asn1_der.proofs.Alone.{AreEncodings-no_fault_behind}
use Rattle.asn1_der.proofs.Walk.{AreExtents-le, AreExtents-more}
use Rattle.asn1_der.proofs.listing.refuse.Goals as goal

pub returns-in_default-clause-refused : goal.returns-in_default-clause-refused
returns-in_default-clause-refused c =
    let w = c.args.place.now in
    let none : w.outer.items ≡ [] = grind (arith, common_steps) in
    elim c.requires.at_fault [
      | inl memory ↦ inl memory
      | inr fault ↦ inr (c.requires.placed.first_fault (ap reverse none) w.index _ fault)
    ]

pub returns-in-Ok-clause-turned : goal.returns-in-Ok-clause-turned
returns-in-Ok-clause-turned c =
    let x = c.args.octets.now in
    let w = c.args.place.now in
    let found = c.args.found.now.items in
    let e = c.in-Some.extent in
    let p = c.requires.placed in
    let es = reverse c.pop.new.self.items in
    let before = take w.inner.listed found in
    let none = listed w.inner.offset (Some NotEncodings) in
    let small : length x < 2 ^ 64 = omega arith in
    let popped : w.outer.items ≡ c.pop.new.self.items ++ e ∷ [] = c.in-Some.ensures.items in
    let round = reverse-append_last w.outer.items c.pop.new.self.items e popped in
    let size : length (before ++ none) ≡ w.inner.listed + 1 = omega (
      arith,
      length-append before none,
      length-take-le w.inner.listed found p.among,
    ) in
    let within = AreExtents-le x w.inner.end w.inner.listed (reverse w.outer.items) p.around in
    let part = length-slice_range x w.index w.inner.end p.order within in
    let put : c.push.new.self.items ≡ before ++ none =
    c.in-Ok.ensures.items ∙ ap (λ z. z ++ none) c.truncate.ensures.items in
    record {
      placed = subst (λ z. AreExtents x w.inner.end (length z) (e ∷ es)) (sym put)
          (AreExtents-more x w.inner.end w.inner.listed (length (before ++ none)) (e ∷ es) (omega (arith, size))
          (subst (AreExtents x w.inner.end w.inner.listed) round p.around));
      all = λ all up. (
        none,
        inr (
          λ is. absurd (omega (arith, ap length (sym round ∙ is))),
          λ a. elim c.requires.at_fault [
            | inl memory ↦ let is : c.is_out_of_memory.result ≡ true = c.is_out_of_memory.ensures.1 memory in
                let not : c.is_out_of_memory.result ≡ false = c.if-is_out_of_memory.false in
                absurd cc
            | inr fault ↦ AreEncodings-no_fault_behind w.inner.unended w.index w.index
                (slice_range x w.index w.inner.end) _ (omega (arith, part, within, small)) a fault
          ],
          refl,
        ),
        subst (λ z. Completes x w.inner.end z (before ++ none) all) (sym round)
            (subst (λ z. Completes x w.inner.end (e ∷ es) z all) put up),
      );
      fewer = omega (arith, p.order, ap length popped, length-append c.pop.new.self.items (e ∷ []));
    }
