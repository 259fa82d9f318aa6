-- For `listing::close`: what it returns is right.
use Rattle.std.proofs.Common.{◌≡◌, ◌++◌, [], ◌∷◌, ap, arith, length, length-append, refl, reverse, subst, sym}
use Rattle.std.proofs.lemmas.Grind.{common_steps}
use Rattle.asn1_der.specs.Listing.{AreExtents, Completes}
use Rattle.asn1_blocks.proofs.Reader.Popping.{reverse-append_last}
use Rattle.asn1_der.proofs.Walk.{AreExtents-more, Completes-ended}
use Rattle.asn1_der.proofs.listing.close.Goals as goal

pub returns-in-Some : goal.returns-in-Some
returns-in-Some c =
    let x = c.args._octets.now in
    let w = c.args.place.now in
    let found = c.args._found.now in
    let e = c.in-Some.extent in
    let popped : w.outer.items ≡ c.pop.new.self.items ++ e ∷ [] = c.in-Some.ensures.items in
    let round = reverse-append_last w.outer.items c.pop.new.self.items e popped in
    let ended = c.requires.ended in
    let p = c.requires.placed in
    record {
      placed = subst (λ z. AreExtents x z (length found) (e ∷ reverse c.pop.new.self.items)) (sym ended)
          (AreExtents-more x w.inner.end w.inner.listed (length found) (e ∷ reverse c.pop.new.self.items) p.among
          (subst (λ z. AreExtents x w.inner.end w.inner.listed z) round p.around));
      all = λ all up.
          Completes-ended x w.index w.inner.end w.inner.unended w.inner.offset w.inner.listed
          (reverse w.outer.items) found all c.requires.no_more ended
          (subst (λ z. Completes x w.inner.end z found all) (sym round)
          (subst (λ z. Completes x z (e ∷ reverse c.pop.new.self.items) found all) ended up));
      fewer = omega (arith, ap length popped, length-append c.pop.new.self.items (e ∷ []));
    }

pub returns-in-None : goal.returns-in-None
returns-in-None c =
    let x = c.args._octets.now in
    let w = c.args.place.now in
    let found = c.args._found.now in
    let none : w.outer.items ≡ [] = grind (arith, common_steps) in
    Completes-ended x w.index w.inner.end w.inner.unended w.inner.offset w.inner.listed (reverse w.outer.items) found
    found c.requires.no_more c.requires.ended
    (subst (λ z. Completes x w.inner.end (reverse z) found found) (sym none) refl)
