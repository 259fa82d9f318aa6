-- For `der::close`: what it returns is right.
use Rattle.std.proofs.Common.{◌≡◌, ◌++◌, [], ◌∷◌, ap, arith, length, length-append, reverse, subst, sym}
use Rattle.std.proofs.lemmas.Grind.{common_steps}
use Rattle.asn1_der.specs.Steps.{AreDerUpTo, AreEnds}
use Rattle.asn1_blocks.proofs.Reader.Popping.{reverse-append_last}
use Rattle.asn1_der.proofs.Turns.{AreDer-none_left}
use Rattle.asn1_der.proofs.der.close.Goals as goal

pub returns-in-Some : goal.returns-in-Some
returns-in-Some c =
    let x = c.args._octets.now in
    let w = c.args.place.now in
    let e = c.in-Some.end in
    let popped : w.outer.items ≡ c.pop.new.self.items ++ e ∷ [] = c.in-Some.ensures.items in
    let round = reverse-append_last w.outer.items c.pop.new.self.items e popped in
    let ended = c.requires.ended in
    let placed = subst (λ z. AreEnds w.end z (length x)) round c.requires.placed.1 in
    record {
      placed = (omega (arith, ended, placed.0), placed.1);
      same = (
        λ p. subst (λ z. AreDerUpTo x z (e ∷ reverse c.pop.new.self.items)) (sym ended)
            (subst (λ z. AreDerUpTo x w.end z) round p.1),
        λ q. (
          AreDer-none_left x w.index w.end ended,
          subst (λ z. AreDerUpTo x w.end z) (sym round)
              (subst (λ z. AreDerUpTo x z (e ∷ reverse c.pop.new.self.items)) ended q),
        ),
      );
      fewer = omega (arith, ap length popped, length-append c.pop.new.self.items (e ∷ []));
    }

pub returns-in-None : goal.returns-in-None
returns-in-None c =
    let x = c.args._octets.now in
    let w = c.args.place.now in
    let none : w.outer.items ≡ [] = grind (arith, common_steps) in
    (AreDer-none_left x w.index w.end c.requires.ended, subst (λ z. AreDerUpTo x w.end (reverse z)) (sym none) tt)
