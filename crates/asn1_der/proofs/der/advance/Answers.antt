-- For `der::advance`: what it returns is right and `is_der_alone` may be called.
use Rattle.std.proofs.Common.{◌≡◌, ◌<◌, ◌^◌, ◌++◌, [], ◌∷◌, ap, arith, false, length, length-append, reverse, subst, sym, true}
use Rattle.asn1_der.specs.Steps.{AreDerUpTo, AreEnds}
use Rattle.asn1_blocks.proofs.Reader.Popping.{reverse-append_last}
use Rattle.asn1_der.proofs.Turns.{IsAhead-der, AreEnds-le, AreDerUpTo-opened, AreDerUpTo-passed}
use Rattle.asn1_der.proofs.der.advance.Goals as goal

pub is_der_alone-requires-clause-within : goal.is_der_alone-requires-clause-within
is_der_alone-requires-clause-within c =
    let w = c.args.place.now in
    AreEnds-le w.end (reverse w.outer.items) (length c.args.octets.now) c.requires.placed.1

pub returns-then-not-is_der_alone : goal.returns-then-not-is_der_alone
returns-then-not-is_der_alone c p =
    let x = c.args.octets.now in
    let w = c.args.place.now in
    let small : length x < 2 ^ 64 = omega arith in
    let within = AreEnds-le w.end (reverse w.outer.items) (length x) c.requires.placed.1 in
    let a = IsAhead-der x small w.index w.end within c.args.header.now c.requires.found p.0 in
    let is : c.is_der_alone.result ≡ true = c.is_der_alone.ensures.needed a.whole in
    let not : c.is_der_alone.result ≡ false = c.if-not-is_der_alone.true in
    absurd cc

pub returns-in_ok-push : goal.returns-in_ok-push
returns-in_ok-push c =
    let x = c.args.octets.now in
    let w = c.args.place.now in
    let h = c.args.header.now in
    let f = c.requires.found in
    let es = reverse w.outer.items in
    let small : length x < 2 ^ 64 = omega arith in
    let within = AreEnds-le w.end es (length x) c.requires.placed.1 in
    let pushed : c.push.new.self.items ≡ w.outer.items ++ w.end ∷ [] = c.in_ok-push.ensures.items in
    let round = reverse-append_last c.push.new.self.items w.outer.items w.end pushed in
    let alone = c.is_der_alone.ensures.right c.if-not-is_der_alone.false in
    let both = AreDerUpTo-opened x w.index w.end es h small within f c.if-header.true alone in
    record {
      placed = (f.order, subst (λ z. AreEnds h.end z (length x)) (sym round) (f.ends_within, c.requires.placed.1));
      same = (
        λ p. let q = both.0 p in (q.0, subst (λ z. AreDerUpTo x h.end z) (sym round) q.1),
        λ q. both.1 (q.0, subst (λ z. AreDerUpTo x h.end z) round q.1),
      );
      fewer = omega (
        arith,
        ap length pushed,
        length-append w.outer.items (w.end ∷ []),
        f.starts_after,
        f.order,
        f.ends_within,
        within,
      );
    }

pub returns-else-header : goal.returns-else-header
returns-else-header c =
    let x = c.args.octets.now in
    let w = c.args.place.now in
    let h = c.args.header.now in
    let f = c.requires.found in
    let es = reverse w.outer.items in
    let small : length x < 2 ^ 64 = omega arith in
    let within = AreEnds-le w.end es (length x) c.requires.placed.1 in
    let alone = c.is_der_alone.ensures.right c.if-not-is_der_alone.false in
    let primitive : h.constructed ≡ false = c.if-header.false in
    let both = AreDerUpTo-passed x w.index w.end es h small within f (λ t. cc) alone in
    record {
      placed = (f.ends_within, c.requires.placed.1);
      same = both;
      fewer = omega (arith, f.starts_after, f.order, f.ends_within, within);
    }
