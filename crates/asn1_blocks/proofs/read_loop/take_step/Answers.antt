-- For `read_loop::take_step`: what it returns is right and `read_next` may be called.
use Rattle.std.proofs.Common.{◌≡◌, ℕ, ◌+◌, List, [], ◌∷◌, ◌++◌, length, reverse, ap, subst, arith, length-append}
use Rattle.std.proofs.lemmas.Grind.{common_steps}
use Rattle.asn1_blocks.specs.declared.read_loop.OpenFrame.{OpenFrame}
use Rattle.asn1_blocks.specs.declared.read_loop.Reader.{Reader}
use Rattle.asn1_blocks.specs.Inner.ReaderSteps.{HasStepped, Holding, IsReading, Reads, work_left}
use Rattle.asn1_blocks.proofs.Reader.Closing.{HasEnded-document}
use Rattle.asn1_blocks.proofs.Reader.Opening.{IsReading-places}
use Rattle.asn1_blocks.proofs.Reader.Popping.{reverse-empty, reverse-append_last}
use Rattle.asn1_blocks.proofs.read_loop.take_step.Goals as goal

-- the innermost frame has ended inside another, which was taken out of the list
Reads-at_end : {B I : Type 0} (Holds : Holding B I) (octets : List ℕ) (r : Reader B I) (f : OpenFrame I)
    (after : List (OpenFrame I)) (n : ℕ)
    → r.index ≡ r.inner.extent.end → r.outer.items ≡ after ++ f ∷ []
    → IsReading Holds octets r n → Reads Holds octets r.builder r.inner (f ∷ reverse after) r.inner.extent.end n
Reads-at_end Holds octets r f after n i is w =
    subst (λ z. Reads Holds octets r.builder r.inner z r.inner.extent.end n)
    (reverse-append_last r.outer.items after f is)
    (subst (λ z. Reads Holds octets r.builder r.inner (reverse r.outer.items) z n) i w)

-- as much is left to do when a frame ends as before
work_left-at_end : {B I : Type 0} (size : ℕ) (r : Reader B I) (f : OpenFrame I) (after : List (OpenFrame I)) →
    r.index ≡ r.inner.extent.end
    → r.outer.items ≡ after ++ f ∷ [] →
    work_left size r.inner.extent.end (f ∷ after) ≡ work_left size r.index r.outer.items
work_left-at_end size r f after i is = omega (arith, i, ap length is, length-append after (f ∷ []))

pub read_next-requires-clause-room : goal.read_next-requires-clause-room
read_next-requires-clause-room g c =
    let (n, w, room) = c.requires.reading in
    let v = IsReading-places g.B.Builder.holds c.args.octets.now c.args.reader.now n w in
    omega (arith, v.bound, v.to, v.within, c.if-reader.true, room)

pub returns-then-reader : goal.returns-then-reader
returns-then-reader g c =
    record {
      stepped = λ n base w e.
          let v = IsReading-places g.B.Builder.holds c.args.octets.now c.args.reader.now n w in
          record {
            begun = n + 1;
            counted = omega (arith, e, c.read_next.ensures.counted);
            bounded = omega (arith, v.bound, v.to, v.within, c.if-reader.true);
            stepped = c.read_next.ensures.stepped n w;
          };
    }

pub returns-in-Some : goal.returns-in-Some
returns-in-Some g c =
    record {
      stepped = λ n base w e.
          let octets = c.args.octets.now in
          let r = c.args.reader.now in
          let parent = c.in-Some.parent in
          let after = c.pop.new.self.items in
          let is = c.in-Some.ensures.items in
          let v = IsReading-places g.B.Builder.holds octets r n w in
          let ended = Reads-at_end g.B.Builder.holds octets r parent after n c.if-reader.false is w in
          record {
            begun = n;
            counted = e;
            bounded = omega (arith, v.bound, v.to, v.within);
            stepped = subst (λ z. HasStepped g.B.Builder.holds octets c.close.result c.close.new.reader n z)
                (work_left-at_end (length octets) r parent after c.if-reader.false is)
                (c.close.ensures.stepped n ended);
          };
    }

pub returns-in-None : goal.returns-in-None
returns-in-None g c =
    record {
      stepped = λ n base w e.
          let octets = c.args.octets.now in
          let r = c.args.reader.now in
          let v = IsReading-places g.B.Builder.holds octets r n w in
          let none : length r.outer.items ≡ 0 = grind (arith, common_steps) in
          let whole = subst (λ z. Reads g.B.Builder.holds octets r.builder r.inner z r.index n)
          (reverse-empty r.outer.items none) w in
          let end = subst (λ z. Reads g.B.Builder.holds octets r.builder r.inner [] z n) c.if-reader.false whole in
          record {
            begun = n;
            counted = e;
            bounded = omega (arith, v.bound, v.to, v.within);
            stepped = HasEnded-document g.B.Builder.holds octets
                (record {
                  inner = r.inner;
                  outer = c.pop.new.self;
                  index = r.index;
                  builder = r.builder;
                  fault =
                      r.fault;
                }) n end;
          };
    }
