-- For `read_loop::close`: what it returns is right and `close` may be called.
use Rattle.std.proofs.Common.{◌≡◌, ℕ, ◌<◌, List, ◌∷◌, length, reverse, sym, ap, subst, arith}
use Rattle.std.proofs.lemmas.Grind.{common_steps}
use Rattle.asn1_blocks.specs.declared.read_loop.OpenFrame.{OpenFrame}
use Rattle.asn1_blocks.specs.declared.read_loop.Reader.{Reader}
use Rattle.asn1_blocks.specs.Inner.ReaderSteps.{Holding, Reads, work_left}
use Rattle.asn1_blocks.proofs.Reader.Closing.{CanEnd-inside, GoesOn-ended}
use Rattle.asn1_blocks.proofs.Reader.Memory.{HasStepped-out_of_memory}
use Rattle.asn1_blocks.proofs.read_loop.close.Goals as goal

-- the frame that ended, as it was taken out of the reader
Reads-taken : {B I : Type 0} (Holds : Holding B I) (octets : List ℕ) (r : Reader B I) (k f h : OpenFrame I) (n : ℕ) →
    k ≡ r.inner → h ≡ f
    → Reads Holds octets r.builder r.inner (f ∷ reverse r.outer.items) r.inner.extent.end n
    → Reads Holds octets r.builder k (h ∷ reverse r.outer.items) k.extent.end n
Reads-taken Holds octets r k f h n own new w =
    subst (λ z. Reads Holds octets r.builder k (z ∷ reverse r.outer.items) k.extent.end n) (sym new)
    (subst (λ z. Reads Holds octets r.builder z (f ∷ reverse r.outer.items) z.extent.end n) (sym own) w)

-- less work is left when a frame was taken out of the list
work_left-taken_lt : {B I : Type 0} (octets : List ℕ) (r : Reader B I) (k f : OpenFrame I) → k ≡ r.inner
    → work_left (length octets) k.extent.end r.outer.items < work_left (length octets) r.inner.extent.end
    (f ∷ r.outer.items)
work_left-taken_lt {B} {I} octets r k f own =
    let e : k.extent.end ≡ r.inner.extent.end = ap (λ (z : OpenFrame I). z.extent.end) own in
    omega (arith, e)

pub close-requires : goal.close-requires
close-requires g c =
    let r = c.args.reader.now in
    let k = (c.replace-items.result) in
    let h = c.replace-items.new.dest in
    let n = c.requires.reading.0 in
    let w = Reads-taken g.B.Builder.holds c.args.octets.now r k c.args.parent h n c.replace-items.ensures.value
    c.replace-items.ensures.after c.requires.reading.1 in
    let depth : c.len-depth.result ≡ length r.outer.items = grind (arith, common_steps) in
    CanEnd-inside g.B.Builder.holds c.args.octets.now r.builder k h r.outer n w c.len-depth.result depth

pub returns-in_err-close : goal.returns-in_err-close
returns-in_err-close g c =
    record {
      stepped = λ n w. HasStepped-out_of_memory g.B.Builder.holds c.args.octets.now _ _ n _ c.from_residual.ensures;
    }

pub returns : goal.returns
returns g c =
    record {
      stepped = λ n read.
          let octets = c.args.octets.now in
          let r = c.args.reader.now in
          let k = (c.replace-items.result) in
          let h = c.replace-items.new.dest in
          let own = c.replace-items.ensures.value in
          let w = Reads-taken g.B.Builder.holds octets r k c.args.parent h n own c.replace-items.ensures.after read in
          let depth : c.len-depth.result ≡ length r.outer.items = grind (arith, common_steps) in
          GoesOn-ended g.B.Builder.holds octets r.builder k h r.outer n w c.len-depth.result c.close.new.self
          c.close.new.parent r.fault _ depth
          c.in_ok-close.ensures (work_left-taken_lt octets r k c.args.parent own);
    }
