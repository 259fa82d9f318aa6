-- The first step, and what each kind of step says, for `read_loop::read_into`.
use Rattle.std.proofs.Common.{◌≡◌, ℕ, Bool, true, false, List, [], Option, Some, None, Result, Ok, Err, length, reverse, refl, sym, subst, arith}
use Rattle.asn1_headers.specs.declared.error.ASN1DecodeErr.{ASN1DecodeErr}
use Rattle.asn1_headers.specs.Fault.{OutOfMemoryOr}
use Rattle.asn1_blocks.specs.declared.read_loop.FrameKind.TheVariants.{Whole}
use Rattle.asn1_blocks.specs.declared.read_loop.OpenFrame.{OpenFrame}
use Rattle.asn1_blocks.specs.declared.read_loop.Reader.{Reader}
use Rattle.asn1_blocks.specs.HeadersBegun.{begun_none}
use Rattle.asn1_blocks.specs.Inner.ReaderSteps.{GoesOn, HasEnded, HasRecovered, Holding, IsFaulty, IsFaultyDocument, IsStepped, Reads, StartsEmpty}
use Rattle.asn1_blocks.proofs.Frames.Slices.{slice_range-empty}

module _ {B I : Type 0} (Holds : Holding B I) (octets : List ℕ) where
  -- at first nothing is read, and the frame of the document is open
  pub Reads-first : (b : B) (items : I) (outer : List (OpenFrame I)) → outer ≡ [] → StartsEmpty Holds octets b items
      → Reads Holds octets b
      (record { extent = record { kind = Whole; offset = 0; start = 0; end = length octets }; items = items })
      (reverse outer) 0 0
  Reads-first b items outer none h =
      let f : OpenFrame I =
      record { extent = record { kind = Whole; offset = 0; start = 0; end = length octets }; items = items } in
      let z = slice_range-empty octets 0 0 refl in
      let first : Reads Holds octets b f [] 0 0 = record {
        trees = [];
        outer = [];
        matched = refl;
        holds = h;
        opened = record {
          whole = record { kind = refl; start = refl; end = refl };
          read = record {
            from = omega arith;
            to = omega arith;
            within = omega arith;
            encoded = z;
            begun =
                begun_none z;
          };
        };
      } in
      subst (λ x. Reads Holds octets b f (reverse x) 0 0) (sym none) first

  -- where no step is left, the whole document was read
  pub IsStepped-ended : (s : Option (Result (Unit {0}) ASN1DecodeErr)) (r : Reader B I) (n most : ℕ) → s ≡ None →
      IsStepped Holds octets s r n most
      → HasEnded Holds octets r n
  IsStepped-ended s r n most e w = subst (λ z. IsStepped Holds octets z r n most) e w

  -- after a step that succeeded reading goes on
  pub IsStepped-goes_on : (s : Option (Result (Unit {0}) ASN1DecodeErr)) (x : Unit {0}) (r : Reader B I) (n most : ℕ) →
      s ≡ Some (Ok x)
      → IsStepped Holds octets s r n most → GoesOn Holds octets r n most
  IsStepped-goes_on s x r n most e w = subst (λ z. IsStepped Holds octets z r n most) e w

  -- a step that failed ran out of memory or met a fault
  pub IsStepped-fault : (s : Option (Result (Unit {0}) ASN1DecodeErr)) (x : ASN1DecodeErr) (r : Reader B I)
      (n most : ℕ) →
      s ≡ Some (Err x)
      → IsStepped Holds octets s r n most → OutOfMemoryOr (λ fault. IsFaulty Holds octets r fault n most) x
  IsStepped-fault s x r n most e w = subst (λ z. IsStepped Holds octets z r n most) e w

  -- reading goes on behind a fault, or the fault is that of the document
  pub HasRecovered-goes_on : (b : Bool) (r : Reader B I) (n most : ℕ) → b ≡ true →
      HasRecovered Holds octets b r n most →
      GoesOn Holds octets r n most
  HasRecovered-goes_on b r n most e w = subst (λ z. HasRecovered Holds octets z r n most) e w

  -- where a reader does not recover, its fault is that of the document
  pub HasRecovered-stops : (b : Bool) (r : Reader B I) (n most : ℕ) → b ≡ false → HasRecovered Holds octets b r n most
      → OutOfMemoryOr (λ fault. IsFaultyDocument octets fault r.index n) r.fault
  HasRecovered-stops b r n most e w = subst (λ z. HasRecovered Holds octets z r n most) e w
