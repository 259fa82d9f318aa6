-- Elements by the offsets of their lines, for `block`.
use Rattle.std.proofs.Common.{◌≡◌, inl, inr, ℕ, suc, ◌+◌, ◌<◌, ◌≤◌, true, false, List, [], ◌∷◌, ◌++◌, length, slice_range, refl, sym, ap, ◌∙◌, subst, append_assoc, arith}
use Rattle.std.specs.List.{AllByRecursion}
use Rattle.std.specs.Prelude.{Bool, Err, Result}
use Rattle.asn1_der.specs.declared.rule.Rule.{Rule}
use Rattle.dump_walk.specs.ByOffset.{BeginWith, Finds, GoUpTo, HasLineAt, HasNoElementAt, IsElementAt, IsElsewhere, IsEndLine, IsFoundAt, IsLineOf, IsNoEndOf, inside_string, itself, no_line, of_definite_length, of_indefinite_form, of_other, too_short, without_end}
use Rattle.dump_walk.specs.ByOffsetSteps.{EndsAt, HasCome, HasNoEnd, HasPassed, IsNext, IsWholeKind, StandsInside}
use Rattle.dump_walk.specs.Fronts.{Front, HoldsBehind}
use Rattle.dump_walk.specs.Pieces.{HasEnded, IsSized, Passes, fault_offset, front_of, kind_contents, kind_encoding, kind_front, kind_header, kind_indefinite, kind_type_name}
use Rattle.dump_walk.specs.Steps.{ends_of}
use Rattle.dump_walk.specs.declared.block.Block.{Block}
use Rattle.dump_walk.specs.declared.block.Inside.{Inside}
use Rattle.dump_walk.specs.declared.block.Next.TheVariants.{Behind, Deeper, Ended}
use Rattle.dump_walk.specs.declared.block.NoBlock.{NoBlock}
use Rattle.dump_walk.specs.declared.block.NoBlock.TheVariants.{CutShort, Nothing}
use Rattle.dump_walk.specs.declared.piece.Piece.{Piece}
use Rattle.dump_walk.specs.declared.piece.PieceKind.{PieceKind}
use Rattle.dump_walk.specs.declared.piece.PieceKind.TheVariants.{Cut, EndOfContents, Leaf, Opened, Unreadable}
use Rattle.dump_walk.specs.declared.place.Place.{Place}
use Rattle.dump_walk.specs.declared.walk.Walk.{Walk}
use Rattle.dump_walk.proofs.Positions.{slice_range-inside}

-- what holds of each of some and of one more holds of all
AllByRecursion-one_more :
    {X : Type 0} (P : X → Type 0) (xs : List X) (x : X) → AllByRecursion P xs → P x → AllByRecursion P (xs ++ x ∷ [])
AllByRecursion-one_more P [] x all one = (one, tt)
AllByRecursion-one_more P (y ∷ ys) x all one = (all.0, AllByRecursion-one_more P ys x all.1 one)

-- the lines that a walk has passed begin the lines
BeginWith-passed :
    (octets : List ℕ) (fronts : List Front) (walk : Walk) → HasPassed octets fronts walk → BeginWith octets fronts
BeginWith-passed octets fronts walk h = (walk.cursor.offset, ends_of walk.cursor, (h.0, h.1.to))

module _ (octets : List ℕ) (fronts : List Front) (old : Walk) (h : HasPassed octets fronts old) where
  -- where no lines are left, those are all
  pub GoUpTo-none : (Is : Front → Type 0) → HasEnded old → GoUpTo octets fronts Is
  GoUpTo-none Is ended = inl (h.0, ended octets fronts h.0 h.1)

  module _ (new : Walk) (piece : Piece) (p : Passes old new piece) where
    -- the walk passes the line of the next piece
    pub HasPassed-next : HasPassed octets (fronts ++ front_of p.levels piece ∷ []) new
    HasPassed-next = (h.0 ++ fault_offset piece.fault, p.ahead octets fronts h.0 h.1)

    -- the lines begin with these and with that of the next piece
    pub BeginWith-next : BeginWith octets (fronts ++ front_of p.levels piece ∷ [])
    BeginWith-next = BeginWith-passed octets (fronts ++ front_of p.levels piece ∷ []) new HasPassed-next

    -- what is left of the octets begins with the next piece
    pub left-next : p.left ≡ slice_range octets piece.offset p.end.offset
    left-next = p.left_is ∙ ap (λ z. slice_range z piece.offset p.end.offset) h.1.same_octets

    -- the walk has come to the next piece
    pub HasCome-next : HasCome octets fronts new piece
    HasCome-next = record {
      levels = p.levels;
      end = p.end;
      around = p.around;
      left = p.left;
      come = (h.0, p.here octets fronts h.0 h.1);
      passed = HasPassed-next;
      depth = p.depth ∙ sym (ap (λ z. z.depth + p.levels) p.same_place);
      left_is = left-next;
      sized = p.sized;
    }

-- a piece that holds a string is whole, and so its contents octets in what is left are those in all octets
HoldsBehind-octets :
    (octets left string : List ℕ) (offset end header size skipped : ℕ) (name : List ℕ) →
    left ≡ slice_range octets offset end → header + size ≤ length left →
    HoldsBehind name (slice_range left header (header + size)) skipped string →
    HoldsBehind name (slice_range octets (offset + header) (offset + (header + size))) skipped string
HoldsBehind-octets octets left string offset end header size skipped name is whole holds =
    let within = subst (λ z. header + size ≤ length z) is whole in
    subst (λ z. HoldsBehind name z skipped string)
    (ap (λ z. slice_range z header (header + size)) is ∙ slice_range-inside octets offset end header size within) holds

-- how far octets at the place were searched: no line that was passed stands at the offset
pub record SearchedTo (place : Place) (octets : List ℕ) (offset : ℕ) (walk : Walk) : Type 0 where
  pub same_place : walk.place ≡ place
  pub fronts : List Front
  pub has_passed : HasPassed octets fronts walk
  pub elsewhere : AllByRecursion (IsElsewhere offset) fronts

module _ (place : Place) (octets : List ℕ) (offset : ℕ) (old new : Walk) (s : SearchedTo place octets offset old)
  where
    -- nothing stands at the offset where no lines are left
    pub Finds-none : HasEnded old → Finds octets offset (Err Nothing)
    Finds-none ended =
        let all = GoUpTo-none octets s.fronts old s.has_passed (λ next. offset < next.offset) ended in
        (octets, offset, itself refl refl, no_line s.fronts refl s.elsewhere all)

    module _ (piece : Piece) (p : Passes old new piece) where
      -- what is found where the line of the piece stands at the offset is found there
      pub Finds-here :
          (found : Result Block NoBlock) → piece.offset ≡ offset →
          ((before : List Front) → HasCome octets before new piece → IsFoundAt octets piece.offset found) →
          Finds octets offset found
      Finds-here found there is =
          let come = HasCome-next octets s.fronts old s.has_passed new piece p in
          (octets, offset, itself refl refl, subst (λ z. IsFoundAt octets z found) there (is s.fronts come))

      -- nothing stands at the offset where the line of the piece stands behind it
      pub Finds-passed : offset < piece.offset → Finds octets offset (Err Nothing)
      Finds-passed behind =
          let begin = BeginWith-next octets s.fronts old s.has_passed new piece p in (
            octets,
            offset,
            itself refl refl,
            no_line s.fronts refl s.elsewhere (inr (front_of p.levels piece, begin, behind)),
          )

      -- what is found inside a string that the piece is
      pub Finds-inside :
          (inside : Inside) (found : Result Block NoBlock) → StandsInside piece offset inside →
          Finds inside.octets.now inside.offset found → Finds octets offset found
      Finds-inside inside found stands (others, further, leads, is) =
          let (whole, skipped, holds, offset_is, within) = stands p.left p.holding in
          let left_is = left-next octets s.fronts old s.has_passed new piece p in
          let string = HoldsBehind-octets octets p.left inside.octets.now piece.offset p.end.offset
          (kind_header piece.kind) (kind_contents piece.kind) skipped (kind_type_name piece.kind) left_is whole
          holds in (
            others,
            further,
            inside_string s.fronts (front_of p.levels piece) skipped inside.octets.now inside.offset
                (BeginWith-next octets s.fronts old s.has_passed new piece p) string offset_is within leads,
            is,
          )

      -- no line that was passed stands at the offset where that of the piece does not
      pub SearchedTo-next :
          ((levels : ℕ) → IsElsewhere offset (front_of levels piece)) → SearchedTo place octets offset new
      SearchedTo-next other = record {
        same_place = p.same_place ∙ s.same_place;
        fronts = s.fronts ++ front_of p.levels piece ∷ [];
        has_passed = HasPassed-next octets s.fronts old s.has_passed new piece p;
        elsewhere =
            AllByRecursion-one_more (IsElsewhere offset) s.fronts (front_of p.levels piece) s.elsewhere
            (other p.levels);
      }

-- a whole encoding is one, and all octets that it announces are there
IsWhole-kind : (left : List ℕ) (kind : PieceKind) → IsWholeKind kind → IsSized left kind →
    (kind_encoding kind ≡ true) × (kind_header kind + kind_contents kind ≤ length left)
IsWhole-kind left (EndOfContents size) whole is = absurd whole
IsWhole-kind left (Unreadable octets) whole is = absurd whole
IsWhole-kind left (Cut header contents) whole is = absurd whole
IsWhole-kind left (Opened header contents joined) whole is = (refl, is)
IsWhole-kind left (Leaf header contents value) whole is = (refl, is)

module _ (octets : List ℕ) (before : List Front) (walk : Walk) (piece : Piece) (h : HasCome octets before walk piece)
  where
    -- the lines up to that of the piece begin the lines
    BeginWith-piece : BeginWith octets (before ++ front_of h.levels piece ∷ [])
    BeginWith-piece = BeginWith-passed octets (before ++ front_of h.levels piece ∷ []) walk h.passed

    -- no whole element has its line where that of the piece says what stands there
    pub HasNoElementAt-line :
        (why : NoBlock) → ((levels : ℕ) → IsLineOf why (front_of levels piece)) → HasNoElementAt octets piece.offset why
    HasNoElementAt-line why line = of_other before (front_of h.levels piece) BeginWith-piece refl (line h.levels)

    -- the line of the piece is that of an encoding at its offset
    HasLineAt-piece :
        kind_encoding piece.kind ≡ true → HasLineAt octets piece.offset before (front_of h.levels piece) (length h.left)
    HasLineAt-piece encoding = record {
      end = h.end;
      around = h.around;
      come = h.come;
      begin = BeginWith-piece;
      offset_is = refl;
      encoding = encoding;
      left_is = ap length h.left_is;
    }

    -- an encoding that is cut short is no whole element
    pub HasNoElementAt-cut :
        kind_encoding piece.kind ≡ true → length h.left < kind_header piece.kind + kind_contents piece.kind →
        HasNoElementAt octets piece.offset CutShort
    HasNoElementAt-cut encoding cut =
        too_short before (front_of h.levels piece) (length h.left) refl (HasLineAt-piece encoding) cut

    module _ (is_whole : IsWholeKind piece.kind) where
      whole : (kind_encoding piece.kind ≡ true)
          × (kind_header piece.kind + kind_contents piece.kind ≤ length h.left)
      whole = IsWhole-kind h.left piece.kind is_whole h.sized

      -- a whole element of definite length is what its line says
      pub IsElementAt-sized :
          (block contents : List ℕ) → kind_indefinite piece.kind ≡ false →
          block
          ≡ slice_range octets piece.offset (piece.offset + (kind_header piece.kind + kind_contents piece.kind)) →
          contents
          ≡ slice_range octets (piece.offset + kind_header piece.kind)
          (piece.offset + (kind_header piece.kind + kind_contents piece.kind)) →
          IsElementAt octets piece.offset block contents
      IsElementAt-sized block contents definite octets_are contents_are =
          of_definite_length before (front_of h.levels piece) (length h.left) (HasLineAt-piece whole.0) definite whole.1
          octets_are contents_are

      module _ (indefinite : kind_indefinite piece.kind ≡ true) where
        -- an element of the indefinite form ends where the walk comes to its end
        pub IsElementAt-ended :
            (block contents : List ℕ) (end : ℕ) → EndsAt walk piece.place.depth end →
            block ≡ slice_range octets piece.offset (end + 2) →
            contents ≡ slice_range octets (piece.offset + kind_header piece.kind) end →
            IsElementAt octets piece.offset block contents
        IsElementAt-ended block contents end ends octets_are contents_are =
            let f = front_of h.levels piece in
            let (inside, last, begin, are, is_end, depth, at) =
            ends octets (before ++ f ∷ []) h.levels h.passed h.depth in
            of_indefinite_form before f (length h.left) inside last (HasLineAt-piece whole.0) indefinite begin are
            is_end depth (octets_are ∙ ap (λ z. slice_range octets piece.offset (z + 2)) (sym at))
            (contents_are ∙ ap (slice_range octets (piece.offset + kind_header piece.kind)) (sym at))

        -- it is cut short where the walk comes to no end
        pub HasNoElementAt-without_end : HasNoEnd walk piece.place.depth → HasNoElementAt octets piece.offset CutShort
        HasNoElementAt-without_end none =
            let f = front_of h.levels piece in
            let (inside, are, up_to) = none octets (before ++ f ∷ []) h.levels h.passed h.depth in
            without_end before f (length h.left) inside refl (HasLineAt-piece whole.0) indefinite are up_to

-- only the end of an element has the line of its end
IsNoEnd-kind :
    (offset levels depth : ℕ) (rules : List Rule) (spare : Bool) (kind : PieceKind) →
    (kind ≡ EndOfContents 2 → levels ≡ suc depth → ⊥) → IsEndLine 2 (kind_front offset levels rules spare kind) →
    levels ≡ suc depth → ⊥
IsNoEnd-kind offset levels depth rules spare (EndOfContents size) other (words, two) = other (ap EndOfContents two)
IsNoEnd-kind offset levels depth rules spare (Unreadable octets) other (words, two) = absurd (omega (arith, two))
IsNoEnd-kind offset levels depth rules spare (Cut header contents) other (words, two) = absurd (cc words.0)
IsNoEnd-kind offset levels depth rules spare (Opened header contents joined) other (words, two) =
    absurd (cc words.0)
IsNoEnd-kind offset levels depth rules spare (Leaf header contents value) other (words, two) = absurd (cc words.0)

-- how far a walk went on inside an element that stands so deep, and did not come to its end
pub record WentOn (start walk : Walk) (depth : ℕ) : Type 0 where
  pub same_place : walk.place ≡ start.place
  pub further : (octets : List ℕ) (fronts : List Front) (levels : ℕ) → HasPassed octets fronts start
      → depth ≡ start.place.depth + levels
      → (inside : List Front) × HasPassed octets (fronts ++ inside) walk × AllByRecursion (IsNoEndOf levels) inside

module _ (start old : Walk) (depth : ℕ) (w : WentOn start old depth) where
  -- the element has no end where no lines are left
  pub HasNoEnd-none : HasEnded old → HasNoEnd start depth
  HasNoEnd-none ended octets fronts levels h is =
      let (inside, went, are) = w.further octets fronts levels h is in
      (inside, are, GoUpTo-none octets (fronts ++ inside) old went (λ next. next.depth ≤ levels) ended)

  module _ (new : Walk) (piece : Piece) (p : Passes old new piece) where
    -- a piece that stands so deep in the document stands so deep in the octets
    depth_is : piece.place.depth ≡ start.place.depth + p.levels
    depth_is = p.depth ∙ ap (λ z. z.depth + p.levels) w.same_place

    -- a walk goes on by a piece inside the element that is not its end
    pub WentOn-next : IsNext depth piece Deeper → WentOn start new depth
    WentOn-next (deeper, other) = record {
      same_place = p.same_place ∙ w.same_place;
      further = λ octets fronts levels h is.
          let (inside, went, are) = w.further octets fronts levels h is in
          let f = front_of p.levels piece in (
            inside ++ f ∷ [],
            subst (λ z. HasPassed octets z new) (append_assoc fronts inside (f ∷ []))
                (HasPassed-next octets (fronts ++ inside) old went new piece p),
            AllByRecursion-one_more (IsNoEndOf levels) inside f are (
              omega (arith, deeper, depth_is, is),
              IsNoEnd-kind piece.offset p.levels levels piece.breaches.rules.items piece.breaches.has_spare_bits
                  piece.kind (λ two next. other two (omega (arith, depth_is, is, next))),
            ),
          );
    }

    -- the lines inside the element and that of the piece behind them begin the lines
    BeginWith-behind :
        (octets : List ℕ) (fronts inside : List Front) → HasPassed octets (fronts ++ inside) old →
        BeginWith octets (fronts ++ (inside ++ front_of p.levels piece ∷ []))
    BeginWith-behind octets fronts inside went =
        subst (BeginWith octets) (append_assoc fronts inside (front_of p.levels piece ∷ []))
        (BeginWith-next octets (fronts ++ inside) old went new piece p)

    -- it ends at the end-of-contents octets of the element
    pub EndsAt-next : (offset : ℕ) → IsNext depth piece (Ended offset) → EndsAt start depth offset
    EndsAt-next offset (kind, deep, at) octets fronts levels h is =
        let (inside, went, are) = w.further octets fronts levels h is in (
          inside,
          front_of p.levels piece,
          BeginWith-behind octets fronts inside went,
          are,
          ((ap kind_encoding kind, ap kind_type_name kind), ap kind_header kind),
          omega (arith, deep, depth_is, is),
          sym at,
        )

    -- the element has no end where the next piece stands behind it
    pub HasNoEnd-behind : IsNext depth piece Behind → HasNoEnd start depth
    HasNoEnd-behind behind octets fronts levels h is =
        let (inside, went, are) = w.further octets fronts levels h is in (
          inside,
          are,
          inr (
            front_of p.levels piece,
            BeginWith-next octets (fronts ++ inside) old went new piece p,
            omega (arith, behind, depth_is, is),
          ),
        )
