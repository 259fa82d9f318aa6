-- For `encodings::unended_behind`: what it returns is right (`same`).
use Rattle.std.proofs.Common.{◌≡◌, ◌-◌, ◌+◌, ◌∷◌, ◌++◌, [], ℕ, List, suc, ap, append-nil, arith, refl, subst, sym, ◌∙◌}
use Rattle.std.specs.Prelude.{◌↔◌, Bool, false, true, if◌then◌else◌}
use Rattle.asn1_blocks.specs.Places.{IsEncoding}
use Rattle.asn1_der.specs.Departures.{AreEncodings, IsNext, end_of_contents, is_open, next, unended_behind}
use Rattle.asn1_der.specs.Listing.{is_at_end}
use Rattle.asn1_der.proofs.Fronts.{AreEncodings-behind_end, AreEncodings-behind_next, IsEncoding-begins_with_end, is_at_end-none_in_front, is_at_end-parts}
use Rattle.asn1_der.proofs.encodings.unended_behind.Goals as goal

pub returns-then-is_at_end-clause-same : goal.returns-then-is_at_end-clause-same
returns-then-is_at_end-clause-same c rest is =
    let u = c.args.unended in
    let x = c.args.encoding.now in
    let (some, front) = is_at_end-parts u x (sym c.is_at_end.ensures ∙ c.if-is_at_end.true) in
    let whole : x ++ rest ≡ 0 ∷ 0 ∷ rest = ap (λ z. z ++ rest) (IsEncoding-begins_with_end x is front) in
    let one : u ≡ (u - 1) + 1 = omega (arith, some) in
    (AreEncodings-behind_end u (u - 1) (x ++ rest) rest one whole, λ a. end_of_contents one whole a)

-- behind an encoding that is no end of contents, as many are open as its header says
AreEncodings-behind : (u v : ℕ) (x rest : List ℕ) (opens : Bool) (e : IsEncoding x) → is_at_end u x ≡ false →
    opens ≡ is_open e.constructed e.encoding.len → v ≡ (if opens then suc u else u) →
    AreEncodings u (x ++ rest) ↔ AreEncodings v rest
AreEncodings-behind u v x rest opens e none is count =
    let n : IsNext u (x ++ rest) x rest = record {
      class = e.class;
      constructed = e.constructed;
      tag = e.tag;
      contents = e.contents;
      header = e.header;
      encoding = e.encoding;
      whole = refl;
      no_end = is_at_end-none_in_front u x x [] (sym (append-nil x)) none;
    } in
    let same : v ≡ unended_behind u e.constructed e.encoding.len =
    count ∙ ap (λ b. if b then suc u else u) is in (
      λ a. subst (λ z. AreEncodings z rest) (sym same) (AreEncodings-behind_next u (x ++ rest) x rest n a),
      λ a. next n (subst (λ z. AreEncodings z rest) same a),
    )

pub returns-then-is_open_encoding-clause-same : goal.returns-then-is_open_encoding-clause-same
returns-then-is_open_encoding-clause-same c rest is =
    AreEncodings-behind c.args.unended (c.args.unended + 1) c.args.encoding.now rest true is
    (sym c.is_at_end.ensures ∙ c.if-is_at_end.false)
    (sym c.if-is_open_encoding.true ∙ c.is_open_encoding.ensures is) (omega arith)

pub returns-else-is_open_encoding-clause-same : goal.returns-else-is_open_encoding-clause-same
returns-else-is_open_encoding-clause-same c rest is =
    AreEncodings-behind c.args.unended c.args.unended c.args.encoding.now rest false is
    (sym c.is_at_end.ensures ∙ c.if-is_at_end.false)
    (sym c.if-is_open_encoding.false ∙ c.is_open_encoding.ensures is) refl
