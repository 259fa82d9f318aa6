-- For `encoding::encoding_at`: what it returns is right (`block`, `found`).
use Rattle.std.proofs.Common.{◌≡◌, ◌++◌, ℕ, List, ◌∙◌, take, drop, ap, sym, subst}
use Rattle.std.proofs.lemmas.List.{take-append-drop}
use Rattle.asn1_blocks.specs.Places.{EncodingAt, IsEncoding}
use Rattle.asn1_blocks.proofs.EncodingSizes.{EncodingAt-tree, EncodingAt-not_past_end}
use Rattle.asn1_blocks.proofs.Slices.{EncodingAt-unique}
use Rattle.asn1_blocks.proofs.encoding.encoding_at.Goals as goal

pub returns-then-offset-document-clause-block : goal.returns-then-offset-document-clause-block
returns-then-offset-document-clause-block c octets t =
    EncodingAt-not_past_end c.args.document.now c.args.offset c.if-offset-document.true octets
    (EncodingAt-tree c.args.document.now c.args.offset octets t)

pub returns-in_default-clause-block : goal.returns-in_default-clause-block
returns-in_default-clause-block c octets t =
    let p = EncodingAt-tree c.args.document.now c.args.offset octets t in
    c.in_default.ensures.none octets p.rest (c.split_at.ensures.back ∙ p.at_offset) p.encoding

-- the octets from an offset on, as far as they are an encoding, stand at the offset
EncodingAt-front : (document : List ℕ) (o n : ℕ) (rest front : List ℕ) → rest ≡ drop o document → front ≡ take n rest →
    IsEncoding (take n rest)
    → EncodingAt document o front
EncodingAt-front document o n rest front r f are = record {
  rest = drop n (drop o document);
  at_offset = sym (take-append-drop n (drop o document))
      ∙ ap (λ z. z ++ drop n (drop o document)) (sym (f ∙ ap (take n) r));
  encoding = subst IsEncoding (sym f) are;
}

pub returns-clause-found : goal.returns-clause-found
returns-clause-found c =
    let (_, _, are) = c.in-Some.ensures.found in
    EncodingAt-front c.args.document.now c.args.offset c.in-Some.size _ _ c.split_at.ensures.back
    c.split_at-2.ensures.front are

pub returns-clause-block : goal.returns-clause-block
returns-clause-block c octets t =
    let document = c.args.document.now in
    let (_, _, are) = c.in-Some.ensures.found in
    let here =
    EncodingAt-front document c.args.offset c.in-Some.size _ _ c.split_at.ensures.back c.split_at-2.ensures.front are in
    EncodingAt-unique document c.args.offset _ octets here (EncodingAt-tree document c.args.offset octets t)
