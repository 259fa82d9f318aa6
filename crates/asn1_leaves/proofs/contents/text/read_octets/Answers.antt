-- For `contents::text::read_octets`: its loop keeps its invariant and what it returns is right.
use Rattle.std.proofs.Common.{◌≡◌, ◌+◌, ◌++◌, ◌<◌, [], ◌∷◌, get_or, take, ap, ◌∙◌, append-nil, arith}
use Rattle.std.specs.Prelude.{encode_utf8, encode_utf8_all}
use Rattle.std.specs.Str.{chars}
use Rattle.std.proofs.lemmas.Grind.{common_steps}
use Rattle.std.proofs.lemmas.List.{take_more, take_all}
use Rattle.std.proofs.lemmas.List.Elements.{All-from_get_or}
use Rattle.std.proofs.lemmas.Str.{encodes-append, chars-encodes}
use Rattle.asn1_leaves.proofs.Characters.{all_scalars-octets}
use Rattle.asn1_leaves.proofs.contents.text.read_octets.Goals as goal

pub loop-b-preserved : goal.loop-b-preserved
loop-b-preserved c =
    let cs = c.args.contents.now in
    let i = c.loop-b.b-index in
    let b = get_or cs i 0 in
    let m = take_more cs i 0 (omega arith) in
    let e : encode_utf8_all (take (i + 1) cs) ≡ encode_utf8_all (take i cs) ++ encode_utf8 b = ap encode_utf8_all m
    ∙ (encodes-append (take i cs) (b ∷ []) ∙ ap (λ z. encode_utf8_all (take i cs) ++ z) (append-nil (encode_utf8 b))) in
    grind (arith, common_steps, e, c.in_ok-push.ensures.bytes)

pub returns : goal.returns
returns c =
    let cs = c.args.contents.now in
    let t = take_all c.loop-b.b-index cs (omega arith) in
    ap chars (c.loop-b.invariant ∙ ap encode_utf8_all t)
    ∙ chars-encodes cs (all_scalars-octets cs
    (All-from_get_or (λ b. b < 256) cs 0 (λ k h. omega (arith, c.type_inv.contents k))))
