-- For `contents::utc_time::shown`: its loop keeps its invariant.
use Rattle.std.proofs.Common.{◌≡◌, ◌+◌, ◌++◌, [], ◌∷◌, get_or, take, ap, ◌∙◌, append-nil, append_assoc, arith}
use Rattle.std.specs.Prelude.{encode_utf8, encode_utf8_all}
use Rattle.std.proofs.lemmas.Grind.{common_steps}
use Rattle.std.proofs.lemmas.List.{take_more}
use Rattle.std.proofs.lemmas.Str.{encodes-append}
use Rattle.asn1_leaves.proofs.contents.utc_time.shown.Goals as goal

pub loop-b-preserved : goal.loop-b-preserved
loop-b-preserved c =
    let cs = c.args.octets.now in
    let i = c.loop-b.b-index in
    let b = get_or cs i 0 in
    let m = take_more cs i 0 (omega arith) in
    let o : encode_utf8_all (b ∷ []) ≡ encode_utf8 b = append-nil (encode_utf8 b) in
    let e : encode_utf8_all (take (i + 1) cs) ≡ encode_utf8_all (take i cs) ++ encode_utf8 b =
    ap encode_utf8_all m ∙ (encodes-append (take i cs) (b ∷ []) ∙ ap (λ z. encode_utf8_all (take i cs) ++ z) o) in
    let a = append_assoc c.args.front.now (encode_utf8_all (take i cs)) (encode_utf8 b) in
    grind (arith, common_steps, e, a, c.in_ok-push.ensures.bytes)
