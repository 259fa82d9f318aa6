-- For `building::tagged_block`: what it returns is right (`one`).
use Rattle.std.proofs.Common.{◌≡◌, ◌∷◌, [], sym, ap, ◌∙◌}
use Rattle.std.proofs.lemmas.Result.{IfOk-weaker}
use Rattle.asn1_blocks.specs.Tree.{explicit}
use Rattle.asn1_blocks.specs.View.{view}
use Rattle.asn1_outline.proofs.building.tagged_block.Goals as goal

pub returns-then-len-eq1-clause-one : goal.returns-then-len-eq1-clause-one
returns-then-len-eq1-clause-one c item is =
    let both : c.into_only.result ∷ [] ≡ item ∷ [] = sym c.into_only.ensures ∙ is in
    let same : c.into_only.result ≡ item = cc in
    IfOk-weaker c.explicit_block.result _ _
    (λ block e. e ∙ ap (λ z. explicit c.args.header.class c.args.offset c.args.header.tag (view z)) same)
    c.explicit_block.ensures
