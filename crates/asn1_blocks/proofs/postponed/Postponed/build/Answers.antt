-- For `postponed::Postponed::build`: what it returns is right.
use Rattle.std.proofs.Common.{◌≡◌, ◌-◌, true, [], ◌∷◌, ◌++◌, map, length, ap, sym, ◌∙◌, arith}
use Rattle.std.proofs.lemmas.Grind.{common_steps}
use Rattle.asn1_blocks.specs.Inner.OpenFrames.{as_it_came}
use Rattle.asn1_blocks.specs.Inner.Postponed.{trees_after, around_last}
use Rattle.asn1_blocks.specs.Tree.{unknown}
use Rattle.asn1_blocks.specs.View.{view}
use Rattle.asn1_blocks.proofs.PostponedBlocks.{map-view_append_last, trees_after-group, around_last-built}
use Rattle.asn1_blocks.proofs.postponed.Postponed.build.Goals as goal
use Rattle.asn1_blocks.proofs.postponed.Postponed.build.Goals.{in-Ready, in-Group+in_ok-others-in-Group+in_ok-append-in-Group, in-Explicit+in-Some+in_ok-block-in-Explicit, in-AsItCame+in_ok-block-in-AsItCame}

pub returns-in_default : goal.returns-in_default
returns-in_default c =
    let octets = c.args.octets.now in
    let order = ap (λ z. trees_after octets z (map view c.args.blocks.now)) c.in-Explicit.is in
    let none = ap (λ z. around_last c.in-Explicit.attempt (map view z)) c.in_default.ensures.0 in
    ap (map view) c.in_default.ensures.1 ∙ sym (order ∙ none)

pub returns : goal.returns
returns c =
    let octets = c.args.octets.now in
    let old = c.args.blocks.now in
    let s = map view old in
    let kept = c.match-self.blocks in
    let block = c.match-self.block in
    let built : map view kept ++ view block ∷ [] ≡ trees_after octets c.args.self s = elim c.match-self.branch [
      | in-Ready w ↦
          let order = ap (λ z. trees_after octets z s) w.in-Ready.is in
          ap (λ v. map view v ++ view block ∷ []) w.blocks-is ∙ (ap (λ z. s ++ view z ∷ []) w.block-is ∙ sym order)
      | in-Group+in_ok-others-in-Group+in_ok-append-in-Group w ↦
          let order = ap (λ z. trees_after octets z s) w.in-Group.is in
          let n : w.saturating_sub.result ≡ length old - w.in-Group.behind = grind (arith, common_steps) in
          let split = w.in_ok-others-in-Group.ensures in
          let own = ap view w.block-is ∙ w.group_block-block.ensures in
          trees_after-group octets old kept w.in_ok-others-in-Group.others w.append.new.self w.in-Group.kind
          w.in-Group.offset w.in-Group.behind
          w.saturating_sub.result w.in-Group.first block n (w.blocks-is ∙ split.kept) split.parted
          w.in_ok-append-in-Group.ensures own ∙ sym order
      | in-Explicit+in-Some+in_ok-block-in-Explicit w ↦
          let order = ap (λ z. trees_after octets z s) w.in-Explicit.is in
          let last = w.in-Some.ensures ∙ ap (λ z. z ++ w.in-Some.item ∷ []) (sym w.blocks-is) in
          around_last-built old kept w.in-Explicit.attempt w.in-Some.item block last
          (ap view w.block-is ∙ w.in_ok-block-in-Explicit.ensures) ∙ sym order
      | in-AsItCame+in_ok-block-in-AsItCame w ↦
          let order = ap (λ z. trees_after octets z s) w.in-AsItCame.is in
          let a = w.in-AsItCame.attempt in
          let own : view block ≡ as_it_came octets a w.in-AsItCame.start w.in-AsItCame.end = ap view w.block-is ∙
          (w.in_ok-block-in-AsItCame.ensures ∙ ap (unknown a.class true a.offset a.tag) w.octets_between.ensures) in
          ap (λ z. map view z ++ view block ∷ []) w.blocks-is ∙ (ap (λ z. s ++ z ∷ []) own ∙ sym order)
    ] in
    map-view_append_last kept c.push.new.self block c.in_ok-push.ensures ∙ built
