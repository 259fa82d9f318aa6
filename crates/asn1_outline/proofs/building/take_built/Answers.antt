-- For `building::take_built`: what it returns is right.
use Rattle.std.proofs.Common.{◌≡◌, ◌++◌, drop, take, length, sym, ap, ◌∙◌, arith, length-drop}
use Rattle.std.specs.Prelude.{reverse}
use Rattle.std.proofs.lemmas.List.{length-reverse, reverse-append, take-append-drop}
use Rattle.asn1_outline.proofs.building.take_built.Goals as goal

pub returns : goal.returns
returns c =
    let old = c.args.built.now in
    let at = c.saturating_sub-at.result in
    let taken : c.of.result ≡ reverse (drop at old) =
    c.of.ensures ∙ c.reverse.ensures.items ∙ ap reverse (c.into_vec-taken.ensures ∙ c.in_ok-split_off.ensures.parted) in
    record {
      many = λ some. omega (
        arith,
        ap length taken,
        length-reverse (drop at old),
        length-drop at old,
        c.len.ensures,
        c.saturating_sub-at.ensures,
        some,
      );
      split = ap reverse (sym (take-append-drop at old)) ∙ reverse-append (take at old) (drop at old)
          ∙ ap (λ z. z ++ reverse (take at old)) (sym taken)
          ∙ ap (λ z. c.of.result ++ reverse z) (sym c.in_ok-split_off.ensures.kept);
    }
