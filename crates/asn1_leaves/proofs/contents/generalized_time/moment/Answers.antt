-- For `contents::generalized_time::moment`: what it returns is right (`found`, `none`).
use Rattle.std.proofs.Common.{◌≡◌, ◌++◌, take, drop, sym, ap, subst, ◌∙◌}
use Rattle.std.proofs.lemmas.List.{take-append-drop}
use Rattle.std.proofs.lemmas.Option.{IfSome_then}
use Rattle.asn1_leaves.specs.Contents.Moment.{moment_of}
use Rattle.asn1_leaves.specs.Contents.GeneralizedTime.{IsEnd, to_second, fraction_number, tenth}
use Rattle.asn1_leaves.proofs.Leaves.Digits.{IsEnd-unique, IfNone-map}
use Rattle.asn1_leaves.proofs.Leaves.GeneralizedTime.{to_second-spelled, IsSpelled-to_second}
use Rattle.asn1_leaves.proofs.contents.generalized_time.moment.Goals as goal

pub returns-clause-found : goal.returns-clause-found
returns-clause-found c = IfSome_then c.moment_from.result c.moment_from.ensures.found (λ d p.
    let contents = c.args.contents.now in
    let second = c.split_at.result.0.now in
    let end = c.split_at.result.1.now in
    let (digits, ends, is) = c.in_ok-nanosecond.ensures.found in
    let s : second ≡ to_second (moment_of d) =
    to_second-spelled second c.in_ok-high.field-0 c.in_ok-low.field-0 c.in_ok-nanosecond.nanosecond
    (moment_of d) c.split_at.ensures.front_len c.in_ok-high.ensures.found c.in_ok-low.ensures.found p in
    record {
      valid = p.valid;
      digits = digits;
      end = end;
      octets = sym (take-append-drop 14 contents)
          ∙ (ap (λ z. z ++ drop 14 contents) (sym c.split_at.ensures.front ∙ s)
          ∙ ap (λ z. to_second (moment_of d) ++ z) (sym c.split_at.ensures.back));
      is_end = ends;
      nanosecond = p.nanosecond_is ∙ is;
    })

pub returns-clause-none : goal.returns-clause-none
returns-clause-none c = IfNone-map c.moment_from.result c.moment_from.ensures.none (λ no m u.
    let second = c.split_at.result.0.now in
    let end = c.split_at.result.1.now in
    let (digits, ends, is) = c.in_ok-nanosecond.ensures.found in
    let s : second ≡ to_second m = c.split_at.ensures.front ∙ ap (take 14) u.octets in
    let b : end ≡ u.end = c.split_at.ensures.back ∙ ap (drop 14) u.octets in
    let d : u.digits ≡ digits =
    IsEnd-unique end u.digits digits (subst (λ z. IsEnd u.digits z) (sym b) u.is_end) ends in
    let n : m.nanosecond ≡ c.in_ok-nanosecond.nanosecond = u.nanosecond ∙ (ap (fraction_number tenth) d ∙ sym is) in
    no m (IsSpelled-to_second
    second c.in_ok-high.field-0 c.in_ok-low.field-0 c.in_ok-nanosecond.nanosecond m u.valid n s
    c.in_ok-high.ensures.found c.in_ok-low.ensures.found))
