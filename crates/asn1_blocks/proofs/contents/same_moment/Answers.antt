-- For `contents::same_moment`: what it returns is right.
use Rattle.std.proofs.Common.{◌≡◌, ap, sym, ◌∙◌, arith}
use Rattle.std.proofs.lemmas.Bool.Decides.{Decides-int_eq}
use Rattle.jiff_core.proofs.DateLemmas.{epoch_day_injective, epoch_day_same}
use Rattle.jiff_core.proofs.DateTimeLemmas.{civil_nanos_injective, civil_nanos-parts, time_nanos_injective}
use Rattle.jiff_core.specs.Date.{epoch_day}
use Rattle.jiff_core.specs.DateTime.{civil_nanos}
use Rattle.jiff_core.specs.Time.{time_nanos}
use Rattle.jiff_core.specs.declared.civil.datetime.DateTime.{DateTime}
use Rattle.asn1_leaves.specs.Contents.Moment.{Moment, moment_of}
use Rattle.asn1_blocks.proofs.contents.same_moment.Goals as goal

-- moments at the same nanosecond have the same fields
moment_of-same_nanosecond : (a b : DateTime) → civil_nanos a ≡ civil_nanos b → moment_of a ≡ moment_of b
moment_of-same_nanosecond a b e =
    let (day, time) = civil_nanos_injective a b e in
    let (y, m, d) = epoch_day_injective a.date b.date day in
    let (h, i, s, n) = time_nanos_injective a.time b.time time in
    cc

-- moments with the same fields are at the same nanosecond
civil_nanos-same_fields : (a b : DateTime) → moment_of a ≡ moment_of b → civil_nanos a ≡ civil_nanos b
civil_nanos-same_fields a b e =
    let day : epoch_day a.date ≡ epoch_day b.date =
    epoch_day_same a.date b.date (ap (λ (m : Moment). m.year) e) (ap (λ (m : Moment). m.month) e)
    (ap (λ (m : Moment). m.day) e) in
    let h = ap (λ (m : Moment). m.hour) e in
    let i = ap (λ (m : Moment). m.minute) e in
    let s = ap (λ (m : Moment). m.second) e in
    let n = ap (λ (m : Moment). m.nanosecond) e in
    let time : time_nanos a.time ≡ time_nanos b.time = omega arith in
    let p = civil_nanos-parts a in
    let q = civil_nanos-parts b in
    cc

pub returns : goal.returns
returns c =
    let a = c.args.a.now in
    let b = c.args.b.now in
    let d = Decides-int_eq (civil_nanos a) (civil_nanos b) in (
      λ h. moment_of-same_nanosecond a b (d.0 (sym c.eq.ensures ∙ h)),
      λ e. c.eq.ensures
          ∙ d.1 (civil_nanos-same_fields a b e),
    )
