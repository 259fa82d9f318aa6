-- For `moment::date_time`: what it returns is right (`none`).
use Rattle.std.proofs.Common.{◌≡◌, ◌↔◌, ℤ, ◌<◌, ◌≤ℤ◌, Option, Some, None, Result, Ok, Err, pos, negsuc, w8, w16, w32, to_z, of_z, unsigned_abs, ap, ◌∙◌, arith}
use Rattle.std.specs.Prelude.{IfNone, IsOk}
use Rattle.std.specs.Result.{result_ok}
use Rattle.std.proofs.lemmas.Int.{ints, to_z_pos}
use Rattle.jiff_core.proofs.SignedLemmas.{back_small}
use Rattle.jiff_core.specs.Calendar.{IsDate}
use Rattle.jiff_core.specs.Time.{IsTime}
use Rattle.asn1_leaves.specs.Contents.Moment.{IsValid}
use Rattle.asn1_records.specs.Puts.{moment_in}
use Rattle.asn1_records.specs.declared.record.MomentAnswer.{MomentAnswer}
use Rattle.asn1_records.proofs.moment.date_time.Goals as goal

-- a valid moment is a date and a time
IsValid-date_and_time : (fields : MomentAnswer) → IsValid (moment_in fields)
    → IsDate fields.year (pos fields.month) (pos fields.day)
    × IsTime (pos fields.hour) (pos fields.minute) (pos fields.second) (pos fields.nanosecond)
IsValid-date_and_time fields v = (
  (
    (omega (arith, ints, v.from_zero), omega (arith, ints, v.four_digits)),
    (omega (arith, ints, v.month), omega (arith, ints, v.month)),
    (omega (arith, ints, v.day), omega (arith, ints, v.day)),
  ),
  (
    (omega (arith, ints), omega (arith, ints, v.hour)),
    (omega (arith, ints), omega (arith, ints, v.minute)),
    (omega (arith, ints), omega (arith, ints, v.second)),
    (omega (arith, ints), omega (arith, ints, v.nanosecond)),
  ),
)

-- numbers that are those of a valid moment are a date and a time
IsValid-same_fields : (fields : MomentAnswer) (y mo d h mi s n : ℤ) → IsValid (moment_in fields)
    → y ≡ fields.year → mo ≡ pos fields.month → d ≡ pos fields.day → h ≡ pos fields.hour → mi ≡ pos fields.minute
    → s ≡ pos fields.second → n ≡ pos fields.nanosecond → IsDate y mo d × IsTime h mi s n
IsValid-same_fields fields y mo d h mi s n v year month day hour minute second nanosecond =
    rw (year, month, day, hour, minute, second, nanosecond) (IsValid-date_and_time fields v)

-- a year of four digits is below 10000
unsigned_abs-year_lt : (y : ℤ) → pos 0 ≤ℤ y → y ≤ℤ pos 9999 → unsigned_abs y < 10000
unsigned_abs-year_lt (pos n) low high = omega (arith, ints, high)
unsigned_abs-year_lt (negsuc n) low high = omega (arith, ints, low)

-- a year of four digits is the same after it passed through 32 and 16 bits
to_z-same_year : (y : ℤ) → pos 0 ≤ℤ y → y ≤ℤ pos 9999 → to_z w16 (of_z w16 (to_z w32 (of_z w32 y))) ≡ y
to_z-same_year y low high =
    let small = unsigned_abs-year_lt y low high in
    ap (λ z. to_z w16 (of_z w16 z)) (back_small w32 y (omega (arith, small))) ∙ back_small w16 y (omega (arith, small))

-- where a call that succeeds exactly if P returns nothing, Q fails, if P follows from Q
IfNone-not_ok : {T E : Type 0} (r : Result T E) (o : Option T) (P Q : Type 0) → o ≡ result_ok r → (IsOk r ↔ P) →
    (Q → P) →
    IfNone o (Q → ⊥)
IfNone-not_ok r (Some x) P Q e succeeds f = tt
IfNone-not_ok (Ok x) None P Q e succeeds f = cc
IfNone-not_ok (Err x) None P Q e succeeds f = λ q. let ok = succeeds.1 (f q) in cc

pub returns-clause-none : goal.returns-clause-none
returns-clause-none c =
    let f = c.args.fields.now in
    IfNone-not_ok c.new.result c.ok.result _ (IsValid (moment_in f)) c.ok.ensures.value c.new.ensures.succeeds
    (λ v. IsValid-same_fields f _ _ _ _ _ _ _ v (to_z-same_year f.year v.from_zero v.four_digits)
    (to_z_pos w8 f.month (omega (arith, v.month))) (to_z_pos w8 f.day (omega arith))
    (to_z_pos w8 f.hour (omega (arith, v.hour)))
    (to_z_pos w8 f.minute (omega (arith, v.minute))) (to_z_pos w8 f.second (omega (arith, v.second)))
    (to_z_pos w32 f.nanosecond (omega (arith, v.nanosecond))))
