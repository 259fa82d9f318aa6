-- Moments that have the same fields are the same. For `build::moment`.
use Rattle.std.proofs.Common.{◌≡◌, ℕ, refl}
use Rattle.std.specs.Prelude.{ℤ, pos}
use Rattle.simple_asn1.specs.Moments.{moment_with}

pub same_fields :
    (year month day hour minute second nanosecond : ℕ) (y : ℤ) (a b c d e f : ℕ) → y ≡ pos year → a ≡ month → b ≡ day →
    c ≡ hour → d ≡ minute → e ≡ second → f ≡ nanosecond →
    record { year = y; month = a; day = b; hour = c; minute = d; second = e; nanosecond = f }
    ≡ moment_with year month day hour minute second nanosecond
same_fields year month day hour minute second nanosecond y a b c d e f ey ea eb ec ed ee ef =
    rw (ey, ea, eb, ec, ed, ee, ef) refl
