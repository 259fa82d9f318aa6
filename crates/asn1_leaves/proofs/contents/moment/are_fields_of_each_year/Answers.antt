-- For `contents::moment::are_fields_of_each_year`: what it returns is right.
use Rattle.asn1_leaves.proofs.Leaves.Digits.{IsSpelled-day_of_each_month, number_at}
use Rattle.asn1_leaves.proofs.contents.moment.are_fields_of_each_year.Goals as goal

pub returns : goal.returns
returns c is_true year digits =
    let octets = c.args.octets.now in
    let (month, in_year) = c.are_month.ensures c.if-not-are_month.false in
    let (day, in_month) = c.are_day_of_each_month.ensures c.if-not-are_day_of_each_month.false in
    let (hour, in_day) = c.are_hour.ensures c.if-not-are_hour.false in
    let (minute, in_hour) = c.are_below_sixty.ensures c.if-not-are_below_sixty.false in
    let (second, in_minute) = c.are_below_sixty-2.ensures is_true in
    IsSpelled-day_of_each_month
    year octets (number_at octets 0) (number_at octets 2) (number_at octets 4) (number_at octets 6) (number_at octets 8)
    digits month day hour minute second in_year in_month in_day in_hour in_minute
