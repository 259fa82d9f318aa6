-- For `build::moment`: what it returns is right (`made`).
use Rattle.std.proofs.Common.{◌≡◌, rules}
use Rattle.std.specs.Prelude.{pos}
use Rattle.jiff_core.specs.declared.civil.datetime.DateTime.{DateTime}
use Rattle.simple_asn1.proofs.MomentFields.{same_fields}
use Rattle.simple_asn1.proofs.build.moment.Goals as goal

pub returns-in-Ok-clause-made : goal.returns-in-Ok-clause-made
returns-in-Ok-clause-made c =
    let d : DateTime = c.in-Ok.moment in
    let year : d.date.year ≡ pos c.args.year = search rules in
    let month : d.date.month ≡ c.args.month = search rules in
    let day : d.date.day ≡ c.args.day = search rules in
    let hour : d.time.hour ≡ c.args.hour = search rules in
    let minute : d.time.minute ≡ c.args.minute = search rules in
    let second : d.time.second ≡ c.args.second = search rules in
    let nanosecond : d.time.subsec_nanosecond ≡ c.args.nanosecond = search rules in
    same_fields c.args.year c.args.month c.args.day c.args.hour c.args.minute c.args.second c.args.nanosecond
    d.date.year d.date.month d.date.day d.time.hour d.time.minute d.time.second d.time.subsec_nanosecond
    year month day hour minute second nanosecond
