-- For `dotted::push_digit`: what it returns is right.
use Rattle.asn1_records.proofs.PushedNumerals.{OnOk-is_ok}
use Rattle.asn1_records.proofs.dotted.push_digit.Goals as goal

pub returns : goal.returns
returns c ok = OnOk-is_ok c.try_push.result c.is_ok.result c.is_ok.ensures.value ok c.try_push.ensures.ok
