-- For `sources::answer`: what it returns is right (`answered`).
use Rattle.std.proofs.Common.{◌≡◌, [], inr}
use Rattle.std.proofs.lemmas.Result.{IfOk-weaker}
use Rattle.std.specs.Prelude.{IfSome}
use Rattle.dump_inputs.proofs.sources.answer.Goals as goal

pub returns-in_ok-begin-in-At-clause-answered : goal.returns-in_ok-begin-in-At-clause-answered
returns-in_ok-begin-in-At-clause-answered g c =
    let octets = c.in-Ok.input.items in
    let known : IfSome (g.R.Read.remaining c.args.source.now.reader) (λ bytes. octets ≡ bytes) =
    rw c.in-Ok.is at c.read_all.ensures.bytes in
    IfOk-weaker c.push_at.result _ _ (λ outcome is. rw c.in-At.is ([], inr (octets, known, is []))) c.push_at.ensures

pub returns-in-Extract-clause-answered : goal.returns-in-Extract-clause-answered
returns-in-Extract-clause-answered g c =
    let octets = c.in-Ok.input.items in
    let known : IfSome (g.R.Read.remaining c.args.source.now.reader) (λ bytes. octets ≡ bytes) =
    rw c.in-Ok.is at c.read_all.ensures.bytes in
    IfOk-weaker c.push_part.result _ _
    (λ outcome (text, put, is). rw c.in-Extract.is (text, put, inr (octets, known, is))) c.push_part.ensures
