-- For `write::rewrite`: what it returns is right (`accepts`, `refuses`, `reads_back`, `again`, `equal`).
use Rattle.std.proofs.Common.{◌<◌, arith}
use Rattle.std.proofs.lemmas.List.Elements.{All-from_get_or}
use Rattle.asn1_writing.proofs.Rewritten.{IsDocument-rewrite_accepted, IsCanonicalDocument-rewrite, WrittenOfEqualsAlone-rewrite, AllReadBackAs-rewrite, FirstFault-rewrite_refused}
use Rattle.asn1_writing.proofs.write.rewrite.Goals as goal

pub returns-clause-accepts : goal.returns-clause-accepts
returns-clause-accepts c =
    let read = c.rewritten.ensures in
    IsDocument-rewrite_accepted c.args.i.now c.rewritten.result (omega arith) read.document read.fault

pub returns-clause-refuses : goal.returns-clause-refuses
returns-clause-refuses c =
    let read = c.rewritten.ensures in
    FirstFault-rewrite_refused c.args.i.now c.rewritten.result (omega arith) read.document read.fault

pub returns-clause-reads_back : goal.returns-clause-reads_back
returns-clause-reads_back c =
    AllReadBackAs-rewrite c.args.i.now c.rewritten.result
    (All-from_get_or (λ b. b < 256) c.args.i.now 0 (λ k h. omega (arith, c.type_inv.i k))) c.rewritten.ensures.document

pub returns-clause-again : goal.returns-clause-again
returns-clause-again c =
    IsCanonicalDocument-rewrite c.args.i.now c.rewritten.result
    (All-from_get_or (λ b. b < 256) c.args.i.now 0 (λ k h. omega (arith, c.type_inv.i k))) c.rewritten.ensures.document

pub returns-clause-equal : goal.returns-clause-equal
returns-clause-equal c =
    WrittenOfEqualsAlone-rewrite c.args.i.now c.rewritten.result
    (All-from_get_or (λ b. b < 256) c.args.i.now 0 (λ k h. omega (arith, c.type_inv.i k))) c.rewritten.ensures.document
