-- For `leaf::string_value`: what it returns is right (`refused`).
use Rattle.dump_values.proofs.Wide.{IfErr-form_fault}
use Rattle.dump_values.proofs.leaf.string_value.Goals as goal

pub returns-in_err-text-clause-refused : goal.returns-in_err-text-clause-refused
returns-in_err-text-clause-refused c =
    let (kind, tag_is, form_is) = c.requires in
    IfErr-form_fault kind c.args.tag c.args.form c.args.contents.now _ c.from_residual-in_err-text.result tag_is form_is
    c.from_residual-in_err-text.ensures c.in_err-text.ensures.refused
