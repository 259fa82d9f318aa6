-- For `contents::universal_leaf`: what it returns is right (`refused`, `found`).
use Rattle.std.proofs.Common.{◌≡◌, [], true, inr, arith}
use Rattle.std.proofs.lemmas.Grind.{common_steps}
use Rattle.asn1_headers.specs.declared.tags.TheConstants.{BIT_STRING, BMP_STRING, BOOLEAN, GENERALIZED_TIME, OBJECT_IDENTIFIER, PRINTABLE_STRING, TELETEX_STRING, UNIVERSAL_STRING, UTC_TIME, UTF8_STRING}
use Rattle.asn1_leaves.specs.StringKind.{utf8, printable, teletex, universal, bmp}
use Rattle.asn1_blocks.specs.Tree.{boolean, bit_string, object_identifier, utc_time, generalized_time}
use Rattle.asn1_blocks.proofs.KindFaults.{IfErr-kind_fault, IfErr-text_fault}
use Rattle.asn1_blocks.proofs.Leaves.{some_moment}
use Rattle.asn1_blocks.proofs.contents.universal_leaf.Goals as goal

pub returns-in_err-read-in-Some-eq12-clause-refused : goal.returns-in_err-read-in-Some-eq12-clause-refused
returns-in_err-read-in-Some-eq12-clause-refused c =
    let t : c.args.tag.now ≡ UTF8_STRING = grind (arith, common_steps) in
    IfErr-text_fault utf8 c.args.tag.now c.args.contents.now _ c.from_residual-in_err-read-in-Some-eq12.result
    c.from_residual-in_err-read-in-Some-eq12.ensures t c.in_err-read-in-Some-eq12.ensures.refused

pub returns-in_err-read-in-Some-eq19-clause-refused : goal.returns-in_err-read-in-Some-eq19-clause-refused
returns-in_err-read-in-Some-eq19-clause-refused c =
    let t : c.args.tag.now ≡ PRINTABLE_STRING = grind (arith, common_steps) in
    IfErr-text_fault printable c.args.tag.now c.args.contents.now _ c.from_residual-in_err-read-in-Some-eq19.result
    c.from_residual-in_err-read-in-Some-eq19.ensures t c.in_err-read-in-Some-eq19.ensures.refused

pub returns-in_err-read-in-Some-eq20-clause-refused : goal.returns-in_err-read-in-Some-eq20-clause-refused
returns-in_err-read-in-Some-eq20-clause-refused c =
    let t : c.args.tag.now ≡ TELETEX_STRING = grind (arith, common_steps) in
    IfErr-text_fault teletex c.args.tag.now c.args.contents.now _ c.from_residual-in_err-read-in-Some-eq20.result
    c.from_residual-in_err-read-in-Some-eq20.ensures t c.in_err-read-in-Some-eq20.ensures.refused

pub returns-in_err-read-in-Some-eq28-clause-refused : goal.returns-in_err-read-in-Some-eq28-clause-refused
returns-in_err-read-in-Some-eq28-clause-refused c =
    let t : c.args.tag.now ≡ UNIVERSAL_STRING = grind (arith, common_steps) in
    IfErr-text_fault universal c.args.tag.now c.args.contents.now _ c.from_residual-in_err-read-in-Some-eq28.result
    c.from_residual-in_err-read-in-Some-eq28.ensures t c.in_err-read-in-Some-eq28.ensures.refused

pub returns-in_err-read-in-Some-eq30-clause-refused : goal.returns-in_err-read-in-Some-eq30-clause-refused
returns-in_err-read-in-Some-eq30-clause-refused c =
    let t : c.args.tag.now ≡ BMP_STRING = grind (arith, common_steps) in
    IfErr-text_fault bmp c.args.tag.now c.args.contents.now _ c.from_residual-in_err-read-in-Some-eq30.result
    c.from_residual-in_err-read-in-Some-eq30.ensures t c.in_err-read-in-Some-eq30.ensures.refused

pub returns-in_err-read-in-Some-eq1-clause-found : goal.returns-in_err-read-in-Some-eq1-clause-found
returns-in_err-read-in-Some-eq1-clause-found c = grind (arith, common_steps)

pub returns-in_err-read-in-Some-eq1-clause-refused : goal.returns-in_err-read-in-Some-eq1-clause-refused
returns-in_err-read-in-Some-eq1-clause-refused c =
    let t : c.args.tag.now ≡ BOOLEAN = grind (arith, common_steps) in
    IfErr-kind_fault (boolean true) c.args.tag.now c.args.contents.now _
    c.from_residual.result c.from_residual.ensures t
    (inr c.in_err-read-in-Some-eq1.ensures.refused)

pub returns-in_err-read-in-Some-eq2-clause-found : goal.returns-in_err-read-in-Some-eq2-clause-found
returns-in_err-read-in-Some-eq2-clause-found c = grind (arith, common_steps)

pub returns-in_err-read-in-Some-eq2-clause-refused : goal.returns-in_err-read-in-Some-eq2-clause-refused
returns-in_err-read-in-Some-eq2-clause-refused c = grind (arith, common_steps)

pub returns-in_err-bits-in-Some-eq3-clause-found : goal.returns-in_err-bits-in-Some-eq3-clause-found
returns-in_err-bits-in-Some-eq3-clause-found c = grind (arith, common_steps)

pub returns-in_err-bits-in-Some-eq3-clause-refused : goal.returns-in_err-bits-in-Some-eq3-clause-refused
returns-in_err-bits-in-Some-eq3-clause-refused c =
    let t : c.args.tag.now ≡ BIT_STRING = grind (arith, common_steps) in
    IfErr-kind_fault (bit_string 0 []) c.args.tag.now c.args.contents.now _
    c.from_residual-in_err-bits-in-Some-eq3.result c.from_residual-in_err-bits-in-Some-eq3.ensures t
    c.in_err-bits-in-Some-eq3.ensures.refused

pub returns-in_err-from_slice-in-Some-eq4-clause-found : goal.returns-in_err-from_slice-in-Some-eq4-clause-found
returns-in_err-from_slice-in-Some-eq4-clause-found c = grind (arith, common_steps)

pub returns-in_err-from_slice-in-Some-eq4-clause-refused : goal.returns-in_err-from_slice-in-Some-eq4-clause-refused
returns-in_err-from_slice-in-Some-eq4-clause-refused c = grind (arith, common_steps)

pub returns-in_err-read-in-Some-eq6-clause-found : goal.returns-in_err-read-in-Some-eq6-clause-found
returns-in_err-read-in-Some-eq6-clause-found c = grind (arith, common_steps)

pub returns-in_err-read-in-Some-eq6-clause-refused : goal.returns-in_err-read-in-Some-eq6-clause-refused
returns-in_err-read-in-Some-eq6-clause-refused c =
    let t : c.args.tag.now ≡ OBJECT_IDENTIFIER = grind (arith, common_steps) in
    IfErr-kind_fault (object_identifier []) c.args.tag.now c.args.contents.now _
    c.from_residual-in_err-read-in-Some-eq6.result c.from_residual-in_err-read-in-Some-eq6.ensures t
    c.in_err-read-in-Some-eq6.ensures.refused

pub returns-in_err-read-in-Some-eq12-clause-found : goal.returns-in_err-read-in-Some-eq12-clause-found
returns-in_err-read-in-Some-eq12-clause-found c = grind (arith, common_steps)

pub returns-in_err-read-in-Some-eq19-clause-found : goal.returns-in_err-read-in-Some-eq19-clause-found
returns-in_err-read-in-Some-eq19-clause-found c = grind (arith, common_steps)

pub returns-in_err-read-in-Some-eq20-clause-found : goal.returns-in_err-read-in-Some-eq20-clause-found
returns-in_err-read-in-Some-eq20-clause-found c = grind (arith, common_steps)

pub returns-in_err-read-in-Some-eq22-clause-found : goal.returns-in_err-read-in-Some-eq22-clause-found
returns-in_err-read-in-Some-eq22-clause-found c = grind (arith, common_steps)

pub returns-in_err-read-in-Some-eq22-clause-refused : goal.returns-in_err-read-in-Some-eq22-clause-refused
returns-in_err-read-in-Some-eq22-clause-refused c = grind (arith, common_steps)

pub returns-in_err-read-in-Some-eq23-clause-found : goal.returns-in_err-read-in-Some-eq23-clause-found
returns-in_err-read-in-Some-eq23-clause-found c = grind (arith, common_steps)

pub returns-in_err-read-in-Some-eq23-clause-refused : goal.returns-in_err-read-in-Some-eq23-clause-refused
returns-in_err-read-in-Some-eq23-clause-refused c =
    let t : c.args.tag.now ≡ UTC_TIME = grind (arith, common_steps) in
    IfErr-kind_fault (utc_time some_moment) c.args.tag.now c.args.contents.now _
    c.from_residual-in_err-read-in-Some-eq23.result c.from_residual-in_err-read-in-Some-eq23.ensures t
    c.in_err-read-in-Some-eq23.ensures.refused

pub returns-in_err-read-in-Some-eq24-clause-found : goal.returns-in_err-read-in-Some-eq24-clause-found
returns-in_err-read-in-Some-eq24-clause-found c = grind (arith, common_steps)

pub returns-in_err-read-in-Some-eq24-clause-refused : goal.returns-in_err-read-in-Some-eq24-clause-refused
returns-in_err-read-in-Some-eq24-clause-refused c =
    let t : c.args.tag.now ≡ GENERALIZED_TIME = grind (arith, common_steps) in
    IfErr-kind_fault (generalized_time some_moment) c.args.tag.now c.args.contents.now _
    c.from_residual-in_err-read-in-Some-eq24.result c.from_residual-in_err-read-in-Some-eq24.ensures t
    c.in_err-read-in-Some-eq24.ensures.refused

pub returns-in_err-read-in-Some-eq28-clause-found : goal.returns-in_err-read-in-Some-eq28-clause-found
returns-in_err-read-in-Some-eq28-clause-found c = grind (arith, common_steps)

pub returns-in_err-read-in-Some-eq30-clause-found : goal.returns-in_err-read-in-Some-eq30-clause-found
returns-in_err-read-in-Some-eq30-clause-found c = grind (arith, common_steps)

pub returns-in_default-clause-found : goal.returns-in_default-clause-found
returns-in_default-clause-found c = grind (arith, common_steps)

pub returns-in_default-clause-refused : goal.returns-in_default-clause-refused
returns-in_default-clause-refused c = grind (arith, common_steps)

pub returns-clause-refused : goal.returns-clause-refused
returns-clause-refused c = grind (arith, common_steps)
