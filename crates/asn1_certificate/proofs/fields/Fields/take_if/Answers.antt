-- For `fields::Fields::take_if`: what it returns is right.
use Rattle.std.proofs.Common.{◌≡◌, true, false, arith}
use Rattle.std.proofs.lemmas.Grind.{common_steps}
use Rattle.asn1_certificate.specs.Reading.{left}
use Rattle.asn1_certificate.proofs.Steps.{field-missing, field-tested, optional-missing, optional-tested}
use Rattle.asn1_certificate.proofs.fields.Fields.take_if.Goals as goal

pub returns-then-not-fits-clause-field : goal.returns-then-not-fits-clause-field
returns-then-not-fits-clause-field c ns is others tells =
    let refused : c.args.fits ≡ false = grind (arith, common_steps) in
    field-missing ns is others (left c.args.self.now) c.args.fits tells refused

pub returns-then-not-fits-clause-optional : goal.returns-then-not-fits-clause-optional
returns-then-not-fits-clause-optional c ns is others tells =
    let refused : c.args.fits ≡ false = grind (arith, common_steps) in
    optional-missing ns is others (left c.args.self.now) c.args.fits tells refused

pub returns-clause-field : goal.returns-clause-field
returns-clause-field c ns is others tells =
    let told : c.args.fits ≡ true = grind (arith, common_steps) in
    field-tested ns is others (left c.args.self.now) (left c.take.new.self) c.args.fits tells told c.take.result
    c.take.ensures

pub returns-clause-optional : goal.returns-clause-optional
returns-clause-optional c ns is others tells =
    let told : c.args.fits ≡ true = grind (arith, common_steps) in
    optional-tested ns is others (left c.args.self.now) (left c.take.new.self) c.args.fits tells told c.take.result
    c.take.ensures
