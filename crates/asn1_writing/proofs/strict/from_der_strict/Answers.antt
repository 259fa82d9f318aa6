-- For `strict::from_der_strict`: what it returns is right (`fault`, `accepts`, `refuses`, `not_canonical`, `equal`).
use Rattle.std.proofs.Common.{Err, Ok, arith, inl, inr, refl}
use Rattle.asn1_headers.specs.Fault.{not_canonical}
use Rattle.asn1_writing.proofs.CanonicalDocuments.{CanonicalDocument-accepted, StrictFault-refused, StrictFault-without_place, EqualByOctets-canonical}
use Rattle.asn1_blocks.specs.View.{views}
use Rattle.asn1_writing.proofs.strict.from_der_strict.Goals as goal

pub returns-in-Ok-clause-accepts : goal.returns-in-Ok-clause-accepts
returns-in-Ok-clause-accepts c =
    CanonicalDocument-accepted c.args.i.now (Ok c.in-Ok.blocks) (omega arith) c.in-Ok.ensures.document tt

pub returns-in-Ok-clause-refuses : goal.returns-in-Ok-clause-refuses
returns-in-Ok-clause-refuses c fault f =
    StrictFault-refused c.args.i.now (Ok c.in-Ok.blocks) (omega arith) c.in-Ok.ensures.document tt fault (inl f)

pub returns-in-Ok-clause-not_canonical : goal.returns-in-Ok-clause-not_canonical
returns-in-Ok-clause-not_canonical c offset n =
    StrictFault-refused c.args.i.now (Ok c.in-Ok.blocks) (omega arith) c.in-Ok.ensures.document tt
    (not_canonical offset) (inr (offset, n, refl))

pub returns-in-Ok-clause-equal : goal.returns-in-Ok-clause-equal
returns-in-Ok-clause-equal c =
    EqualByOctets-canonical c.args.i.now (views c.in-Ok.blocks.items) c.in-Ok.ensures.document

pub returns-in-Err-clause-fault : goal.returns-in-Err-clause-fault
returns-in-Err-clause-fault c =
    StrictFault-without_place c.args.i.now c.in-Err.field-0.error c.in-Err.field-0.offset c.in-Err.ensures.fault

pub returns-in-Err-clause-accepts : goal.returns-in-Err-clause-accepts
returns-in-Err-clause-accepts c =
    let e = c.in-Err.field-0 in
    CanonicalDocument-accepted c.args.i.now (Err e.error) (omega arith) tt
    (StrictFault-without_place c.args.i.now e.error e.offset c.in-Err.ensures.fault)

pub returns-in-Err-clause-refuses : goal.returns-in-Err-clause-refuses
returns-in-Err-clause-refuses c fault f =
    let e = c.in-Err.field-0 in
    StrictFault-refused c.args.i.now (Err e.error) (omega arith) tt
    (StrictFault-without_place c.args.i.now e.error e.offset c.in-Err.ensures.fault) fault (inl f)

pub returns-in-Err-clause-not_canonical : goal.returns-in-Err-clause-not_canonical
returns-in-Err-clause-not_canonical c offset n =
    let e = c.in-Err.field-0 in
    StrictFault-refused c.args.i.now (Err e.error) (omega arith) tt
    (StrictFault-without_place c.args.i.now e.error e.offset c.in-Err.ensures.fault) (not_canonical offset)
    (inr (offset, n, refl))
