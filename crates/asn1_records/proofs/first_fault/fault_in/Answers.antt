-- For `first_fault::fault_in`: what it returns is right.
use Rattle.std.proofs.Common.{inl, inr, sym, subst}
use Rattle.asn1_headers.specs.Fault.{fault_of}
use Rattle.simple_asn1.specs.Grammar.{FirstFaultAt}
use Rattle.asn1_records.specs.Contents.{fault_was_found, has_no_fault}
use Rattle.asn1_records.proofs.first_fault.fault_in.Goals as goal

pub returns-in-Ok : goal.returns-in-Ok
returns-in-Ok c =
    let (status, offset, number, text) = c.no_fault.ensures in
    let (bs, d) = c.in-Ok.ensures.document in
    has_no_fault bs d status offset number text

pub returns : goal.returns
returns c =
    let e = c.in-Err.located.error in
    let outcome = c.fault_answer.ensures in
    elim c.in-Err.ensures.fault [
      | inl memory ↦ absurd (c.in_default.not-OutOfMemory memory)
      | inr fault ↦
          fault_was_found (fault_of e) (subst (FirstFaultAt c.args.octets.now (fault_of e)) (sym outcome.offset) fault)
          outcome.status outcome.number outcome.text
    ]
