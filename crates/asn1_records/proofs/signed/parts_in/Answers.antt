-- For `signed::parts_in`: what it returns is right, and `parts_behind` may be called.
use Rattle.std.proofs.Common.{ℕ, List, inl, refl, sym, ap, subst, ◌∙◌}
use Rattle.std.proofs.lemmas.Bool.{false≢true}
use Rattle.std.proofs.lemmas.Option.{MatchOption-at_none, MatchOption-at_some}
use Rattle.asn1_headers.specs.declared.tags.TheConstants.{SEQUENCE}
use Rattle.asn1_outline.specs.Triple.{IsUniversal}
use Rattle.asn1_outline.specs.declared.entry.Entry.{Entry}
use Rattle.asn1_records.specs.Answers.{is_of_another_shape, is_signed, was_refused_signed}
use Rattle.asn1_records.specs.Inner.TripleRecords.{ArePartsBehind, IsOfEncoding, record_end}
use Rattle.asn1_records.specs.Status.{done}
use Rattle.asn1_records.specs.declared.record.Block.{Block}
use Rattle.asn1_records.specs.declared.record.SignedAnswer.{SignedAnswer}
use Rattle.asn1_records.proofs.TripleParts.{AreRecordsOfParts-found, BeginWithTriple-no_parts, IsOfAnotherShape-entries, IsOfEncoding-second}
use Rattle.asn1_records.proofs.Triples.{single_record}
use Rattle.asn1_records.proofs.signed.parts_in.Goals as goal

-- the parts of a triple stand behind the place
abbrev Behind : List ℕ → ℕ → Block → Block → Block → Type 0
Behind x place a i s = ArePartsBehind x place a i s

pub returns-then-not-is_of_three : goal.returns-then-not-is_of_three
returns-then-not-is_of_three c =
    let x = c.args.octets.now in
    let (all, outline, two, whole, content) = c.requires in
    let (status, offset, none) = c.no_parts.ensures in
    is_of_another_shape status
    (IsOfAnotherShape-entries x all outline (λ begin. false≢true (c.if-not-is_of_three.ensures.1 (
      subst (IsUniversal SEQUENCE) (sym whole) begin.whole,
      ap (λ (z : Entry). z.items) whole ∙ begin.three,
    )))) offset none

pub parts_behind-requires : goal.parts_behind-requires
parts_behind-requires c =
    let x = c.args.octets.now in
    let (all, outline, two, whole, content) = c.requires in
    let is = c.part_of-content.ensures ∙ ap single_record content in
    subst (IsOfEncoding x) (sym is) (IsOfEncoding-second x all outline two)

pub returns-in-Ok-Some : goal.returns-in-Ok-Some
returns-in-Ok-Some c =
    let x = c.args.octets.now in
    let (all, outline, two, whole, content) = c.requires in
    let (first, items) = c.if-not-is_of_three.ensures.0 refl in
    let is = c.part_of-content.ensures ∙ ap single_record content in
    let (a, p) = MatchOption-at_some _ _ (c.in-Ok-Some.algorithm, c.in-Ok-Some.signature) c.in-Ok-Some.field-0-is
    c.in-Ok-Some.ensures in
    let answer : SignedAnswer = record {
      status = done;
      offset = 0;
      content = c.part_of-content.result;
      algorithm = c.in-Ok-Some.algorithm;
      signature = c.in-Ok-Some.signature;
    } in
    is_signed (AreRecordsOfParts-found x all answer outline (subst (IsUniversal SEQUENCE) whole first)
    (ap (λ (z : Entry). z.items) (sym whole) ∙ items) a
    (subst (λ z. Behind x (record_end z) a answer.algorithm answer.signature) is p) refl is) refl

pub returns-in-Ok-None : goal.returns-in-Ok-None
returns-in-Ok-None c =
    let x = c.args.octets.now in
    let (all, outline, two, whole, content) = c.requires in
    let (first, items) = c.if-not-is_of_three.ensures.0 refl in
    let is = c.part_of-content.ensures ∙ ap single_record content in
    let none = MatchOption-at_none _ _ c.in-Ok-None.field-0-is c.in-Ok-None.ensures in
    let (status, offset, empty) = c.no_parts-in-Ok-None.ensures in
    is_of_another_shape status
    (IsOfAnotherShape-entries x all outline
    (BeginWithTriple-no_parts x all outline (subst (IsUniversal SEQUENCE) whole first)
    (ap (λ (z : Entry). z.items) (sym whole) ∙ items)
    (λ a i s p. none a i s (subst (λ z. Behind x (record_end z) a i s) (sym is) p)))) offset empty

pub returns-in-Err : goal.returns-in-Err
returns-in-Err c =
    let (status, offset, empty) = c.no_parts-in-Err.ensures in
    was_refused_signed (inl (status, offset)) empty
