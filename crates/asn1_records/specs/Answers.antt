-- What each call answers.
use Rattle.std.specs.Prelude.{◌≡◌, ◌⊎◌, ℕ, List, map}
use Rattle.simple_asn1.specs.Canonical.{all_canonical}
use Rattle.simple_asn1.specs.Fault.{DecodeFault}
use Rattle.simple_asn1.specs.Grammar.{FirstFaultAt, IsDocument}
use Rattle.simple_asn1.specs.ReadBack.{CanonicalDocument}
use Rattle.simple_asn1.specs.Strict.{IsNotCanonicalAt}
use Rattle.simple_asn1.specs.SignedTrees.{IsOfAnotherShape, IsSigned, SignedParts, signature_tree}
use Rattle.simple_asn1.specs.Shapes.{FirstHeaderFaultAt, HasShapes, Shapes, entries_of}
use Rattle.simple_asn1.specs.Structure.{AreNodes, IsStructure, Nodes, nodes_trees}
use Rattle.simple_asn1.specs.Tree.{Tree, Trees, leaf, object_identifier}
use Rattle.asn1_records.specs.Room.{Answers, OrNoMemory}
use Rattle.asn1_records.specs.Records.{AreRecords, HasNoLinks, IsRecord, block_of, no_record}
use Rattle.asn1_records.specs.Spelled.{IsBadAt, AreSpelled}
use Rattle.asn1_records.specs.Status.{bad_record, done, is_not_canonical, not_signed, status_of}
use Rattle.asn1_records.specs.declared.record.Block.{Block}
use Rattle.asn1_records.specs.declared.record.Outcome.{Outcome}
use Rattle.asn1_records.specs.declared.record.SignedAnswer.{SignedAnswer}

-- the octets are refused for their first fault, which is at the offset
abbrev pub IsRefusal : List ℕ → ℕ → ℕ → Type 0
IsRefusal octets status offset =
    (fault : DecodeFault) × FirstFaultAt octets fault offset × (status ≡ status_of fault)

-- the octets are refused in strict reading: for their first fault, or, with none, for the first block that is not
-- canonical, which has the offset
abbrev pub IsRefusedStrict : List ℕ → ℕ → ℕ → Type 0
IsRefusedStrict octets status offset =
    IsRefusal octets status offset ⊎ ((status ≡ is_not_canonical) × IsNotCanonicalAt octets offset)

-- reading into records: those of all blocks of a document; or the first fault and its place
abbrev pub AnswersRead : List ℕ → List Block → List Block → Outcome → Type 0
AnswersRead octets before after o =
    Answers (λ records. (ns : Nodes) × IsStructure octets ns × AreRecords octets ns records) (IsRefusal octets)
    before after o

-- the octets are a document in canonical form with this structure
abbrev pub IsCanonicalStructure : List ℕ → Nodes → Type 0
IsCanonicalStructure octets ns = CanonicalDocument octets (nodes_trees ns) × AreNodes octets ns

-- the answer of strict reading: the records of a document in canonical form; of another document the first block that
-- is not canonical
abbrev pub AnswersReadStrict : List ℕ → List Block → List Block → Outcome → Type 0
AnswersReadStrict octets before after o =
    Answers (λ records. (ns : Nodes) × IsCanonicalStructure octets ns × AreRecords octets ns records)
    (IsRefusedStrict octets) before after o

-- the octets are refused for their first header fault, which is at the offset
abbrev pub IsRefusedByHeader : List ℕ → ℕ → ℕ → Type 0
IsRefusedByHeader octets status offset =
    (fault : DecodeFault) × FirstHeaderFaultAt octets fault offset × (status ≡ status_of fault)

-- reading headers alone: the records of all encodings; or the first header fault and its place
abbrev pub AnswersOutline : List ℕ → List Block → List Block → Outcome → Type 0
AnswersOutline octets before after o =
    Answers (λ records. (all : Shapes) × HasShapes octets all × (records ≡ map block_of (entries_of 0 0 all)))
    (IsRefusedByHeader octets) before after o

-- checking: the octets are a document; the first fault and its place; or memory ran out
pub data AnswersCheck (octets : List ℕ) (o : Outcome) : Type 0 where
  is_document :
      o.status ≡ done → o.offset ≡ 0 → o.count ≡ 0 → (bs : Trees ℕ) → IsDocument octets bs →
      AnswersCheck octets o
  is_no_document : OrNoMemory (IsRefusal octets) o.status o.offset → o.count ≡ 0 → AnswersCheck octets o

-- rewriting: the canonical octets of a document; or the first fault and its place
abbrev pub AnswersRewrite : List ℕ → List ℕ → List ℕ → Outcome → Type 0
AnswersRewrite octets before after o =
    Answers (λ written. (bs : Trees ℕ) × IsDocument octets bs × (written ≡ all_canonical bs)) (IsRefusal octets)
    before after o

-- the block of the object identifier that names the algorithm
abbrev pub identifier_tree : SignedParts → Tree ℕ
identifier_tree p = leaf p.identifier_offset (object_identifier p.algorithm)

-- the octets are a document that begins with a signed triple, whose parts these records are of; no record has links
abbrev pub AreRecordsOfParts : List ℕ → SignedAnswer → Type 0
AreRecordsOfParts octets s =
    (s.status ≡ done) × (p : SignedParts) × IsSigned octets p × IsRecord octets p.content s.content
    × IsRecord octets (identifier_tree p) s.algorithm × IsRecord octets (signature_tree p) s.signature
    × HasNoLinks s.content × HasNoLinks s.algorithm × HasNoLinks s.signature

-- all fields of the records are 0
abbrev pub HasNoParts : SignedAnswer → Type 0
HasNoParts s = (s.content ≡ no_record) × (s.algorithm ≡ no_record) × (s.signature ≡ no_record)

-- the parts of a signed triple; another shape; the first fault and its place; or memory ran out
pub data AnswersSigned (octets : List ℕ) (s : SignedAnswer) : Type 0 where
  is_signed : AreRecordsOfParts octets s → s.offset ≡ 0 → AnswersSigned octets s
  is_of_another_shape :
      s.status ≡ not_signed → IsOfAnotherShape octets → s.offset ≡ 0 → HasNoParts s → AnswersSigned octets s
  was_refused_signed :
      OrNoMemory (IsRefusal octets) s.status s.offset → HasNoParts s → AnswersSigned octets s

-- the last of the records that can't be put has this index
abbrev pub IsRefusedRecord : List ℕ → List Block → ℕ → ℕ → Type 0
IsRefusedRecord octets records status offset = (status ≡ bad_record) × IsBadAt octets records offset

-- why records are not written: the last of them that can't be put, or the first fault of what they spell
abbrev pub IsRefusedWriting : List ℕ → List Block → ℕ → ℕ → Type 0
IsRefusedWriting octets records status offset =
    IsRefusedRecord octets records status offset
    ⊎ ((spelled : List ℕ) × AreSpelled octets records spelled × IsRefusal spelled status offset)

-- writing records: the canonical octets of the document that they spell; or why there are none
abbrev pub AnswersWrite : List ℕ → List Block → List ℕ → List ℕ → Outcome → Type 0
AnswersWrite octets records before after o =
    Answers
    (λ written. (spelled : List ℕ) × AreSpelled octets records spelled × (bs : Trees ℕ) × IsDocument spelled bs
    × (written ≡ all_canonical bs))
    (IsRefusedWriting octets records) before after o
