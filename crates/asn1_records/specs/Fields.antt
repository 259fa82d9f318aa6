-- What is answered of the fields of a type, where a document begins with a block of the type.
use Rattle.std.specs.Prelude.{◌≡◌, ℕ, List, Option, None, Some}
use Rattle.simple_asn1.specs.Structure.{Nodes}
use Rattle.asn1_records.specs.Answers.{IsRefusal}
use Rattle.asn1_records.specs.Records.{IsRecordAt, no_record}
use Rattle.asn1_records.specs.Room.{OrNoMemory}
use Rattle.asn1_records.specs.Status.{done}
use Rattle.asn1_records.specs.declared.record.Block.{Block}

-- the record of a field that may be absent: all its fields are 0 then
abbrev pub IsRecordIfAny : List ℕ → Nodes → Option ℕ → Block → Type 0
IsRecordIfAny octets ns None r = r ≡ no_record
IsRecordIfAny octets ns (Some index) r = IsRecordAt octets ns index r

-- what a status and an offset mean: the fields of a block of the type; another block, of which the status has a number
-- of its own; the first fault and its place; or memory ran out. There are no fields but of a block of the type
pub data AnswersFields (octets : List ℕ) (status offset other : ℕ) (IsOne IsOther HasNone : Type 0) : Type 0 where
  is_one : status ≡ done → offset ≡ 0 → IsOne → AnswersFields octets status offset other IsOne IsOther HasNone
  is_other :
      status ≡ other → offset ≡ 0 → IsOther → HasNone →
      AnswersFields octets status offset other IsOne IsOther HasNone
  was_refused_fields :
      OrNoMemory (IsRefusal octets) status offset → HasNone →
      AnswersFields octets status offset other IsOne IsOther HasNone
