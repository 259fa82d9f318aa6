-- What calls answer that are refused.
use Rattle.std.proofs.Common.{◌≡◌, ℕ, List, sym, refl, subst}
use Rattle.asn1_records.specs.Room.{Answers, OrNoMemory, was_refused}
use Rattle.asn1_records.specs.declared.record.Outcome.{Outcome}

-- an answer that has a status and an offset is refused as these say
pub OrNoMemory-at : (IsRefused : ℕ → ℕ → Type 0) (s p status offset : ℕ) → s ≡ status → p ≡ offset →
    OrNoMemory IsRefused status offset
    → OrNoMemory IsRefused s p
OrNoMemory-at IsRefused s p status offset same at why =
    subst (λ z. OrNoMemory IsRefused z p) (sym same) (subst (λ z. OrNoMemory IsRefused status z) (sym at) why)

-- an outcome that has the status and the offset of a fault is that of a call that is refused
pub Answers-refused : {A : Type 0} (IsFound : List A → Type 0) (IsRefused : ℕ → ℕ → Type 0) (before : List A)
    (o : Outcome) (status offset : ℕ) → o.status ≡ status → o.offset ≡ offset → o.count ≡ 0 →
    OrNoMemory IsRefused status offset → Answers IsFound IsRefused before before o
Answers-refused IsFound IsRefused before o status offset same at none why =
    was_refused (OrNoMemory-at IsRefused o.status o.offset status offset same at why) none refl
