-- Octets that are put into room that the caller has.
use Rattle.std.specs.Prelude.{◌≡◌, ◌⊎◌, ℕ, ◌<◌, ◌≤◌, ◌++◌, List, drop, length}
use Rattle.asn1_records.specs.Status.{done, no_memory, no_room}
use Rattle.asn1_records.specs.declared.record.Outcome.{Outcome}

-- the octets are at the front, and those behind are as before
abbrev pub AreFront : {A : Type 0} → List A → List A → List A → Type 0
AreFront octets before after = after ≡ octets ++ drop (length octets) before

-- the octets were put at the front; or there is no room for so many, and nothing was written. Nothing is at fault
abbrev pub ArePut : {A : Type 0} → List A → List A → List A → Outcome → Type 0
ArePut octets before after o =
    (o.count ≡ length octets) × (o.offset ≡ 0)
    × (((o.status ≡ done) × (length octets ≤ length before) × AreFront octets before after)
    ⊎ ((o.status ≡ no_room) × (length before < length octets) × (after ≡ before)))

-- memory ran out, and no place is told
abbrev pub IsNoMemory : ℕ → ℕ → Type 0
IsNoMemory status offset = (status ≡ no_memory) × (offset ≡ 0)

-- a status and an offset say why octets are refused, or that memory ran out
abbrev pub OrNoMemory : (ℕ → ℕ → Type 0) → ℕ → ℕ → Type 0
OrNoMemory IsRefused status offset = IsNoMemory status offset ⊎ IsRefused status offset

-- what is found of octets was put at the front, or there is no room for so many; or the octets are refused, or memory
-- ran out, and nothing was written
pub data Answers {A : Type 0} (IsFound : List A → Type 0) (IsRefused : ℕ → ℕ → Type 0) (before after : List A)
    (o : Outcome) : Type 0 where
  was_found :
      (found : List A) → IsFound found → ArePut found before after o →
      Answers IsFound IsRefused before after o
  was_refused :
      OrNoMemory IsRefused o.status o.offset → o.count ≡ 0 → after ≡ before →
      Answers IsFound IsRefused before after o
