-- What a writer held before stays at the front, for `appended` and `sources::run_on`.
use Rattle.std.proofs.Common.{ℕ, List, [], ◌++◌, append-nil, sym, ◌∙◌, take}
use Rattle.std.specs.Prelude.{Option, None, Some, Result, Ok, Err}
use Rattle.std.proofs.KnownBytes.{Appends-trans}
use Rattle.std.specs.Io.KnownBytes.{Keeps, WriteAppends}
use Rattle.dump_inputs.specs.Growing.{Grows}

-- what a writer holds stays at the front where nothing is written
pub Grows-refl : (a : Option (List ℕ)) → Grows a a
Grows-refl None = ([], tt)
Grows-refl (Some xs) = ([], sym (append-nil xs))

-- what stays at the front up to one time, and from then on, stays at the front throughout
pub Grows-trans : (a b c : Option (List ℕ)) → Grows a b → Grows b c → Grows a c
Grows-trans a b c (more, first) (rest, next) = (more ++ rest, Appends-trans a b c more rest first next)

-- what a writer holds stays at the front where it keeps what it holds
pub Grows-kept : (a b : Option (List ℕ)) → Keeps a b → Grows a b
Grows-kept None b kept = ([], tt)
Grows-kept (Some xs) None kept = absurd kept
Grows-kept (Some xs) (Some ys) kept = ([], kept ∙ sym (append-nil xs))

-- what a writer held before a write stays at the front, whatever the result of the write
pub Grows-written :
    {E : Type 0} (a b : Option (List ℕ)) (result : Result ℕ E) (buf : List ℕ) → WriteAppends a b result buf → Grows a b
Grows-written a b (Ok n) buf appended = (take n buf, appended)
Grows-written a b (Err e) buf kept = Grows-kept a b kept
