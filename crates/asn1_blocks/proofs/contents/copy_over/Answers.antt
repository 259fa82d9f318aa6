-- For `contents::copy_over`: what it returns is right and `take_last` may be called.
use Rattle.std.proofs.lemmas.Grind.{common_steps}
use Rattle.std.proofs.Common.{◌≡◌, ◌++◌, ◌∷◌, [], List, ℕ, Box, Global, length, length-append, refl, sym, ap, ◌∙◌, arith}
use Rattle.asn1_headers.specs.declared.header.ASN1Class.{ASN1Class}
use Rattle.asn1_blocks.specs.declared.block.ASN1Block.{ASN1Block, Explicit, Integer}
use Rattle.asn1_blocks.specs.Inner.TreeOrder.{inside}
use Rattle.asn1_blocks.specs.View.{view, views}
use Rattle.asn1_blocks.proofs.BlockLists.{tree_count, tree_count-views}
use Rattle.asn1_blocks.proofs.CopySteps.{view-Explicit_copy, view-Sequence_copies, view-Set_copies, view-Explicit}
use Rattle.asn1_blocks.proofs.contents.copy_over.Goals as goal

-- what is held for an explicit block is one block
length-held_one : (held : List ASN1Block) (b : ASN1Block) (c : ASN1Class) (o n : ℕ) (inner : Box ASN1Block Global) →
    b ≡ Explicit c o n inner
    → views held ≡ inside (view b) → length held ≡ 1
length-held_one held b c o n inner is e = sym (tree_count-views held)
    ∙ (ap tree_count e ∙ ap (λ z. tree_count (inside z)) (ap view is ∙ view-Explicit c o n inner))

pub take_last-requires : goal.take_last-requires
take_last-requires c =
    let r = c.in-Explicit in
    let one = length-held_one c.args.held.now c.args.b.now r.c r.o r.t r.field-3 r.is c.requires in
    omega (arith, one)

-- the last of a list of one is that one
append-one : (kept : List ASN1Block) (b : ASN1Block) → length (kept ++ b ∷ []) ≡ 1 → kept ++ b ∷ [] ≡ b ∷ []
append-one [] b e = refl
append-one (x ∷ kept) b e = absurd (omega (arith, e, length-append kept (b ∷ [])))

pub returns-in_ok-boxed-in-Explicit : goal.returns-in_ok-boxed-in-Explicit
returns-in_ok-boxed-in-Explicit c =
    let r = c.in-Explicit in
    let copy = c.take_last.result in
    let one = length-held_one c.args.held.now c.args.b.now r.c r.o r.t r.field-3 r.is c.requires in
    let last = append-one _ copy (ap length (sym c.take_last.ensures) ∙ one) in
    let e = ap views (sym (c.take_last.ensures ∙ last)) ∙ (c.requires ∙ ap (λ b. inside (view b)) r.is) in
    ap (λ n. view (Explicit r.c r.o n c.in_ok-boxed-in-Explicit.field-0)) c.in_ok-tag-in-Explicit.ensures
    ∙ (view-Explicit_copy r.c r.o r.t r.field-3 c.in_ok-boxed-in-Explicit.field-0 copy c.in_ok-boxed-in-Explicit.ensures
    e
    ∙ ap view (sym r.is))

pub returns-in_ok-clone-in-Integer : goal.returns-in_ok-clone-in-Integer
returns-in_ok-clone-in-Integer c =
    let r = c.in-Integer in
    ap (λ n. view (Integer r.o n)) c.in_ok-clone-in-Integer.ensures ∙ ap view (sym r.is)

pub returns-in-Sequence : goal.returns-in-Sequence
returns-in-Sequence c =
    let r = c.in-Sequence in
    let e = ap views c.take_all.ensures.all ∙ (c.requires ∙ ap (λ b. inside (view b)) r.is) in
    view-Sequence_copies r.o r.field-1 c.take_all.result e ∙ ap view (sym r.is)

pub returns-in-Set : goal.returns-in-Set
returns-in-Set c =
    let r = c.in-Set in
    let e = ap views c.take_all-in-Set.ensures.all ∙ (c.requires ∙ ap (λ b. inside (view b)) r.is) in
    view-Set_copies r.o r.field-1 c.take_all-in-Set.result e ∙ ap view (sym r.is)

pub returns-in_err-clone-in-Integer : goal.returns-in_err-clone-in-Integer
returns-in_err-clone-in-Integer c = grind (arith, common_steps)

pub returns-in_err-from_slice-in-BitString : goal.returns-in_err-from_slice-in-BitString
returns-in_err-from_slice-in-BitString c = grind (arith, common_steps)

pub returns-in_err-from_slice-in-OctetString : goal.returns-in_err-from_slice-in-OctetString
returns-in_err-from_slice-in-OctetString c = grind (arith, common_steps)

pub returns-in_err-clone-in-ObjectIdentifier : goal.returns-in_err-clone-in-ObjectIdentifier
returns-in_err-clone-in-ObjectIdentifier c = grind (arith, common_steps)

pub returns-in_err-clone-in-UTF8String : goal.returns-in_err-clone-in-UTF8String
returns-in_err-clone-in-UTF8String c = grind (arith, common_steps)

pub returns-in_err-clone-in-PrintableString : goal.returns-in_err-clone-in-PrintableString
returns-in_err-clone-in-PrintableString c = grind (arith, common_steps)

pub returns-in_err-clone-in-TeletexString : goal.returns-in_err-clone-in-TeletexString
returns-in_err-clone-in-TeletexString c = grind (arith, common_steps)

pub returns-in_err-clone-in-IA5String : goal.returns-in_err-clone-in-IA5String
returns-in_err-clone-in-IA5String c = grind (arith, common_steps)

pub returns-in_err-clone-in-UniversalString : goal.returns-in_err-clone-in-UniversalString
returns-in_err-clone-in-UniversalString c = grind (arith, common_steps)

pub returns-in_err-clone-in-BMPString : goal.returns-in_err-clone-in-BMPString
returns-in_err-clone-in-BMPString c = grind (arith, common_steps)

pub returns-in_err-tag-in-Explicit : goal.returns-in_err-tag-in-Explicit
returns-in_err-tag-in-Explicit c = grind (arith, common_steps)

pub returns-in_err-boxed-in-Explicit : goal.returns-in_err-boxed-in-Explicit
returns-in_err-boxed-in-Explicit c = grind (arith, common_steps)

pub returns-in_err-clone-in-Unknown : goal.returns-in_err-clone-in-Unknown
returns-in_err-clone-in-Unknown c = grind (arith, common_steps)

pub returns-in_err-from_slice-in-Unknown : goal.returns-in_err-from_slice-in-Unknown
returns-in_err-from_slice-in-Unknown c = grind (arith, common_steps)

pub returns-in-Boolean : goal.returns-in-Boolean
returns-in-Boolean c = grind (arith, common_steps)

pub returns-in-Null : goal.returns-in-Null
returns-in-Null c = grind (arith, common_steps)

pub returns-in_ok-clone-in-ObjectIdentifier : goal.returns-in_ok-clone-in-ObjectIdentifier
returns-in_ok-clone-in-ObjectIdentifier c = grind (arith, common_steps)

pub returns-in-UTCTime : goal.returns-in-UTCTime
returns-in-UTCTime c = grind (arith, common_steps)

pub returns-in-GeneralizedTime : goal.returns-in-GeneralizedTime
returns-in-GeneralizedTime c = grind (arith, common_steps)
