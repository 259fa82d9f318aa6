-- Blocks that are written one after another, beside what is written of them. For `sets`.
use Rattle.std.proofs.Common.{◌≡◌, ◌∙◌, ℕ, List, [], ◌∷◌, ◌++◌, refl, sym, ap, append_assoc, map, reverse}
use Rattle.std.proofs.lemmas.List.{reverse-append}
use Rattle.std.specs.Prelude.{Option, None, Some}
use Rattle.asn1_blocks.specs.View.{view, views}
use Rattle.asn1_blocks.specs.declared.block.ASN1Block.{ASN1Block}
use Rattle.asn1_headers.specs.declared.error.ASN1EncodeErr.{ASN1EncodeErr}
use Rattle.asn1_writing.specs.Canonical.{canonical, first_of, first_write_fault, write_fault}
use Rattle.simple_asn1.specs.Inner.Encodings.{block_of, octets_of}
use Rattle.simple_asn1.specs.declared.encoded.Encoded.{Encoded}

-- what is kept beside the blocks is what is written of them
pub octets_of-items : (items : List Encoded) → map octets_of items ≡ map (λ b. canonical (view b)) (map block_of items)
octets_of-items [] = refl
octets_of-items (item ∷ items) =
    ap (λ (first : List ℕ). first ∷ map octets_of items) item.is_written
    ∙ ap (λ (rest : List (List ℕ)). canonical (view item.block) ∷ rest) (octets_of-items items)

no_fault-parts : (a b : Option ASN1EncodeErr) → first_of a b ≡ None → (a ≡ None) × (b ≡ None)
no_fault-parts None b e = (refl, e)
no_fault-parts (Some x) b e = cc e

-- behind blocks that can be written the first fault is that of the others
no_fault-append :
    (xs ys : List ASN1Block) → first_write_fault (views xs) ≡ None →
    first_write_fault (views (xs ++ ys)) ≡ first_write_fault (views ys)
no_fault-append [] ys e = refl
no_fault-append (x ∷ xs) ys e =
    let parts = no_fault-parts (write_fault (view x)) (first_write_fault (views xs)) e in
    rw (parts.0, no_fault-append xs ys parts.1) refl

-- the last of those that are left, turned round, is the next
split :
    (done left rest all : List ASN1Block) (b : ASN1Block) → done ++ reverse left ≡ all → left ≡ rest ++ b ∷ [] →
    done ++ (b ∷ reverse rest) ≡ all
split done left rest all b whole last =
    ap (λ (xs : List ASN1Block). done ++ xs) (sym (ap reverse last ∙ reverse-append rest (b ∷ []))) ∙ whole

pub one_more :
    (done left rest all : List ASN1Block) (b : ASN1Block) → done ++ reverse left ≡ all → left ≡ rest ++ b ∷ [] →
    (done ++ b ∷ []) ++ reverse rest ≡ all
one_more done left rest all b whole last =
    append_assoc done (b ∷ []) (reverse rest) ∙ split done left rest all b whole last

-- blocks that can be written, and one more
pub no_fault-push :
    (xs : List ASN1Block) (b : ASN1Block) → first_write_fault (views xs) ≡ None → write_fault (view b) ≡ None →
    first_write_fault (views (xs ++ b ∷ [])) ≡ None
no_fault-push xs b none one = no_fault-append xs (b ∷ []) none ∙ rw one refl

-- the fault of the next is the first of all
pub first_fault :
    (done left rest all : List ASN1Block) (b : ASN1Block) (e : ASN1EncodeErr) → done ++ reverse left ≡ all →
    left ≡ rest ++ b ∷ [] → first_write_fault (views done) ≡ None → write_fault (view b) ≡ Some e →
    first_write_fault (views all) ≡ Some e
first_fault done left rest all b e whole last none fault =
    ap (λ (xs : List ASN1Block). first_write_fault (views xs)) (sym (split done left rest all b whole last))
    ∙ (no_fault-append done (b ∷ reverse rest) none ∙ rw fault refl)
