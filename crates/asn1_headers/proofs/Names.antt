-- Tag numbers whose types have no name, for `block::ASN1Block::type_name` of `asn1_blocks` and `tag::name_of` of
-- `dump_walk`.
use Rattle.std.proofs.Common.{◌≡◌, ◌≤◌, ℕ, None, refl, sym}
use Rattle.std.proofs.lemmas.List.{get_or_past}
use Rattle.asn1_headers.specs.declared.header.ASN1Class.{ASN1Class}
use Rattle.asn1_headers.specs.declared.header.ASN1Class.TheVariants.{Universal, Application, ContextSpecific, Private}
use Rattle.asn1_headers.specs.Names.{type_name, universal_names}

-- a tag number of 37 or above has no name of a type, in any class
pub type_name-past : (class : ASN1Class) (tag : ℕ) → 37 ≤ tag → None ≡ type_name class tag
type_name-past Universal tag l = sym (get_or_past universal_names tag None l)
type_name-past Application tag l = refl
type_name-past ContextSpecific tag l = refl
type_name-past Private tag l = refl
