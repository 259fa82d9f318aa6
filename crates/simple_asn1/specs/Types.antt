-- Types of the crates below, for the clauses of those above.
pub use Rattle.asn1_blocks.specs.declared.block.ASN1Block.{ASN1Block}
pub use Rattle.asn1_headers.specs.declared.error.ASN1DecodeErr.TheVariants.{OutOfMemory}
