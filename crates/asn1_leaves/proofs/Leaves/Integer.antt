-- What is known of the contents octets of an INTEGER, for `asn1_blocks`.
use Rattle.std.proofs.Common.{◌≡◌, ℕ, List, sym, ◌∙◌}
use Rattle.std.specs.Prelude.{ℤ}
use Rattle.asn1_leaves.specs.Contents.Integer.{IntegerContents}

-- contents octets mean one number
pub IntegerContents-unique : (m n : ℤ) (contents : List ℕ) → IntegerContents m contents → IntegerContents n contents →
    m ≡ n
IntegerContents-unique m n contents p q = p ∙ sym q
