-- For `contents::leaf_block`: what it returns is right (`encoded`, `refused`).
use Rattle.std.proofs.Common.{rules, ◌≡◌, ◌≢◌, ℕ, List, Bool, false, Result, Ok, Err, IfOk, refl, sym, ap, ◌∙◌, subst, inl, inr}
use Rattle.std.proofs.lemmas.Bool.{false≢true}
use Rattle.std.proofs.lemmas.Result.{err_from_is_err_and, IfErr-weaker}
use Rattle.asn1_headers.specs.declared.header.ASN1Class.{ASN1Class}
use Rattle.asn1_headers.specs.declared.header.ASN1Class.TheVariants.{Universal}
use Rattle.asn1_blocks.specs.declared.block.ASN1Block.{ASN1Block}
use Rattle.asn1_headers.specs.declared.error.ASN1DecodeErr.{ASN1DecodeErr}
use Rattle.asn1_blocks.specs.Grammar.{Encodes}
use Rattle.asn1_headers.specs.Header.{Encoding}
use Rattle.asn1_blocks.specs.HeadersBegun.{IsReadInside}
use Rattle.asn1_blocks.specs.Contents.{is_group_tag, is_leaf_tag}
use Rattle.asn1_blocks.specs.Tree.{unknown}
use Rattle.asn1_blocks.proofs.Leaves.{unknown_tag, group_tag_of, leaf_tag_of, TagKind-total, is_group_tag-group_tag}
use Rattle.asn1_blocks.specs.View.{view}
use Rattle.asn1_blocks.proofs.contents.leaf_block.Goals as goal

-- an encoding of another class whose contents are not read as blocks stays as it came
Encodes-not_universal : (c : ASN1Class) (k : Bool) (n : ℕ) (contents : List ℕ) (o : ℕ)
    (r : Result ASN1Block ASN1DecodeErr) →
    c ≢ Universal
    → (IsReadInside c k n → ⊥)
    → IfOk r (λ b. view b ≡ unknown c k o n contents)
    → IfOk r (λ b. (octets : List ℕ) (h : ℕ) → Encoding octets c k n contents h → Encodes o octets (view b))
Encodes-not_universal c k n contents o (Ok b) other shut kept =
    λ octets h f. subst (Encodes o octets) (sym kept)
    (refl, h, f, inr (other, λ z. shut (inr (other, z.0))))
Encodes-not_universal c k n contents o (Err e) other shut kept = tt

-- an encoding of class Universal whose tag has no rule stays as it came
Encodes-unknown_tag : (c : ASN1Class) (k : Bool) (n : ℕ) (contents : List ℕ) (o : ℕ)
    (r : Result ASN1Block ASN1DecodeErr) →
    c ≡ Universal
    → (IsReadInside c k n → ⊥) → is_leaf_tag n ≡ false → IfOk r (λ b. view b ≡ unknown c k o n contents)
    → IfOk r (λ b. (octets : List ℕ) (h : ℕ) → Encoding octets c k n contents h → Encodes o octets (view b))
Encodes-unknown_tag c k n contents o (Err e) u shut none is = tt
Encodes-unknown_tag c k n contents o (Ok b) u shut none is = λ octets h f. elim (TagKind-total n) [
  | unknown_tag t ↦ subst (Encodes o octets) (sym is) (refl, h, f, inl (u, t))
  | group_tag_of g e ↦ absurd (shut (inl (u, ap is_group_tag e ∙ is_group_tag-group_tag g)))
  | leaf_tag_of e ↦ absurd (false≢true (sym none ∙ e))
]

pub returns-in-None-clause-encoded : goal.returns-in-None-clause-encoded
returns-in-None-clause-encoded c =
    let none : is_leaf_tag c.args.header.tag ≡ false = search rules in
    Encodes-unknown_tag c.args.header.class c.args.header.constructed c.args.header.tag c.args.contents.now
    c.args.offset c.unknown_block.result c.in-Universal.is c.requires.closed none c.unknown_block.ensures.kept

pub returns-in_default-clause-encoded : goal.returns-in_default-clause-encoded
returns-in_default-clause-encoded c =
    Encodes-not_universal c.args.header.class c.args.header.constructed c.args.header.tag c.args.contents.now
    c.args.offset c.unknown_block-in_default.result
    c.in_default.not-Universal c.requires.closed c.unknown_block-in_default.ensures.kept

pub returns-in_default-clause-refused : goal.returns-in_default-clause-refused
returns-in_default-clause-refused c =
    IfErr-weaker c.unknown_block-in_default.result _ _ (λ e memory. inl memory)
    c.unknown_block-in_default.ensures.refused

pub returns-in_err-block-in-Universal-clause-refused : goal.returns-in_err-block-in-Universal-clause-refused
returns-in_err-block-in-Universal-clause-refused c =
    let p = err_from_is_err_and c.from_residual.result c.from_residual.ensures.1 in
    rw (p.1, p.2) (elim c.in_err-block-in-Universal.ensures.refused [
      | inl memory ↦ inl memory
      | inr fault ↦ inr (c.in-Universal.is, fault)
    ])
