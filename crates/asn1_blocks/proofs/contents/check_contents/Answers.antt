-- For `contents::check_contents`: what it returns is right (`encoded`, `refused`).
use Rattle.std.proofs.Common.{◌≡◌, ℕ, List, Bool, true, inl, inr, refl, sym, subst}
use Rattle.std.proofs.lemmas.Result.{IfErr-weaker, on_ok_weaker}
use Rattle.asn1_headers.specs.declared.header.ASN1Class.{ASN1Class}
use Rattle.asn1_headers.specs.declared.header.ASN1Class.TheVariants.{Universal}
use Rattle.asn1_headers.specs.Header.{Encoding}
use Rattle.asn1_blocks.specs.Contents.{is_group_tag}
use Rattle.asn1_blocks.specs.HeadersBegun.{IsReadInside}
use Rattle.asn1_blocks.specs.Inner.LeafBlocks.{IsNoLeafOrMeant, IsSingleAt}
use Rattle.asn1_blocks.specs.Tree.{leaf, unknown}
use Rattle.asn1_blocks.proofs.Leaves.{unknown_tag, group_tag_of, leaf_tag_of, TagKind-total, is_group_tag-group_tag}
use Rattle.asn1_blocks.proofs.contents.check_contents.Goals as goal

-- an encoding of class Universal that is a leaf, or whose tag has no rule, is of a tree that holds no others
IsSingleAt-universal : (k : Bool) (n : ℕ) (contents : List ℕ) → (IsReadInside Universal k n → ⊥) →
    IsNoLeafOrMeant n contents
    → (offset : ℕ) (octets : List ℕ) (h : ℕ) → Encoding octets Universal k n contents h → IsSingleAt offset octets
IsSingleAt-universal k n contents shut (inr (l, t, m)) offset octets h F =
    let own = subst (λ z. Encoding octets Universal k z contents h) t F in
    (leaf offset l, refl, (refl, k, contents, h, own, m))
IsSingleAt-universal k n contents shut (inl none) offset octets h F = elim (TagKind-total n) [
  | unknown_tag e ↦ (unknown Universal k offset n contents, refl, (refl, h, F, inl (refl, e)))
  | group_tag_of g e ↦ absurd (shut (inl (refl, subst (λ z. is_group_tag z ≡ true) (sym e) (is_group_tag-group_tag g))))
  | leaf_tag_of e ↦ absurd (cc)
]

pub returns-in-Universal-clause-encoded : goal.returns-in-Universal-clause-encoded
returns-in-Universal-clause-encoded c =
    let h = c.args.header.now in
    let all : (d : ASN1Class) → d ≡ Universal → (IsReadInside d h.constructed h.tag → ⊥) →
    IsNoLeafOrMeant h.tag c.args.contents.now
    → (offset : ℕ) (octets : List ℕ) (i : ℕ) → Encoding octets d h.constructed h.tag c.args.contents.now i →
    IsSingleAt offset octets =
    λ d e. subst (λ z. (IsReadInside z h.constructed h.tag → ⊥) → IsNoLeafOrMeant h.tag c.args.contents.now
    → (offset : ℕ) (octets : List ℕ) (i : ℕ) → Encoding octets z h.constructed h.tag c.args.contents.now i →
    IsSingleAt offset octets) (sym e) (IsSingleAt-universal h.constructed h.tag c.args.contents.now)
    in
    on_ok_weaker c.check_leaf.result (all h.class c.in-Universal.is c.requires.closed) c.check_leaf.ensures.found

pub returns-in-Universal-clause-refused : goal.returns-in-Universal-clause-refused
returns-in-Universal-clause-refused c =
    IfErr-weaker c.check_leaf.result _ _
    (λ e found. elim found [ inl memory ↦ inl memory | inr fault ↦ inr (c.in-Universal.is, fault) ])
    c.check_leaf.ensures.refused

pub returns-in_default : goal.returns-in_default
returns-in_default c =
    let h = c.args.header.now in
    let other = c.in_default.not-Universal in
    record {
      encoded = λ offset octets i F. (
        unknown h.class h.constructed offset h.tag c.args.contents.now,
        refl,
        (refl, i, F, inr (other, λ z. c.requires.closed (inr (other, z.0)))),
      );
      refused = tt;
    }
