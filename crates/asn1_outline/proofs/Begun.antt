-- The entry of a header that was found has this header and no items, for `listing::encoding_entry`.
use Rattle.std.proofs.Common.{◌≡◌, ℕ, suc, ◌-◌, ◌≤◌, ◌^◌, ◌++◌, List, drop, length, min, refl, sym, arith}
use Rattle.std.specs.List.{slice_range}
use Rattle.asn1_blocks.specs.Places.{HeaderFound}
use Rattle.asn1_blocks.specs.declared.parsed.PlacedHeader.{PlacedHeader}
use Rattle.asn1_blocks.proofs.ReadSteps.{length-slice_range}
use Rattle.asn1_outline.specs.Entries.{HasHeaderAt, IsCapped}
use Rattle.asn1_outline.specs.Listing.{IsBegun}
use Rattle.asn1_outline.specs.Shapes.{shape_entry}
use Rattle.std.proofs.lemmas.List.Folds.{drop_split}

-- the entry of a header that was found says which header stands at its offset
HasHeaderAt-found :
    (x : List ℕ) (offset limit : ℕ) (h : PlacedHeader) (tag items next depth : ℕ) → HeaderFound x offset limit h →
    limit ≤ length x → IsCapped h.tag tag →
    HasHeaderAt x (record {
      class = h.class;
      constructed = h.constructed;
      tag = tag;
      offset = offset;
      header = h.start - offset;
      contents = h.end - h.start;
      items = items;
      next = next;
      depth = depth;
    })
HasHeaderAt-found x offset limit h tag items next depth found within is =
    let octets = slice_range x offset h.end in
    let contents = slice_range x h.start h.end in
    let l : length contents ≡ h.end - h.start =
    length-slice_range x h.start h.end found.order (omega (arith, found.ends_within, within)) in
    let w : drop offset x ≡ octets ++ drop h.end x =
    drop_split x offset h.end (omega (arith, found.starts_after, found.order)) in (
      octets,
      record {
        rest = drop h.end x;
        at_offset = w;
        encoding = record {
          class = h.class;
          constructed = h.constructed;
          tag = h.tag;
          contents = contents;
          header = h.start - offset;
          encoding = found.encoding;
        };
      },
      record { tag = h.tag; contents = contents; encoding = found.encoding; tag_field = is; contents_field = sym l },
    )

-- the entry of a header that was found is one without items
pub IsBegun-found :
    (x : List ℕ) (offset limit entry depth : ℕ) (h : PlacedHeader) → HeaderFound x offset limit h → limit ≤ length x →
    IsBegun x offset entry depth (shape_entry offset h 0 (suc entry) depth)
IsBegun-found x offset limit entry depth h found within =
    let tag = min h.tag (2 ^ 64 - 1) in
    record {
      header = HasHeaderAt-found x offset limit h tag 0 (suc entry) depth found within (omega arith, omega arith);
      offset = refl;
      items = refl;
      next = refl;
      depth = refl;
    }
