-- For `show::Show::push_part_of`: what it returns is right.
use Rattle.std.proofs.Common.{[], ℕ, List, inl, inr, refl}
use Rattle.std.proofs.KnownBytes.{Appends-nil}
use Rattle.std.proofs.lemmas.Result.{IfOk-weaker}
use Rattle.std.specs.Prelude.{Err, None, Option, Some}
use Rattle.dump_inputs.specs.Blocks.{IsPartOf}
use Rattle.dump_walk.specs.StringOctets.{HoldsNoOctets, HoldsOctets, IsStringAnswer}
use Rattle.dump_walk.specs.declared.string_value.NoString.{NoString}
use Rattle.dump_walk.specs.declared.string_value.NoString.TheVariants.{Malformed, OtherType}
use Rattle.dump_options.specs.declared.options.Part.TheVariants.{Text}
use Rattle.dump_inputs.proofs.show.Show.push_part_of.Goals as goal

-- a block that is no string, or a malformed one, holds no octets of a string
HoldsNoOctets-answer :
    (element : List ℕ) (why : NoString) → IsStringAnswer element (Err why) → HoldsNoOctets element
HoldsNoOctets-answer element OtherType is = inl is
HoldsNoOctets-answer element Malformed is = inr is

pub returns-in-Whole : goal.returns-in-Whole
returns-in-Whole g c =
    let block = c.args.block.now.octets.now in
    let is : IsPartOf c.args.part block c.args.block.now.contents.now (Some block) = rw c.in-Whole.is refl in
    IfOk-weaker c.push_octets.result _ _ (λ outcome written. (Some block, is, written)) c.push_octets.ensures

pub returns-in-Contents : goal.returns-in-Contents
returns-in-Contents g c =
    let contents = c.args.block.now.contents.now in
    let is : IsPartOf c.args.part c.args.block.now.octets.now contents (Some contents) = rw c.in-Contents.is refl in
    IfOk-weaker c.push_octets-in-Contents.result _ _ (λ outcome written. (Some contents, is, written))
    c.push_octets-in-Contents.ensures

pub returns-in-Ok : goal.returns-in-Ok
returns-in-Ok g c =
    let block = c.args.block.now.octets.now in
    let octets = c.in-Ok.octets.items in
    let holds : HoldsOctets block octets = rw c.in-Ok.is at c.in_ok-octets-in-Value.ensures in
    let is : IsPartOf c.args.part block c.args.block.now.contents.now (Some octets) = rw c.in-Value.is holds in
    IfOk-weaker c.push_octets-in-Ok.result _ _
    (λ outcome written. (Some octets, is, rw c.deref.ensures.value at written)) c.push_octets-in-Ok.ensures

pub returns-in_ok-no_string_text-in-Err : goal.returns-in_ok-no_string_text-in-Err
returns-in_ok-no_string_text-in-Err g c =
    let block = c.args.block.now.octets.now in
    let none : HoldsNoOctets block =
    HoldsNoOctets-answer block c.in-Err.why (rw c.in-Err.is at c.in_ok-octets-in-Value.ensures) in
    let is : IsPartOf c.args.part block c.args.block.now.contents.now None = rw c.in-Value.is none in
    (None, is, ([], Appends-nil (g.W.Write.contents c.args.out.now), refl))

pub returns-in-Text : goal.returns-in-Text
returns-in-Text g c =
    let block = c.args.block.now.octets.now in
    let contents = c.args.block.now.contents.now in
    let in_part : (octets : Option (List ℕ)) → IsPartOf Text block contents octets
    → IsPartOf c.args.part block contents octets = λ octets is. rw c.in-Text.is is in
    IfOk-weaker c.push_text_of.result _ _
    (λ outcome (octets, is, written). (octets, in_part octets is, written)) c.push_text_of.ensures
