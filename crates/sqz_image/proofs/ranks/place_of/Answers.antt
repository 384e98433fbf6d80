use Rattle.std.proofs.Common.{◌≡◌, ◌/◌, sym, arith}
use Rattle.std.proofs.lemmas.Bool.{ltb-true}
use Rattle.std.proofs.lemmas.List.{get_or_read}
use Rattle.sqz_image.specs.Ranks.{block_of}
use Rattle.sqz_image.proofs.RankLemmas.{no_bit, with_bit_place}
use Rattle.sqz_image.proofs.ranks.place_of.Goals as goal
use Rattle.sqz_image.proofs.ranks.place_of.Goals.{In_ok-block}

there : (c : In_ok-block) → c.in_ok-block.field-0.now ≡ block_of c.args.blocks.now c.args.number
there c =
    let inside = ltb-true _ _ (sym c.in_ok-block.ensures.lookup.0) in
    get_or_read c.args.blocks.now (c.args.number / 32) c.in_ok-block.field-0.now inside c.in_ok-block.ensures.lookup.1 _

pub returns-then-block-bit-eq0 : goal.returns-then-block-bit-eq0
returns-then-block-bit-eq0 c =
    let is = there (goal.at.returns-then-block-bit-eq0 c).In_ok-block in
    λ numbers ranked.
    no_bit numbers c.args.blocks.now ranked c.args.number c.in_ok-block.field-0.now is c.if-block-bit-eq0.true

pub overflow_add-result : goal.overflow_add-result
overflow_add-result c =
    let is = there (goal.at.overflow_add-result c).In_ok-block in
    let place =
    with_bit_place c.requires.numbers c.args.blocks.now c.requires.ranked c.args.number
    c.in_ok-block.field-0.now is c.if-block-bit-eq0.false in
    omega (arith, place.0, c.requires.few)

pub returns : goal.returns
returns c =
    let is = there (goal.at.returns c).In_ok-block in
    λ numbers ranked.
    with_bit_place numbers c.args.blocks.now ranked c.args.number c.in_ok-block.field-0.now is c.if-block-bit-eq0.false
