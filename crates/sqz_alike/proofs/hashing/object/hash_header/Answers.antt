use Rattle.sqz_alike.proofs.HashingLemmas.{header-taken}
use Rattle.sqz_alike.proofs.hashing.object.hash_header.Goals as goal

pub returns : goal.returns
returns c =
    header-taken c.args.object.now c.header-header.result c.base_of-base.result c.kind_number.result c.traced_fields.result
    c.header-header.ensures.described c.base_of-base.ensures c.kind_number.ensures c.traced_fields.ensures.traced
    c.hash_pair.ensures c.hash_pair-2.ensures c.hash_pair-3.ensures
