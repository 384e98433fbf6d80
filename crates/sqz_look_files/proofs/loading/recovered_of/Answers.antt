use Rattle.sqz_look_files.proofs.DamageLemmas.{IsUnread-recovered, HoldsNone-recovered}
use Rattle.sqz_look_files.proofs.loading.recovered_of.Goals as goal

pub unreadable_of-requires : goal.unreadable_of-requires
unreadable_of-requires g c = (
  c.type_bounds.sync-T,
  IsUnread-recovered c.args.weak c.args.bytes.items _ (rw c.in-Err-NoImage.field-0-is at c.in-Err-NoImage.ensures.stopped),
)

pub returns-in_ok-unreadable_of-in_default : goal.returns-in_ok-unreadable_of-in_default
returns-in_ok-unreadable_of-in_default g c =
    HoldsNone-recovered c.args.weak c.args.bytes.items _ c.in_default.not-OutOfMemory
    (rw c.in-Err-NoImage.field-0-is at c.in-Err-NoImage.ensures.stopped)
