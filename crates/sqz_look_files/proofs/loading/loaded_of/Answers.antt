use Rattle.std.proofs.Common.{inl, inr}
use Rattle.sqz_look_files.proofs.loading.loaded_of.Goals as goal

pub returns-in_ok-unreadable_of-in_default : goal.returns-in_ok-unreadable_of-in_default
returns-in_ok-unreadable_of-in_default g c = (
  c.in-Err.unread.fault,
  elim c.in-Err.ensures.refused.refused [
    | inl (memory, sound) ↦ absurd (c.in_default.not-OutOfMemory memory)
    | inr unreadable ↦ unreadable
  ],
)
