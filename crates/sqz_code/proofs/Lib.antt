pub mod InstructionLemmas
mod JoinLemmas
mod MentionLemmas
mod UnimplementedLemmas
mod StackLemmas
