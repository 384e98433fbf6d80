pub mod LayoutLemmas
pub mod ClassLemmas
pub mod ClassSetLemmas
pub mod PickLemmas
pub mod SearchLemmas
mod LabelLemmas
mod TextLemmas
pub mod VariableLemmas
pub mod MethodLemmas
mod NumberLemmas
mod OnlyLemmas
mod WordLemmas
mod FoundLemmas
mod PositionLemmas
mod CategoryLemmas
mod OrganizationLemmas
pub mod InstanceVariableLemmas
pub mod MethodOrderLemmas
