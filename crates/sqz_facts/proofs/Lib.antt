pub mod HeldLemmas
pub mod WalkLemmas
pub mod SumLemmas
pub mod SiteLemmas
pub mod OneSiteLemmas
pub mod RangeLemmas
pub mod MemberLemmas
pub mod ReferrerLemmas
pub mod AllDefectLemmas
mod FirstReferrerLemmas
mod TextLemmas
mod MatchLemmas
