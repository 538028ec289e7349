pub mod Laws
pub mod MemberRow
