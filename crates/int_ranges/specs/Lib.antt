pub mod Ranges
pub mod Exact
pub mod Quotient
pub mod Ring
pub mod Signs
pub mod QuotientLaws
pub mod RangeLaws
