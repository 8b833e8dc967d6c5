pub mod ValueLaws
pub mod FlagLaws
pub mod PropLaws
pub mod FoundLaws
pub mod WriteLaws
pub mod ScopeLaws
