pub mod StoreLaws
pub mod FlagLaws
pub mod QuietLaws
pub mod SpaceLaws
