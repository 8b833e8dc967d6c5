pub mod RootLaws
pub mod CountLaws
pub mod AnewLaws
