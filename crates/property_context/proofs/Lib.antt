pub mod PlaceLaws
pub mod RoomLaws
pub mod SpaceLaws
pub mod UniqueLaws
pub mod ValueLaws
pub mod WriteLaws
pub use Rattle.write_limits.proofs as write_limits_laws
