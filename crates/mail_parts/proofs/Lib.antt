pub mod PartTables
pub mod Subnodes
pub mod PartChanges
pub mod KeptIds
pub mod Tests
pub mod DeskTests
pub use Rattle.mail_draft.proofs as mail_draft_laws
pub use Rattle.mail_messages.proofs as mail_messages_laws
