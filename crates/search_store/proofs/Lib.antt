pub mod QuietLaws
pub mod FollowLaws
pub mod PlanLaws
pub use Rattle.mail_draft.proofs as mail_draft_laws
pub use Rattle.search_folders.proofs.mail_folders_laws as mail_folders_laws
pub use Rattle.mail_store.proofs as mail_store_laws
