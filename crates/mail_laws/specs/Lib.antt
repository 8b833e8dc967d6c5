pub mod Laws
pub mod Stays
pub mod ComesAndGoes
pub mod MessageLaws
pub mod FolderLaws
pub mod AttachmentLaws
