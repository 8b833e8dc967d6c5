-- What is known of an object, by what it says.
use Rattle.std.proofs.Common.{◌≡◌, ℕ, Bool, List, Option, None, Some, ap}
use Rattle.std.proofs.lemmas.Option.{same_Some}
use Rattle.mail_tree.specs.declared.note.Note.{Note}
use Rattle.mail_tree.specs.declared.note.Note.TheVariants.{Named, Unread}
use Rattle.mail_tree.specs.Flags.{FlagList, known_flag, known_name, known_note, name_told, unread_told}

unread_note : (note : Option Note) (unread : Bool) → unread_told note ≡ Some unread → note ≡ Some (Unread unread)
unread_note None unread is = cc
unread_note (Some (Unread u)) unread is = ap (λ b. Some (Unread b)) (same_Some u unread is)
unread_note (Some (Named name)) unread is = cc

name_note : (note : Option Note) (name : List ℕ) → name_told note ≡ Some name → note ≡ Some (Named name)
name_note None name is = cc
name_note (Some (Unread u)) name is = cc
name_note (Some (Named n)) name is = ap (λ k. Some (Named k)) (same_Some n name is)

-- of a message of which it is known whether it is unread, that is what is known
pub note_of_flag : (m : ℕ) (flags : FlagList) (unread : Bool) → known_flag m flags ≡ Some unread → known_note m flags ≡ Some (Unread unread)
note_of_flag m flags unread is = unread_note (known_note m flags) unread is

-- of a folder whose name is known, that is what is known
pub note_of_name : (f : ℕ) (flags : FlagList) (name : List ℕ) → known_name f flags ≡ Some name → known_note f flags ≡ Some (Named name)
note_of_name f flags name is = name_note (known_note f flags) name is
