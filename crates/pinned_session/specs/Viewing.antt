-- The open views of a session.
use Rattle.std.specs.Prelude.{◌==◌, ℕ, not, List, filter, find, Option, None, Some}
use Rattle.std.specs.Option.{is_some}
use Rattle.mail_tree.specs.Places.{find_place}
use Rattle.mail_tree.specs.declared.places.FolderPlace.{FolderPlace}
use Rattle.pinned_session.specs.declared.views.OpenView.{OpenView}
use Rattle.pinned_session.specs.declared.views.OpenViews.{OpenViews}

-- how many numbers of views were given, and the open views
pub record Viewing : Type 0 where
  pub given : ℕ
  pub opened : List OpenView

-- as a session has them
abbrev pub viewing_of : OpenViews → Viewing
viewing_of views = record { given = views.given; opened = views.opened.items }

-- the open view that a line names
abbrev pub view_at : Option ℕ → Viewing → Option OpenView
view_at None V = None
view_at (Some v) V = find (λ (view : OpenView). view.number == v) V.opened

-- without that view
abbrev pub without_view : Option ℕ → Viewing → Viewing
without_view None V = V
without_view (Some v) V = record V { opened = filter (λ (view : OpenView). not (view.number == v)) V.opened }

-- the views whose folder is there
abbrev pub stand : List FolderPlace → List OpenView → List OpenView
stand places views = filter (λ (view : OpenView). is_some (find_place view.folder.bits places)) views

abbrev pub standing : List FolderPlace → Viewing → Viewing
standing places V = record V { opened = stand places V.opened }
