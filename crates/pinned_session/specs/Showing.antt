-- What is said to a line on views, by the tree as it is, and the views after it.
use Rattle.std.specs.Prelude.{◌≡◌, ◌⊎◌, ◌<◌, ◌≤◌, ◌+◌, ◌-◌, ◌^◌, ℕ, Bool, true, false, List, [], ◌∷◌, ◌++◌, length, Option, None, Some, Ok, Err}
use Rattle.pst_base.specs.declared.ids.Nid.{Nid}
use Rattle.mapi_values.specs.Tables.{Tab}
use Rattle.mapi_values.specs.Values.{Val}
use Rattle.mapi_values.specs.declared.value.Tag.{Tag}
use Rattle.mail_objects.specs.Forms.{Tbl}
use Rattle.mail_tree.specs.Changing.{Answer}
use Rattle.mail_searches.specs.Searching.{Searching}
use Rattle.mail_reading.specs.Viewed.{listing_of}
use Rattle.line_server.specs.Spoken.{no_memory_text}
use Rattle.sorted_views.specs.Rows.{IsSortedView, cell_of, sorts_by}
use Rattle.sorted_views.specs.declared.rows.Direction.{Direction}
use Rattle.sorted_views.specs.declared.rows.ViewRow.{ViewRow}
use Rattle.session_lines.specs.Texts.{groups_text, rows_text, view_text}
use Rattle.session_lines.specs.declared.line.SessionLine.{SessionLine}
use Rattle.session_lines.specs.declared.line.SessionLine.TheVariants.{Pin, At, Unpin, OpenView, ShowView, CloseView, Embedded, Command as StoreCommand}
use Rattle.session_lines.specs.declared.line.ViewReply.TheVariants.{Opened, Closed, NoView, NoColumn, ViewsFull}
use Rattle.store_session.specs.Run.{refused}
use Rattle.pinned_session.specs.Viewing.{Viewing, view_at, viewing_of, without_view}
use Rattle.pinned_session.specs.declared.views.OpenView.{OpenView as View}
use Rattle.pinned_session.specs.declared.views.OpenViews.{OpenViews}

-- the rows of a view with these cells, or its groups
abbrev pub listed_text : Bool → (ℕ → Option Val) → List ViewRow → List ℕ
listed_text true cells rows = groups_text cells rows
listed_text false cells rows = rows_text cells rows

-- what is said of a view over a table, whose rows of these ids are sorted
pub record ShowsRows (grouped : Bool) (view : View) (t : Tab) (ids said : List ℕ) : Type 0 where
  pub rows : List ViewRow
  pub sorted : IsSortedView (cell_of t view.tag) view.direction ids rows
  pub is : said ≡ listed_text grouped (cell_of t view.tag) rows

-- the same of what its folder lists
abbrev pub ShowsListing : Bool → View → Answer (Tbl × List ℕ) → List ℕ → Type 0
ShowsListing grouped view (Ok l) said = ShowsRows grouped view l.0.table l.1 said
ShowsListing grouped view (Err (Some refusal)) said = said ≡ refused refusal
ShowsListing grouped view (Err None) said = ⊥

-- what is said of a view that a line names: what its folder lists now, or that there is no such view
abbrev pub ShowsView : Bool → Option View → Searching → List ℕ → Type 0
ShowsView grouped (Some view) X said = ShowsListing grouped view (listing_of X view.folder.bits) said
ShowsView grouped None X said = said ≡ view_text NoView

-- what is said where a view is closed, or is none
abbrev pub closed_text : Option View → List ℕ
closed_text (Some view) = view_text Closed
closed_text None = view_text NoView

-- one more view, with the next number
abbrev pub with_view : Nid → Tag → Direction → Viewing → Viewing
with_view folder tag direction V = record { given = V.given + 1; opened = V.opened ++ record { number = V.given + 1; folder = folder; tag = tag; direction = direction } ∷ [] }

-- no view can be opened: 16 are open, or all numbers of 32 bits were given
abbrev pub AreFull : Viewing → Type 0
AreFull V = (16 ≤ length V.opened) ⊎ (2 ^ 32 - 1 ≤ V.given)

-- a view was opened, where fewer than 16 were open and a number was left; or it can't be
abbrev pub Opens : Nid → Tag → Direction → Viewing → List ℕ → Viewing → Type 0
Opens folder tag direction V said after =
    ((length V.opened < 16) × (V.given < 2 ^ 32 - 1) × (after ≡ with_view folder tag direction V) × (said ≡ view_text (Opened after.given)))
    ⊎ (AreFull V × (said ≡ view_text ViewsFull) × (after ≡ V))

-- the same where the folder's table has the column, or hasn't
abbrev pub OpensColumn : Bool → Nid → Tag → Direction → Viewing → List ℕ → Viewing → Type 0
OpensColumn true folder tag direction V said after = Opens folder tag direction V said after
OpensColumn false folder tag direction V said after = (said ≡ view_text NoColumn) × (after ≡ V)

-- the same of what the folder lists
abbrev pub OpensListing : Answer (Tbl × List ℕ) → Nid → Tag → Direction → Viewing → List ℕ → Viewing → Type 0
OpensListing (Ok l) folder tag direction V said after = OpensColumn (sorts_by l.0.table tag) folder tag direction V said after
OpensListing (Err (Some refusal)) folder tag direction V said after = (said ≡ refused refusal) × (after ≡ V)
OpensListing (Err None) folder tag direction V said after = ⊥

-- a line on views was answered; any other line is none
abbrev pub AnswersView : Searching → Viewing → SessionLine → List ℕ → Viewing → Type 0
AnswersView X V (OpenView folder tag direction) said after = OpensListing (listing_of X folder.bits) folder tag direction V said after
AnswersView X V (ShowView view grouped) said after = ShowsView grouped (view_at view V) X said × (after ≡ V)
AnswersView X V (CloseView view) said after = (said ≡ closed_text (view_at view V)) × (after ≡ without_view view V)
AnswersView X V Pin said after = ⊥
AnswersView X V (At pin c) said after = ⊥
AnswersView X V (Unpin pin) said after = ⊥
AnswersView X V (Embedded line) said after = ⊥
AnswersView X V (StoreCommand c) said after = ⊥

-- there was no memory, and the views stay
abbrev pub LacksMemory : OpenViews → OpenViews → List ℕ → Type 0
LacksMemory old new said = (said ≡ no_memory_text) × (viewing_of new ≡ viewing_of old)
