-- Rows that show what they name, but for some ids, and what an object that is put leaves of that.
use Rattle.std.proofs.Common.{◌≡◌, ℕ, ◌%◌, ◌<◌, List, Option, Some, arith, sym, subst, ap, ◌∙◌, ◌⊎◌, inl, inr}
use Rattle.std.proofs.lemmas.Bool.{cases_eq}
use Rattle.mapi_values.specs.Messages.{Mes}
use Rattle.mapi_values.specs.Tables.{find_row, mirror}
use Rattle.mapi_values.specs.Values.{Val}
use Rattle.mail_objects.specs.Forms.{Ctx, Tbl}
use Rattle.mail_objects.specs.declared.object.Object.{Object}
use Rattle.mail_objects.specs.declared.object.Object.TheVariants.{Context, Table, Message}
use Rattle.mail_tree.specs.declared.places.FolderPlace.{FolderPlace}
use Rattle.mail_tree.specs.Places.{ROOT, find_place}
use Rattle.mail_tree.specs.Changing.{contents, hierarchy}
use Rattle.mail_laws.specs.Laws.{AreShown, Shows}
use Rattle.mail_tree.proofs.Nearly.{Puts}
use Rattle.mail_tree.proofs.KindsOfPuts.{beside_kind, same_table}

-- but for these ids rows show what they name
pub record AreShownBut (E : ℕ → Type 0) (places : List FolderPlace) (at : ℕ → Option Object) : Type 0 where
  pub folders : (f : ℕ) (p : FolderPlace) (c : Ctx) → find_place f places ≡ Some p → (f ≡ ROOT → ⊥) → (E f → ⊥) → at f ≡ Some (Context c) → Shows (at (hierarchy c.parent)) f c.props
  pub messages : (m : ℕ) (M : Mes) → (E m → ⊥) → at m ≡ Some (Message M) → Shows (at (contents M.folder)) m M.props

pub shown_but : (places : List FolderPlace) (at : ℕ → Option Object) → AreShown places at → AreShownBut (λ x. ⊥) places at
shown_but places at s = record { folders = λ f p c e no_root free is. s.folders f p c e no_root is; messages = λ m M free is. s.messages m M is }

pub all_shown : (places : List FolderPlace) (at : ℕ → Option Object) → AreShownBut (λ x. ⊥) places at → AreShown places at
all_shown places at s = record { folders = λ f p c e no_root is. s.folders f p c e no_root (λ x. x) is; messages = λ m M is. s.messages m M (λ x. x) is }

-- ids of places are of folders
abbrev pub FolderIds : List FolderPlace → Type 0
FolderIds places = (f : ℕ) (p : FolderPlace) → find_place f places ≡ Some p → (f % 32 ≡ 2) ⊎ (f % 32 ≡ 3)

module _ (E E' : ℕ → Type 0) (places : List FolderPlace) (at at' : ℕ → Option Object) (q : ℕ) (o : Option Object) (s : AreShownBut E places at) (more : (x : ℕ) → E x → E' x) (puts : Puts at at' q o) where
  -- an object that is no table of folders or messages is put: it needn't be shown
  pub shown_put : (q % 32 ≡ 13 → ⊥) → (q % 32 ≡ 14 → ⊥) → ((p : FolderPlace) → find_place q places ≡ Some p → E' q) → ((M : Mes) → o ≡ Some (Message M) → E' q) → AreShownBut E' places at'
  shown_put no_hierarchy no_contents place message = record {
    folders = λ f p c e no_root free is.
        let other : f ≡ q → ⊥ = λ same. free (subst E' (sym same) (place p (subst (λ x. find_place x places ≡ Some p) same e))) in
        subst (λ x. Shows x f c.props) (sym (puts.others (hierarchy c.parent) (λ e. no_hierarchy (ap (λ x. x % 32) (sym e) ∙ beside_kind c.parent 13 (omega arith)))))
        (s.folders f p c e no_root (λ x. free (more f x)) (sym (puts.others f other) ∙ is));
    messages = λ m M free is.
        let other : m ≡ q → ⊥ = λ same. free (subst E' (sym same) (message M (sym puts.here ∙ ap at' (sym same) ∙ is))) in
        subst (λ x. Shows x m M.props) (sym (puts.others (contents M.folder) (λ e. no_contents (ap (λ x. x % 32) (sym e) ∙ beside_kind M.folder 14 (omega arith)))))
        (s.messages m M (λ x. free (more m x)) (sym (puts.others m other) ∙ is));
  }

  -- a table that shows nothing changes
  pub shown_unlisting : FolderIds places → 4 < q % 32 → ((id : ℕ) (props : List Val) → Shows (at q) id props → ⊥) → ((M : Mes) → o ≡ Some (Message M) → ⊥) → AreShownBut E' places at'
  shown_unlisting ids high unlisted no_message = record {
    folders = λ f p c e no_root free is.
        let other : f ≡ q → ⊥ = λ same. elim (ids f p e) [ inl k ↦ omega arith | inr k ↦ omega arith ] in
        let old = s.folders f p c e no_root (λ x. free (more f x)) (sym (puts.others f other) ∙ is) in
        subst (λ x. Shows x f c.props) (sym (puts.others (hierarchy c.parent) (λ e. unlisted f c.props (subst (λ x. Shows (at x) f c.props) e old)))) old;
    messages = λ m M free is.
        let other : m ≡ q → ⊥ = λ same. no_message M (sym puts.here ∙ ap at' (sym same) ∙ is) in
        let old = s.messages m M (λ x. free (more m x)) (sym (puts.others m other) ∙ is) in
        subst (λ x. Shows x m M.props) (sym (puts.others (contents M.folder) (λ e. unlisted m M.props (subst (λ x. Shows (at x) m M.props) e old)))) old;
  }

-- a table gets other rows, of which that of an id that needn't be shown changes
pub shown_rows : (E : ℕ → Type 0) (places : List FolderPlace) (at at' : ℕ → Option Object) (q : ℕ) (t t' : Tbl) → AreShownBut E places at → FolderIds places → 4 < q % 32 → at q ≡ Some (Table t) → Puts at at' q (Some (Table t'))
    → t'.table.columns ≡ t.table.columns → ((id : ℕ) → (E id → ⊥) → find_row id t'.table.rows ≡ find_row id t.table.rows) → AreShownBut E places at'
shown_rows E places at at' q t t' s ids high is_t puts columns rows = record {
  folders = λ f p c e no_root free is.
      let other : f ≡ q → ⊥ = λ same. elim (ids f p e) [ inl k ↦ omega arith | inr k ↦ omega arith ] in
      moved f c.props (hierarchy c.parent) free (s.folders f p c e no_root free (sym (puts.others f other) ∙ is));
  messages = λ m M free is.
      let other : m ≡ q → ⊥ = λ same. cc (sym puts.here ∙ ap at' (sym same) ∙ is) in
      moved m M.props (contents M.folder) free (s.messages m M free (sym (puts.others m other) ∙ is));
}
  where
    moved : (id : ℕ) (props : List Val) (x : ℕ) → (E id → ⊥) → Shows (at x) id props → Shows (at' x) id props
    moved id props x free old = elim (cases_eq x q) [
      | inl same ↦
          let u = same_table old.0 t (sym old.1 ∙ ap at same ∙ is_t) in
          (t', ap at' same ∙ puts.here, rows id free ∙ ap (λ (x : Tbl). find_row id x.table.rows) (sym u) ∙ old.2 ∙ ap (λ x. Some (id, mirror x props)) (ap (λ (x : Tbl). x.table.columns) u ∙ sym columns))
      | inr other ↦ subst (λ x. Shows x id props) (sym (puts.others x other)) old
    ]

-- what needn't be shown is
pub closes : (e : ℕ) (places : List FolderPlace) (at : ℕ → Option Object) → AreShownBut (λ x. x ≡ e) places at
    → ((p : FolderPlace) (c : Ctx) → find_place e places ≡ Some p → (e ≡ ROOT → ⊥) → at e ≡ Some (Context c) → Shows (at (hierarchy c.parent)) e c.props)
    → ((M : Mes) → at e ≡ Some (Message M) → Shows (at (contents M.folder)) e M.props) → AreShownBut (λ x. ⊥) places at
closes e places at s folder message = record {
  folders = λ f p c is no_root free is_c. elim (cases_eq f e) [
    | inl same ↦ subst (λ x. Shows (at (hierarchy c.parent)) x c.props) (sym same)
        (folder p c (subst (λ x. find_place x places ≡ Some p) same is) (λ root. no_root (same ∙ root)) (ap at (sym same) ∙ is_c))
    | inr other ↦ s.folders f p c is no_root other is_c
  ];
  messages = λ m M free is. elim (cases_eq m e) [
    | inl same ↦ subst (λ x. Shows (at (contents M.folder)) x M.props) (sym same) (message M (ap at (sym same) ∙ is))
    | inr other ↦ s.messages m M other is
  ];
}

-- places change at ids that needn't be shown
pub shown_places : (E : ℕ → Type 0) (places places' : List FolderPlace) (at : ℕ → Option Object) → AreShownBut E places at → ((g : ℕ) (p : FolderPlace) → find_place g places' ≡ Some p → (E g → ⊥) → find_place g places ≡ Some p) → AreShownBut E places' at
shown_places E places places' at s was = record { folders = λ f p c e no_root free is. s.folders f p c (was f p e free) no_root free is; messages = s.messages }
