-- The tree of a new store is whole, its rows mirror what they show, and its counts are right.
use Rattle.std.proofs.Common.{◌≡◌, ℕ, ◌==◌, ◌%◌, Bool, true, false, List, [], ◌∷◌, IsSome, is_some, Option, None, Some, refl, sym, subst, ap, ◌∙◌, inl, inr, cond, arith}
use Rattle.std.proofs.lemmas.Bool.{cases_Bool, eqb-true, false≢true, and_parts}
use Rattle.std.proofs.lemmas.Option.{none-some, same_Some}
use Rattle.std.specs.Cmp.{nat_cmp_total}
use Rattle.std.specs.List.{list_all}
use Rattle.std.specs.Ordering.{nat_cmp}
use Rattle.std.specs.FinMap as map
use Rattle.node_port.specs.Nodes.{node_at}
use Rattle.mapi_values.specs.Keyed.{keys_ascend}
use Rattle.mapi_values.specs.Messages.{Mes}
use Rattle.mapi_values.specs.Tables.{find_row}
use Rattle.mail_objects.specs.Forms.{Ctx, Tbl}
use Rattle.mail_objects.specs.declared.object.Object.{Object}
use Rattle.mail_objects.specs.declared.object.Object.TheVariants.{Context, Table, Message, Bare}
use Rattle.mail_tree.specs.declared.places.FolderPlace.{FolderPlace}
use Rattle.named_props.specs.Holding.{is_form, names_in, names_of}
use Rattle.mail_tree.specs.Names.{AreNames}
use Rattle.mail_tree.specs.Changing.{associated, contents, hierarchy}
use Rattle.mail_tree.specs.Places.{ROOT, find_place, is_plain}
use Rattle.mail_tree.specs.Columns.{contents_table, hierarchy_table}
use Rattle.mail_tree.specs.Folders.{place}
use Rattle.mail_tree.specs.Tree.{Tree, object_at}
use Rattle.mail_tree.specs.Values.{folder_props}
use Rattle.mail_tree.specs.Whole.{AreWhole, HasRow, HasNoStray, IsWhole, fits_id, kind_of_sort}
use Rattle.mail_laws.specs.Laws.{AreCountedBut, AreShown, Counts, IsCounted, Mirrors, Shows}
use Rattle.mail_tree.specs.Start.{DELETED, IsStart, SEARCH_ROOT, TOP, deleted_name, names_props, root_hierarchy, root_props, search_name, start_objects, start_others, start_places, start_row, top_name}
use Rattle.mail_tree.proofs.AfterTree.{tied}
use Rattle.mail_tree.proofs.KindsOfPuts.{same_table}

-- what all objects of a list pass is passed by the one at an id
pub find_passes : (P : ℕ → Object → Bool) (es : List (ℕ × Object)) (q : ℕ) (o : Object) → map.find nat_cmp q es ≡ Some o → list_all (λ e. P e.0 e.1) es ≡ true → P q o ≡ true
find_passes P [] q o e all = absurd (none-some o e)
find_passes P (x ∷ es) q o e all =
    let parts = and_parts (P x.0 x.1) (list_all (λ e. P e.0 e.1) es) all in
    let is = ap (λ b. cond b (Some x.1) (map.find nat_cmp q es)) (sym (tied (q == x.0) q x.0 refl)) ∙ e in
    elim (cases_Bool (q == x.0)) [
      | inl t ↦ subst (λ z. P q z ≡ true) (same_Some x.1 o (ap (λ b. cond b (Some x.1) (map.find nat_cmp q es)) (sym t) ∙ is)) (subst (λ k. P k x.1 ≡ true) (sym (eqb-true q x.0 t)) parts.0)
      | inr f ↦ find_passes P es q o (ap (λ b. cond b (Some x.1) (map.find nat_cmp q es)) (sym f) ∙ is) parts.1
    ]

moved : (R : ℕ → FolderPlace → Type 0) (k f : ℕ) (x p : FolderPlace) → k ≡ f → x ≡ p → R k x → R f p
moved R k f x p a b r = subst (λ z. R z p) a (subst (λ z. R k z) b r)

-- what holds of the four folders holds of each
pub four : (R : ℕ → FolderPlace → Type 0) → R ROOT (place ROOT ROOT) → R TOP (place TOP ROOT) → R SEARCH_ROOT (place SEARCH_ROOT ROOT) → R DELETED (place DELETED ROOT)
    → (f : ℕ) (p : FolderPlace) → find_place f start_places ≡ Some p → R f p
four R a b c d f p e = elim (cases_Bool (ROOT == f)) [
  | inl t ↦ moved R ROOT f (place ROOT ROOT) p (eqb-true ROOT f t) (same_Some (place ROOT ROOT) p (rw t at e)) a
  | inr s ↦ elim (cases_Bool (TOP == f)) [
    | inl t ↦ moved R TOP f (place TOP ROOT) p (eqb-true TOP f t) (same_Some (place TOP ROOT) p (rw (s, t) at e)) b
    | inr u ↦ elim (cases_Bool (SEARCH_ROOT == f)) [
      | inl t ↦ moved R SEARCH_ROOT f (place SEARCH_ROOT ROOT) p (eqb-true SEARCH_ROOT f t) (same_Some (place SEARCH_ROOT ROOT) p (rw (s, u, t) at e)) c
      | inr v ↦ elim (cases_Bool (DELETED == f)) [
        | inl t ↦ moved R DELETED f (place DELETED ROOT) p (eqb-true DELETED f t) (same_Some (place DELETED ROOT) p (rw (s, u, v, t) at e)) d
        | inr w ↦ absurd (none-some p (rw (s, u, v, w) at e))
      ]
    ]
  ]
]

at : List ℕ → ℕ → Option Object
at name q = map.find nat_cmp q (start_objects name)

rows_rise : ℕ → Object → Bool
rows_rise q (Context c) = true
rows_rise q (Table t) = keys_ascend (λ r. r.0) 0 t.table.rows
rows_rise q (Message m) = true
rows_rise q (Bare parent) = true

no_message : ℕ → Object → Bool
no_message q (Context c) = true
no_message q (Table t) = true
no_message q (Bare parent) = true
no_message q (Message m) = false

-- the root's table of folders
listing : Tbl
listing = record { parent = 0; table = record hierarchy_table.table { rows = start_row TOP top_name ∷ start_row SEARCH_ROOT search_name ∷ start_row DELETED deleted_name ∷ [] } }

root_context : Ctx
root_context = record { parent = ROOT; props = root_props; kept = [] }

folder_context : List ℕ → Ctx
folder_context name = record { parent = ROOT; props = folder_props name; kept = [] }

same_context : (a b : Ctx) → ◌≡◌ {A = Option Object} (Some (Context a)) (Some (Context b)) → a ≡ b
same_context a b e = cc

no_rows : (t : Tbl) (m : ℕ) → ◌≡◌ {A = Option Object} (Some (Table contents_table)) (Some (Table t)) → IsSome (find_row m t.table.rows) → ⊥
no_rows t m is row = false≢true (ap (λ x. is_some (find_row m x.table.rows)) (same_table contents_table t is) ∙ row)

names_context : Ctx
names_context = record { parent = 0; props = names_props; kept = [] }

-- a new store has no names
no_names : AreNames names_context.props
unfolding names_context names_of is_form
no_names = (names_in names_props, refl, record { buckets = refl; others = refl; guids_fit = omega arith; entries_fit = omega arith }, refl)

is_whole : (name : List ℕ) → AreWhole start_places (at name)
unfolding at start_objects root_hierarchy rows_rise no_message listing root_context folder_context names_context
is_whole name = record {
  ascend = refl;
  root = (place ROOT ROOT, refl, refl, refl);
  kinds = four (λ f p. f % 32 ≡ kind_of_sort p.sort) refl refl refl refl;
  parents = four (λ f p. (f ≡ ROOT → ⊥) → (q : FolderPlace) × (find_place p.parent.bits start_places ≡ Some q) × (is_plain q ≡ true) × HasRow (at name (hierarchy p.parent.bits)) f)
      (λ no. absurd (no refl)) (λ no. (place ROOT ROOT, refl, refl, (listing, refl, refl))) (λ no. (place ROOT ROOT, refl, refl, (listing, refl, refl))) (λ no. (place ROOT ROOT, refl, refl, (listing, refl, refl)));
  typed = λ q o e. find_passes fits_id (start_objects name) q o e refl;
  rows_ascend = λ q t e. find_passes rows_rise (start_objects name) q (Table t) e refl;
  store = refl;
  names = (names_context, refl, no_names);
  contexts = four (λ f p. (c : Ctx) × (at name f ≡ Some (Context c)) × ((f ≡ ROOT → ⊥) → c.parent ≡ p.parent.bits))
      (root_context, refl, λ no. refl) (folder_context top_name, refl, λ no. refl) (folder_context search_name, refl, λ no. refl) (folder_context deleted_name, refl, λ no. refl);
  tables = four (λ f p. is_plain p ≡ true → IsSome (at name (hierarchy f)) × IsSome (at name (contents f))) (λ plain. (refl, refl)) (λ plain. (refl, refl)) (λ plain. (refl, refl)) (λ plain. (refl, refl));
  listed = λ f p t m e plain.
      four (λ f p. at name (contents f) ≡ Some (Table t) → IsSome (find_row m t.table.rows) → m % 32 ≡ 4 → (M : Mes) × (at name m ≡ Some (Message M)) × (M.folder ≡ f))
      (λ is row k. absurd (no_rows t m is row)) (λ is row k. absurd (no_rows t m is row)) (λ is row k. absurd (no_rows t m is row)) (λ is row k. absurd (no_rows t m is row)) f p e;
  held = λ m M is. absurd (false≢true (find_passes no_message (start_objects name) m (Message M) is refl));
}

is_shown : (name : List ℕ) → AreShown start_places (at name)
unfolding at start_objects root_hierarchy no_message listing root_context folder_context
is_shown name = record {
  folders = λ f p c e.
      four (λ f p. (f ≡ ROOT → ⊥) → at name f ≡ Some (Context c) → Shows (at name (hierarchy c.parent)) f c.props)
      (λ no is. absurd (no refl))
      (λ no is. subst (λ x. Shows (at name (hierarchy x.parent)) TOP x.props) (same_context (folder_context top_name) c is) (listing, refl, refl))
      (λ no is. subst (λ x. Shows (at name (hierarchy x.parent)) SEARCH_ROOT x.props) (same_context (folder_context search_name) c is) (listing, refl, refl))
      (λ no is. subst (λ x. Shows (at name (hierarchy x.parent)) DELETED x.props) (same_context (folder_context deleted_name) c is) (listing, refl, refl)) f p e;
  messages = λ m M is. absurd (false≢true (find_passes no_message (start_objects name) m (Message M) is refl));
}

-- counts that are right of these values and of no messages are right of what stands there
counted : (name : List ℕ) (f : ℕ) (x c : Ctx) (t : Tbl) → IsCounted start_places (at name) f x contents_table
    → ◌≡◌ {A = Option Object} (Some (Context x)) (Some (Context c)) → ◌≡◌ {A = Option Object} (Some (Table contents_table)) (Some (Table t)) → IsCounted start_places (at name) f c t
counted name f x c t right is_c is_t =
    subst (λ y. IsCounted start_places (at name) f y t) (same_context x c is_c) (subst (λ y. IsCounted start_places (at name) f x y) (same_table contents_table t is_t) right)

is_counted : (name : List ℕ) → AreCountedBut (λ x. ⊥) start_places (at name)
unfolding at start_objects root_context folder_context
is_counted name f p c t e plain free =
    four (λ f p. at name f ≡ Some (Context c) → at name (contents f) ≡ Some (Table t) → IsCounted start_places (at name) f c t)
    (counted name ROOT root_context c t (record { messages = refl; unread = refl; folders = refl }))
    (counted name TOP (folder_context top_name) c t (record { messages = refl; unread = refl; folders = refl }))
    (counted name SEARCH_ROOT (folder_context search_name) c t (record { messages = refl; unread = refl; folders = refl }))
    (counted name DELETED (folder_context deleted_name) c t (record { messages = refl; unread = refl; folders = refl })) f p e

at_is : (name : List ℕ) (T : Tree) → IsStart name T → at name ≡ object_at T
unfolding at
at_is name T s i q = sym (ap (λ x. map.get x q) s.objects ∙ map.get-from_entries nat_cmp_total (start_objects name) q) i

no_stray : (name : List ℕ) (T : Tree) → IsStart name T → HasNoStray T
unfolding start_others
no_stray name T s f p e plain =
    four (λ f p. node_at T.others (associated f) ≡ None) (s.others 0x12F) (s.others 0x802F) (s.others 0x804F) (s.others 0x806F) f p (ap (find_place f) (sym s.places) ∙ e)

-- a new store has no messages
pub starts_empty : (name : List ℕ) (T : Tree) → IsStart name T → (m : ℕ) (M : Mes) → object_at T m ≡ Some (Message M) → ⊥
unfolding at start_objects root_hierarchy no_message listing root_context folder_context
starts_empty name T s m M is = false≢true (find_passes no_message (start_objects name) m (Message M) (ap (λ g. g m) (at_is name T s) ∙ is) refl)

pub starts_whole : (name : List ℕ) (T : Tree) → IsStart name T → IsWhole T × Mirrors T × Counts T
starts_whole name T s = (
  record {
    objects = subst (λ places. AreWhole places (object_at T)) (sym s.places) (subst (AreWhole start_places) (at_is name T s) (is_whole name));
    no_stray = no_stray name T s;
  },
  subst (λ places. AreShown places (object_at T)) (sym s.places) (subst (AreShown start_places) (at_is name T s) (is_shown name)),
  subst (λ places. AreCountedBut (λ x. ⊥) places (object_at T)) (sym s.places) (subst (AreCountedBut (λ x. ⊥) start_places) (at_is name T s) (is_counted name)),
)
