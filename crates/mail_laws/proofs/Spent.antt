-- Where no index is left a command is planned with the last one, whatever stands there, and then it is refused.
use Rattle.std.proofs.Common.{◌≡◌, ◌<◌, ℕ, ◌%◌, ◌==◌, true, List, [], length, Option, Some, IsSome, arith, sym, subst, ap, ◌∙◌, inl, inr, IfOk}
use Rattle.std.specs.List.{list_any}
use Rattle.std.proofs.lemmas.Bool.{cases_Bool, cases_eq, eqb-false}
use Rattle.mapi_values.specs.Messages.{Mes}
use Rattle.mapi_values.specs.Tables.{mirror}
use Rattle.mapi_values.specs.Values.{Val}
use Rattle.mail_objects.specs.Forms.{Ctx, Tbl}
use Rattle.mail_objects.specs.declared.object.Object.{Object}
use Rattle.mail_objects.specs.declared.object.Object.TheVariants.{Context, Table, Message}
use Rattle.mail_tree.specs.declared.places.FolderPlace.{FolderPlace}
use Rattle.mail_tree.specs.Places.{ROOT, find_place, is_child, is_plain}
use Rattle.mail_tree.specs.Tree.{Tree}
use Rattle.mail_tree.specs.Values.{folder_props, with_counts}
use Rattle.mail_tree.specs.Changing.{Answer, Changed, ◌>>=◌, add_shown, associated, contents, hierarchy, nothing, now_at, overfills, put_shown, shown_row, with_object, with_rows}
use Rattle.mail_tree.specs.Columns.{contents_table, hierarchy_table}
use Rattle.mail_tree.specs.Settling.{counted, message_ids, mirrored, table_as_is, settled, unread_among}
use Rattle.mail_tree.specs.Ids.{is_spent, new_id}
use Rattle.mail_tree.specs.Folders.{Outcome, making, with_folder, nid}
use Rattle.mail_tree.specs.Messages.{added_message}
use Rattle.mail_tree.specs.Whole.{AreWhole, Fine}
use Rattle.mail_tree.proofs.AfterTree.{puts_object}
use Rattle.mail_tree.proofs.FineLaws.{fine_then, fine_weaker}
use Rattle.mail_tree.proofs.KeyedFinds.{find-put_other}
use Rattle.mail_tree.proofs.KindsOfPuts.{beside_kind}
use Rattle.mail_tree.proofs.Nearly.{nearly, plain_id}
use Rattle.mail_tree.proofs.Settles.{EachMessage, each_message, fine_same, fine_unread, folders_of, messages_of}
use Rattle.mail_tree.proofs.StoodLaws.{AreStood, IsNew}
use Rattle.mail_laws.proofs.Comparing.{fine_limits}

-- a new id is of its kind
pub new_id_kind : (kind index : ℕ) → kind < 32 → new_id kind index % 32 ≡ kind
new_id_kind kind index small = omega arith

-- where no index is left, what was planned is refused
pub refused_later : (T : Tree) (places : List FolderPlace) (kind index : ℕ) (Q : Outcome → Type 0) (a : Answer Changed) → is_spent index ≡ true → Fine a (λ D. Unit {0}) → IfOk a (AreStood T (IsNew (Some (nid (new_id kind index)))))
    → Fine (a >>= making T places kind index) Q
refused_later T places kind index Q a spent fine stood = fine_limits (λ D. Unit {0}) Q T (Some (nid (new_id kind index))) a _ fine stood (λ D u. rw spent tt)

-- the root's table of folders is there
abbrev pub HasRootTable : (ℕ → Option Object) → Type 0
HasRootTable at = (u : Tbl) × (at (hierarchy ROOT) ≡ Some (Table u))

-- a folder's values are there, and the table that lists it, but for the root
abbrev pub Lists : (ℕ → Option Object) → ℕ → Type 0
Lists at f = (c : Ctx) × (at f ≡ Some (Context c)) × ((f ≡ ROOT → ⊥) → (u : Tbl) × (at (hierarchy c.parent) ≡ Some (Table u)))

-- what counting a folder anew and showing it asks for
pub record IsReadable (at : ℕ → Option Object) (f : ℕ) : Type 0 where
  pub root : HasRootTable at
  pub context : Lists at f
  pub table : (t : Tbl) × (at (contents f) ≡ Some (Table t)) × EachMessage at (message_ids t.table)

abbrev CanMirror : (ℕ → Option Object) → ℕ → Type 0
CanMirror at f = HasRootTable at × Lists at f

fine_counts : (T : Tree) (places : List FolderPlace) (f : ℕ) (D : Changed) → f % 32 ≡ 2 → IsReadable (now_at T D) f → Fine (counted T places f D) (λ D'. CanMirror (now_at T D') f)
unfolding counted
fine_counts T places f D two r =
    let c = r.context in let t = r.table in
    rw (c.1, t.1) (fine_then (λ n. Unit {0}) (λ D'. CanMirror (now_at T D') f) (unread_among T D (message_ids t.0.table)) _ (fine_unread T D (message_ids t.0.table) t.2)
    (λ n u.
    let props = with_counts (length (message_ids t.0.table)) n (list_any (is_child f) places) c.0.props in
    let puts = puts_object T D f (Some (Context (record c.0 { props = props }))) in
    ((r.root.0, puts.others (hierarchy ROOT) (λ e. omega (arith, beside_kind ROOT 13 (omega arith))) ∙ r.root.1), (record c.0 { props = props }, puts.here, (λ no_root. let u = c.2 no_root in (u.0, puts.others (hierarchy c.0.parent) (λ e. omega (arith, beside_kind c.0.parent 13 (omega arith))) ∙ u.1))))))

-- a table that is there is put as it is
fine_put : (T : Tree) (D : Changed) (q : ℕ) (u : Tbl) → now_at T D q ≡ Some (Table u) → Fine (table_as_is T q D) (λ D'. Unit {0})
fine_put T D q u at = fine_weaker (λ D'. now_at T D' ≡ now_at T D) (λ D'. Unit {0}) (table_as_is T q D) (fine_same T D q u at) (λ D' same. tt)

fine_shows : (T : Tree) (f : ℕ) (D : Changed) → CanMirror (now_at T D) f → Fine (mirrored T f D) (λ D'. Unit {0})
unfolding mirrored put_shown
fine_shows T f D c = elim (cases_Bool (f == ROOT)) [
  | inl t ↦ rw t (fine_put T D (hierarchy ROOT) c.0.0 c.0.1)
  | inr t ↦ let u = c.1.2 (eqb-false f ROOT t) in rw (t, c.1.1, u.1) tt
]

pub fine_read : (T : Tree) (places : List FolderPlace) (f : ℕ) (D : Changed) → f % 32 ≡ 2 → IsReadable (now_at T D) f → Fine (settled T places f D) (λ D'. Unit {0})
unfolding settled
fine_read T places f D two r = fine_then (λ D'. CanMirror (now_at T D') f) (λ D'. Unit {0}) (counted T places f D) (mirrored T f) (fine_counts T places f D two r) (λ D' c. fine_shows T f D' c)

-- a message that is planned at an id of its kind
pub fine_planned : (T : Tree) (M : Mes) (D0 : Changed) (p : FolderPlace) → AreWhole T.places (now_at T D0) → M.nid % 32 ≡ 4 → find_place M.folder T.places ≡ Some p → is_plain p ≡ true
    → Fine (added_message T M D0) (λ D. Unit {0})
unfolding add_shown
fine_planned T M D0 p w four found plain =
    let F = M.folder in
    let two = plain_id (nearly (λ x. ⊥) T.places (now_at T D0) w) F p found plain in
    let D1 = with_object M.nid (Some (Message M)) D0 in
    let p1 = puts_object T D0 M.nid (Some (Message M)) in
    let t = messages_of w F p found plain in
    let row = shown_row M.nid M.props t.0.table in
    let D2 = with_object (contents F) (Some (with_rows row t.0)) D1 in
    let p2 = puts_object T D1 (contents F) (Some (with_rows row t.0)) in
    let is : now_at T D1 (contents F) ≡ Some (Table t.0) = p1.others (contents F) (λ e. omega (arith, beside_kind F 14 (omega arith))) ∙ t.1 in
    let c = w.contexts F p found in
    let each = each_message (now_at T D2) row (λ m has kind. elim (cases_eq m M.nid) [
      | inl same ↦ (M, p2.others m (λ e. omega (arith, beside_kind F 14 (omega arith))) ∙ ap (now_at T D1) same ∙ p1.here)
      | inr away ↦
          let old = subst (λ x. IsSome x) (find-put_other (λ r. r.0) m (M.nid, mirror t.0.table.columns M.props) t.0.table.rows away) has in
          let N = w.listed F p t.0 m found plain t.1 old kind in
          (N.0, p2.others m (λ e. omega (arith, beside_kind F 14 (omega arith))) ∙ p1.others m away ∙ N.1)
    ]) in
    let readable : IsReadable (now_at T D2) F = record {
      context = (
        c.0,
        p2.others F (λ e. omega (arith, beside_kind F 14 (omega arith))) ∙ p1.others F (λ e. omega arith) ∙ c.1,
        (λ no_root.
            let q = w.parents F p found no_root in let u = folders_of w p.parent.bits q.0 q.1 q.2 in (
              u.0,
              p2.others (hierarchy c.0.parent) (λ e. omega (arith, beside_kind F 14 (omega arith), beside_kind c.0.parent 13 (omega arith)))
                  ∙ p1.others (hierarchy c.0.parent) (λ e. omega (arith, beside_kind c.0.parent 13 (omega arith))) ∙ ap (λ x. now_at T D0 (hierarchy x)) (c.2 no_root) ∙ u.1,
            )),
      );
      root = let u = folders_of w ROOT w.root.0 w.root.1 w.root.2 in (
        u.0,
        p2.others (hierarchy ROOT) (λ e. omega (arith, beside_kind F 14 (omega arith), beside_kind ROOT 13 (omega arith))) ∙ p1.others (hierarchy ROOT) (λ e. omega (arith, beside_kind ROOT 13 (omega arith))) ∙ u.1,
      );
      table = (record { parent = t.0.parent; table = record t.0.table { rows = row } }, p2.here, each);
    } in
    fine_then (λ D. IsReadable (now_at T D) F) (λ D. Unit {0}) (add_shown T (contents F) M.nid M.props D1) (settled T T.places F)
    (rw is (elim (cases_Bool (overfills t.0.table.rows row)) [ inl b ↦ rw b tt | inr b ↦ rw b readable ]))
    (λ D r. fine_read T T.places F D two r)

-- the nodes of a new folder, planned at an id of its kind
module _ (T : Tree) (f parent : ℕ) (name : List ℕ) (two : f % 32 ≡ 2) where
  abbrev Own : Ctx
  Own = record { parent = parent; props = folder_props name; kept = [] }

  abbrev D1 : Changed
  D1 = with_object f (Some (Context Own)) nothing

  abbrev D2 : Changed
  D2 = with_object (hierarchy f) (Some (Table hierarchy_table)) D1

  abbrev D3 : Changed
  D3 = with_object (contents f) (Some (Table contents_table)) D2

  abbrev D4 : Changed
  D4 = with_object (associated f) (Some (Table contents_table)) D3

  own_here : now_at T D4 f ≡ Some (Context Own)
  own_here =
      (puts_object T D3 (associated f) (Some (Table contents_table))).others f (λ e. omega (arith, beside_kind f 15 (omega arith)))
      ∙ (puts_object T D2 (contents f) (Some (Table contents_table))).others f (λ e. omega (arith, beside_kind f 14 (omega arith)))
      ∙ (puts_object T D1 (hierarchy f) (Some (Table hierarchy_table))).others f (λ e. omega (arith, beside_kind f 13 (omega arith)))
      ∙ (puts_object T nothing f (Some (Context Own))).here

  folders_here : now_at T D4 (hierarchy f) ≡ Some (Table hierarchy_table)
  folders_here =
      (puts_object T D3 (associated f) (Some (Table contents_table))).others (hierarchy f) (λ e. omega (arith, beside_kind f 13 (omega arith), beside_kind f 15 (omega arith)))
      ∙ (puts_object T D2 (contents f) (Some (Table contents_table))).others (hierarchy f) (λ e. omega (arith, beside_kind f 13 (omega arith), beside_kind f 14 (omega arith)))
      ∙ (puts_object T D1 (hierarchy f) (Some (Table hierarchy_table))).here

  messages_here : now_at T D4 (contents f) ≡ Some (Table contents_table)
  messages_here =
      (puts_object T D3 (associated f) (Some (Table contents_table))).others (contents f) (λ e. omega (arith, beside_kind f 14 (omega arith), beside_kind f 15 (omega arith)))
      ∙ (puts_object T D2 (contents f) (Some (Table contents_table))).here

  -- what stands elsewhere stays
  elsewhere : (q : ℕ) → (q ≡ f → ⊥) → (q ≡ hierarchy f → ⊥) → (q ≡ contents f → ⊥) → (q ≡ associated f → ⊥) → now_at T D4 q ≡ now_at T nothing q
  elsewhere q a b c d =
      (puts_object T D3 (associated f) (Some (Table contents_table))).others q d
      ∙ (puts_object T D2 (contents f) (Some (Table contents_table))).others q c
      ∙ (puts_object T D1 (hierarchy f) (Some (Table hierarchy_table))).others q b
      ∙ (puts_object T nothing f (Some (Context Own))).others q a

  -- a table of folders is one still
  still_table : (g : ℕ) (u : Tbl) → now_at T nothing (hierarchy g) ≡ Some (Table u) → (v : Tbl) × (now_at T D4 (hierarchy g) ≡ Some (Table v))
  still_table g u is = elim (cases_eq (hierarchy g) (hierarchy f)) [
    | inl same ↦ (hierarchy_table, ap (now_at T D4) same ∙ folders_here)
    | inr away ↦ (
      u,
      elsewhere (hierarchy g) (λ e. omega (arith, beside_kind g 13 (omega arith))) away (λ e. omega (arith, beside_kind g 13 (omega arith), beside_kind f 14 (omega arith)))
          (λ e. omega (arith, beside_kind g 13 (omega arith), beside_kind f 15 (omega arith))) ∙ is,
    )
  ]

  module _ (q : FolderPlace) (w : AreWhole T.places (now_at T nothing)) (found : find_place parent T.places ≡ Some q) (plain : is_plain q ≡ true) (t : Tbl) (row : List (ℕ × List Val)) where
    abbrev D5 : Changed
    D5 = with_object (hierarchy parent) (Some (with_rows row t)) D4

    parent_two : parent % 32 ≡ 2
    parent_two = plain_id (nearly (λ x. ⊥) T.places (now_at T nothing) w) parent q found plain

    -- the parent's own table has the row, others of its kind stay
    shown_table : (g : ℕ) (u : Tbl) → now_at T D4 (hierarchy g) ≡ Some (Table u) → (v : Tbl) × (now_at T D5 (hierarchy g) ≡ Some (Table v))
    shown_table g u is = elim (cases_eq (hierarchy g) (hierarchy parent)) [
      | inl same ↦ (record { parent = t.parent; table = record t.table { rows = row } }, ap (now_at T D5) same ∙ (puts_object T D4 (hierarchy parent) (Some (with_rows row t))).here)
      | inr away ↦ (u, (puts_object T D4 (hierarchy parent) (Some (with_rows row t))).others (hierarchy g) away ∙ is)
    ]

    -- what is no table of folders stays
    beyond : (x : ℕ) → (x % 32 ≡ 13 → ⊥) → now_at T D5 x ≡ now_at T D4 x
    beyond x other = (puts_object T D4 (hierarchy parent) (Some (with_rows row t))).others x (λ e. other (subst (λ y. y % 32 ≡ 13) (sym e) (beside_kind parent 13 (omega arith))))

    root_there : HasRootTable (now_at T D5)
    root_there = let u = folders_of w ROOT w.root.0 w.root.1 w.root.2 in let v = still_table ROOT u.0 u.1 in shown_table ROOT v.0 v.1

    context_there : Lists (now_at T D5) parent
    context_there = elim (cases_eq parent f) [
      | inl same ↦ (
        Own,
        beyond parent (λ e. omega (arith, parent_two)) ∙ ap (now_at T D4) same ∙ own_here,
        (λ no_root.
            let u = folders_of w parent q found plain in let v = still_table parent u.0 u.1 in shown_table parent v.0 v.1),
      )
      | inr away ↦
          let c = w.contexts parent q found in (
            c.0,
            beyond parent (λ e. omega (arith, parent_two)) ∙ elsewhere parent away (λ e. omega (arith, parent_two, beside_kind f 13 (omega arith)))
                (λ e. omega (arith, parent_two, beside_kind f 14 (omega arith))) (λ e. omega (arith, parent_two, beside_kind f 15 (omega arith))) ∙ c.1,
            (λ no_root.
                let r = w.parents parent q found no_root in let u = folders_of w q.parent.bits r.0 r.1 r.2 in
                let at : now_at T nothing (hierarchy c.0.parent) ≡ Some (Table u.0) = ap (λ x. now_at T nothing (hierarchy x)) (c.2 no_root) ∙ u.1 in
                let v = still_table c.0.parent u.0 at in shown_table c.0.parent v.0 v.1),
          )
    ]

    table_there : (u : Tbl) × (now_at T D5 (contents parent) ≡ Some (Table u)) × EachMessage (now_at T D5) (message_ids u.table)
    table_there = elim (cases_eq (contents parent) (contents f)) [
      | inl same ↦ (contents_table, beyond (contents parent) (λ e. omega (arith, beside_kind parent 14 (omega arith))) ∙ ap (now_at T D4) same ∙ messages_here, tt)
      | inr away ↦
          let u = messages_of w parent q found plain in (
            u.0,
            beyond (contents parent) (λ e. omega (arith, beside_kind parent 14 (omega arith))) ∙ elsewhere (contents parent) (λ e. omega (arith, beside_kind parent 14 (omega arith)))
                (λ e. omega (arith, beside_kind parent 14 (omega arith), beside_kind f 13 (omega arith))) away (λ e. omega (arith, beside_kind parent 14 (omega arith), beside_kind f 15 (omega arith))) ∙ u.1,
            each_message (now_at T D5) u.0.table.rows (λ m has kind.
                let M = w.listed parent q u.0 m found plain u.1 has kind in (
                  M.0,
                  beyond m (λ e. omega arith) ∙ elsewhere m (λ e. omega arith) (λ e. omega (arith, beside_kind f 13 (omega arith))) (λ e. omega (arith, beside_kind f 14 (omega arith)))
                      (λ e. omega (arith, beside_kind f 15 (omega arith))) ∙ M.1,
                )),
          )
    ]

    readable_there : IsReadable (now_at T D5) parent
    readable_there = record { root = root_there; context = context_there; table = table_there }

-- a folder that is planned at an id of its kind
pub fine_planned_folder : (T : Tree) (f parent : ℕ) (q : FolderPlace) (name : List ℕ) (places : List FolderPlace) → AreWhole T.places (now_at T nothing) → f % 32 ≡ 2 → find_place parent T.places ≡ Some q → is_plain q ≡ true
    → Fine (add_shown T (hierarchy parent) f (folder_props name) (with_folder f parent name nothing) >>= settled T places parent) (λ D. Unit {0})
unfolding add_shown
fine_planned_folder T f parent q name places w two found plain =
    let u = folders_of w parent q found plain in
    let t = still_table T f parent name two parent u.0 u.1 in
    let row = shown_row f (folder_props name) t.0.table in
    fine_then (λ D. IsReadable (now_at T D) parent) (λ D. Unit {0}) (add_shown T (hierarchy parent) f (folder_props name) (with_folder f parent name nothing)) (settled T places parent)
    (rw t.1 (elim (cases_Bool (overfills t.0.table.rows row)) [ inl b ↦ rw b tt | inr b ↦ rw b (readable_there T f parent name two q w found plain t.0 row) ]))
    (λ D r. fine_read T places parent D (plain_id (nearly (λ x. ⊥) T.places (now_at T nothing) w) parent q found plain) r)
