-- The commands on folders leave a tree whole.
use Rattle.std.proofs.Common.{◌≡◌, ℕ, ◌%◌, ◌/◌, ◌==◌, ◌≤◌, ◌<◌, Bool, true, false, not, nat_eq, length, filter, map, List, [], ◌∷◌, Option, None, Some, IsSome, is_some, Ok, arith, refl, sym, subst, ap, ◌∙◌, ◌⊎◌, inl, inr, IfOk, ◌||◌}
use Rattle.std.specs.Cmp.Lexicographic.{pointwise}
use Rattle.std.proofs.lemmas.Bool.{cases_Bool, eqb-true, eqb-false, eq-eqb, false≢true, not-false, or_left, or_parts, or_right}
use Rattle.std.proofs.lemmas.Option.{same_Some, none-some}
use Rattle.pst_base.specs.Ids.{nid_of}
use Rattle.mapi_values.specs.Characters.{folded}
use Rattle.mapi_values.specs.Keyed.{keys_ascend, put_key, drop_key}
use Rattle.mapi_values.specs.Properties.{put}
use Rattle.mapi_values.specs.Tables.{find_row, mirror, drop_row}
use Rattle.mapi_values.specs.Values.{Val}
use Rattle.mapi_values.proofs.KeyedLaws.{put-ascends, drop-ascends}
use Rattle.command_text.specs.declared.reply.LastLine.TheVariants.{Done}
use Rattle.mail_objects.specs.Forms.{Ctx, Tbl}
use Rattle.mail_objects.specs.declared.object.Object.{Object}
use Rattle.mail_objects.specs.declared.object.Object.TheVariants.{Context, Table}
use Rattle.node_port.specs.Nodes.{node_at}
use Rattle.node_port.specs.declared.node.NodeRec.{NodeRec}
use Rattle.mail_tree.specs.declared.places.FolderPlace.{FolderPlace}
use Rattle.mail_tree.specs.Places.{ROOT, children, find_place, is_child, is_deep, is_plain, is_within, moves_deep, place_id}
use Rattle.mail_tree.specs.Tree.{Tree, object_at}
use Rattle.mail_tree.specs.Values.{folder_props, is_special, name_of, text}
use Rattle.command_text.specs.declared.reply.CommandRefusal.TheVariants.{Ids}
use Rattle.mail_tree.specs.Changing.{Changed, ◌>>=◌, add_shown, associated, beside, contents, drop_shown, hierarchy, nothing, now_at, overfills, shown_row, with_object, with_rows, Answer}
use Rattle.mail_tree.specs.Columns.{contents_table, hierarchy_table}
use Rattle.mail_tree.specs.Settling.{message_ids, mirrored, settled, with_context}
use Rattle.mail_tree.specs.Ids.{folder_kinds, is_spent, is_taken, new_id, next_index}
use Rattle.mail_tree.specs.Folders.{associated_in, folder_lines, has_associated, has_rows, listing, made_folder, making_folder, message_lines, moved_between, moved_folder, moving, place, removed_folder, renamed_folder, replied, siblings, table_if, unless_full, unless_named, unless_protected, with_folder, without_folder, without_node, nid}
use Rattle.mail_tree.specs.Whole.{AreWhole, Fine, HasNoStray, HasRow, fits_id}
use Rattle.mail_tree.proofs.AfterTree.{now_nothing, puts_object}
use Rattle.mail_tree.proofs.KeyedFinds.{find-put_same, find-drop_same, find-drop_other, kept-put}
use Rattle.mail_laws.proofs.NewIds.{free_folder, new_id_is, next_is_free}
use Rattle.mail_tree.proofs.FineLaws.{after_test, cases_Option, fine_then, fine_weaker}
use Rattle.mail_laws.proofs.Spent.{fine_planned_folder, new_id_kind, refused_later}
use Rattle.mail_tree.proofs.Nearly.{AreNearly, nearly, plain_id, table_of, whole}
use Rattle.mail_tree.proofs.KindsOfPuts.{beside_kind, folder_fits, puts_context, puts_folders, puts_free, same_folder, same_table}
use Rattle.mail_laws.proofs.Closing.{plain_still, whole_folder, whole_without}
use Rattle.mail_tree.proofs.Settles.{EachMessage, fine_mirrored, fine_settled, folders_of, messages_of, other_values, store_of}
use Rattle.mail_laws.proofs.MessageSteps.{Before, Keeps, fine_unless_full, fine_ending}
use Rattle.mail_tree.proofs.StoodLaws.{AreStood, IsNew}
use Rattle.mail_laws.proofs.Comparing.{fine_limits, own_new, renamed_stood, between_stood, folder_comes, folder_goes}

-- the root and what the store names stay
pub fine_protected : (T : Tree) (f : ℕ) → Before T → Fine (unless_protected T f) (λ u. f ≡ ROOT → ⊥)
unfolding unless_protected
fine_protected T f w =
    let store = store_of w in
    rw store.1 (elim (cases_Bool ((f == ROOT) || is_special f store.0.props)) [
      | inl b ↦ rw b tt
      | inr b ↦ rw b (eqb-false f ROOT (or_parts (f == ROOT) (is_special f store.0.props) b).0)
    ])

-- values stand at each of these ids
abbrev pub EachContext : (ℕ → Option Object) → List ℕ → Type 0
EachContext at [] = Unit {0}
EachContext at (f ∷ fs) = ((c : Ctx) × (at f ≡ Some (Context c))) × EachContext at fs

-- values stand at the places of which a test picks some
each_context : (at : ℕ → Option Object) (test : FolderPlace → Bool) (ps : List FolderPlace) → ((f : ℕ) → IsSome (find_place f ps) → (c : Ctx) × (at f ≡ Some (Context c))) → EachContext at (map place_id (filter test ps))
each_context at test [] named = tt
each_context at test (p ∷ ps) named =
    let rest = each_context at test ps (λ f is. named f (later f is)) in
    elim (cases_Bool (test p)) [
      | inl t ↦ rw t (named (place_id p) (rw (eq-eqb (place_id p) (place_id p) refl) refl), rest)
      | inr t ↦ rw t rest
    ]
  where
    later : (f : ℕ) → IsSome (find_place f ps) → IsSome (find_place f (p ∷ ps))
    later f is = elim (cases_Bool (place_id p == f)) [ inl t ↦ rw t refl | inr t ↦ rw t is ]

filtered : (at : ℕ → Option Object) (test : ℕ → Bool) (fs : List ℕ) → EachContext at fs → EachContext at (filter test fs)
filtered at test [] each = tt
filtered at test (f ∷ fs) each = elim (cases_Bool (test f)) [ inl t ↦ rw t (each.0, filtered at test fs each.1) | inr t ↦ rw t (filtered at test fs each.1) ]

context_of : {places : List FolderPlace} {at : ℕ → Option Object} → AreWhole places at → (f : ℕ) → IsSome (find_place f places) → (c : Ctx) × (at f ≡ Some (Context c))
context_of {places} w f is = elim (cases_Option (find_place f places)) [
  | inl e ↦ absurd (false≢true (subst IsSome e is))
  | inr p ↦ let c = w.contexts f p.0 p.1 in (c.0, c.1)
]

pub children_of : {places : List FolderPlace} {at : ℕ → Option Object} → AreWhole places at → (f : ℕ) → EachContext at (children f places)
children_of {places} {at} w f = each_context at (is_child f) places (context_of w)

pub fine_named : (T : Tree) (name : List ℕ) (fs : List ℕ) → EachContext (now_at T nothing) fs → Fine (unless_named T name fs) (λ u. Unit {0})
fine_named T name [] each = tt
fine_named T name (f ∷ fs) each = rw each.0.1 (elim (cases_Bool (pointwise nat_eq (folded false (name_of each.0.0.props)) name)) [ inl b ↦ rw b tt | inr b ↦ rw b (fine_named T name fs each.1) ])

-- `rename`
pub fine_renamed : (T : Tree) (f : ℕ) (name : List ℕ) → Before T → Fine (renamed_folder T f name) (Keeps T)
unfolding renamed_folder
fine_renamed T f name w = elim (cases_Option (find_place f T.places)) [
  | inl e ↦ rw e tt
  | inr p ↦ rw p.1 (elim (cases_Bool (is_plain p.0)) [
    | inr plain ↦ rw plain tt
    | inl plain ↦ rw plain (fine_then _ (Keeps T) (unless_protected T f) _ (fine_protected T f w) (λ u no_root.
        fine_then _ (Keeps T) (unless_named T (folded false name) (siblings T p.0.parent.bits f)) _ (fine_named T (folded false name) (siblings T p.0.parent.bits f) (filtered (now_at T nothing) _ (children p.0.parent.bits T.places) (children_of w p.0.parent.bits))) (λ v v'.
        let c = w.contexts f p.0 p.1 in
        let props = put (text 0x3001 name) c.0.props in
        let D = with_context f c.0 props nothing in
        rw c.1 (fine_ending T (replied Done) (mirrored T f D) (fine_mirrored T T.places f p.0 D (other_values T T.places f p.0 nothing w p.1 c.0 props c.1) p.1) (renamed_stood T (IsNew None) f c.0 props c.1)))))
  ])
]

-- the lines of folders and of messages
abbrev pub EachPlace : (ℕ → Option Object) → List FolderPlace → Type 0
EachPlace at ps = EachContext at (map place_id ps)

fine_folder_lines : (T : Tree) (ps : List FolderPlace) → EachPlace (now_at T nothing) ps → Fine (folder_lines T ps) (λ l. Unit {0})
fine_folder_lines T [] each = tt
fine_folder_lines T (p ∷ ps) each = rw each.0.1 (fine_then (λ l. Unit {0}) (λ l. Unit {0}) (folder_lines T ps) _ (fine_folder_lines T ps each.1) (λ l u. tt))

fine_message_lines : (T : Tree) (ms : List ℕ) → EachMessage (now_at T nothing) ms → Fine (message_lines T ms) (λ l. Unit {0})
fine_message_lines T [] each = tt
fine_message_lines T (m ∷ ms) each = rw each.0.1 (fine_then (λ l. Unit {0}) (λ l. Unit {0}) (message_lines T ms) _ (fine_message_lines T ms each.1) (λ l u. tt))

-- `ls`
pub fine_listing : (T : Tree) (f : ℕ) → Before T → Fine (listing T f) (Keeps T)
unfolding listing
fine_listing T f w = elim (cases_Option (find_place f T.places)) [
  | inl e ↦ rw e tt
  | inr p ↦ rw p.1 (elim (cases_Bool (is_plain p.0)) [
    | inr plain ↦ rw plain w
    | inl plain ↦ rw plain (fine_then (λ l. Unit {0}) (Keeps T) (folder_lines T (filter (is_child f) T.places)) _ (fine_folder_lines T (filter (is_child f) T.places) (each_context (now_at T nothing) (is_child f) T.places (context_of w))) (λ folders u.
        let t = messages_of w f p.0 p.1 plain in
        rw t.1 (fine_then (λ l. Unit {0}) (Keeps T) (message_lines T (message_ids t.0.table)) _ (fine_message_lines T (message_ids t.0.table) t.2) (λ messages v. w))))
  ])
]

-- changes leave a tree with these places whole
abbrev LeavesIn : List FolderPlace → Tree → Changed → Type 0
LeavesIn places T D = AreWhole places (now_at T D)

fine_moving : (T : Tree) (places : List FolderPlace) (a : Answer Changed) → Fine a (LeavesIn places T) → IfOk a (AreStood T (IsNew None)) → Fine (a >>= moving T places (replied Done)) (Keeps T)
fine_moving T places a fine stood = fine_limits (LeavesIn places T) (Keeps T) T None a (λ D u. Ok (record { changed = D; places = places; last = T.last; reply = replied Done })) fine stood (λ D w. w)

-- the rows of a plain folder's table change
pub record RowsChange (E : ℕ → Type 0) (places : List FolderPlace) (parent : ℕ) (at at' : ℕ → Option Object) : Type 0 where
  pub nearly_whole : AreNearly E places at'
  pub others : (x : ℕ) → (x ≡ hierarchy parent → ⊥) → at' x ≡ at x

table_now : {E : ℕ → Type 0} {places : List FolderPlace} {at : ℕ → Option Object} → AreNearly E places at → (f : ℕ) (p : FolderPlace) → find_place f places ≡ Some p → is_plain p ≡ true → (t : Tbl) × (at (hierarchy f) ≡ Some (Table t))
table_now {at = at} n f p e plain = table_of (hierarchy f) (at (hierarchy f)) (n.typed (hierarchy f)) (inl (beside_kind f 13 (omega arith))) (n.tables f p e plain).0

-- a row of a folder is added
pub added_folder : (E : ℕ → Type 0) (places : List FolderPlace) (T : Tree) (D : Changed) (parent : ℕ) (q : FolderPlace) (f : ℕ) (props : List Val) → AreNearly E places (now_at T D) → find_place parent places ≡ Some q → is_plain q ≡ true
    → Fine (add_shown T (hierarchy parent) f props D) (λ D'. RowsChange E places parent (now_at T D) (now_at T D') × HasRow (now_at T D' (hierarchy parent)) f)
unfolding add_shown
added_folder E places T D parent q f props n found plain =
    let t = table_now n parent q found plain in
    let row : ℕ × List Val = (f, mirror t.0.table.columns props) in
    let t' : Tbl = record { parent = t.0.parent; table = record t.0.table { rows = shown_row f props t.0.table } } in
    let puts = puts_object T D (hierarchy parent) (Some (with_rows (shown_row f props t.0.table) t.0)) in
    rw t.1 (elim (cases_Bool (overfills t.0.table.rows (shown_row f props t.0.table))) [
      | inl b ↦ rw b tt
      | inr b ↦ rw b (
        record {
          nearly_whole = puts_folders E places (now_at T D) _ n parent q t' found plain (put-ascends (λ r. r.0) 0 row t.0.table.rows (omega arith) (n.rows_ascend (hierarchy parent) t.0 t.1))
              (λ g r eg free up has. kept-put (λ r. r.0) g row t.0.table.rows (subst (λ x. IsSome (find_row g x.table.rows)) (same_table has.0 t.0 (sym has.1 ∙ t.1)) has.2)) puts;
          others = puts.others;
        },
        (t', puts.here, ap is_some (find-put_same (λ r. r.0) row t.0.table.rows)),
      )
    ])

-- a row of a folder goes, which no folder that matters has
dropped_folder : (E : ℕ → Type 0) (places : List FolderPlace) (T : Tree) (D : Changed) (parent : ℕ) (q : FolderPlace) (f : ℕ) → AreNearly E places (now_at T D) → find_place parent places ≡ Some q → is_plain q ≡ true
    → ((g : ℕ) (r : FolderPlace) → find_place g places ≡ Some r → (E g → ⊥) → g ≡ f → ⊥) → Fine (drop_shown T (hierarchy parent) f D) (λ D'. RowsChange E places parent (now_at T D) (now_at T D'))
unfolding drop_shown
dropped_folder E places T D parent q f n found plain no_matter =
    let t = table_now n parent q found plain in
    let t' : Tbl = record { parent = t.0.parent; table = record t.0.table { rows = drop_row f t.0.table.rows } } in
    let puts = puts_object T D (hierarchy parent) (Some (with_rows (drop_row f t.0.table.rows) t.0)) in
    rw t.1 (record {
      nearly_whole = puts_folders E places (now_at T D) _ n parent q t' found plain (drop-ascends (λ r. r.0) 0 f t.0.table.rows (n.rows_ascend (hierarchy parent) t.0 t.1))
          (λ g r eg free up has. subst IsSome (sym (find-drop_other (λ r. r.0) g f t.0.table.rows (no_matter g r eg free))) (subst (λ x. IsSome (find_row g x.table.rows)) (same_table has.0 t.0 (sym has.1 ∙ t.1)) has.2)) puts;
      others = puts.others;
    })

-- ids beside one folder
pub beside_apart : (f k l : ℕ) → k < 32 → l < 32 → (k ≡ l → ⊥) → beside f k ≡ beside f l → ⊥
beside_apart f k l a b other e = other (omega arith)

-- a folder's own id is none of a table
own_apart : (f g kind : ℕ) → f % 32 ≡ 2 → 13 ≤ kind → kind < 32 → f ≡ beside g kind → ⊥
own_apart f g kind e low high same = omega (arith, beside_kind g kind high)

same_index : (f kind : ℕ) → kind < 32 → beside f kind / 32 ≡ f / 32
same_index f kind less = omega arith

-- the table of a new folder fits
table_fits_id : (f kind : ℕ) (t : Tbl) → (kind ≡ 13) ⊎ ((kind ≡ 14) ⊎ (kind ≡ 15)) → (x : Object) → ◌≡◌ {A = Option Object} (Some (Table t)) (Some x) → fits_id (beside f kind) x ≡ true
table_fits_id f kind t is x e = subst (λ z. fits_id (beside f kind) z ≡ true) (same_Some (Table t) x e) (elim is [
  | inl k ↦ or_left (beside f kind % 32 == 13) _ (eq-eqb (beside f kind % 32) 13 (omega arith))
  | inr k ↦ or_right (beside f kind % 32 == 13) _ (elim k [
    | inl l ↦ or_left (beside f kind % 32 == 14) _ (eq-eqb (beside f kind % 32) 14 (omega arith))
    | inr l ↦ or_right (beside f kind % 32 == 14) _ (or_left (beside f kind % 32 == 15) _ (eq-eqb (beside f kind % 32) 15 (omega arith)))
  ])
])

-- a table without rows is put beside a folder that isn't there
puts_empty : (E : ℕ → Type 0) (places : List FolderPlace) (T : Tree) (D : Changed) (f kind : ℕ) (t : Tbl) → (kind ≡ 13) ⊎ ((kind ≡ 14) ⊎ (kind ≡ 15)) → t.table.rows ≡ [] → AreNearly E places (now_at T D) → find_place f places ≡ None → f % 32 ≡ 2
    → AreNearly E places (now_at T (with_object (beside f kind) (Some (Table t)) D))
puts_empty E places T D f kind t is no_rows n none two =
    let range : (13 ≤ kind) × (kind < 32) = elim is [ inl k ↦ (omega arith, omega arith) | inr k ↦ elim k [ inl l ↦ (omega arith, omega arith) | inr l ↦ (omega arith, omega arith) ] ] in
    puts_free E places (now_at T D) _ n f (beside f kind) (Some (Table t)) none two (same_index f kind range.1) (inr (omega (arith, beside_kind f kind range.1, range.0))) (table_fits_id f kind t is)
    (λ u e. subst (λ x. keys_ascend (λ r. r.0) 0 x.table.rows ≡ true) (same_table t u e) (ap (λ x. keys_ascend (λ r. r.0) 0 x) no_rows)) (puts_object T D (beside f kind) (Some (Table t)))

-- `mkdir`
pub with_new_folder : (T : Tree) (f parent : ℕ) (name : List ℕ) → Before T → f % 32 ≡ 2 → find_place f T.places ≡ None
    → AreNearly (λ x. x ≡ f) T.places (now_at T (with_folder f parent name nothing))
    × ((c : Ctx) × (now_at T (with_folder f parent name nothing) f ≡ Some (Context c)) × (c.parent ≡ parent))
    × (now_at T (with_folder f parent name nothing) (hierarchy f) ≡ Some (Table hierarchy_table))
    × (now_at T (with_folder f parent name nothing) (contents f) ≡ Some (Table contents_table))
with_new_folder T f parent name w two none =
    let c : Ctx = record { parent = parent; props = folder_props name; kept = [] } in
    let D1 = with_object f (Some (Context c)) nothing in
    let D2 = with_object (hierarchy f) (Some (Table hierarchy_table)) D1 in
    let D3 = with_object (contents f) (Some (Table contents_table)) D2 in
    let p1 = puts_object T nothing f (Some (Context c)) in
    let p2 = puts_object T D1 (hierarchy f) (Some (Table hierarchy_table)) in
    let p3 = puts_object T D2 (contents f) (Some (Table contents_table)) in
    let p4 = puts_object T D3 (associated f) (Some (Table contents_table)) in
    let n1 = puts_free (λ x. x ≡ f) T.places (now_at T nothing) (now_at T D1) (nearly (λ x. x ≡ f) T.places (now_at T nothing) w) f f (Some (Context c)) none two refl (inl two)
    (λ x e. subst (λ z. fits_id f z ≡ true) (same_Some (Context c) x e) (folder_fits f c (inl two))) (λ t e. cc) p1 in
    let n2 = puts_empty (λ x. x ≡ f) T.places T D1 f 13 hierarchy_table (inl refl) refl n1 none two in
    let n3 = puts_empty (λ x. x ≡ f) T.places T D2 f 14 contents_table (inr (inl refl)) refl n2 none two in
    let n4 = puts_empty (λ x. x ≡ f) T.places T D3 f 15 contents_table (inr (inr refl)) refl n3 none two in (
      n4,
      (c, p4.others f (own_apart f f 15 two (omega arith) (omega arith)) ∙ p3.others f (own_apart f f 14 two (omega arith) (omega arith)) ∙ p2.others f (own_apart f f 13 two (omega arith) (omega arith)) ∙ p1.here, refl),
      p4.others (hierarchy f) (beside_apart f 13 15 (omega arith) (omega arith) (λ e. omega arith)) ∙ p3.others (hierarchy f) (beside_apart f 13 14 (omega arith) (omega arith) (λ e. omega arith)) ∙ p2.here,
      p4.others (contents f) (beside_apart f 14 15 (omega arith) (omega arith) (λ e. omega arith)) ∙ p3.here,
    )

-- a folder has its id of a place
pub not_placed : (T : Tree) (f : ℕ) → Before T → now_at T nothing f ≡ None → find_place f T.places ≡ None
not_placed T f w none = elim (cases_Option (find_place f T.places)) [
  | inl e ↦ e
  | inr p ↦ let c = w.contexts f p.0 p.1 in absurd (none-some (Context c.0) (sym none ∙ c.1))
]

listed_new : (T : Tree) (f parent : ℕ) (q : FolderPlace) (name : List ℕ) → Before T → f % 32 ≡ 2 → now_at T nothing f ≡ None → find_place parent T.places ≡ Some q → is_plain q ≡ true
    → Fine (add_shown T (hierarchy parent) f (folder_props name) (with_folder f parent name nothing)) (LeavesIn (put_key place_id (place f parent) T.places) T)
listed_new T f parent q name w two none found plain =
    let unplaced = not_placed T f w none in
    let new = with_new_folder T f parent name w two unplaced in
    let D = with_folder f parent name nothing in
    let same_parent : parent ≡ f → ⊥ = λ e. none-some q (sym unplaced ∙ ap (λ x. find_place x T.places) (sym e) ∙ found) in
    let no_root : f ≡ ROOT → ⊥ = λ e. none-some w.root.0 (sym unplaced ∙ ap (λ x. find_place x T.places) e ∙ w.root.1) in
    let parent_two = plain_id new.0 parent q found plain in
    let other_folder : hierarchy f ≡ hierarchy parent → ⊥ = λ e. same_parent (sym (same_folder f parent 13 two parent_two e)) in
    fine_weaker _ (LeavesIn (put_key place_id (place f parent) T.places) T) (add_shown T (hierarchy parent) f (folder_props name) D)
    (added_folder (λ x. x ≡ f) T.places T D parent q f (folder_props name) new.0 found plain)
    (λ D' r.
    let messages : now_at T D' (contents f) ≡ Some (Table contents_table) = r.0.others (contents f) (λ e. omega (arith, beside_kind f 14 (omega arith), beside_kind parent 13 (omega arith))) ∙ new.3 in
    whole_folder T.places (now_at T D') f parent q r.0.nearly_whole two no_root found plain r.1
    (new.1.0, r.0.others f (own_apart f parent 13 two (omega arith) (omega arith)) ∙ new.1.1, new.1.2)
    (ap is_some (r.0.others (hierarchy f) other_folder ∙ new.2))
    (ap is_some messages)
    (λ t m is row four. absurd (false≢true (subst (λ x. IsSome (find_row m x.table.rows)) (sym (same_table contents_table t (sym messages ∙ is))) row))))

pub fine_making_folder : (T : Tree) (parent : ℕ) (q : FolderPlace) (name : List ℕ) → Before T → find_place parent T.places ≡ Some q → is_plain q ≡ true → Fine (making_folder T parent name (next_index T 2 folder_kinds)) (Keeps T)
unfolding making_folder
fine_making_folder T parent q name w found plain = elim (cases_Bool (is_spent (next_index T 2 folder_kinds))) [
  | inl t ↦
      let index = next_index T 2 folder_kinds in let f = new_id 2 index in let places = put_key place_id (place f parent) T.places in
      refused_later T places 2 index (Keeps T) (add_shown T (hierarchy parent) f (folder_props name) (with_folder f parent name nothing) >>= settled T places parent) t
      (fine_planned_folder T f parent q name places w (new_id_kind 2 (next_index T 2 folder_kinds) (omega arith)) found plain)
      (folder_comes T (IsNew (Some (nid f))) f parent name (folder_props name) places (own_new f))
  | inr t ↦
      let index = next_index T 2 folder_kinds in
      let f = new_id 2 index in
      let places = put_key place_id (place f parent) T.places in
      let free = next_is_free T 2 folder_kinds t in
      let id = new_id_is 2 index free.1 in
      let two : f % 32 ≡ 2 = ap (λ x. x % 32) id ∙ kind_two index in
      let none : now_at T nothing f ≡ None = ap (now_at T nothing) id ∙ ap (λ g. g (nid_of 2 index)) (now_nothing T) ∙ free_folder T index free.0 in
      let still = plain_still T.places f parent parent q found plain in
      (fine_limits (LeavesIn places T) (Keeps T) T (Some (nid f)) (add_shown T (hierarchy parent) f (folder_props name) (with_folder f parent name nothing) >>= settled T places parent) _
      (fine_then (LeavesIn places T) (LeavesIn places T) (add_shown T (hierarchy parent) f (folder_props name) (with_folder f parent name nothing)) (settled T places parent)
      (listed_new T f parent q name w two none found plain) (λ D v. fine_settled T places parent still.0 D v still.1 still.2))
      (folder_comes T (IsNew (Some (nid f))) f parent name (folder_props name) places (own_new f))
      (λ D v. after_test (Keeps T) (is_spent index) Ids _ (λ left. v)))
]
  where
    kind_two : (index : ℕ) → nid_of 2 index % 32 ≡ 2
    kind_two index = omega arith

pub fine_made_folder : (T : Tree) (parent : ℕ) (name : List ℕ) → Before T → Fine (made_folder T parent name) (Keeps T)
unfolding made_folder
fine_made_folder T parent name w = elim (cases_Option (find_place parent T.places)) [
  | inl e ↦ rw e tt
  | inr p ↦ rw p.1 (elim (cases_Bool (is_plain p.0)) [
    | inr plain ↦ rw plain tt
    | inl plain ↦ rw plain (fine_then (λ u. Unit {0}) (Keeps T) (unless_named T (folded false name) (children parent T.places)) _ (fine_named T (folded false name) (children parent T.places) (children_of w parent)) (λ u u'.
        elim (cases_Bool (is_deep T.places parent)) [
          | inl b ↦ rw b tt
          | inr b ↦
              let t = folders_of w parent p.0 p.1 plain in
              rw b (fine_then (λ v. Unit {0}) (Keeps T) (unless_full T (hierarchy parent)) _ (fine_unless_full T (hierarchy parent) t.0 t.1) (λ v v'. fine_making_folder T parent p.0 name w p.1 plain))
        ]))
  ])
]

-- `mvdir`
abbrev MovedFolder : Tree → ℕ → ℕ → Changed → Type 0
MovedFolder T f parent D = AreNearly (λ x. x ≡ f) T.places (now_at T D) × ((c : Ctx) × (now_at T D f ≡ Some (Context c)) × (c.parent ≡ parent))

fine_between : (T : Tree) (f from to : ℕ) (p q r : FolderPlace) → Before T → find_place f T.places ≡ Some p → is_plain p ≡ true → (f ≡ ROOT → ⊥) → find_place from T.places ≡ Some q → is_plain q ≡ true → find_place to T.places ≡ Some r → is_plain r ≡ true
    → Fine (moved_between T f from to (put_key place_id (place f to) T.places)) (LeavesIn (put_key place_id (place f to) T.places) T)
unfolding moved_between
fine_between T f from to p q r w ep plain_p no_root eq plain_q er plain_r =
    let places = put_key place_id (place f to) T.places in
    let c = w.contexts f p ep in
    let c' : Ctx = record c.0 { parent = to } in
    let D = with_object f (Some (Context c')) nothing in
    let puts = puts_object T nothing f (Some (Context c')) in
    let n = puts_context (λ x. x ≡ f) T.places (now_at T nothing) (now_at T D) (nearly (λ x. x ≡ f) T.places (now_at T nothing) w) f p c' ep (λ no_root free. absurd (free refl)) puts in
    let two = plain_id n f p ep plain_p in
    let from_still = plain_still T.places f to from q eq plain_q in
    let to_still = plain_still T.places f to to r er plain_r in
    rw c.1 (fine_then (MovedFolder T f to) (LeavesIn places T) (drop_shown T (hierarchy from) f D) _
    (fine_weaker _ (MovedFolder T f to) (drop_shown T (hierarchy from) f D) (dropped_folder (λ x. x ≡ f) T.places T D from q f n eq plain_q (λ g s eg free. free))
    (λ D1 d. (d.nearly_whole, (c', d.others f (own_apart f from 13 two (omega arith) (omega arith)) ∙ puts.here, refl))))
    (λ D1 d. fine_then (LeavesIn places T) (LeavesIn places T) (add_shown T (hierarchy to) f c.0.props D1 >>= settled T places from) (settled T places to)
    (fine_then (LeavesIn places T) (LeavesIn places T) (add_shown T (hierarchy to) f c.0.props D1) (settled T places from)
    (fine_weaker _ (LeavesIn places T) (add_shown T (hierarchy to) f c.0.props D1) (added_folder (λ x. x ≡ f) T.places T D1 to r f c.0.props d.0 er plain_r)
    (λ D2 a. whole_folder T.places (now_at T D2) f to r a.0.nearly_whole two no_root er plain_r a.1
    (d.1.0, a.0.others f (own_apart f to 13 two (omega arith) (omega arith)) ∙ d.1.1, d.1.2)
    (a.0.nearly_whole.tables f p ep plain_p).0 (a.0.nearly_whole.tables f p ep plain_p).1
    (λ t m is row four. a.0.nearly_whole.listed f p t m ep plain_p is row four (λ e. omega arith))))
    (λ D2 v. fine_settled T places from from_still.0 D2 v from_still.1 from_still.2))
    (λ D3 v. fine_settled T places to to_still.0 D3 v to_still.1 to_still.2)))

pub fine_moved_folder : (T : Tree) (f parent : ℕ) → Before T → Fine (moved_folder T f parent) (Keeps T)
unfolding moved_folder
fine_moved_folder T f parent w = elim (cases_Option (find_place f T.places)) [
  | inl e ↦ rw e tt
  | inr p ↦ rw p.1 (elim (cases_Option (find_place parent T.places)) [
    | inl e ↦ rw e tt
    | inr q ↦ rw q.1 (elim (cases_Bool (is_plain p.0)) [
      | inr plain ↦ rw plain tt
      | inl plain_p ↦ rw plain_p (elim (cases_Bool (is_plain q.0)) [
        | inr plain ↦ rw plain tt
        | inl plain_q ↦ rw plain_q (fine_then _ (Keeps T) (unless_protected T f) _ (fine_protected T f w) (λ u no_root. elim (cases_Bool (is_within T.places f parent)) [
          | inl b ↦ rw b tt
          | inr b ↦ rw b (elim (cases_Bool (p.0.parent.bits == parent)) [
            | inl b ↦ rw b w
            | inr b ↦
                let c = w.contexts f p.0 p.1 in let from = w.parents f p.0 p.1 no_root in
                let places = put_key place_id (place f parent) T.places in
                rw (b, c.1) (fine_then _ (Keeps T) (unless_named T (folded false (name_of c.0.props)) (children parent T.places)) _ (fine_named T (folded false (name_of c.0.props)) (children parent T.places) (children_of w parent)) (λ v v'.
                elim (cases_Bool (moves_deep T.places f parent)) [
                  | inl b ↦ rw b tt
                  | inr b ↦ rw b (fine_moving T places (moved_between T f p.0.parent.bits parent places)
                      (fine_between T f p.0.parent.bits parent p.0 from.0 q.0 w p.1 plain_p no_root from.1 from.2 q.1 plain_q) (between_stood T (IsNew None) f p.0.parent.bits parent places))
                ]))
          ])
        ]))
      ])
    ])
  ])
]

-- `rmdir`
pub no_rows : (rows : List (ℕ × List Val)) (g : ℕ) → not (length rows == 0) ≡ false → IsSome (find_row g rows) → ⊥
no_rows [] g e is = false≢true is
no_rows (r ∷ rs) g e is = let none : length (r ∷ rs) ≡ 0 = eqb-true (length (r ∷ rs)) 0 (not-false (length (r ∷ rs) == 0) e) in omega arith

-- where no other node stands, what stands there is an object
taken_object : (object : Option Object) (other : Option NodeRec) → other ≡ None → (is_some object || is_some other) ≡ true → IsSome object
taken_object (Some object) other none e = refl
taken_object None other none e = absurd (false≢true (sym (ap is_some none) ∙ e))

fine_associated : (T : Tree) (f : ℕ) → Before T → node_at T.others (associated f) ≡ None → Fine (associated_in T f) (λ c. Unit {0})
fine_associated T f w no_node = go (is_taken T (associated f)) refl
  where
    go : (b : Bool) → is_taken T (associated f) ≡ b → Fine (table_if T (associated f) b) (λ c. Unit {0})
    go false e = tt
    go true e =
        let is = ap (λ g. is_some (g (associated f))) (now_nothing T) ∙ taken_object (object_at T (associated f)) (node_at T.others (associated f)) no_node e in
        let t = table_of (associated f) (now_at T nothing (associated f)) (w.typed (associated f)) (inr (inr (beside_kind f 15 (omega arith)))) is in
        rw t.1 tt

-- nothing stands at the ids of a folder that isn't there any more
removes_beside : (E : ℕ → Type 0) (places : List FolderPlace) (T : Tree) (D : Changed) (f q : ℕ) → find_place f places ≡ None → f % 32 ≡ 2 → q / 32 ≡ f / 32 → (q % 32 ≡ 2) ⊎ (13 ≤ q % 32) → AreNearly E places (now_at T D) → AreNearly E places (now_at T (with_object q None D))
removes_beside E places T D f q none two index kind n = puts_free E places (now_at T D) _ n f q None none two index kind (λ x e. absurd (none-some x e)) (λ t e. absurd (none-some (Table t) e)) (puts_object T D q None)

node_gone : (E : ℕ → Type 0) (places : List FolderPlace) (T : Tree) (D : Changed) (f q : ℕ) (b : Bool) → find_place f places ≡ None → f % 32 ≡ 2 → q / 32 ≡ f / 32 → (q % 32 ≡ 2) ⊎ (13 ≤ q % 32) → AreNearly E places (now_at T D) → AreNearly E places (now_at T (without_node q b D))
node_gone E places T D f q false none two index kind n = n
node_gone E places T D f q true none two index kind n = removes_beside E places T D f q none two index kind n

folder_gone : (T : Tree) (places : List FolderPlace) (f : ℕ) → AreWhole places (now_at T nothing) → find_place f places ≡ None → f % 32 ≡ 2 → AreNearly (λ x. ⊥) places (now_at T (without_folder T f nothing))
folder_gone T places f w none two =
    let D1 = with_object f None nothing in let D2 = with_object (hierarchy f) None D1 in let D3 = with_object (contents f) None D2 in
    let above : (kind : ℕ) → 13 ≤ kind → kind < 32 → (beside f kind % 32 ≡ 2) ⊎ (13 ≤ beside f kind % 32) = λ kind low high. inr (omega (arith, beside_kind f kind high)) in
    let n1 = removes_beside (λ x. ⊥) places T nothing f f none two refl (inl two) (nearly (λ x. ⊥) places (now_at T nothing) w) in
    let n2 = removes_beside (λ x. ⊥) places T D1 f (hierarchy f) none two (same_index f 13 (omega arith)) (above 13 (omega arith) (omega arith)) n1 in
    let n3 = removes_beside (λ x. ⊥) places T D2 f (contents f) none two (same_index f 14 (omega arith)) (above 14 (omega arith) (omega arith)) n2 in
    node_gone (λ x. ⊥) places T D3 f (associated f) (is_taken T (associated f)) none two (same_index f 15 (omega arith)) (above 15 (omega arith) (omega arith)) n3

pub fine_removed_folder : (T : Tree) (f : ℕ) → Before T → HasNoStray T → Fine (removed_folder T f) (Keeps T)
unfolding removed_folder
fine_removed_folder T f w clear = elim (cases_Option (find_place f T.places)) [
  | inl e ↦ rw e tt
  | inr p ↦ rw p.1 (elim (cases_Bool (is_plain p.0)) [
    | inr plain ↦ rw plain tt
    | inl plain ↦ rw plain (fine_then _ (Keeps T) (unless_protected T f) _ (fine_protected T f w) (λ u no_root.
        let a = folders_of w f p.0 p.1 plain in let b = messages_of w f p.0 p.1 plain in
        rw (a.1, b.1) (fine_then (λ c. Unit {0}) (Keeps T) (associated_in T f) _ (fine_associated T f w (clear f p.0 p.1 plain)) (λ c c'.
        elim (cases_Bool (has_rows a.0 || (has_rows b.0 || has_associated c))) [
          | inl some ↦ rw some tt
          | inr none ↦ rw none (removes p.0 p.1 plain no_root a.0 a.1 (or_parts (has_rows a.0) (has_rows b.0 || has_associated c) none).0
              b.0 b.1 (or_parts (has_rows b.0) (has_associated c) (or_parts (has_rows a.0) (has_rows b.0 || has_associated c) none).1).0)
        ]))))
  ])
]
  where
    removes : (p : FolderPlace) → find_place f T.places ≡ Some p → is_plain p ≡ true → (f ≡ ROOT → ⊥) → (a : Tbl) → now_at T nothing (hierarchy f) ≡ Some (Table a) → has_rows a ≡ false → (b : Tbl) → now_at T nothing (contents f) ≡ Some (Table b) → has_rows b ≡ false
        → Fine (drop_shown T (hierarchy p.parent.bits) f (without_folder T f nothing) >>= settled T (drop_key place_id f T.places) p.parent.bits >>= moving T (drop_key place_id f T.places) (replied Done)) (Keeps T)
    removes p e plain no_root a is_a none_a b is_b none_b =
        let places = drop_key place_id f T.places in
        let no_folders : (g : ℕ) → HasRow (now_at T nothing (hierarchy f)) g → ⊥ = λ g h. no_rows a.table.rows g none_a (subst (λ x. IsSome (find_row g x.table.rows)) (same_table h.0 a (sym h.1 ∙ is_a)) h.2) in
        let no_messages : (g : ℕ) → HasRow (now_at T nothing (contents f)) g → ⊥ = λ g h. no_rows b.table.rows g none_b (subst (λ x. IsSome (find_row g x.table.rows)) (same_table h.0 b (sym h.1 ∙ is_b)) h.2) in
        let w' = whole_without T.places (now_at T nothing) f w no_root no_folders no_messages in
        let none : find_place f places ≡ None = find-drop_same place_id 0 f T.places w.ascend in
        let two = plain_id (nearly (λ x. ⊥) T.places (now_at T nothing) w) f p e plain in
        let n = folder_gone T places f w' none two in
        let q = w.parents f p e no_root in
        let other : p.parent.bits ≡ f → ⊥ = λ same. no_folders f (subst (λ x. HasRow (now_at T nothing (hierarchy x)) f) same q.3) in
        let found : find_place p.parent.bits places ≡ Some q.0 = find-drop_other place_id p.parent.bits f T.places other ∙ q.1 in
        fine_moving T places (drop_shown T (hierarchy p.parent.bits) f (without_folder T f nothing) >>= settled T places p.parent.bits)
        (fine_then (LeavesIn places T) (LeavesIn places T) (drop_shown T (hierarchy p.parent.bits) f (without_folder T f nothing)) (settled T places p.parent.bits)
        (fine_weaker _ (LeavesIn places T) (drop_shown T (hierarchy p.parent.bits) f (without_folder T f nothing))
        (dropped_folder (λ x. ⊥) places T (without_folder T f nothing) p.parent.bits q.0 f n found q.2 (λ g r eg free same. none-some r (sym none ∙ ap (λ x. find_place x places) (sym same) ∙ eg)))
        (λ D d. whole places (now_at T D) d.nearly_whole))
        (λ D v. fine_settled T places p.parent.bits q.0 D v found q.2))
        (folder_goes T (IsNew None) f p.parent.bits places)
