-- A search folder that goes leaves the tree whole.
use Rattle.std.proofs.Common.{◌≡◌, ◌∙◌, ◌⊎◌, ℕ, ◌%◌, ◌≤◌, Bool, true, false, List, Option, None, Some, IsSome, is_some, IfOk, ap, arith, refl, subst, sym, inl, inr}
use Rattle.std.proofs.lemmas.Bool.{cases_eq, or_parts}
use Rattle.std.proofs.lemmas.Option.{none-some}
use Rattle.mapi_values.specs.Keyed.{drop_key}
use Rattle.mapi_values.specs.Tables.{drop_row, find_row}
use Rattle.mapi_values.proofs.KeyedLaws.{drop-ascends}
use Rattle.node_port.specs.Nodes.{node_at}
use Rattle.mail_objects.specs.Forms.{Tbl}
use Rattle.mail_objects.specs.declared.object.Object.{Object}
use Rattle.mail_objects.specs.declared.object.Object.TheVariants.{Table}
use Rattle.command_text.specs.declared.reply.LastLine.TheVariants.{Done}
use Rattle.mail_tree.specs.declared.places.FolderPlace.{FolderPlace}
use Rattle.mail_tree.specs.Changing.{Answer, Changed, ◌>>=◌, drop_shown, hierarchy, nothing, now_at, with_object, with_rows, within_limits}
use Rattle.mail_tree.specs.Folders.{Outcome, moving, replied, unless_protected, without_node}
use Rattle.mail_tree.specs.Ids.{is_taken}
use Rattle.mail_tree.specs.Places.{ROOT, find_place, is_plain, place_id}
use Rattle.mail_tree.specs.Settling.{settled}
use Rattle.mail_tree.specs.Tree.{Tree, object_at}
use Rattle.mail_tree.specs.Whole.{AreWhole, Fine}
use Rattle.mail_tree.proofs.AfterTree.{now_nothing, puts_object}
use Rattle.mail_tree.proofs.FineLaws.{fine_then}
use Rattle.mail_tree.proofs.KeyedFinds.{find-drop_other, find-drop_same}
use Rattle.mail_tree.proofs.KindsOfPuts.{beside_kind, low, puts_folders, same_table}
use Rattle.mail_tree.proofs.Nearly.{AreNearly, folder_kind, nearly, puts_suiting, table_of, whole}
use Rattle.mail_tree.proofs.Settles.{fine_settled}
use Rattle.mail_laws.proofs.FolderSteps.{fine_protected}
use Rattle.mail_laws.proofs.Keeping.{if_any, if_then}
use Rattle.mail_laws.proofs.MessageSteps.{Before, Keeps}
use Rattle.search_laws.proofs.PlainPlaces.{plain_other}
use Rattle.mail_searches.specs.Moving.{removing_search, without_search}
use Rattle.mail_searches.specs.Searches.{criteria_node, results, updates}
use Rattle.mail_tree.proofs.StoodLaws.{AreStood, IsNew, dropped_stood, none_stood, settled_stood, stood_put, stood_then}
use Rattle.mail_laws.proofs.Comparing.{fine_limits}

-- the id is none of values of the store, of a plain folder, of a message, or of a folder's tables
abbrev pub IsAside : ℕ → Type 0
IsAside q = (3 ≤ q % 32) × (q % 32 ≡ 4 → ⊥) × (q % 32 ≡ 13 → ⊥) × (q % 32 ≡ 14 → ⊥)

-- the id is that of one of the search's nodes: its values, its criteria, its list, or its updates
abbrev pub IsNode : ℕ → ℕ → Type 0
IsNode s q = (q ≡ s) ⊎ ((q ≡ criteria_node s) ⊎ ((q ≡ results s) ⊎ (q ≡ updates s)))

-- each of them is aside
pub node_aside : (s q : ℕ) → s % 32 ≡ 3 → IsNode s q → IsAside q
node_aside s q three (inl e) = (omega arith, λ k. omega arith, λ k. omega arith, λ k. omega arith)
node_aside s q three (inr (inl e)) = let kind : q % 32 ≡ 7 = ap (λ x. x % 32) e ∙ beside_kind s 7 (omega arith) in (omega arith, λ k. omega arith, λ k. omega arith, λ k. omega arith)
node_aside s q three (inr (inr (inl e))) = let kind : q % 32 ≡ 16 = ap (λ x. x % 32) e ∙ beside_kind s 16 (omega arith) in (omega arith, λ k. omega arith, λ k. omega arith, λ k. omega arith)
node_aside s q three (inr (inr (inr e))) = let kind : q % 32 ≡ 6 = ap (λ x. x % 32) e ∙ beside_kind s 6 (omega arith) in (omega arith, λ k. omega arith, λ k. omega arith, λ k. omega arith)

-- where no folder stands at the search's id, none stands at those of its nodes
pub node_free : (places : List FolderPlace) (s q : ℕ) → ((f : ℕ) (p : FolderPlace) → find_place f places ≡ Some p → (f % 32 ≡ 2) ⊎ (f % 32 ≡ 3)) → find_place s places ≡ None → IsNode s q → (p : FolderPlace) → find_place q places ≡ Some p → ⊥
node_free places s q ids none (inl e) p placed = none-some p (sym none ∙ ap (λ x. find_place x places) (sym e) ∙ placed)
node_free places s q ids none (inr (inl e)) p placed = let kind : q % 32 ≡ 7 = ap (λ x. x % 32) e ∙ beside_kind s 7 (omega arith) in let (above, below) = low q (ids q p placed) in omega arith
node_free places s q ids none (inr (inr (inl e))) p placed = let kind : q % 32 ≡ 16 = ap (λ x. x % 32) e ∙ beside_kind s 16 (omega arith) in let (above, below) = low q (ids q p placed) in omega arith
node_free places s q ids none (inr (inr (inr e))) p placed = let kind : q % 32 ≡ 6 = ap (λ x. x % 32) e ∙ beside_kind s 6 (omega arith) in let (above, below) = low q (ids q p placed) in omega arith

-- what holds still after each node of a search that goes holds after all went
pub goes_by : (P : Changed → Type 0) (T : Tree) (s : ℕ) → ((D : Changed) (q : ℕ) → IsNode s q → P D → P (with_object q None D)) → P nothing → P (without_search T s nothing)
goes_by P T s step start =
    let D1 = with_object s None nothing in let D2 = with_object (criteria_node s) None D1 in let D3 = with_object (results s) None D2 in
    if_there (is_taken T (updates s)) D3 (step D2 (results s) (inr (inr (inl refl))) (step D1 (criteria_node s) (inr (inl refl)) (step nothing s (inl refl) start)))
  where
    if_there : (b : Bool) (D : Changed) → P D → P (without_node (updates s) b D)
    if_there false D k = k
    if_there true D k = step D (updates s) (inr (inr (inr refl))) k

-- a search folder loses its place
pub without_place : (places : List FolderPlace) (at : ℕ → Option Object) (s : ℕ) → s % 32 ≡ 3 → AreWhole places at → AreWhole (drop_key place_id s places) at
without_place places at s three w = record {
  ascend = drop-ascends place_id 0 s places w.ascend;
  root = let r = w.root in (r.0, others ROOT (other ROOT r.0 r.1 r.2) ∙ r.1, r.2, r.3);
  kinds = λ g p e. w.kinds g p (was g p e);
  parents = λ g p e no_root. let v = w.parents g p (was g p e) no_root in (v.0, others p.parent.bits (other p.parent.bits v.0 v.1 v.2) ∙ v.1, v.2, v.3);
  typed = w.typed;
  rows_ascend = w.rows_ascend;
  store = w.store;
  names = w.names;
  contexts = λ g p e. w.contexts g p (was g p e);
  tables = λ g p e. w.tables g p (was g p e);
  listed = λ g p t m e. w.listed g p t m (was g p e);
  held = λ m M is. let v = w.held m M is in (v.0, others M.folder (other M.folder v.0 v.1 v.2) ∙ v.1, v.2, v.3);
}
  where
    other : (g : ℕ) (p : FolderPlace) → find_place g places ≡ Some p → is_plain p ≡ true → g ≡ s → ⊥
    other g p e plain = plain_other (nearly (λ x. ⊥) places at w) s three g p e plain

    others : (g : ℕ) → (g ≡ s → ⊥) → find_place g (drop_key place_id s places) ≡ find_place g places
    others g apart = find-drop_other place_id g s places apart

    was : (g : ℕ) (p : FolderPlace) → find_place g (drop_key place_id s places) ≡ Some p → find_place g places ≡ Some p
    was g p e = elim (cases_eq g s) [
      | inl same ↦ absurd (none-some p (sym (ap (λ x. find_place x (drop_key place_id s places)) same ∙ find-drop_same place_id 0 s places w.ascend) ∙ e))
      | inr apart ↦ sym (others g apart) ∙ e
    ]

-- a node beside what folders and messages have goes
node_goes : (places : List FolderPlace) (T : Tree) (D : Changed) (q : ℕ) → IsAside q → ((p : FolderPlace) → find_place q places ≡ Some p → ⊥) → AreNearly (λ x. ⊥) places (now_at T D) → AreNearly (λ x. ⊥) places (now_at T (with_object q None D))
node_goes places T D q aside free n = puts_suiting (λ x. ⊥) places (now_at T D) (now_at T (with_object q None D)) q None n (puts_object T D q None) (record {
  typed = λ x e. absurd (none-some x e);
  rows_ascend = λ t e. absurd (none-some (Table t) e);
  store = λ e. let above = aside.0 in absurd (omega arith);
  names = λ e. let above = aside.0 in absurd (omega arith);
  context = λ p e. absurd (free p e);
  folders = λ f p e plain same. absurd (aside.2 (ap (λ x. x % 32) same ∙ beside_kind f 13 (omega arith)));
  messages = λ f p e plain same. absurd (aside.3 (ap (λ x. x % 32) same ∙ beside_kind f 14 (omega arith)));
  message = λ matters four. aside.1 four;
})

-- the nodes of a search folder go
search_gone : (T : Tree) (places : List FolderPlace) (s : ℕ) → s % 32 ≡ 3 → find_place s places ≡ None → AreWhole places (now_at T nothing) → AreNearly (λ x. ⊥) places (now_at T (without_search T s nothing))
search_gone T places s three none w = goes_by (λ D. AreNearly (λ x. ⊥) places (now_at T D)) T s
    (λ D q node n. node_goes places T D q (node_aside s q three node) (node_free places s q (λ f p e. folder_kind p.sort f (w.kinds f p e)) none node) n) (nearly (λ x. ⊥) places (now_at T nothing) w)

-- elsewhere stands what stood there
pub goes_elsewhere : (T : Tree) (s q : ℕ) → (IsNode s q → ⊥) → now_at T (without_search T s nothing) q ≡ now_at T nothing q
goes_elsewhere T s q other = goes_by (λ D. now_at T D q ≡ now_at T nothing q) T s (λ D x node k. (puts_object T D x None).others q (λ e. other (subst (IsNode s) (sym e) node)) ∙ k) refl

-- where nothing stands nothing comes
none_put : (T : Tree) (q x : ℕ) (D : Changed) → now_at T D x ≡ None → now_at T (with_object q None D) x ≡ None
none_put T q x D none = elim (cases_eq x q) [
  | inl same ↦ ap (now_at T (with_object q None D)) same ∙ (puts_object T D q None).here
  | inr other ↦ (puts_object T D q None).others x other ∙ none
]

none_still : (T : Tree) (q x : ℕ) (b : Bool) (D : Changed) → now_at T D x ≡ None → now_at T (without_node q b D) x ≡ None
none_still T q x false D none = none
none_still T q x true D none = none_put T q x D none

-- an object that isn't there
not_there : (o : Option Object) → is_some o ≡ false → o ≡ None
not_there None e = refl
not_there (Some x) e = cc

-- where no node stands, or the one that does goes, none is left
free_goes : (T : Tree) (q : ℕ) (b : Bool) (D : Changed) → is_taken T q ≡ b → (now_at T nothing q ≡ None → now_at T D q ≡ None) → now_at T (without_node q b D) q ≡ None
free_goes T q true D taken still = (puts_object T D q None).here
free_goes T q false D taken still = still (ap (λ at. at q) (now_nothing T) ∙ not_there (object_at T q) (or_parts (is_some (object_at T q)) (is_some (node_at T.others q)) taken).0)

-- nothing stands at the ids of a search's nodes
pub all_gone : (T : Tree) (s q : ℕ) → IsNode s q → now_at T (without_search T s nothing) q ≡ None
all_gone T s q node =
    let D1 = with_object s None nothing in let D2 = with_object (criteria_node s) None D1 in let D3 = with_object (results s) None D2 in
    let b = is_taken T (updates s) in let now = now_at T (without_search T s nothing) in
    elim node [
      | inl e ↦ ap now e ∙ none_still T (updates s) s b D3 (none_put T (results s) s D2 (none_put T (criteria_node s) s D1 (puts_object T nothing s None).here))
      | inr n ↦ elim n [
        | inl e ↦ ap now e ∙ none_still T (updates s) (criteria_node s) b D3 (none_put T (results s) (criteria_node s) D2 (puts_object T D1 (criteria_node s) None).here)
        | inr m ↦ elim m [
          | inl e ↦ ap now e ∙ none_still T (updates s) (results s) b D3 (puts_object T D2 (results s) None).here
          | inr e ↦ ap now e ∙ free_goes T (updates s) b D3 refl (λ none. none_put T (results s) (updates s) D2 (none_put T (criteria_node s) (updates s) D1 (none_put T s (updates s) nothing none)))
        ]
      ]
    ]

-- an id is that of one of a search's nodes, or isn't
pub node_cases : (s q : ℕ) → IsNode s q ⊎ (IsNode s q → ⊥)
node_cases s q = elim (cases_eq q s) [
  | inl e ↦ inl (inl e)
  | inr a ↦ elim (cases_eq q (criteria_node s)) [
    | inl e ↦ inl (inr (inl e))
    | inr b ↦ elim (cases_eq q (results s)) [
      | inl e ↦ inl (inr (inr (inl e)))
      | inr c ↦ elim (cases_eq q (updates s)) [
        | inl e ↦ inl (inr (inr (inr e)))
        | inr d ↦ inr (λ n. elim n [ inl e ↦ a e | inr m ↦ elim m [ inl e ↦ b e | inr l ↦ elim l [ inl e ↦ c e | inr e ↦ d e ] ] ])
      ]
    ]
  ]
]

-- a row of a folder goes that isn't there any more
row_gone : (places : List FolderPlace) (T : Tree) (D : Changed) (parent : ℕ) (q : FolderPlace) (s : ℕ) → AreNearly (λ x. ⊥) places (now_at T D) → find_place parent places ≡ Some q → is_plain q ≡ true → find_place s places ≡ None
    → Fine (drop_shown T (hierarchy parent) s D) (λ D'. AreWhole places (now_at T D'))
unfolding drop_shown
row_gone places T D parent q s n found plain none =
    let t = table_of (hierarchy parent) (now_at T D (hierarchy parent)) (n.typed (hierarchy parent)) (inl (beside_kind parent 13 (omega arith))) (n.tables parent q found plain).0 in
    let t' : Tbl = record { parent = t.0.parent; table = record t.0.table { rows = drop_row s t.0.table.rows } } in
    let puts = puts_object T D (hierarchy parent) (Some (with_rows (drop_row s t.0.table.rows) t.0)) in
    rw t.1 (whole places _ (puts_folders (λ x. ⊥) places (now_at T D) _ n parent q t' found plain (drop-ascends (λ r. r.0) 0 s t.0.table.rows (n.rows_ascend (hierarchy parent) t.0 t.1))
    (λ g r eg free up has.
    let other : g ≡ s → ⊥ = λ same. none-some r (sym none ∙ ap (λ x. find_place x places) (sym same) ∙ eg) in
    subst IsSome (sym (find-drop_other (λ r. r.0) g s t.0.table.rows other)) (subst (λ x. IsSome (find_row g x.table.rows)) (same_table has.0 t.0 (sym has.1 ∙ t.1)) has.2))
    puts))

-- what the changes come to
abbrev pub removed_outcome : Tree → ℕ → Changed → Outcome
removed_outcome T s D = record { changed = D; places = drop_key place_id s T.places; last = T.last; reply = replied Done }

-- its nodes and its row went, and its parent was counted anew
abbrev pub removing : Tree → ℕ → FolderPlace → Answer Changed
removing T s p = drop_shown T (hierarchy p.parent.bits) s (without_search T s nothing) >>= settled T (drop_key place_id s T.places) p.parent.bits

-- what holds of that holds of `rmdir`
pub if_removed : (T : Tree) (s : ℕ) (p : FolderPlace) (Q : Outcome → Type 0) → find_place s T.places ≡ Some p → IfOk (removing T s p) (λ D. Q (removed_outcome T s D)) → IfOk (removing_search T s) Q
unfolding removing_search
if_removed T s p Q found h = rw found (if_then (λ u. Unit {0}) Q (unless_protected T s) _ (if_any (unless_protected T s)) (λ u u'.
    if_then (λ D. Q (removed_outcome T s D)) Q (removing T s p) (moving T (drop_key place_id s T.places) (replied Done)) h (λ D k. if_then (λ v. Unit {0}) Q (within_limits T _ D) _ (if_any (within_limits T _ D)) (λ v v'. k))))

node_stood : (T : Tree) (q : ℕ) (b : Bool) (D : Changed) → AreStood T (IsNew None) D → AreStood T (IsNew None) (without_node q b D)
node_stood T q false D all = all
node_stood T q true D all = stood_put T (IsNew None) q None D tt all

-- nothing is put but tables, and what stands there
search_goes : (T : Tree) (s from : ℕ) (places : List FolderPlace) → IfOk (drop_shown T (hierarchy from) s (without_search T s nothing) >>= settled T places from) (AreStood T (IsNew None))
search_goes T s from places =
    let New = IsNew None in
    let D3 = stood_put T New (results s) None _ tt (stood_put T New (criteria_node s) None _ tt (stood_put T New s None nothing tt (none_stood T New))) in
    stood_then (drop_shown T (hierarchy from) s (without_search T s nothing)) (settled T places from)
    (dropped_stood T New (hierarchy from) s _ (node_stood T (updates s) (is_taken T (updates s)) _ D3)) (λ D k. settled_stood T New places from D k)

-- `rmdir` of a search folder
pub fine_removed : (T : Tree) (s : ℕ) (p : FolderPlace) → Before T → s % 32 ≡ 3 → find_place s T.places ≡ Some p → Fine (removing_search T s) (Keeps T)
unfolding removing_search
fine_removed T s p w three found = rw found (fine_then _ (Keeps T) (unless_protected T s) _ (fine_protected T s w) (λ u no_root.
    let places = drop_key place_id s T.places in
    let LeavesIn : Changed → Type 0 = λ D. AreWhole places (now_at T D) in
    let none = find-drop_same place_id 0 s T.places w.ascend in
    let v = w.parents s p found no_root in
    let from = p.parent.bits in
    let there : find_place from places ≡ Some v.0 = find-drop_other place_id from s T.places (plain_other (nearly (λ x. ⊥) T.places (now_at T nothing) w) s three from v.0 v.1 v.2) ∙ v.1 in
    let gone = search_gone T places s three none (without_place T.places (now_at T nothing) s three w) in
    let D = without_search T s nothing in
    fine_limits LeavesIn (Keeps T) T None (drop_shown T (hierarchy from) s D >>= settled T places from) _
    (fine_then LeavesIn LeavesIn (drop_shown T (hierarchy from) s D) (settled T places from) (row_gone places T D from v.0 s gone there v.2 none) (λ D' x. fine_settled T places from v.0 D' x there v.2))
    (search_goes T s from places) (λ D' x. x)))
