-- Steps after which the tables of folders list the folders that stand in them.
use Rattle.std.proofs.Common.{◌≡◌, ℕ, ◌%◌, ◌<◌, ◌==◌, true, false, cond, List, length, Option, None, Some, IsSome, is_some, IfOk, arith, refl, sym, subst, ap, ◌∙◌, ◌⊎◌, inl, inr}
use Rattle.std.specs.Cmp.{nat_cmp_total}
use Rattle.std.specs.FinMap as map
use Rattle.std.specs.List.{list_any}
use Rattle.std.specs.Ordering.{nat_cmp}
use Rattle.std.proofs.lemmas.Bool.{cases_Bool, cases_eq, eq-eqb, eqb-false, eqb-true, ne_eqb}
use Rattle.std.proofs.lemmas.Option.{same_Some}
use Rattle.node_port.specs.Nodes.{node_at}
use Rattle.node_port.specs.declared.node.NodeRec.{NodeRec}
use Rattle.mapi_values.specs.Tables.{drop_row, find_row, mirror}
use Rattle.mapi_values.specs.Values.{Val}
use Rattle.mail_objects.specs.Forms.{Ctx, Tbl}
use Rattle.mail_objects.specs.declared.object.Object.{Object}
use Rattle.mail_objects.specs.declared.object.Object.TheVariants.{Context, Table}
use Rattle.mail_tree.specs.declared.places.FolderPlace.{FolderPlace}
use Rattle.mail_tree.specs.declared.places.Sort.{Sort}
use Rattle.mail_tree.specs.declared.places.Sort.TheVariants.{Plain}
use Rattle.mail_tree.specs.Places.{ROOT, find_place, is_child, is_plain}
use Rattle.mail_tree.specs.Tree.{Tree, object_at}
use Rattle.mail_tree.specs.Values.{with_counts}
use Rattle.mail_tree.specs.Changing.{Answer, Changed, ◌>>=◌, add_shown, beside, contents, context_at, drop_shown, hierarchy, newest, now_at, overfills, put_shown, shown_row, table_at, with_object, with_rows}
use Rattle.mail_tree.specs.Settling.{counted, message_ids, mirrored, settled, unread_among, with_context}
use Rattle.mail_tree.specs.Folders.{Outcome, nid}
use Rattle.mail_tree.specs.Ids.{is_taken}
use Rattle.mail_tree.specs.Step.{after}
use Rattle.mail_tree.specs.Found.{BelongsOr, IsFound, IsFoundBeside, named_sort}
use Rattle.mail_tree.proofs.AfterLaws.{get-without_changed}
use Rattle.mail_tree.proofs.AfterTree.{after_now, puts_object, same_now, tied}
use Rattle.mail_laws.proofs.Depths.{AreReached}
use Rattle.mail_laws.proofs.Keeping.{if_any, if_then}
use Rattle.mail_tree.proofs.KeyedFinds.{find-put_other}
use Rattle.mail_tree.proofs.KindsOfPuts.{beside_kind, same_folder, same_table}
use Rattle.mail_laws.proofs.Touches.{Stays, if_context, if_table, table_stays}
use Rattle.mail_tree.proofs.Nearly.{Puts}
use Rattle.mail_laws.proofs.PlaceEffects.{found_id, is_place}

-- plain folders, and those in which they stand, have ids of kind 2
abbrev pub PlainIds : List FolderPlace → Type 0
PlainIds places = (f : ℕ) (p : FolderPlace) → find_place f places ≡ Some p → is_plain p ≡ true → (f % 32 ≡ 2) × (p.parent.bits % 32 ≡ 2)

-- where a row of this id in a folder's table names a folder, that one stands there
abbrev pub Names : Tree → List FolderPlace → ℕ → ℕ → Type 0
Names T places f r = (s : Sort) → named_sort T r ≡ Some s → (r ≡ ROOT → ⊥) × (find_place r places ≡ Some (record { nid = nid r; parent = nid f; sort = s }))

-- each object belongs where it stands, or stands beside what an opening of folders finds
abbrev pub StandRightly : (ℕ → Type 0) → List FolderPlace → (ℕ → Option Object) → Type 0
StandRightly aside places at = (q : ℕ) (o : Object) → at q ≡ Some o → BelongsOr aside places q o

-- After changes the rows of folders name those that stand there, the values of all but the root tell where they stand, and each object belongs where it stands, or stands beside.
pub record Finds (aside : ℕ → Type 0) (T : Tree) (places : List FolderPlace) (D : Changed) : Type 0 where
  pub listed : (f : ℕ) (p : FolderPlace) (t : Tbl) (r : ℕ) → find_place f places ≡ Some p → is_plain p ≡ true → now_at T D (hierarchy f) ≡ Some (Table t) → IsSome (find_row r t.table.rows) → Names T places f r
  pub told : (f : ℕ) (p : FolderPlace) (c : Ctx) → find_place f places ≡ Some p → is_plain p ≡ true → (f ≡ ROOT → ⊥) → now_at T D f ≡ Some (Context c) → c.parent ≡ p.parent.bits
  pub owned : StandRightly aside places (now_at T D)

-- where an opening finds the tree with nothing beside it does so whatever may stand beside
pub found_beside : (aside : ℕ → Type 0) (T : Tree) → IsFound T → IsFoundBeside aside T
found_beside aside T h = record { listed = h.listed; reached = h.reached; owned = λ q o e. inr (h.owned q o e) }

-- where nothing stands beside the tree is found by itself
pub found_alone : (T : Tree) → IsFoundBeside (λ q. ⊥) T → IsFound T
found_alone T h = record { listed = h.listed; reached = h.reached; owned = λ q o e. elim (h.owned q o e) [ inl none ↦ absurd none | inr b ↦ b ] }

-- what is put belongs there
pub owned_put : (aside : ℕ → Type 0) (places : List FolderPlace) (at at' : ℕ → Option Object) (q : ℕ) (o : Option Object) → Puts at at' q o → ((x : Object) → o ≡ Some x → BelongsOr aside places q x) → StandRightly aside places at
    → StandRightly aside places at'
owned_put aside places at at' q o puts fits owned k y e = elim (cases_eq k q) [
  | inl same ↦ subst (λ z. BelongsOr aside places z y) (sym same) (fits y (sym puts.here ∙ ap at' (sym same) ∙ e))
  | inr other ↦ owned k y (sym (puts.others k other) ∙ e)
]

pub some_belongs : (aside : ℕ → Type 0) (places : List FolderPlace) (q : ℕ) (y : Object) → BelongsOr aside places q y → (x : Object) → Some y ≡ Some x → BelongsOr aside places q x
some_belongs aside places q y b x e = subst (BelongsOr aside places q) (same_Some y x e) b

-- an id of another kind is none beside a folder
pub kind_apart : (x f kind : ℕ) → kind < 32 → (x % 32 ≡ kind → ⊥) → x ≡ beside f kind → ⊥
kind_apart x f kind less other e = other (ap (λ y. y % 32) e ∙ beside_kind f kind less)

-- elsewhere nothing changes
pub get_other : (D : Changed) (q k : ℕ) (o : Option Object) → (k ≡ q → ⊥) → map.get (map.insert D.objects q o) k ≡ map.get D.objects k
get_other D q k o other = rw (map.get-insert nat_cmp_total D.objects q o k, tied false k q (ne_eqb k q other)) refl

-- a plain folder is named by a row in its parent's table
pub named_place : (T : Tree) (places : List FolderPlace) (f parent : ℕ) (p : FolderPlace) → find_place f places ≡ Some p → is_plain p ≡ true → p.parent.bits ≡ parent → f % 32 ≡ 2 → (f ≡ ROOT → ⊥) → Names T places parent f
named_place T places f parent p e plain up two no_root s named =
    let sort : Plain ≡ s = same_Some Plain s (rw (eq-eqb (f % 32) 2 two) at named) in
    (no_root, e ∙ ap (λ (x : FolderPlace). Some x) (is_place p f parent (found_id f places p e) up plain) ∙ ap (λ x. Some (record { nid = nid f; parent = nid parent; sort = x })) sort)

module _ (aside : ℕ → Type 0) (T : Tree) (places : List FolderPlace) (ids : PlainIds places) where
  -- an object is put, or removed, that is none of a folder and no table of folders
  pub finds_elsewhere : (D D' : Changed) (q : ℕ) (o : Option Object) → Finds aside T places D → Puts (now_at T D) (now_at T D') q o → (q % 32 ≡ 2 → ⊥) → (q % 32 ≡ 13 → ⊥) → ((x : Object) → o ≡ Some x → BelongsOr aside places q x) → Finds aside T places D'
  finds_elsewhere D D' q o s puts no_folder no_table fits = record {
    listed = λ f p t r e plain is row. s.listed f p t r e plain (sym (puts.others (hierarchy f) (λ same. no_table (ap (λ x. x % 32) (sym same) ∙ beside_kind f 13 (omega arith)))) ∙ is) row;
    told = λ f p c e plain no_root is. s.told f p c e plain no_root (sym (puts.others f (λ same. no_folder (ap (λ x. x % 32) (sym same) ∙ (ids f p e plain).0))) ∙ is);
    owned = owned_put aside places (now_at T D) (now_at T D') q o puts fits s.owned;
  }

  -- a folder gets other values
  pub finds_values : (D : Changed) (f : ℕ) (c : Ctx) (props : List Val) → f % 32 ≡ 2 → Finds aside T places D → now_at T D f ≡ Some (Context c) → Finds aside T places (with_context f c props D)
  finds_values D f c props two s at =
      let new : Ctx = record c { props = props } in
      let puts = puts_object T D f (Some (Context new)) in record {
        listed = λ g p t r e plain is row. s.listed g p t r e plain (sym (puts.others (hierarchy g) (λ same. kind_apart f g 13 (omega arith) (λ k. omega arith) (sym same))) ∙ is) row;
        told = λ g p d e plain no_root is. elim (cases_eq g f) [
          | inl same ↦ told_here g p d e plain no_root (sym (ap (now_at T (with_context f c props D)) same ∙ puts.here) ∙ is) (ap (now_at T D) same ∙ at)
          | inr other ↦ s.told g p d e plain no_root (sym (puts.others g other) ∙ is)
        ];
        owned = owned_put aside places (now_at T D) (now_at T (with_context f c props D)) f (Some (Context new)) puts (some_belongs aside places f (Context new) (s.owned f (Context c) at)) s.owned;
      }
    where
      told_here : (g : ℕ) (p : FolderPlace) (d : Ctx) → find_place g places ≡ Some p → is_plain p ≡ true → (g ≡ ROOT → ⊥) → ◌≡◌ {A = Option Object} (Some (Context (record c { props = props }))) (Some (Context d)) → now_at T D g ≡ Some (Context c) → d.parent ≡ p.parent.bits
      told_here g p d e plain no_root same is = let one : record c { props = props } ≡ d = cc in ap (λ (x : Ctx). x.parent) (sym one) ∙ s.told g p c e plain no_root is

  -- a table of folders gets other rows, and each new one names a folder that stands there
  pub finds_rows : (D D' : Changed) (f : ℕ) (t t' : Tbl) → f % 32 ≡ 2 → Finds aside T places D → now_at T D (hierarchy f) ≡ Some (Table t) → Puts (now_at T D) (now_at T D') (hierarchy f) (Some (Table t'))
      → ((r : ℕ) → IsSome (find_row r t'.table.rows) → IsSome (find_row r t.table.rows) ⊎ Names T places f r) → Finds aside T places D'
  finds_rows D D' f t t' two s at puts rows = record {
    listed = λ g p u r e plain is row. elim (cases_eq (hierarchy g) (hierarchy f)) [
      | inl same ↦
          let one = same_folder g f 13 (ids g p e plain).0 two same in
          let new = same_table t' u (sym (ap (now_at T D') same ∙ puts.here) ∙ is) in
          elim (rows r (subst (λ (x : Tbl). IsSome (find_row r x.table.rows)) (sym new) row)) [
            | inl old ↦ s.listed g p t r e plain (ap (now_at T D) same ∙ at) old
            | inr names ↦ subst (λ x. Names T places x r) (sym one) names
          ]
      | inr other ↦ s.listed g p u r e plain (sym (puts.others (hierarchy g) other) ∙ is) row
    ];
    told = λ g p c e plain no_root is. s.told g p c e plain no_root (sym (puts.others g (kind_apart g f 13 (omega arith) (λ k. let two' = (ids g p e plain).0 in omega arith))) ∙ is);
    owned = owned_put aside places (now_at T D) (now_at T D') (hierarchy f) (Some (Table t')) puts (some_belongs aside places (hierarchy f) (Table t') (s.owned (hierarchy f) (Table t) at)) s.owned;
  }

  -- a row is put
  finds_row : (D : Changed) (f id : ℕ) (t : Tbl) (props : List Val) → f % 32 ≡ 2 → Finds aside T places D → now_at T D (hierarchy f) ≡ Some (Table t) → Names T places f id → Finds aside T places (with_object (hierarchy f) (Some (with_rows (shown_row id props t.table) t)) D)
  finds_row D f id t props two s at names =
      let o = Some (with_rows (shown_row id props t.table) t) in
      let t' : Tbl = record { parent = t.parent; table = record t.table { rows = shown_row id props t.table } } in
      let row : ℕ × List Val = (id, mirror t.table.columns props) in
      finds_rows D (with_object (hierarchy f) o D) f t t' two s at (puts_object T D (hierarchy f) o) (λ r is. elim (cases_eq r id) [
        | inl same ↦ inr (subst (Names T places f) (sym same) names)
        | inr other ↦ inl (subst IsSome (find-put_other (λ x. x.0) r row t.table.rows other) is)
      ])

  pub finds_put : (D : Changed) (f id : ℕ) (props : List Val) → f % 32 ≡ 2 → Finds aside T places D → Names T places f id → IfOk (put_shown T (hierarchy f) id props D) (Finds aside T places)
  unfolding put_shown
  finds_put D f id props two s names = if_then (λ t. now_at T D (hierarchy f) ≡ Some (Table t)) (Finds aside T places) (table_at T D (hierarchy f)) _ (if_table T D (hierarchy f)) (λ t at. finds_row D f id t props two s at names)

  pub finds_add : (D : Changed) (f id : ℕ) (props : List Val) → f % 32 ≡ 2 → Finds aside T places D → Names T places f id → IfOk (add_shown T (hierarchy f) id props D) (Finds aside T places)
  unfolding add_shown
  finds_add D f id props two s names = if_then (λ t. now_at T D (hierarchy f) ≡ Some (Table t)) (Finds aside T places) (table_at T D (hierarchy f)) _ (if_table T D (hierarchy f)) (λ t at.
      elim (cases_Bool (overfills t.table.rows (shown_row id props t.table))) [
        | inl b ↦ rw b tt
        | inr b ↦ rw b (finds_row D f id t props two s at names)
      ])

  -- rows of messages change
  finds_message_table : (D : Changed) (f : ℕ) (t : Tbl) (rows : List (ℕ × List Val)) → Finds aside T places D → now_at T D (contents f) ≡ Some (Table t) → Finds aside T places (with_object (contents f) (Some (with_rows rows t)) D)
  finds_message_table D f t rows s at =
      let o = Some (with_rows rows t) in
      let kind = beside_kind f 14 (omega arith) in
      finds_elsewhere D (with_object (contents f) o D) (contents f) o s (puts_object T D (contents f) o) (λ e. omega arith) (λ e. omega arith)
      (some_belongs aside places (contents f) (with_rows rows t) (s.owned (contents f) (Table t) at))

  pub finds_put_message : (D : Changed) (f id : ℕ) (props : List Val) → Finds aside T places D → IfOk (put_shown T (contents f) id props D) (Finds aside T places)
  unfolding put_shown
  finds_put_message D f id props s = if_then (λ t. now_at T D (contents f) ≡ Some (Table t)) (Finds aside T places) (table_at T D (contents f)) _ (if_table T D (contents f)) (λ t at. finds_message_table D f t (shown_row id props t.table) s at)

  pub finds_add_message : (D : Changed) (f id : ℕ) (props : List Val) → Finds aside T places D → IfOk (add_shown T (contents f) id props D) (Finds aside T places)
  unfolding add_shown
  finds_add_message D f id props s = if_then (λ t. now_at T D (contents f) ≡ Some (Table t)) (Finds aside T places) (table_at T D (contents f)) _ (if_table T D (contents f)) (λ t at.
      elim (cases_Bool (overfills t.table.rows (shown_row id props t.table))) [
        | inl b ↦ rw b tt
        | inr b ↦ rw b (finds_message_table D f t (shown_row id props t.table) s at)
      ])

  pub finds_drop_message : (D : Changed) (f id : ℕ) → Finds aside T places D → IfOk (drop_shown T (contents f) id D) (Finds aside T places)
  unfolding drop_shown
  finds_drop_message D f id s = if_then (λ t. now_at T D (contents f) ≡ Some (Table t)) (Finds aside T places) (table_at T D (contents f)) _ (if_table T D (contents f)) (λ t at. finds_message_table D f t (drop_row id t.table.rows) s at)

  -- what stands there is put as it is
  pub finds_same : Stays T (Finds aside T places)
  finds_same D q o kind at s =
      let same = same_now T D q o at in record {
        listed = λ f p t r e plain is row. s.listed f p t r e plain (ap (λ g. g (hierarchy f)) (sym same) ∙ is) row;
        told = λ f p c e plain no_root is. s.told f p c e plain no_root (ap (λ g. g f) (sym same) ∙ is);
        owned = subst (StandRightly aside places) (sym same) s.owned;
      }

  -- the row of a folder shows it
  pub finds_mirrored : (D : Changed) (f : ℕ) (p : FolderPlace) → find_place f places ≡ Some p → is_plain p ≡ true → Finds aside T places D → IfOk (mirrored T f D) (Finds aside T places)
  unfolding mirrored
  finds_mirrored D f p e plain s = elim (cases_Bool (f == ROOT)) [
    | inl b ↦ rw b (table_stays T (Finds aside T places) finds_same (hierarchy ROOT) D (inl (beside_kind ROOT 13 (omega arith))) s)
    | inr b ↦ rw b (if_then (λ c. now_at T D f ≡ Some (Context c)) (Finds aside T places) (context_at T D f) _ (if_context T D f) (λ c at.
        let up = s.told f p c e plain (eqb-false f ROOT b) at in
        let two = ids f p e plain in
        finds_put D c.parent f c.props (ap (λ x. x % 32) up ∙ two.1) s (named_place T places f c.parent p e plain (sym up) two.0 (eqb-false f ROOT b))))
  ]

  -- a folder is counted anew, and its row shows it
  finds_settled : (D : Changed) (f : ℕ) (p : FolderPlace) → find_place f places ≡ Some p → is_plain p ≡ true → Finds aside T places D → IfOk (settled T places f D) (Finds aside T places)
  unfolding settled counted
  finds_settled D f p e plain s =
      if_then (Finds aside T places) (Finds aside T places) (counted T places f D) (mirrored T f)
      (if_then (λ c. now_at T D f ≡ Some (Context c)) (Finds aside T places) (context_at T D f) _ (if_context T D f) (λ c at.
      if_then (λ t. Unit {0}) (Finds aside T places) (table_at T D (contents f)) _ (if_any (table_at T D (contents f))) (λ t u.
      if_then (λ n. Unit {0}) (Finds aside T places) (unread_among T D (message_ids t.table)) _ (if_any (unread_among T D (message_ids t.table))) (λ n v.
      finds_values D f c (with_counts (length (message_ids t.table)) n (list_any (is_child f) places) c.props) (ids f p e plain).0 s at))))
      (λ D' s'. finds_mirrored D' f p e plain s')

  pub then_finds : (a : Answer Changed) (f : ℕ) (p : FolderPlace) → find_place f places ≡ Some p → is_plain p ≡ true → IfOk a (Finds aside T places) → IfOk (a >>= settled T places f) (Finds aside T places)
  then_finds a f p e plain h = if_then (Finds aside T places) (Finds aside T places) a (settled T places f) h (λ D s. finds_settled D f p e plain s)

-- the node of a search folder is there after changes if it was
taken_still : (T : Tree) (o : Outcome) (r : ℕ) → map.get o.changed.objects r ≡ None → is_taken (after T o) r ≡ is_taken T r
taken_still T o r apart =
    let object : object_at (after T o) r ≡ object_at T r = ap (λ g. g r) (sym (after_now T o)) ∙ ap (λ x. newest x (object_at T r)) apart in
    let no_change : map.find nat_cmp r (map.entries o.changed.objects) ≡ None = sym (map.get-entries o.changed.objects r) ∙ apart in
    let other : node_at (after T o).others r ≡ node_at T.others r = get-without_changed (map.entries o.changed.objects) T.others r ∙ ap (λ (x : Option (Option Object)). cond {A = Option NodeRec} (is_some x) None (node_at T.others r)) no_change in
    rw (object, other) refl

-- so a row names what it named
pub named_still : (T : Tree) (o : Outcome) (r : ℕ) → (r % 32 ≡ 3 → map.get o.changed.objects r ≡ None) → named_sort (after T o) r ≡ named_sort T r
named_still T o r apart = elim (cases_Bool (r % 32 == 2)) [
  | inl two ↦ rw two refl
  | inr other ↦ rw other (elim (cases_Bool (r % 32 == 3)) [
    | inr b ↦ rw b refl
    | inl b ↦ rw (b, taken_still T o r (apart (eqb-true (r % 32) 3 b))) refl
  ])
]

-- an opening finds the tree after a command that changes no search folder
pub found_after : (aside : ℕ → Type 0) (T : Tree) (o : Outcome) → ((k : ℕ) → k % 32 ≡ 3 → map.get o.changed.objects k ≡ None) → Finds aside T o.places o.changed → AreReached o.places → IsFoundBeside aside (after T o)
found_after aside T o apart s reached = record {
  listed = λ f p t r sort e plain is row named. s.listed f p t r e plain (ap (λ g. g (hierarchy f)) (after_now T o) ∙ is) row sort (sym (named_still T o r (apart r)) ∙ named);
  reached = reached;
  owned = λ q x e. s.owned q x (ap (λ g. g q) (after_now T o) ∙ e);
}
