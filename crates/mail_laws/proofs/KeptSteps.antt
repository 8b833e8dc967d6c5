-- Steps that leave what a command doesn't speak of as it was.
use Rattle.std.proofs.Common.{◌≡◌, ℕ, ◌<◌, ◌==◌, Bool, true, length, List, Some, IfOk, arith, refl, sym, ap, ◌∙◌, inl, inr, ◌%◌, ◌||◌}
use Rattle.std.specs.List.{list_any}
use Rattle.std.proofs.lemmas.Bool.{cases_Bool, eqb-false, or_parts}
use Rattle.std.proofs.lemmas.Option.{none-some}
use Rattle.mapi_values.specs.Properties.{put}
use Rattle.mapi_values.specs.Tables.{drop_row, mirror}
use Rattle.mapi_values.specs.Values.{Val}
use Rattle.mail_objects.specs.Forms.{Ctx}
use Rattle.mail_objects.specs.declared.object.Object.{Object}
use Rattle.mail_objects.specs.declared.object.Object.TheVariants.{Context, Table}
use Rattle.mail_tree.specs.declared.places.FolderPlace.{FolderPlace}
use Rattle.mail_tree.specs.Places.{ROOT, is_child}
use Rattle.mail_tree.specs.Tree.{Tree, object_at}
use Rattle.mail_tree.specs.Values.{number, truth, with_counts}
use Rattle.mail_tree.specs.Changing.{Answer, Changed, ◌>>=◌, add_shown, beside, contents, context_at, drop_shown, hierarchy, now_at, overfills, put_shown, shown_row, table_at, with_rows}
use Rattle.mail_tree.specs.Settling.{counted, message_ids, mirrored, settled, unread_among, with_context}
use Rattle.mail_laws.specs.Stays.{StaysFolder}
use Rattle.mail_tree.proofs.KeyedFinds.{find-drop_other, find-put_other}
use Rattle.mail_laws.proofs.Keeping.{if_any, if_then}
use Rattle.mail_laws.proofs.KeptObjects.{Changes, KeepsObjects, Scope, Untouched, fits_context, fits_rows, fits_same, is_usual, keeps_more}
use Rattle.mail_tree.proofs.KindsOfPuts.{beside_kind}
use Rattle.mail_laws.proofs.Touches.{Stays, if_context, if_table, table_stays}

-- a folder that is counted anew has its other values still
counts_stay : (named : Bool) (c : Ctx) (messages unread : ℕ) (has_folders : Bool) → StaysFolder named c (record c { props = with_counts messages unread has_folders c.props })
counts_stay named c messages unread has_folders = record {
  kept = refl;
  values = λ id no_count no_name.
      let a = or_parts (id == 0x3602) ((id == 0x3603) || (id == 0x360A)) no_count in
      let b = or_parts (id == 0x3603) (id == 0x360A) a.1 in
      let first = put (number 0x3602 messages) c.props in
      let second = put (number 0x3603 unread) first in
      find-put_other (λ v. v.id) id (truth 0x360A has_folders) second (eqb-false id 0x360A b.1)
      ∙ find-put_other (λ v. v.id) id (number 0x3603 unread) first (eqb-false id 0x3603 b.0)
      ∙ find-put_other (λ v. v.id) id (number 0x3602 messages) c.props (eqb-false id 0x3602 a.0);
}

-- the table of a folder stands at an id of its kind
pub table_usual : (f kind : ℕ) → kind < 32 → is_usual kind ≡ true → is_usual (beside f kind % 32) ≡ true
table_usual f kind small usual = ap is_usual (beside_kind f kind small) ∙ usual

-- an object stood there
pub stood : (T : Tree) (m : Changes) (q : ℕ) (x : Object) → object_at T q ≡ Some x → Untouched T m q → ⊥
stood T m q x is u = none-some x (sym u.0 ∙ is)

module _ (T : Tree) (scope : Scope) where
  abbrev pub Good : Changed → Type 0
  Good D = KeepsObjects T scope D.objects

  pub put_good : (q id : ℕ) (props : List Val) (D : Changed) → is_usual (q % 32) ≡ true → (Untouched T D.objects id → ⊥) → Good D → IfOk (put_shown T q id props D) Good
  unfolding put_shown
  put_good q id props D usual touched k = if_then (λ t. now_at T D q ≡ Some (Table t)) Good (table_at T D q) _ (if_table T D q) (λ t is.
      keeps_more T scope D.objects q (Some (with_rows (shown_row id props t.table) t)) k
      (fits_rows T scope D.objects q id t (shown_row id props t.table) k is usual touched (λ r apart. find-put_other (λ r. r.0) r (id, mirror t.table.columns props) t.table.rows apart)))

  pub add_good : (q id : ℕ) (props : List Val) (D : Changed) → is_usual (q % 32) ≡ true → (Untouched T D.objects id → ⊥) → Good D → IfOk (add_shown T q id props D) Good
  unfolding add_shown
  add_good q id props D usual touched k = if_then (λ t. now_at T D q ≡ Some (Table t)) Good (table_at T D q) _ (if_table T D q) (λ t is.
      elim (cases_Bool (overfills t.table.rows (shown_row id props t.table))) [
        | inl b ↦ rw b tt
        | inr b ↦ rw b (keeps_more T scope D.objects q (Some (with_rows (shown_row id props t.table) t)) k
            (fits_rows T scope D.objects q id t (shown_row id props t.table) k is usual touched (λ r apart. find-put_other (λ r. r.0) r (id, mirror t.table.columns props) t.table.rows apart)))
      ])

  pub drop_good : (q id : ℕ) (D : Changed) → is_usual (q % 32) ≡ true → (Untouched T D.objects id → ⊥) → Good D → IfOk (drop_shown T q id D) Good
  unfolding drop_shown
  drop_good q id D usual touched k = if_then (λ t. now_at T D q ≡ Some (Table t)) Good (table_at T D q) _ (if_table T D q) (λ t is.
      keeps_more T scope D.objects q (Some (with_rows (drop_row id t.table.rows) t)) k
      (fits_rows T scope D.objects q id t (drop_row id t.table.rows) k is usual touched (λ r apart. find-drop_other (λ r. r.0) r id t.table.rows apart)))

  -- a folder gets other values
  pub context_good : (f : ℕ) (c : Ctx) (props : List Val) (D : Changed) → is_usual (f % 32) ≡ true → now_at T D f ≡ Some (Context c) → StaysFolder (scope.names f) c (record c { props = props }) → Good D → Good (with_context f c props D)
  context_good f c props D usual is stays k = keeps_more T scope D.objects f (Some (Context (record c { props = props }))) k (fits_context T scope D.objects f c (record c { props = props }) k is usual stays)

  counted_good : (places : List FolderPlace) (f : ℕ) (D : Changed) → is_usual (f % 32) ≡ true → Good D → IfOk (counted T places f D) Good
  unfolding counted
  counted_good places f D usual k =
      if_then (λ c. now_at T D f ≡ Some (Context c)) Good (context_at T D f) _ (if_context T D f) (λ c is.
      if_then (λ t. Unit {0}) Good (table_at T D (contents f)) _ (if_any (table_at T D (contents f))) (λ t u.
      if_then (λ n. Unit {0}) Good (unread_among T D (message_ids t.table)) _ (if_any (unread_among T D (message_ids t.table))) (λ n u.
      context_good f c _ D usual is (counts_stay (scope.names f) c (length (message_ids t.table)) n (list_any (is_child f) places)) k)))

  -- what stands there is put as it is
  pub good_same : Stays T Good
  good_same D q o kind at k = keeps_more T scope D.objects q (Some o) k (fits_same T scope D.objects q o k (elim kind [ inl two ↦ rw two refl | inr table ↦ elim table [ inl a ↦ rw a refl | inr b ↦ rw b refl ] ]) at)

  pub mirrored_good : (f : ℕ) (D : Changed) → (Untouched T D.objects f → ⊥) → Good D → IfOk (mirrored T f D) Good
  unfolding mirrored
  mirrored_good f D touched k = elim (cases_Bool (f == ROOT)) [
    | inl b ↦ rw b (table_stays T Good good_same (hierarchy ROOT) D (inl (beside_kind ROOT 13 (omega arith))) k)
    | inr b ↦ rw b (if_then (λ c. Unit {0}) Good (context_at T D f) _ (if_any (context_at T D f)) (λ c u. put_good (hierarchy c.parent) f c.props D (table_usual c.parent 13 (omega arith) refl) touched k))
  ]

  -- a folder that stood there is settled
  pub then_good : (places : List FolderPlace) (a : Answer Changed) (f : ℕ) (x : Object) → is_usual (f % 32) ≡ true → object_at T f ≡ Some x → IfOk a Good → IfOk (a >>= settled T places f) Good
  unfolding settled
  then_good places a f x usual is h = if_then Good Good a (settled T places f) h (λ D k.
      if_then Good Good (counted T places f D) (mirrored T f) (counted_good places f D usual k) (λ D' k'. mirrored_good f D' (stood T D'.objects f x is) k'))
