-- A folder that is counted anew, and shown by its row, leaves a tree whole.
use Rattle.std.proofs.Common.{◌≡◌, ℕ, ◌%◌, ◌==◌, true, List, [], ◌∷◌, filter, map, length, Option, None, Some, IsSome, arith, refl, sym, subst, ◌∙◌, inl, inr}
use Rattle.std.specs.List.{list_any}
use Rattle.std.proofs.lemmas.Bool.{cases_Bool, eqb-true, eqb-false, eq-eqb, false≢true}
use Rattle.mapi_values.specs.Messages.{Mes}
use Rattle.mapi_values.specs.Tables.{find_row, mirror}
use Rattle.mapi_values.specs.Values.{Val}
use Rattle.mapi_values.proofs.KeyedLaws.{put-ascends}
use Rattle.mail_objects.specs.Forms.{Ctx, Tbl}
use Rattle.mail_objects.specs.declared.object.Object.{Object}
use Rattle.mail_objects.specs.declared.object.Object.TheVariants.{Context, Table, Message, Bare}
use Rattle.mail_tree.specs.declared.places.FolderPlace.{FolderPlace}
use Rattle.mail_tree.specs.Places.{ROOT, find_place, is_child, is_plain}
use Rattle.mail_tree.specs.Tree.{Tree}
use Rattle.mail_tree.specs.Values.{with_counts}
use Rattle.mail_tree.specs.Changing.{Changed, ◌>>=◌, contents, hierarchy, now_at, put_shown, shown_row, with_rows}
use Rattle.mail_tree.specs.Settling.{counted, is_message_row, message_ids, above_as_is, context_as_is, mirrored, settled, table_as_is, touched, unread_among, with_context}
use Rattle.mail_tree.specs.Whole.{AreWhole, Fine, fits_id}
use Rattle.mail_tree.proofs.KeyedFinds.{kept-put}
use Rattle.mail_tree.proofs.FineLaws.{fine_then, fine_weaker}
use Rattle.mail_tree.proofs.AfterTree.{puts_object, same_now}
use Rattle.mail_tree.proofs.Nearly.{nearly, table_of, whole}
use Rattle.mail_tree.proofs.KindsOfPuts.{beside_kind, puts_context, puts_folders, same_table}

-- a message stands at each of these ids
abbrev pub EachMessage : (ℕ → Option Object) → List ℕ → Type 0
EachMessage at [] = Unit {0}
EachMessage at (m ∷ ms) = ((M : Mes) × (at m ≡ Some (Message M))) × EachMessage at ms

-- where each row of a message names one, one stands at the id of each
pub each_message : (at : ℕ → Option Object) (rows : List (ℕ × List Val)) → ((m : ℕ) → IsSome (find_row m rows) → m % 32 ≡ 4 → (M : Mes) × (at m ≡ Some (Message M)))
    → EachMessage at (map (λ r. r.0) (filter is_message_row rows))
each_message at [] named = tt
each_message at (r ∷ rs) named =
    let rest = each_message at rs (λ m row four. named m (later m row) four) in
    elim (cases_Bool (r.0 % 32 == 4)) [
      | inl t ↦ rw t (named r.0 (rw (eq-eqb r.0 r.0 refl) refl) (eqb-true (r.0 % 32) 4 t), rest)
      | inr t ↦ rw t rest
    ]
  where
    later : (m : ℕ) → IsSome (find_row m rs) → IsSome (find_row m (r ∷ rs))
    later m row = elim (cases_Bool (r.0 == m)) [ inl t ↦ rw t refl | inr t ↦ rw t row ]

-- the table of a plain folder's messages, and what stands at their ids
pub messages_of : {places : List FolderPlace} {at : ℕ → Option Object} → AreWhole places at → (f : ℕ) (p : FolderPlace) → find_place f places ≡ Some p → is_plain p ≡ true
    → (t : Tbl) × (at (contents f) ≡ Some (Table t)) × EachMessage at (message_ids t.table)
messages_of {places} {at} w f p e plain =
    let t = table_of (contents f) (at (contents f)) (w.typed (contents f)) (inr (inl (beside_kind f 14 (omega arith)))) (w.tables f p e plain).1 in
    (t.0, t.1, each_message at t.0.table.rows (λ m row four. let M = w.listed f p t.0 m e plain t.1 row four in (M.0, M.1)))

-- the table of a plain folder's folders
pub folders_of : {places : List FolderPlace} {at : ℕ → Option Object} → AreWhole places at → (f : ℕ) (p : FolderPlace) → find_place f places ≡ Some p → is_plain p ≡ true → (t : Tbl) × (at (hierarchy f) ≡ Some (Table t))
folders_of {places} {at} w f p e plain = table_of (hierarchy f) (at (hierarchy f)) (w.typed (hierarchy f)) (inl (beside_kind f 13 (omega arith))) (w.tables f p e plain).0

-- the store's values
pub store_of : {places : List FolderPlace} {at : ℕ → Option Object} → AreWhole places at → (c : Ctx) × (at 0x21 ≡ Some (Context c))
store_of {places} {at} w = values (at 0x21) (w.typed 0x21) w.store
  where
    values : (o : Option Object) → ((x : Object) → o ≡ Some x → fits_id 0x21 x ≡ true) → IsSome o → (c : Ctx) × (o ≡ Some (Context c))
    values None typed is = absurd (false≢true is)
    values (Some (Context c)) typed is = (c, refl)
    values (Some (Table t)) typed is = absurd (false≢true (typed (Table t) refl))
    values (Some (Bare parent)) typed is = absurd (false≢true (typed (Bare parent) refl))
    values (Some (Message m)) typed is = absurd (false≢true (typed (Message m) refl))

pub fine_unread : (T : Tree) (D : Changed) (ms : List ℕ) → EachMessage (now_at T D) ms → Fine (unread_among T D ms) (λ n. Unit {0})
fine_unread T D [] each = tt
fine_unread T D (m ∷ ms) each = rw each.0.1 (fine_then (λ n. Unit {0}) (λ n. Unit {0}) (unread_among T D ms) _ (fine_unread T D ms each.1) (λ n u. tt))

-- where a table is put as it is, all stands as it stood
pub fine_same : (T : Tree) (D : Changed) (q : ℕ) (t : Tbl) → now_at T D q ≡ Some (Table t) → Fine (table_as_is T q D) (λ D'. now_at T D' ≡ now_at T D)
unfolding table_as_is
fine_same T D q t at = rw at (same_now T D q (Table t) at)

module _ (T : Tree) (places : List FolderPlace) (f : ℕ) (p : FolderPlace) (D : Changed) (w : AreWhole places (now_at T D)) (e : find_place f places ≡ Some p) where
  -- a folder gets other values
  pub other_values : (c : Ctx) (props : List Val) → now_at T D f ≡ Some (Context c) → AreWhole places (now_at T (with_context f c props D))
  other_values c props at =
      let v = w.contexts f p e in
      let same : v.0 ≡ c = cc in
      whole places _ (puts_context (λ x. ⊥) places (now_at T D) _ (nearly (λ x. ⊥) places (now_at T D) w) f p (record c { props = props }) e (λ no_root free. subst (λ x. x.parent ≡ p.parent.bits) same (v.2 no_root))
      (puts_object T D f (Some (Context (record c { props = props })))))

  fine_counted : is_plain p ≡ true → Fine (counted T places f D) (λ D'. AreWhole places (now_at T D'))
  unfolding counted
  fine_counted plain =
      let c = w.contexts f p e in let t = messages_of w f p e plain in
      rw (c.1, t.1) (fine_then (λ n. Unit {0}) (λ D'. AreWhole places (now_at T D')) (unread_among T D (message_ids t.0.table)) _ (fine_unread T D (message_ids t.0.table) t.2)
      (λ n u. other_values c.0 (with_counts (length (message_ids t.0.table)) n (list_any (is_child f) places) c.0.props) c.1))

  pub fine_mirrored : Fine (mirrored T f D) (λ D'. AreWhole places (now_at T D'))
  unfolding mirrored put_shown
  fine_mirrored = elim (cases_Bool (f == ROOT)) [
    | inl t ↦ let root = folders_of w ROOT w.root.0 w.root.1 w.root.2 in rw t (fine_weaker (λ D'. now_at T D' ≡ now_at T D) (λ D'. AreWhole places (now_at T D')) (table_as_is T (hierarchy ROOT) D) (fine_same T D (hierarchy ROOT) root.0 root.1) (λ D' same. subst (AreWhole places) (sym same) w))
    | inr t ↦
        let c = w.contexts f p e in let q = w.parents f p e (eqb-false f ROOT t) in let t' = folders_of w p.parent.bits q.0 q.1 q.2 in
        let ascend = w.rows_ascend (hierarchy p.parent.bits) t'.0 t'.1 in
        let row = shown_row f c.0.props t'.0.table in
        rw (t, c.1, c.2 (eqb-false f ROOT t), t'.1) (whole places _ (puts_folders (λ x. ⊥) places (now_at T D) _ (nearly (λ x. ⊥) places (now_at T D) w) p.parent.bits q.0
        (record { parent = t'.0.parent; table = record t'.0.table { rows = row } }) q.1 q.2 (put-ascends (λ r. r.0) 0 (f, mirror t'.0.table.columns c.0.props) t'.0.table.rows (omega arith) ascend)
        (λ g r eg free parent has. kept-put (λ r. r.0) g (f, mirror t'.0.table.columns c.0.props) t'.0.table.rows (subst (λ x. IsSome (find_row g x.table.rows)) (same_table has.0 t'.0 (sym has.1 ∙ t'.1)) has.2))
        (puts_object T D (hierarchy p.parent.bits) (Some (with_rows row t'.0)))))
  ]

  fine_above : Fine (above_as_is T f D) (λ D'. now_at T D' ≡ now_at T D)
  unfolding above_as_is
  fine_above = elim (cases_Bool (f == ROOT)) [
    | inl t ↦ let root = folders_of w ROOT w.root.0 w.root.1 w.root.2 in rw t (fine_same T D (hierarchy ROOT) root.0 root.1)
    | inr t ↦
        let c = w.contexts f p e in let q = w.parents f p e (eqb-false f ROOT t) in let u = folders_of w p.parent.bits q.0 q.1 q.2 in
        rw (t, c.1, c.2 (eqb-false f ROOT t)) (fine_same T D (hierarchy p.parent.bits) u.0 u.1)
  ]

  fine_values : Fine (context_as_is T f D) (λ D'. now_at T D' ≡ now_at T D)
  unfolding context_as_is
  fine_values = let c = w.contexts f p e in rw c.1 (same_now T D f (Context c.0) c.1)

-- where a plain folder is put as it is, all stands as it stood
pub fine_touched : (T : Tree) (places : List FolderPlace) (f : ℕ) (p : FolderPlace) (D : Changed) → AreWhole places (now_at T D) → find_place f places ≡ Some p → is_plain p ≡ true
    → Fine (touched T f D) (λ D'. now_at T D' ≡ now_at T D)
unfolding touched
fine_touched T places f p D w e plain =
    let Same : Changed → Type 0 = λ D'. now_at T D' ≡ now_at T D in
    fine_then Same Same (context_as_is T f D >>= table_as_is T (contents f)) (above_as_is T f)
    (fine_then Same Same (context_as_is T f D) (table_as_is T (contents f)) (fine_values T places f p D w e) (λ D' k.
    let w' = subst (AreWhole places) (sym k) w in
    let t = messages_of w' f p e plain in
    fine_weaker (λ E. now_at T E ≡ now_at T D') Same (table_as_is T (contents f) D') (fine_same T D' (contents f) t.0 t.1) (λ E k'. k' ∙ k)))
    (λ D' k. fine_weaker (λ E. now_at T E ≡ now_at T D') Same (above_as_is T f D') (fine_above T places f p D' (subst (AreWhole places) (sym k) w) e) (λ E k'. k' ∙ k))

-- a plain folder that is settled leaves the tree whole
pub fine_settled : (T : Tree) (places : List FolderPlace) (f : ℕ) (p : FolderPlace) (D : Changed) → AreWhole places (now_at T D) → find_place f places ≡ Some p → is_plain p ≡ true
    → Fine (settled T places f D) (λ D'. AreWhole places (now_at T D'))
unfolding settled
fine_settled T places f p D w e plain =
    fine_then (λ D'. AreWhole places (now_at T D')) (λ D'. AreWhole places (now_at T D')) (counted T places f D) (mirrored T f) (fine_counted T places f p D w e plain) (λ D' w'. fine_mirrored T places f p D' w' e)
