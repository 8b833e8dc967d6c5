-- A message that is put and listed, or goes and is listed no more, leaves a tree whole.
use Rattle.std.proofs.Common.{◌≡◌, ℕ, ◌%◌, ◌==◌, true, List, Option, None, Some, IsSome, is_some, arith, refl, sym, subst, ap, ◌∙◌, ◌⊎◌, inl, inr}
use Rattle.std.proofs.lemmas.Bool.{and_from, cases_eq, eq-eqb, false≢true}
use Rattle.std.proofs.lemmas.Option.{same_Some, none-some}
use Rattle.mapi_values.specs.Messages.{Mes}
use Rattle.mapi_values.specs.Tables.{find_row, mirror, drop_row}
use Rattle.mapi_values.specs.Values.{Val}
use Rattle.mapi_values.proofs.KeyedLaws.{put-ascends, drop-ascends}
use Rattle.mail_objects.specs.Forms.{Tbl}
use Rattle.mail_objects.specs.declared.object.Object.{Object}
use Rattle.mail_objects.specs.declared.object.Object.TheVariants.{Table, Message}
use Rattle.mail_tree.specs.declared.places.FolderPlace.{FolderPlace}
use Rattle.mail_tree.specs.Places.{find_place, is_plain}
use Rattle.mail_tree.specs.Changing.{contents, shown_row, with_rows}
use Rattle.mail_tree.specs.Whole.{AreWhole, HasRow, fits_id}
use Rattle.mail_tree.proofs.KeyedFinds.{find-put_other, find-put_same, find-drop_other, find-drop_same}
use Rattle.mail_tree.proofs.Nearly.{AreNearly, Puts, nearly, plain_id}
use Rattle.mail_tree.proofs.KindsOfPuts.{beside_kind, puts_message, puts_messages, same_folder, same_table}
use Rattle.mail_laws.proofs.Closing.{whole_message}

same_message : (M N : Mes) → ◌≡◌ {A = Option Object} (Some (Message M)) (Some (Message N)) → M ≡ N
same_message M N e = cc

pub message_fits : (m : ℕ) (M : Mes) → m % 32 ≡ 4 → M.nid ≡ m → fits_id m (Message M) ≡ true
message_fits m M four nid = and_from (m % 32 == 4) (M.nid == m) (eq-eqb (m % 32) 4 four) (eq-eqb M.nid m nid)

-- a table of messages stands at no message's id
pub apart : (m f : ℕ) → m % 32 ≡ 4 → m ≡ contents f → ⊥
apart m f four e = let k = beside_kind f 14 (omega arith) in omega arith

module _ (places : List FolderPlace) (m : ℕ) (four : m % 32 ≡ 4) where
  -- a message, or nothing, is put at its id
  pub puts_at : (at at' : ℕ → Option Object) (M : Mes) → AreWhole places at → M.nid ≡ m → Puts at at' m (Some (Message M)) → AreNearly (λ x. x ≡ m) places at'
  puts_at at at' M w nid puts = puts_message (λ x. x ≡ m) places at at' (nearly (λ x. x ≡ m) places at w) m (Some (Message M)) four refl
      (λ x e. subst (λ z. fits_id m z ≡ true) (same_Some (Message M) x e) (message_fits m M four nid)) (λ t e. cc) puts

  pub removes_at : (at at' : ℕ → Option Object) → AreWhole places at → Puts at at' m None → AreNearly (λ x. x ≡ m) places at'
  removes_at at at' w puts = puts_message (λ x. x ≡ m) places at at' (nearly (λ x. x ≡ m) places at w) m None four refl (λ x e. absurd (none-some x e)) (λ t e. none-some (Table t) e) puts

  module _ (at at' : ℕ → Option Object) (n : AreNearly (λ x. x ≡ m) places at) (F : ℕ) (p : FolderPlace) (found : find_place F places ≡ Some p) (plain : is_plain p ≡ true) (t : Tbl) (is : at (contents F) ≡ Some (Table t)) where
    -- what a plain folder's table has
    split : (o : Option Object) → Puts at at' (contents F) o → (f : ℕ) (q : FolderPlace) (u : Tbl) → find_place f places ≡ Some q → is_plain q ≡ true → at' (contents f) ≡ Some (Table u)
        → ((f ≡ F) × (o ≡ Some (Table u))) ⊎ ((f ≡ F → ⊥) × (at (contents f) ≡ Some (Table u)))
    split o puts f q u e plain_q at_u = elim (cases_eq (contents f) (contents F)) [
      | inl same ↦ inl (same_folder f F 14 (plain_id n f q e plain_q) (plain_id n F p found plain) same, sym puts.here ∙ ap at' (sym same) ∙ at_u)
      | inr other ↦ inr ((λ e. other (ap contents e)), sym (puts.others (contents f) other) ∙ at_u)
    ]

    -- the folder lists the message that stands there, which no other folder does
    pub lists_message : (M : Mes) (props : List Val) → at m ≡ Some (Message M) → M.folder ≡ F
        → ((f : ℕ) (q : FolderPlace) (u : Tbl) → find_place f places ≡ Some q → is_plain q ≡ true → at (contents f) ≡ Some (Table u) → IsSome (find_row m u.table.rows) → f ≡ F)
        → Puts at at' (contents F) (Some (with_rows (shown_row m props t.table) t)) → AreWhole places at'
    lists_message M props at_m folder only puts =
        let row : ℕ × List Val = (m, mirror t.table.columns props) in
        let t' : Tbl = record { parent = t.parent; table = record t.table { rows = shown_row m props t.table } } in
        let stays : at' m ≡ Some (Message M) = puts.others m (apart m F four) ∙ at_m in
        whole_message places at' m
        (puts_messages (λ x. x ≡ m) places at at' n F p t t' found plain (put-ascends (λ r. r.0) 0 row t.table.rows (omega arith) (n.rows_ascend (contents F) t is)) is
        (λ k other. ap is_some (find-put_other (λ r. r.0) k row t.table.rows other)) puts)
        four
        (λ f q u e plain_q at_u row_m. elim (split (Some (Table t')) puts f q u e plain_q at_u) [
          | inl same ↦ (M, stays, folder ∙ sym same.0)
          | inr was ↦ (M, stays, folder ∙ sym (only f q u e plain_q was.1 row_m))
        ])
        (λ N at_N.
        let same : M ≡ N = same_message M N (sym stays ∙ at_N) in
        let home : F ≡ N.folder = sym folder ∙ ap (λ x. x.folder) same in
        (p, subst (λ x. find_place x places ≡ Some p) home found, plain, subst (λ x. HasRow (at' (contents x)) m) home (t', puts.here, ap is_some (find-put_same (λ r. r.0) row t.table.rows))))

    -- the folder lists a message no more, and no other folder does
    pub drops_message : ((f : ℕ) (q : FolderPlace) (u : Tbl) → find_place f places ≡ Some q → is_plain q ≡ true → at (contents f) ≡ Some (Table u) → IsSome (find_row m u.table.rows) → f ≡ F)
        → Puts at at' (contents F) (Some (with_rows (drop_row m t.table.rows) t))
        → AreNearly (λ x. x ≡ m) places at' × ((f : ℕ) (q : FolderPlace) (u : Tbl) → find_place f places ≡ Some q → is_plain q ≡ true → at' (contents f) ≡ Some (Table u) → IsSome (find_row m u.table.rows) → ⊥)
    drops_message only puts =
        let t' : Tbl = record { parent = t.parent; table = record t.table { rows = drop_row m t.table.rows } } in
        let ascend = n.rows_ascend (contents F) t is in
        let gone : (u : Tbl) → ◌≡◌ {A = Option Object} (Some (Table t')) (Some (Table u)) → IsSome (find_row m u.table.rows) → ⊥ =
        λ u same row. false≢true (sym (ap is_some (find-drop_same (λ r. r.0) 0 m t.table.rows ascend)) ∙ subst (λ x. IsSome (find_row m x.table.rows)) (sym (same_table t' u same)) row) in (
          puts_messages (λ x. x ≡ m) places at at' n F p t t' found plain (drop-ascends (λ r. r.0) 0 m t.table.rows ascend) is
              (λ k other. ap is_some (find-drop_other (λ r. r.0) k m t.table.rows other)) puts,
          λ f q u e plain_q at_u row. elim (split (Some (Table t')) puts f q u e plain_q at_u) [
            | inl same ↦ gone u same.1 row
            | inr was ↦ was.0 (only f q u e plain_q was.1 row)
          ],
        )
