-- What a table of a search with other rows leaves in order.
use Rattle.std.proofs.Common.{◌≡◌, ℕ, ◌%◌, ◌==◌, true, List, Option, Some, arith, refl, subst}
use Rattle.std.proofs.lemmas.Bool.{eq-eqb, or_right}
use Rattle.std.proofs.lemmas.Option.{same_Some}
use Rattle.mapi_values.specs.Keyed.{keys_ascend}
use Rattle.mail_objects.specs.Forms.{Tbl}
use Rattle.mail_objects.specs.declared.object.Object.{Object}
use Rattle.mail_objects.specs.declared.object.Object.TheVariants.{Table}
use Rattle.mail_tree.specs.declared.places.FolderPlace.{FolderPlace}
use Rattle.mail_tree.specs.Changing.{Changed, now_at, with_object}
use Rattle.mail_tree.specs.Places.{find_place}
use Rattle.mail_tree.specs.Tree.{Tree}
use Rattle.mail_tree.specs.Whole.{AreWhole, fits_id}
use Rattle.mail_tree.proofs.AfterTree.{puts_object}
use Rattle.mail_tree.proofs.KindsOfPuts.{beside_kind, low, same_table}
use Rattle.mail_tree.proofs.Nearly.{folder_kind, nearly, plain_id, puts_suiting, whole}
use Rattle.mail_laws.specs.Laws.{AreCountedBut}
use Rattle.mail_laws.proofs.CountSteps.{PlainIds, rows_keep}
use Rattle.mail_laws.proofs.MirrorPuts.{AreShownBut, FolderIds, shown_put}
use Rattle.search_lists.proofs.Quiet.{IsQuiet, quiet_stay, quiet_table, quiet_then}

-- rows show what they name
abbrev pub Shown : Tree → List FolderPlace → Changed → Type 0
Shown T places D = AreShownBut (λ x. ⊥) places (now_at T D)

-- counts are right
abbrev pub Counted : Tree → List FolderPlace → Changed → Type 0
Counted T places D = AreCountedBut (λ x. ⊥) places (now_at T D)

-- Further changes are quiet, and keep the tree in order.
pub record IsOrderly (T : Tree) (places : List FolderPlace) (D D' : Changed) : Type 0 where
  pub quiet : IsQuiet T D D'
  pub whole : AreWhole places (now_at T D')
  pub shown : Shown T places D → Shown T places D'
  pub counted : Counted T places D → Counted T places D'

-- no further changes keep it so
pub orderly_stay : (T : Tree) (places : List FolderPlace) (D : Changed) → AreWhole places (now_at T D) → IsOrderly T places D D
orderly_stay T places D w = record { quiet = quiet_stay T D; whole = w; shown = λ s. s; counted = λ s. s }

-- so do changes one after the other
pub orderly_then : (T : Tree) (places : List FolderPlace) (D D1 D2 : Changed) → IsOrderly T places D D1 → IsOrderly T places D1 D2 → IsOrderly T places D D2
orderly_then T places D D1 D2 a b = record { quiet = quiet_then T D D1 D2 a.quiet b.quiet; whole = b.whole; shown = λ s. b.shown (a.shown s); counted = λ s. b.counted (a.counted s) }

-- the ids of folders, and of plain ones
pub folder_ids : (places : List FolderPlace) (at : ℕ → Option Object) → AreWhole places at → FolderIds places
folder_ids places at w f p e = folder_kind p.sort f (w.kinds f p e)

pub plain_ids : (places : List FolderPlace) (at : ℕ → Option Object) → AreWhole places at → PlainIds places
plain_ids places at w f p e plain = plain_id (nearly (λ x. ⊥) places at w) f p e plain

table_fits : (q : ℕ) (u : Tbl) → q % 32 ≡ 16 → fits_id q (Table u) ≡ true
table_fits q u kind = or_right (q % 32 == 13) _ (or_right (q % 32 == 14) _ (or_right (q % 32 == 15) (q % 32 == 16) (eq-eqb (q % 32) 16 kind)))

module _ (T : Tree) (places : List FolderPlace) (D : Changed) (q : ℕ) (t u : Tbl) (kind : q % 32 ≡ 16) (w : AreWhole places (now_at T D)) where
  -- no folder stands at the id of a search's table
  no_place : (p : FolderPlace) → find_place q places ≡ Some p → ⊥
  no_place p e = let (above, below) = low q (folder_kind p.sort q (w.kinds q p e)) in omega arith

  list_whole : keys_ascend (λ r. r.0) 0 u.table.rows ≡ true → AreWhole places (now_at T (with_object q (Some (Table u)) D))
  list_whole ascend = whole places _ (puts_suiting (λ x. ⊥) places (now_at T D) _ q (Some (Table u)) (nearly (λ x. ⊥) places (now_at T D) w) (puts_object T D q (Some (Table u))) (record {
    typed = λ x e. subst (λ z. fits_id q z ≡ true) (same_Some (Table u) x e) (table_fits q u kind);
    rows_ascend = λ v e. subst (λ (x : Tbl). keys_ascend (λ r. r.0) 0 x.table.rows ≡ true) (same_table u v e) ascend;
    store = λ e. refl;
    names = λ e. absurd (omega arith);
    context = λ p e. absurd (no_place p e);
    folders = λ f p e plain same. absurd (omega (arith, beside_kind f 13 (omega arith)));
    messages = λ f p e plain same. absurd (omega (arith, beside_kind f 14 (omega arith)));
    message = λ free four. omega arith;
  }))

  -- a search's table gets other rows
  pub list_orderly : now_at T D q ≡ Some (Table t) → keys_ascend (λ r. r.0) 0 u.table.rows ≡ true → IsOrderly T places D (with_object q (Some (Table u)) D)
  list_orderly stood ascend = record {
    quiet = quiet_table T D q t u stood (λ e. omega arith) (λ thirteen r row. absurd (omega arith));
    whole = list_whole ascend;
    shown = λ s. shown_put (λ x. ⊥) (λ x. ⊥) places (now_at T D) _ q (Some (Table u)) s (λ x e. e) (puts_object T D q (Some (Table u))) (λ e. omega arith) (λ e. omega arith) no_place (λ M e. cc);
    counted = λ s. rows_keep T places (plain_ids places (now_at T D) w) (λ x. ⊥) D q u (omega arith) (λ f p e plain free same. omega (arith, beside_kind f 14 (omega arith))) s;
  }
