-- A search folder's row goes, and an opening finds the tree without it.
use Rattle.std.proofs.Common.{◌≡◌, ◌∙◌, ℕ, ◌%◌, true, List, Some, IsSome, is_some, IfOk, ap, arith, refl, subst, sym, inl, inr}
use Rattle.std.proofs.lemmas.Bool.{cases_eq, false≢true}
use Rattle.std.proofs.lemmas.Option.{same_Some}
use Rattle.mapi_values.specs.Tables.{drop_row, find_row}
use Rattle.mail_objects.specs.Forms.{Ctx, Tbl}
use Rattle.mail_objects.specs.declared.object.Object.TheVariants.{Table}
use Rattle.mail_tree.specs.declared.places.FolderPlace.{FolderPlace}
use Rattle.mail_tree.specs.Changing.{Changed, drop_shown, hierarchy, nothing, now_at, table_at, with_object, with_rows}
use Rattle.mail_tree.specs.Folders.{nid}
use Rattle.mail_tree.specs.Found.{IsFoundBeside}
use Rattle.mail_tree.specs.Places.{ROOT, find_place, is_plain}
use Rattle.mail_tree.specs.Tree.{Tree, object_at}
use Rattle.mail_tree.proofs.AfterTree.{puts_object}
use Rattle.mail_tree.proofs.KeyedFinds.{find-drop_other, find-drop_same}
use Rattle.mail_tree.proofs.KindsOfPuts.{same_table}
use Rattle.mail_tree.proofs.Nearly.{nearly}
use Rattle.mail_laws.proofs.FoundSteps.{Finds, PlainIds, StandRightly, kind_apart, owned_put, some_belongs}
use Rattle.mail_laws.proofs.Keeping.{if_then}
use Rattle.mail_laws.proofs.MessageSteps.{Before}
use Rattle.mail_laws.proofs.Touches.{if_table}
use Rattle.search_laws.proofs.OwnSteps.{now_before}
use Rattle.search_laws.proofs.PlainPlaces.{plain_other, plain_ids, same_context}

-- places that differ at a search folder alone, which isn't plain, and changes that left plain folders and their tables
module _ (aside beside : ℕ → Type 0) (T : Tree) (s : ℕ) (p : FolderPlace) (w : Before T) (three : s % 32 ≡ 3) (found : find_place s T.places ≡ Some p) (h : IsFoundBeside beside T) (places : List FolderPlace) (D : Changed)
    (others : (g : ℕ) → (g ≡ s → ⊥) → find_place g places ≡ find_place g T.places) (foreign : (g : ℕ) (q : FolderPlace) → find_place g places ≡ Some q → is_plain q ≡ true → g ≡ s → ⊥)
    (tables : (g : ℕ) → now_at T D (hierarchy g) ≡ object_at T (hierarchy g)) (values : (g : ℕ) → g % 32 ≡ 2 → now_at T D g ≡ object_at T g) (owned : StandRightly aside places (now_at T D)) where
  was : (g : ℕ) (q : FolderPlace) → find_place g places ≡ Some q → is_plain q ≡ true → find_place g T.places ≡ Some q
  was g q e plain = sym (others g (foreign g q e plain)) ∙ e

  pub ids_then : PlainIds places
  ids_then g q e plain = plain_ids T.places (now_at T nothing) w g q (was g q e plain) plain

  abbrev from : ℕ
  from = p.parent.bits

  module _ (no_root : s ≡ ROOT → ⊥) where
    -- the folder in which it stood is there
    pub from_then : (q : FolderPlace) × (find_place from places ≡ Some q) × (is_plain q ≡ true)
    from_then = let v = w.parents s p found no_root in (v.0, others from (plain_other (nearly (λ x. ⊥) T.places (now_at T nothing) w) s three from v.0 v.1 v.2) ∙ v.1, v.2)

    pub drops : IfOk (drop_shown T (hierarchy from) s D) (Finds aside T places)
    unfolding drop_shown
    drops = if_then (λ t. now_at T D (hierarchy from) ≡ Some (Table t)) (Finds aside T places) (table_at T D (hierarchy from)) _ (if_table T D (hierarchy from)) (λ t is_t.
        let t' : Tbl = record { parent = t.parent; table = record t.table { rows = drop_row s t.table.rows } } in
        let o = Some (with_rows (drop_row s t.table.rows) t) in
        let D' = with_object (hierarchy from) o D in
        let puts = puts_object T D (hierarchy from) o in
        record {
          listed = λ g q u r e plain is row sort named.
              let e' = was g q e plain in
              elim (cases_eq (hierarchy g) (hierarchy from)) [
                | inl same ↦
                    let is_old : object_at T (hierarchy g) ≡ Some (Table t) = sym (tables g) ∙ ap (now_at T D) same ∙ is_t in
                    let new : t' ≡ u = same_table t' u (sym (ap (now_at T D') same ∙ puts.here) ∙ is) in
                    let left : IsSome (find_row r (drop_row s t.table.rows)) = subst (λ (x : Tbl). IsSome (find_row r x.table.rows)) (sym new) row in
                    let ascend = w.rows_ascend (hierarchy g) t (now_before T (hierarchy g) ∙ is_old) in
                    let other : r ≡ s → ⊥ = λ one. false≢true (sym (ap is_some (find-drop_same (λ x. x.0) 0 s t.table.rows ascend)) ∙ ap (λ x. is_some (find_row x (drop_row s t.table.rows))) (sym one) ∙ left) in
                    let k = h.listed g q t r sort e' plain is_old (subst IsSome (find-drop_other (λ x. x.0) r s t.table.rows other) left) named in
                    (k.0, others r other ∙ k.1)
                | inr away ↦
                    let k = h.listed g q u r sort e' plain (sym (tables g) ∙ sym (puts.others (hierarchy g) away) ∙ is) row named in
                    let other : r ≡ s → ⊥ = λ one.
                    let here = same_Some p (record { nid = nid r; parent = nid g; sort = sort }) (sym found ∙ ap (λ x. find_place x T.places) (sym one) ∙ k.1) in
                    away (ap (λ (x : FolderPlace). hierarchy x.parent.bits) (sym here)) in
                    (k.0, others r other ∙ k.1)
              ];
          told = λ g q c e plain root is.
              let two = (ids_then g q e plain).0 in
              let d = w.contexts g q (was g q e plain) in
              let same = same_context d.0 c (sym d.1 ∙ now_before T g ∙ sym (values g two) ∙ sym (puts.others g (kind_apart g from 13 (omega arith) (λ k. omega arith))) ∙ is) in
              ap (λ (x : Ctx). x.parent) (sym same) ∙ d.2 root;
          owned = owned_put aside places (now_at T D) (now_at T D') (hierarchy from) o puts (some_belongs aside places (hierarchy from) (Table t') (inr (from, (from_then.0, from_then.1, from_then.2), inl refl))) owned;
        })
