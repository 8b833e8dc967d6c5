-- A search that gets other rows leaves the tree in order.
use Rattle.std.proofs.Common.{◌≡◌, ◌∙◌, ℕ, ◌%◌, ◌==◌, ◌&&◌, Bool, true, false, List, [], ◌∷◌, length, Option, Some, Ok, Err, None, IfOk, IsSome, arith, refl, subst, sym, inl, inr}
use Rattle.std.specs.List.{list_any}
use Rattle.std.specs.Option.{is_none}
use Rattle.std.specs.FinMap as map
use Rattle.std.proofs.lemmas.Bool.{cases_Bool, cases_eq, eq-eqb, ne_eqb}
use Rattle.mapi_values.specs.Messages.{Mes}
use Rattle.mapi_values.specs.Keyed.{keys_ascend}
use Rattle.mapi_values.specs.Tables.{find_row, mirror}
use Rattle.mapi_values.specs.Values.{Val}
use Rattle.mail_objects.specs.Forms.{Ctx, Tbl}
use Rattle.mail_objects.specs.declared.object.Object.{Object}
use Rattle.mail_objects.specs.declared.object.Object.TheVariants.{Context, Table}
use Rattle.mail_tree.specs.declared.places.FolderPlace.{FolderPlace}
use Rattle.mail_tree.specs.Changing.{Answer, Changed, as_message, hierarchy, newest, now_at, put_shown, shown_row, with_object, with_rows}
use Rattle.mail_tree.specs.Ids.{is_taken}
use Rattle.mail_tree.specs.Places.{ROOT, find_place}
use Rattle.mail_tree.specs.Settling.{mirrored, with_context}
use Rattle.mail_tree.specs.Tree.{Tree, object_at}
use Rattle.mail_tree.specs.Values.{with_counts}
use Rattle.mail_tree.specs.Whole.{AreWhole, Fine, IsWhole}
use Rattle.mail_tree.proofs.AfterTree.{puts_object}
use Rattle.mail_tree.proofs.FineLaws.{after_context, fine_then, fine_weaker}
use Rattle.mail_tree.proofs.KeyedFinds.{find-put_other}
use Rattle.mail_tree.proofs.KindsOfPuts.{beside_kind, same_table}
use Rattle.mail_tree.proofs.Settles.{fine_mirrored, folders_of, other_values}
use Rattle.mail_laws.proofs.CountSteps.{counted_put, mirrored_counts}
use Rattle.mail_laws.proofs.MirrorPuts.{AreShownBut}
use Rattle.mail_laws.proofs.MirrorSteps.{context_opens, mirrored_shows}
use Rattle.mail_searches.specs.Searches.{results}
use Rattle.mail_searches.specs.Relisting.{counted_search, named, unread, with_results}
use Rattle.search_lists.proofs.ClearLaws.{none_unclear}
use Rattle.search_lists.proofs.Quiet.{IsQuiet, quiet_context, quiet_table, quiet_then}
use Rattle.search_lists.proofs.ListSteps.{Counted, IsOrderly, Shown, folder_ids, list_orderly, orderly_then, plain_ids}

-- four facts of an answer
fine_all : {A : Type 0} (P Q R S U : A → Type 0) (a : Answer A) → Fine a P → Fine a Q → IfOk a R → IfOk a S → ((x : A) → P x → Q x → R x → S x → U x) → Fine a U
fine_all P Q R S U (Ok x) p q r s next = next x p q r s
fine_all P Q R S U (Err None) p q r s next = p
fine_all P Q R S U (Err (Some refusal)) p q r s next = tt

-- what holds of an answer where this is so
pub if_given : {A : Type 0} (B : Type 0) (P : A → Type 0) (a : Answer A) → (B → IfOk a P) → IfOk a (λ x. B → P x)
if_given B P (Ok x) h = h
if_given B P (Err e) h = tt

-- the root is no search
no_root : (s : ℕ) → s % 32 ≡ 3 → s ≡ ROOT → ⊥
no_root s three e = omega (arith, e, three)

module _ (T : Tree) (places : List FolderPlace) (s : ℕ) (p : FolderPlace) (three : s % 32 ≡ 3) (placed : find_place s places ≡ Some p) where
  -- What a search's folder with other counts leaves, of which the row needn't show it.
  record Opens (D D' : Changed) : Type 0 where
    quiet : IsQuiet T D D'
    whole : AreWhole places (now_at T D')
    shown : Shown T places D → AreShownBut (λ x. x ≡ s) places (now_at T D')
    counted : Counted T places D → Counted T places D'
    values : (c : Ctx) × (now_at T D' s ≡ Some (Context c))

  opens : (D : Changed) (c : Ctx) (props : List Val) → AreWhole places (now_at T D) → now_at T D s ≡ Some (Context c) → Opens D (with_context s c props D)
  opens D c props w is =
      let new : Ctx = record c { props = props } in
      let puts = puts_object T D s (Some (Context new)) in
      record {
        quiet = quiet_context T D s c props is (λ seven. omega arith);
        whole = other_values T places s p D w placed c props is;
        shown = λ h. (context_opens T places (folder_ids places (now_at T D) w) D s c props (inr three) h).0;
        counted = λ h. counted_put (λ x. ⊥) places (now_at T D) (now_at T (with_context s c props D)) s (Some (Context new)) h puts
            (λ f r c' e plain free same is'. absurd (omega (arith, plain_ids places (now_at T D) w f r e plain)))
            (λ f r e plain free same. omega (arith, beside_kind f 14 (omega arith)))
            (λ f r t e plain free is' row four. omega arith);
        values = (new, puts.here);
      }

  -- the search is counted anew
  search_opens : (rows : List (ℕ × List Val)) (D : Changed) → IsWhole T → AreWhole places (now_at T D) → Fine (counted_search T s rows D) (Opens D)
  unfolding counted_search
  search_opens rows D was w =
      let c = w.contexts s p placed in
      after_context (Opens D) T D s c.0 _ c.1 (rw (none_unclear T D rows was) (opens D c.0 (with_counts (length (named T D rows)) (length (unread (named T D rows))) false c.0.props) w c.1))

  -- its row stays in its parent's table of folders
  row_quiet : (D : Changed) → AreWhole places (now_at T D) → Fine (mirrored T s D) (IsQuiet T D)
  unfolding mirrored put_shown
  row_quiet D w =
      let c = w.contexts s p placed in
      let up = w.parents s p placed (no_root s three) in
      let t = folders_of w p.parent.bits up.0 up.1 up.2 in
      let q = hierarchy p.parent.bits in
      let kind = beside_kind p.parent.bits 13 (omega arith) in
      let row : ℕ × List Val = (s, mirror t.0.table.columns c.0.props) in
      let u : Tbl = record { parent = t.0.parent; table = record t.0.table { rows = shown_row s c.0.props t.0.table } } in
      let has : IsSome (find_row s t.0.table.rows) = subst (λ (x : Tbl). IsSome (find_row s x.table.rows)) (same_table up.3.0 t.0 (sym up.3.1 ∙ t.1)) up.3.2 in
      rw (ne_eqb s ROOT (no_root s three), c.1, c.2 (no_root s three), t.1) (quiet_table T D q t.0 u t.1 (λ seven. omega arith) (λ thirteen r is. elim (cases_eq r s) [
        | inl e ↦ subst (λ x. IsSome (find_row x t.0.table.rows)) (sym e) has
        | inr n ↦ subst IsSome (find-put_other (λ x. x.0) r row t.0.table.rows n) is
      ]))

  -- and shows it
  row_orderly : (D D1 : Changed) → Opens D D1 → Fine (mirrored T s D1) (IsOrderly T places D)
  row_orderly D D1 o =
      let a = mirrored T s D1 in
      let c = o.values in
      fine_all (IsQuiet T D1) (λ D2. AreWhole places (now_at T D2)) (λ D2. Shown T places D → Shown T places D2) (λ D2. Counted T places D → Counted T places D2) (IsOrderly T places D) a
      (row_quiet D1 o.whole) (fine_mirrored T places s p D1 o.whole placed)
      (if_given (Shown T places D) (Shown T places) a (λ h. mirrored_shows T places (folder_ids places (now_at T D1) o.whole) D1 s c.0 (inr three) (o.shown h) c.1))
      (if_given (Counted T places D) (Counted T places) a (λ h. mirrored_counts T places (plain_ids places (now_at T D1) o.whole) (λ x. ⊥) D1 s (o.counted h)))
      (λ D2 quiet whole shown counted. record { quiet = quiet_then T D D1 D2 o.quiet quiet; whole = whole; shown = shown; counted = counted })

  -- a search gets other rows
  pub results_orderly : (rows : List (ℕ × List Val)) (t : Tbl) (D : Changed) → IsWhole T → AreWhole places (now_at T D) → now_at T D (results s) ≡ Some (Table t) → keys_ascend (λ r. r.0) 0 rows ≡ true → Fine (with_results T s rows t D) (IsOrderly T places D)
  unfolding with_results
  results_orderly rows t D was w is ascend =
      let u : Tbl = record { parent = t.parent; table = record t.table { rows = rows } } in
      let D1 = with_object (results s) (Some (with_rows rows t)) D in
      let first = list_orderly T places D (results s) t u (beside_kind s 16 (omega arith)) w is ascend in
      fine_then (Opens D1) (IsOrderly T places D) (counted_search T s rows D1) (mirrored T s) (search_opens rows D1 was first.whole) (λ D2 o.
      fine_weaker (IsOrderly T places D1) (IsOrderly T places D) (mirrored T s D2) (row_orderly D1 D2 o) (λ D3 rest. orderly_then T places D D1 D3 first rest))
