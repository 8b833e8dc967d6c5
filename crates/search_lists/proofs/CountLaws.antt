-- A search whose rows changed tells the counts of the messages that they name.
use Rattle.std.proofs.Common.{◌≡◌, ◌∙◌, ℕ, ◌%◌, ◌||◌, false, List, [], ◌∷◌, length, Option, Some, IfOk, ap, sym, refl, subst, ◌⊎◌, inl, inr, arith}
use Rattle.std.proofs.lemmas.Bool.{and_parts}
use Rattle.mapi_values.specs.Messages.{Mes}
use Rattle.mapi_values.specs.Properties.{put}
use Rattle.mapi_values.specs.Values.{Val}
use Rattle.mail_objects.specs.Forms.{Ctx, Tbl}
use Rattle.mail_objects.specs.declared.object.Object.{Object}
use Rattle.mail_objects.specs.declared.object.Object.TheVariants.{Context, Table}
use Rattle.mail_tree.specs.Changing.{Changed, as_message, context_at, hierarchy, now_at, with_object, with_rows}
use Rattle.mail_tree.specs.Settling.{mirrored, with_context}
use Rattle.mail_tree.specs.Tree.{Tree}
use Rattle.mail_tree.specs.Values.{number, truth, with_counts}
use Rattle.mail_tree.proofs.AfterTree.{puts_object}
use Rattle.mail_tree.proofs.KeyedFinds.{find-put_other, find-put_same}
use Rattle.mail_tree.proofs.KindsOfPuts.{beside_kind}
use Rattle.mail_laws.proofs.Keeping.{KeepsAt, both, if_any, if_then, mirrored_keeps}
use Rattle.mail_searches.specs.Searches.{results, runs}
use Rattle.mail_searches.specs.Relisting.{before_those, concerns, counted_search, named, relisted, settled_search, takes_row, unless_unclear, unread, with_results}
use Rattle.search_lists.specs.Laws.{CountsAnew, TellsCounts, TellsList}
use Rattle.search_lists.proofs.SettleLaws.{SameMessages, found-context, mirrored-apart, put-apart}

named-same : (T : Tree) (D D' : Changed) → SameMessages T D D' → (rows : List (ℕ × List Val)) → named T D' rows ≡ named T D rows
named-same T D D' same [] = refl
named-same T D D' same (r ∷ rs) = ap (λ o. before_those o (named T D' rs)) (same r.0) ∙ ap (before_those (as_message (now_at T D r.0))) (named-same T D D' same rs)

counts-are : (ms : List Mes) (props : List Val) → TellsCounts ms (with_counts (length ms) (length (unread ms)) false props)
counts-are ms props =
    let first = put (number 0x3602 (length ms)) props in
    let second = put (number 0x3603 (length (unread ms))) first in
    record {
      messages = find-put_other (λ v. v.id) 0x3602 (truth 0x360A false) second (λ e. omega arith) ∙ find-put_other (λ v. v.id) 0x3602 (number 0x3603 (length (unread ms))) first (λ e. omega arith) ∙ find-put_same (λ v. v.id) (number 0x3602 (length ms)) props;
      unread = find-put_other (λ v. v.id) 0x3603 (truth 0x360A false) second (λ e. omega arith) ∙ find-put_same (λ v. v.id) (number 0x3603 (length (unread ms))) first;
      folders = find-put_same (λ v. v.id) (truth 0x360A false) second;
    }

same_context : (c k : Ctx) → ◌≡◌ {A = Option Object} (Some (Context c)) (Some (Context k)) → c ≡ k
same_context c k e = cc

same_table : (t u : Tbl) → ◌≡◌ {A = Option Object} (Some (Table t)) (Some (Table u)) → t ≡ u
same_table t u e = cc

module _ (T : Tree) (s : ℕ) (search : s % 32 ≡ 3) where
  -- the search's values tell the counts of these rows, and its table stands as it stood
  abbrev Told : Changed → List (ℕ × List Val) → Changed → Type 0
  Told D rows D' = (k : Ctx) × (now_at T D' s ≡ Some (Context k)) × TellsCounts (named T D' rows) k.props × (now_at T D' (results s) ≡ now_at T D (results s))

  abbrev Own : ℕ → Type 0
  Own q = (q ≡ s) ⊎ (q ≡ results s)

  at-results : results s % 32 ≡ 16
  at-results = beside_kind s 16 (omega arith)

  own-hierarchy : (g : ℕ) → Own (hierarchy g) → ⊥
  own-hierarchy g (inl e) = omega (arith, e, search, beside_kind g 13 (omega arith))
  own-hierarchy g (inr e) = omega (arith, e, at-results, beside_kind g 13 (omega arith))

  counted-tells : (rows : List (ℕ × List Val)) (D : Changed) → IfOk (counted_search T s rows D) (Told D rows)
  unfolding counted_search
  counted-tells rows D = if_then (λ c. now_at T D s ≡ Some (Context c)) (Told D rows) (context_at T D s) _ (found-context (now_at T D s)) (λ c there.
      if_then (λ u. Unit {0}) (Told D rows) (unless_unclear T D rows) _ (if_any (unless_unclear T D rows)) (λ u u'.
      let ms = named T D rows in
      let props = with_counts (length ms) (length (unread ms)) false c.props in
      let k : Ctx = record c { props = props } in
      let D' = with_context s c props D in
      let puts = puts_object T D s (Some (Context k)) in
      let same : SameMessages T D D' = put-apart T D D' s (Some (Context k)) puts (ap as_message there) refl in
      (k, puts.here, subst (λ ms. TellsCounts ms props) (sym (named-same T D D' same rows)) (counts-are ms c.props), puts.others (results s) (λ e. omega (arith, e, search, at-results)))))

  -- what a search's table has, its values tell
  pub results-tell : (rows : List (ℕ × List Val)) (t : Tbl) (D : Changed) → IfOk (with_results T s rows t D) (λ D'. TellsList T D' s)
  unfolding with_results
  results-tell rows t D =
      let D1 = with_object (results s) (Some (with_rows rows t)) D in
      let u : Tbl = record { parent = t.parent; table = record t.table { rows = rows } } in
      let put = puts_object T D (results s) (Some (with_rows rows t)) in
      let Tells : Changed → Type 0 = λ D'. TellsList T D' s in
      if_then (Told D1 rows) Tells (counted_search T s rows D1) (mirrored T s) (counted-tells rows D1) (λ D2 told.
      both (SameMessages T D2) (KeepsAt Own T D2) Tells (mirrored T s D2) (mirrored-apart T s D2) (mirrored_keeps Own own-hierarchy T s D2) (λ D3 same keeps c v is-c is-v.
      let k-c : told.0 ≡ c = same_context told.0 c (sym (keeps s (inl refl) ∙ told.1) ∙ is-c) in
      let u-v : u ≡ v = same_table u v (sym (keeps (results s) (inr refl) ∙ told.3 ∙ put.here) ∙ is-v) in
      let counts : TellsCounts (named T D3 rows) told.0.props = subst (λ ms. TellsCounts ms told.0.props) (sym (named-same T D2 D3 same rows)) told.2 in
      subst (λ (x : Tbl). TellsCounts (named T D3 x.table.rows) c.props) u-v (subst (λ (x : Ctx). TellsCounts (named T D3 rows) x.props) k-c counts)))

pub counts_anew : CountsAnew
unfolding settled_search
counts_anew T d ts s D t search there changes =
    let p = and_parts (concerns d s ts) (runs s || takes_row t.table.rows ts) changes in
    rw (p.0, there, p.1) (results-tell T s.nid search (relisted d s t.table.columns ts t.table.rows) t D)
