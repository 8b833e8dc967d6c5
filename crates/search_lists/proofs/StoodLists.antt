-- What follows in the lists of searches can be compared with the tree where what came before can.
use Rattle.std.proofs.Common.{ℕ, Bool, true, false, List, [], ◌∷◌, Some, IfOk, Ok, Err, inl, inr, ◌||◌}
use Rattle.std.proofs.lemmas.Bool.{cases_Bool}
use Rattle.mapi_values.specs.Values.{Val}
use Rattle.command_text.specs.declared.command.Command.{Command}
use Rattle.mail_objects.specs.Forms.{Tbl}
use Rattle.mail_tree.specs.Changing.{Answer, Changed, ◌>>=◌, context_at, now_at, table_at, with_object, with_rows}
use Rattle.mail_tree.specs.Folders.{Outcome, made_id}
use Rattle.mail_tree.specs.Settling.{mirrored}
use Rattle.mail_tree.specs.Tree.{Tree}
use Rattle.mail_tree.proofs.StoodLaws.{AreStood, IsNew, goes_on, is_context, mirrored_stood, stood_put, stood_then, values_stood}
use Rattle.mail_searches.specs.Building.{built, built_rows}
use Rattle.mail_searches.specs.Criteria.{built_unless}
use Rattle.mail_searches.specs.Relisting.{Around, Touch, around, concerns, counted_search, relisted, settled_search, settled_searches, takes_row, unless_unclear, with_results}
use Rattle.mail_searches.specs.Searches.{Search, results, runs}
use Rattle.mail_searches.specs.Touching.{followed, touched}

module _ (T : Tree) (new : ℕ → Type 0) where
  counted_search_stood : (s : ℕ) (rows : List (ℕ × List Val)) (D : Changed) → AreStood T new D → IfOk (counted_search T s rows D) (AreStood T new)
  unfolding counted_search
  counted_search_stood s rows D all = goes_on _ (context_at T D s) _ (λ c is. goes_on _ (unless_unclear T D rows) _ (λ u v. values_stood T new s c _ D all (is_context (now_at T D s) c is)))

  results_stood : (s : ℕ) (rows : List (ℕ × List Val)) (t : Tbl) (D : Changed) → AreStood T new D → IfOk (with_results T s rows t D) (AreStood T new)
  unfolding with_results
  results_stood s rows t D all =
      stood_then (counted_search T s rows (with_object (results s) (Some (with_rows rows t)) D)) (mirrored T s)
      (counted_search_stood s rows _ (stood_put T new (results s) (Some (with_rows rows t)) D tt all)) (λ D' k. mirrored_stood T new s D' k)

  -- a search after messages were touched
  search_stood : (d : Around) (ts : List Touch) (s : Search) (D : Changed) → AreStood T new D → IfOk (settled_search T d ts s D) (AreStood T new)
  unfolding settled_search
  search_stood d ts s D all = elim (cases_Bool (concerns d s ts)) [
    | inr f ↦ rw f all
    | inl t ↦ rw t (goes_on _ (table_at T D (results s.nid)) _ (λ u is. elim (cases_Bool (runs s || takes_row u.table.rows ts)) [
      | inr f ↦ rw f all
      | inl e ↦ rw e (results_stood s.nid (relisted d s u.table.columns ts u.table.rows) u D all)
    ]))
  ]

  pub searches_stood : (d : Around) (ts : List Touch) (ss : List Search) (D : Changed) → AreStood T new D → IfOk (settled_searches T d ts ss D) (AreStood T new)
  searches_stood d ts [] D all = all
  searches_stood d ts (s ∷ ss) D all = stood_then (settled_search T d ts s D) (settled_searches T d ts ss) (search_stood d ts s D all) (λ D' k. searches_stood d ts ss D' k)

  -- a search whose list is built
  pub built_stood : (stop : Bool) (s : Search) (D : Changed) → AreStood T new D → IfOk (built_unless stop T s D) (AreStood T new)
  unfolding built
  built_stood true s D all = all
  built_stood false s D all = goes_on _ (table_at T D (results s.nid)) _ (λ t u. goes_on _ (built_rows T s t.table.columns) _ (λ rows v. results_stood s.nid rows t D all))

-- what a command comes to with the lists of searches
pub followed_stood : (T : Tree) (ss : List Search) (c : Command) (o : Outcome) → AreStood T (IsNew (made_id o.reply.last)) o.changed → IfOk (followed T ss c o) (λ o'. AreStood T (IsNew (made_id o'.reply.last)) o'.changed)
followed_stood T ss c o all = goes_on _ (touched T c o) _ (λ ts u. goes_then (settled_searches T (around T o) ts ss o.changed) (searches_stood T (IsNew (made_id o.reply.last)) (around T o) ts ss o.changed all))
  where
    goes_then : (a : Answer Changed) → IfOk a (AreStood T (IsNew (made_id o.reply.last))) → IfOk (a >>= λ D. Ok (record o { changed = D })) (λ o'. AreStood T (IsNew (made_id o'.reply.last)) o'.changed)
    goes_then (Ok D) k = k
    goes_then (Err e) k = tt
