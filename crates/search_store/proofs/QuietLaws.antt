-- A command that writes no node leaves the tree, where there are searches too.
use Rattle.std.proofs.Common.{◌≡◌, ◌⊎◌, ℕ, ◌||◌, ◌==◌, not, Bool, true, false, List, [], ◌∷◌, Option, Some, IfOk, refl, sym, subst, inl, inr, if◌then◌else◌}
use Rattle.std.specs.FinMap as map
use Rattle.std.proofs.lemmas.Bool.{cases_Bool}
use Rattle.mapi_values.specs.Characters.{folded}
use Rattle.mapi_values.specs.Keyed.{drop_key, put_key}
use Rattle.mapi_values.specs.Values.{Val}
use Rattle.search_obj.specs.Changing.{changed as criteria_after}
use Rattle.search_obj.specs.Crits.{Crit, CritSet}
use Rattle.search_obj.specs.Flags.{flags_of}
use Rattle.search_obj.specs.Writing.{written}
use Rattle.command_text.specs.declared.command.Command.{Command}
use Rattle.command_text.specs.declared.command.Command.TheVariants.{MakeFolder, RenameFolder, MoveFolder, RemoveFolder, ListFolder, NewMessage, SetProperty, UnsetProperty, GetProperty, ListProperties, MoveMessage, CopyMessage, RemoveMessage, AddRecipient, RemoveRecipient, AddAttachment, AppendData, RemoveAttachment, FetchData, NameProperty, Save, Quit, MakeSearch, SetCriteria, GetCriteria, SetEmbedded}
use Rattle.command_text.specs.declared.reply.CommandRefusal.TheVariants as refusals
use Rattle.command_text.specs.declared.reply.Limit.TheVariants.{Depth}
use Rattle.command_text.specs.declared.reply.LastLine.TheVariants.{Done}
use Rattle.mail_objects.specs.Forms.{Ctx, Tbl}
use Rattle.mail_tree.specs.Changing.{Answer, Changed, ◌>>=◌, add_shown, context_at, drop_shown, found, hierarchy, known, nothing, refused_if, table_at, with_object, with_rows, within_limits}
use Rattle.mail_tree.specs.Folders.{Outcome, folder_in, listing, moved_between, replied, replying, siblings, unless_full, unless_named, unless_plain, unless_protected}
use Rattle.mail_tree.specs.Ids.{new_id}
use Rattle.mail_tree.specs.Places.{children, is_deep, is_within, moves_deep, place_id}
use Rattle.mail_tree.specs.Settling.{mirrored, settled, with_context}
use Rattle.mail_tree.specs.Step as tree
use Rattle.mail_tree.specs.Tree.{Tree}
use Rattle.mail_tree.specs.Values.{folder_props, name_of}
use Rattle.mail_searches.specs.Criteria.{Coming, built_unless, can_hold, criteria_in, given_criteria, given_restriction, given_scope, made_search, making_search, making_search_in, next_search_index, overfills, search_listing, search_place, setting_criteria, staying, told_criteria, unless_listless, unless_other, with_criteria, with_search}
use Rattle.mail_searches.specs.Moving.{moved_search, removed_search, removing_search, renamed_search, without_search}
use Rattle.mail_searches.specs.Relisting.{Around, Touch, around, concerns, counted_search, relisted, settled_search, settled_searches, takes_row, unless_unclear, with_results}
use Rattle.mail_searches.specs.Searches.{Search, criteria_node, results, runs, search_id, search_of}
use Rattle.mail_searches.specs.Searching.{Searching, is_own}
use Rattle.mail_searches.specs.Step.{concluded, if_within, listing_in, outcome, plain_outcome}
use Rattle.mail_searches.specs.Touching.{followed, touched}
use Rattle.mail_store.proofs.QuietLaws.{Right, if_any, if_so, if_then, lists_folder, mirrors, moves_between, quiet, right, settles, some_put, then_any, then_changing, then_making, then_moving, then_replying}
use Rattle.mail_store.specs.Planning.{StaysUnwritten}
use Rattle.mail_store.specs.Space.{WritesNodes}

module _ (T : Tree) where
  -- a search that gets other rows is written
  writes_results : (s : ℕ) (rows : List (ℕ × List Val)) (t : Tbl) (D : Changed) → IfOk (with_results T s rows t D) WritesNodes
  unfolding with_results counted_search
  writes_results s rows t D =
      let E = with_object (results s) (Some (with_rows rows t)) D in
      if_then WritesNodes WritesNodes (counted_search T s rows E) (mirrored T s) (if_any WritesNodes (context_at T E s) _ (λ c. if_any WritesNodes (unless_unclear T E rows) _ (λ u. some_put E.objects s _))) (λ E' some. mirrors T s E' some)

  -- changes grow, or stay
  abbrev Grows : Changed → Changed → Type 0
  Grows D D' = WritesNodes D' ⊎ (D' ≡ D)

  grows_search : (d : Around) (ts : List Touch) (s : Search) (D : Changed) → IfOk (settled_search T d ts s D) (Grows D)
  unfolding settled_search
  grows_search d ts s D = elim (cases_Bool (concerns d s ts)) [
    | inr b ↦ rw b (inr refl)
    | inl b ↦ rw b (if_any (Grows D) (table_at T D (results s.nid)) _ (λ t. elim (cases_Bool (runs s || takes_row t.table.rows ts)) [
      | inr c ↦ rw c (inr refl)
      | inl c ↦ rw c (if_so WritesNodes (Grows D) (with_results T s.nid (relisted d s t.table.columns ts t.table.rows) t D) (writes_results s.nid _ t D) (λ E some. inl some))
    ]))
  ]

  grows_from : (D D' E : Changed) → Grows D D' → Grows D' E → Grows D E
  grows_from D D' E first (inl some) = inl some
  grows_from D D' E (inl some) (inr same) = inl (subst WritesNodes (sym same) some)
  grows_from D D' E (inr was) (inr same) = inr (subst (λ x. E ≡ x) was same)

  grows_searches : (d : Around) (ts : List Touch) (ss : List Search) (D : Changed) → IfOk (settled_searches T d ts ss D) (Grows D)
  grows_searches d ts [] D = inr refl
  grows_searches d ts (s ∷ ss) D = if_then (Grows D) (Grows D) (settled_search T d ts s D) (settled_searches T d ts ss) (grows_search d ts s D)
      (λ D' first. if_so (Grows D') (Grows D) (settled_searches T d ts ss D') (grows_searches d ts ss D') (λ E rest. grows_from D D' E first rest))

  still_right : (o : Outcome) (D : Changed) → Right T o → Grows o.changed D → Right T (record o { changed = D })
  still_right o D is (inl some) none = absurd (some none)
  still_right o D is (inr same) none = is (subst (λ (x : Changed). x.objects ≡ map.empty) same none)

  right_concluded : (ss : List Search) (c : Command) (o : Outcome) → Right T o → IfOk (concluded T ss c o) (Right T)
  unfolding concluded
  right_concluded ss c o is = if_then (Right T) (Right T) (followed T ss c o) (if_within T)
      (if_any (Right T) (touched T c o) _ (λ ts. if_then (Grows o.changed) (Right T) (settled_searches T (around T o) ts ss o.changed) _ (grows_searches (around T o) ts ss o.changed) (λ D grows. still_right o D is grows)))
      (λ o' is'. if_any (Right T) (within_limits T _ o'.changed) _ (λ u. is'))

  right_made : (parent : ℕ) (name : List ℕ) (index : ℕ) → IfOk (making_search_in T parent name index) (Right T)
  unfolding making_search_in making_search
  right_made parent name index =
      then_any T (folder_in T parent) _ (λ p. then_any T (unless_plain p) _ (λ u. then_any T (unless_named T (folded false name) (children parent T.places)) _ (λ v.
      then_any T (refused_if (is_deep T.places parent) (refusals.Limit Depth)) _ (λ w. then_any T (unless_full T (hierarchy parent)) _ (λ x.
      let s = new_id 3 index in
      let places = put_key place_id (search_place s parent) T.places in
      let added = add_shown T (hierarchy parent) s (folder_props name) (with_search s parent name nothing) in
      then_making T places 3 index (added >>= settled T places parent) (settles T places parent added))))))

  right_listed : (s : ℕ) → IfOk (search_listing T s) (Right T)
  unfolding search_listing
  right_listed s = then_any T (table_at T nothing (results s)) _ (λ t. then_any T (unless_unclear T nothing t.table.rows) _ (λ u none. (refl, refl)))

  right_renamed : (s : ℕ) (name : List ℕ) → IfOk (renamed_search T s name) (Right T)
  unfolding renamed_search
  right_renamed s name = then_any T (folder_in T s) _ (λ p. then_any T (unless_protected T s) _ (λ u. then_any T (unless_named T (folded false name) (siblings T p.parent.bits s)) _ (λ v. then_any T (context_at T nothing s) _ (λ c. then_changing T _))))

  right_moved : (s parent : ℕ) → IfOk (moved_search T s parent) (Right T)
  unfolding moved_search
  right_moved s parent =
      then_any T (folder_in T s) _ (λ p. then_any T (folder_in T parent) _ (λ q. then_any T (unless_plain q) _ (λ u. then_any T (unless_protected T s) _ (λ v. then_any T (refused_if (is_within T.places s parent) refusals.Cycle) _ (λ w. elim (cases_Bool (p.parent.bits == parent)) [
        | inl t ↦ rw t (λ none. (refl, refl))
        | inr t ↦ rw t (then_any T (context_at T nothing s) _ (λ c. then_any T (unless_named T (folded false (name_of c.props)) (children parent T.places)) _ (λ x. then_any T (refused_if (moves_deep T.places s parent) (refusals.Limit Depth)) _ (λ y.
            let places = put_key place_id (search_place s parent) T.places in
            then_moving T places (moved_between T s p.parent.bits parent places) (moves_between T s p.parent.bits parent places)))))
      ])))))

  right_removed : (s : ℕ) → IfOk (removing_search T s) (Right T)
  unfolding removing_search
  right_removed s = then_any T (folder_in T s) _ (λ p. then_any T (unless_protected T s) _ (λ u.
      let places = drop_key place_id s T.places in
      let dropped = drop_shown T (hierarchy p.parent.bits) s (without_search T s nothing) in
      then_moving T places (dropped >>= settled T places p.parent.bits) (settles T places p.parent.bits dropped)))

-- where nothing is written in the tree that stays
abbrev IsRight : Searching → Coming → Type 0
IsRight X o = Right X.tree o.outcome

module _ (X : Searching) where
  right_staying : (a : Answer Outcome) → IfOk a (Right X.tree) → IfOk (a >>= staying X) (IsRight X)
  right_staying a is = if_then (Right X.tree) (IsRight X) a (staying X) is (λ o r. r)

  right_told : (s : ℕ) → IfOk (told_criteria X s) (Right X.tree)
  unfolding told_criteria
  right_told s = if_any (Right X.tree) (unless_other X s) _ (λ u. if_any (Right X.tree) (context_at X.tree nothing (criteria_node s)) _ (λ c. if_any (Right X.tree) (criteria_in c) _ (λ old none. (refl, refl))))

  right_lists : (f : ℕ) → IfOk (listing_in X f) (Right X.tree)
  unfolding listing_in
  right_lists f = elim (cases_Bool (is_own X.own f)) [
    | inl b ↦ rw b (right_listed X.tree f)
    | inr b ↦ rw b (if_then (Right X.tree) (Right X.tree) (listing X.tree f) _ (lists_folder X.tree f) (λ o r. r))
  ]

  right_makes : (parent : ℕ) (name : List ℕ) → IfOk (made_search X parent name) (IsRight X)
  unfolding made_search
  right_makes parent name = if_any (IsRight X) (unless_listless X.tree) _ (λ u. if_then (Right X.tree) (IsRight X) (making_search_in X.tree parent name (next_search_index X.tree)) _ (right_made X.tree parent name (next_search_index X.tree)) (λ o r. r))

  right_set : (s : ℕ) (c : Ctx) (k : Crit) (set : CritSet) → IfOk (setting_criteria X s c k set) (IsRight X)
  unfolding setting_criteria
  right_set s c k set = if_any (IsRight X) (refused_if (not (can_hold set)) refusals.Criteria) _ (λ u.
      let search = search_of s set in
      let searches = put_key search_id search X.searches in
      let changes = built_unless set.flags.stop X.tree search (with_context (criteria_node s) c (written k c.props) nothing) in
      if_then (Right X.tree) (IsRight X) (changes >>= replying X.tree (overfills X.searches searches) (replied Done)) _ (then_replying X.tree changes (overfills X.searches searches) Done) (λ o r. r))

  right_sets : (s number : ℕ) (scope bytes : Option (List ℕ)) → IfOk (given_criteria X s number scope bytes) (IsRight X)
  unfolding given_criteria with_criteria
  right_sets s number scope bytes =
      if_any (IsRight X) (unless_other X s) _ (λ u. if_any (IsRight X) (found refusals.Flags (flags_of number)) _ (λ flags. if_any (IsRight X) (given_restriction bytes) _ (λ restriction. if_any (IsRight X) (given_scope X.tree scope) _ (λ ids.
      if_any (IsRight X) (context_at X.tree nothing (criteria_node s)) _ (λ c. if_any (IsRight X) (criteria_in c) _ (λ old. if_any (IsRight X) (found refusals.Criteria (criteria_after old flags ids restriction)) _ (λ k.
      if_any (IsRight X) (known k.set) _ (λ set. right_set s c k set))))))))

  right_removes : (s : ℕ) → IfOk (removed_search X s) (IsRight X)
  unfolding removed_search
  right_removes s = if_then (Right X.tree) (IsRight X) (removing_search X.tree s) _ (right_removed X.tree s) (λ o r. r)

  -- one of two answers
  either : (b : Bool) (a a' : Answer Coming) → IfOk a (IsRight X) → IfOk a' (IsRight X) → IfOk (if b then a else a') (IsRight X)
  either true a a' is is' = is
  either false a a' is is' = is'

  right_plain : (c : Command) → IfOk (plain_outcome X c) (IsRight X)
  right_plain c = right_staying (tree.outcome X.tree c >>= concluded X.tree X.searches c)
      (if_then (Right X.tree) (Right X.tree) (tree.outcome X.tree c) (concluded X.tree X.searches c) (right X.tree c) (λ o r. right_concluded X.tree X.searches c o r))

  right_all : (c : Command) → IfOk (outcome X c) (IsRight X)
  unfolding outcome
  right_all (MakeSearch parent name) = right_makes parent.bits name
  right_all (SetCriteria search flags scope restriction) = right_sets search.bits flags scope restriction
  right_all (GetCriteria search) = right_staying (told_criteria X search.bits) (right_told search.bits)
  right_all (ListFolder folder) = right_staying (listing_in X folder.bits) (right_lists folder.bits)
  right_all (MakeFolder parent name) = right_plain (MakeFolder parent name)
  right_all (RenameFolder folder name) = either (is_own X.own folder.bits) _ _ (right_staying (renamed_search X.tree folder.bits name) (right_renamed X.tree folder.bits name)) (right_plain (RenameFolder folder name))
  right_all (MoveFolder folder parent) = either (is_own X.own folder.bits) _ _ (right_staying (moved_search X.tree folder.bits parent.bits) (right_moved X.tree folder.bits parent.bits)) (right_plain (MoveFolder folder parent))
  right_all (RemoveFolder folder) = either (is_own X.own folder.bits) _ _ (right_removes folder.bits) (right_plain (RemoveFolder folder))
  right_all (NewMessage folder class time values) = right_plain (NewMessage folder class time values)
  right_all (SetProperty message value) = right_plain (SetProperty message value)
  right_all (UnsetProperty message tag) = right_plain (UnsetProperty message tag)
  right_all (GetProperty message tag) = right_plain (GetProperty message tag)
  right_all (ListProperties message) = right_plain (ListProperties message)
  right_all (MoveMessage message folder) = right_plain (MoveMessage message folder)
  right_all (CopyMessage message folder) = right_plain (CopyMessage message folder)
  right_all (RemoveMessage message) = right_plain (RemoveMessage message)
  right_all (AddRecipient message kind address name) = right_plain (AddRecipient message kind address name)
  right_all (RemoveRecipient message row) = right_plain (RemoveRecipient message row)
  right_all (AddAttachment message name held) = right_plain (AddAttachment message name held)
  right_all (AppendData message attachment bytes) = right_plain (AppendData message attachment bytes)
  right_all (SetEmbedded message attachment node) = right_plain (SetEmbedded message attachment node)
  right_all (RemoveAttachment message attachment) = right_plain (RemoveAttachment message attachment)
  right_all (FetchData message attachment) = right_plain (FetchData message attachment)
  right_all (NameProperty guid number) = right_plain (NameProperty guid number)
  right_all Save = right_plain Save
  right_all Quit = right_plain Quit

  pub stays_unwritten : (c : Command) → IfOk (outcome X c) (λ o. StaysUnwritten X.tree o.outcome)
  stays_unwritten c = if_so (IsRight X) (λ o. StaysUnwritten X.tree o.outcome) (outcome X c) (right_all c) (λ o r. quiet X.tree o.outcome r)
