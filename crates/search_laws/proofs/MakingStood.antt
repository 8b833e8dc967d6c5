-- What a new search puts can be compared with the tree: it is new, and its criteria object has few properties.
use Rattle.std.proofs.Common.{◌≡◌, ℕ, ◌==◌, ◌&&◌, ◌⊎◌, inl, inr, not, Bool, true, false, List, [], ◌∷◌, Option, None, Some, IsSome, Ok, Err, IfOk, length, refl, if◌then◌else◌, arith, sym, subst, ◌∙◌}
use Rattle.std.proofs.Common.{Ordering, Less, Equal, Greater}
use Rattle.std.specs.FinMap as map
use Rattle.std.specs.FinMap.Entries.{by_order, put}
use Rattle.std.specs.Cmp.{nat_cmp_total, ranked}
use Rattle.std.specs.Ordering.{nat_cmp}
use Rattle.std.specs.List.{list_all}
use Rattle.std.proofs.lemmas.Bool.{cases_Bool, eq-eqb, false≢true}
use Rattle.mapi_values.specs.Values.{Val}
use Rattle.command_text.specs.declared.reply.CommandRefusal.TheVariants.{Limit}
use Rattle.command_text.specs.declared.reply.Limit.TheVariants.{Properties, Rows}
use Rattle.search_obj.specs.Writing.{written}
use Rattle.mail_objects.specs.declared.object.Object.{Object}
use Rattle.mail_objects.specs.declared.object.Object.TheVariants.{Context, Table, Message, Bare}
use Rattle.mail_tree.specs.declared.places.FolderPlace.{FolderPlace}
use Rattle.mail_tree.specs.Places.{ROOT}
use Rattle.mail_tree.specs.Tree.{Tree, object_at}
use Rattle.mail_tree.specs.Values.{crowds, folder_props, is_crowded}
use Rattle.mail_tree.specs.Changing.{Answer, Changed, ◌>>=◌, add_shown, as_context, contents, context_at, entry_fits, hierarchy, is_crowding, known, nothing, overfills, put_shown, refused_if, shown_row, table_at, unless_crowding, unless_past, with_object, within_limits}
use Rattle.mail_tree.specs.Folders.{nid}
use Rattle.mail_tree.specs.Settling.{counted, message_ids, mirrored, settled, table_as_is, unread_among}
use Rattle.mail_tree.specs.Whole.{Fine}
use Rattle.mail_tree.proofs.FineLaws.{fine_test, fine_then}
use Rattle.mail_tree.proofs.StoodLaws.{AreStood, EachStood, Stood, added_stood, goes_on, none_stood, settled_stood, stood_put, stood_then}
use Rattle.mail_searches.specs.Criteria.{no_criteria, with_search}
use Rattle.mail_searches.specs.Searches.{criteria_node, results, updates}

-- properties that are put at this id are few, and no message is put
abbrev pub Few : ℕ → ℕ × Option Object → Type 0
Few k (q, Some (Context c)) = q ≡ k → is_crowded c.props ≡ false
Few k (q, Some (Message m)) = ⊥
Few k (q, other) = Unit {0}

abbrev pub EachFew : ℕ → List (ℕ × Option Object) → Type 0
EachFew k [] = Unit {0}
EachFew k (e ∷ es) = Few k e × EachFew k es

abbrev pub AreFew : ℕ → Changed → Type 0
AreFew k D = EachFew k (map.entries D.objects)

no_entries : {A : Type 0} (xs : List A) → length xs ≡ 0 → xs ≡ []
no_entries [] e = refl
no_entries (x ∷ xs) e = absurd (omega (arith, e))

module _ (k : ℕ) where
  placed : (q : ℕ) (v : Option Object) (e : ℕ × Option Object) (es : List (ℕ × Option Object)) (r : Ordering) → r ≡ nat_cmp q e.0 → Few k (q, v) → EachFew k (e ∷ es) → EachFew k (put nat_cmp q v es)
      → EachFew k (by_order r ((q, v) ∷ e ∷ es) ((e.0, v) ∷ es) (e ∷ put nat_cmp q v es))
  placed q v e es Less is one all rest = (one, all)
  placed q v e es Equal is one all rest = (subst (λ x. Few k (x, v)) (ranked q e.0 Equal is) one, all.1)
  placed q v e es Greater is one all rest = (all.0, rest)

  each_put : (q : ℕ) (v : Option Object) (es : List (ℕ × Option Object)) → Few k (q, v) → EachFew k es → EachFew k (put nat_cmp q v es)
  each_put q v [] one all = (one, tt)
  each_put q v (e ∷ es) one all = placed q v e es (nat_cmp q e.0) refl one all (each_put q v es one all.1)

  few_put : (q : ℕ) (o : Option Object) (D : Changed) → Few k (q, o) → AreFew k D → AreFew k (with_object q o D)
  few_put q o D one all = subst (EachFew k) (sym (map.entries-insert nat_cmp_total D.objects q o)) (each_put q o (map.entries D.objects) one all)

  few_nothing : AreFew k nothing
  few_nothing = subst (EachFew k) (sym (no_entries (map.entries (map.empty {K = ℕ} {X = Option Object} {R = nat_cmp})) (sym (map.len-entries (map.empty {K = ℕ} {X = Option Object} {R = nat_cmp})) ∙ map.len-empty nat_cmp (Option Object)))) tt

module _ (T : Tree) (k : ℕ) where
  added_few : (q id : ℕ) (props : List Val) (D : Changed) → AreFew k D → IfOk (add_shown T q id props D) (AreFew k)
  unfolding add_shown
  added_few q id props D all = goes_on _ (table_at T D q) _ (λ t u. goes_on _ (refused_if (overfills t.table.rows (shown_row id props t.table)) (Limit Rows)) _ (λ v w. few_put k q _ D tt all))

  counted_few : (places : List FolderPlace) (f : ℕ) (D : Changed) → (f ≡ k → ⊥) → AreFew k D → IfOk (counted T places f D) (AreFew k)
  unfolding counted
  counted_few places f D other all =
      goes_on _ (context_at T D f) _ (λ c is. goes_on _ (table_at T D (contents f)) _ (λ t u. goes_on _ (unread_among T D (message_ids t.table)) _ (λ n v. few_put k f _ D (λ same. absurd (other same)) all)))

  mirrored_few : (f : ℕ) (D : Changed) → AreFew k D → IfOk (mirrored T f D) (AreFew k)
  unfolding mirrored table_as_is put_shown
  mirrored_few f D all = elim (cases_Bool (f == ROOT)) [
    | inl t ↦ rw t (goes_on _ (table_at T D (hierarchy ROOT)) _ (λ t u. few_put k (hierarchy ROOT) _ D tt all))
    | inr t ↦ rw t (goes_on _ (context_at T D f) _ (λ c is. goes_on _ (table_at T D (hierarchy c.parent)) _ (λ t u. few_put k (hierarchy c.parent) _ D tt all)))
  ]

  settled_few : (places : List FolderPlace) (f : ℕ) (D : Changed) → (f ≡ k → ⊥) → AreFew k D → IfOk (settled T places f D) (AreFew k)
  unfolding settled
  settled_few places f D other all = stood_then (counted T places f D) (mirrored T f) (counted_few places f D other all) (λ D' j. mirrored_few f D' j)

-- the ids of a new search that have properties
abbrev pub IsOfNew : ℕ → ℕ → Type 0
IsOfNew s q = (q ≡ s) ⊎ (q ≡ criteria_node s)

search_stood : (T : Tree) (s parent : ℕ) (name : List ℕ) → AreStood T (IsOfNew s) (with_search s parent name nothing)
search_stood T s parent name =
    let New = IsOfNew s in
    stood_put T New (results s) _ _ tt (stood_put T New (criteria_node s) (Some no_criteria) _ (inl (inr refl)) (stood_put T New (updates s) _ _ tt (stood_put T New s _ nothing (inl (inl refl)) (none_stood T New))))

search_few : (s parent : ℕ) (name : List ℕ) → (s ≡ criteria_node s → ⊥) → AreFew (criteria_node s) (with_search s parent name nothing)
unfolding written
search_few s parent name apart =
    let k = criteria_node s in
    few_put k (results s) _ _ tt (few_put k k (Some no_criteria) _ (λ e. refl) (few_put k (updates s) _ _ tt (few_put k s _ nothing (λ e. absurd (apart e)) (few_nothing k))))

compared : {A : Type 0} (big new : Bool) (o : Option A) (f : A → Bool) → ((new ≡ true) ⊎ ((big ≡ false) ⊎ IsSome o)) → Fine (if big && not new then (known o >>= λ x. Ok (f x)) else Ok big) (λ b. Unit {0})
compared true true o f stood = tt
compared true false o f (inl is) = absurd (false≢true is)
compared true false o f (inr (inl few)) = absurd (false≢true (sym few))
compared true false None f (inr (inr some)) = absurd (false≢true some)
compared true false (Some x) f (inr (inr some)) = tt
compared false new o f stood = tt

module _ (T : Tree) (s : ℕ) where
  one_fine : (e : ℕ × Option Object) → Stood T (IsOfNew s) e → Few (criteria_node s) e → Fine (is_crowding T (Some (nid s)) e) (λ b. Unit {0})
  one_fine (q, None) stood few = tt
  one_fine (q, Some (Context c)) (inl (inl same)) few = compared (is_crowded c.props) (q == s) (as_context (object_at T q)) (λ old. crowds old.props c.props) (inl (eq-eqb q s same))
  one_fine (q, Some (Context c)) (inl (inr same)) few = compared (is_crowded c.props) (q == s) (as_context (object_at T q)) (λ old. crowds old.props c.props) (inr (inl (few same)))
  one_fine (q, Some (Context c)) (inr some) few = compared (is_crowded c.props) (q == s) (as_context (object_at T q)) (λ old. crowds old.props c.props) (inr (inr some))
  one_fine (q, Some (Message m)) stood few = absurd few
  one_fine (q, Some (Table t)) stood few = tt
  one_fine (q, Some (Bare parent)) stood few = tt

  each_fine : (es : List (ℕ × Option Object)) → EachStood T (IsOfNew s) es → EachFew (criteria_node s) es → Fine (unless_crowding T (Some (nid s)) es) (λ u. Unit {0})
  each_fine [] stood few = tt
  each_fine (e ∷ es) stood few = fine_then (λ u. Unit {0}) (λ u. Unit {0}) (unless_past T (Some (nid s)) e) _
      (fine_then (λ b. Unit {0}) (λ u. Unit {0}) (is_crowding T (Some (nid s)) e) _ (one_fine e stood.0 few.0) (λ b u. fine_test b (Limit Properties))) (λ u v. each_fine es stood.1 few.1)

  within : {B : Type 0} (Q : B → Type 0) (D : Changed) (f : Unit {0} → Answer B) → AreStood T (IsOfNew s) D → AreFew (criteria_node s) D → Fine (f tt) Q → Fine (within_limits T (Some (nid s)) D >>= f) Q
  unfolding within_limits
  within Q D f stood few next = elim (cases_Bool (not (list_all entry_fits (map.entries D.objects)))) [
    | inl t ↦ rw t tt
    | inr t ↦ rw t (fine_then (λ u. Unit {0}) Q (unless_crowding T (Some (nid s)) (map.entries D.objects)) f (each_fine (map.entries D.objects) stood few) (λ u v. next))
  ]

  -- the steps of a new search, and what follows where their changes keep to the limits
  pub search_limits : {B : Type 0} (P : Changed → Type 0) (Q : B → Type 0) (a : Answer Changed) (f : Changed → Unit {0} → Answer B)
      → Fine a P → IfOk a (AreStood T (IsOfNew s)) → IfOk a (AreFew (criteria_node s)) → ((D : Changed) → P D → Fine (f D tt) Q) → Fine (a >>= λ D. within_limits T (Some (nid s)) D >>= f D) Q
  search_limits P Q (Ok D) f fine stood few next = within Q D (f D) stood few (next D fine)
  search_limits P Q (Err None) f fine stood few next = fine
  search_limits P Q (Err (Some refusal)) f fine stood few next = tt

  module _ (parent : ℕ) (name : List ℕ) (places : List FolderPlace) where
    abbrev Steps : Answer Changed
    Steps = add_shown T (hierarchy parent) s (folder_props name) (with_search s parent name nothing) >>= settled T places parent

    pub steps_stood : IfOk Steps (AreStood T (IsOfNew s))
    steps_stood = stood_then (add_shown T (hierarchy parent) s (folder_props name) (with_search s parent name nothing)) (settled T places parent)
        (added_stood T (IsOfNew s) (hierarchy parent) s (folder_props name) _ (search_stood T s parent name)) (λ D k. settled_stood T (IsOfNew s) places parent D k)

    pub steps_few : (s ≡ criteria_node s → ⊥) → (parent ≡ criteria_node s → ⊥) → IfOk Steps (AreFew (criteria_node s))
    steps_few apart other = stood_then (add_shown T (hierarchy parent) s (folder_props name) (with_search s parent name nothing)) (settled T places parent)
        (added_few T (criteria_node s) (hierarchy parent) s (folder_props name) _ (search_few s parent name apart)) (λ D k. settled_few T (criteria_node s) places parent D other k)
