-- `criteria` leaves a tree with its searches in order.
use Rattle.std.proofs.Common.{◌≡◌, ◌∙◌, ℕ, suc, ◌<◌, ◌≤◌, ◌%◌, ◌==◌, ◌||◌, Bool, true, false, not, List, [], ◌∷◌, Option, None, Some, Result, Ok, Err, IfOk, IsSome, refl, sym, subst, ap, inl, inr, arith}
use Rattle.std.specs.Prelude.{nat_le, nat_lt}
use Rattle.std.specs.List.{list_all}
use Rattle.std.specs.Option.{option_and_then, option_map}
use Rattle.std.proofs.lemmas.Bool.{and_parts, cases_Bool, cases_eq, eqb-true, false≢true, leb-true, ltb-true}
use Rattle.std.proofs.lemmas.Option.{same_Some}
use Rattle.mapi_values.specs.Keyed.{keys_ascend, put_key}
use Rattle.mapi_values.specs.Messages.{Mes}
use Rattle.mapi_values.specs.Values.{Val}
use Rattle.mapi_values.proofs.KeyedLaws.{put-ascends}
use Rattle.restr_codec.specs.Reading.{reading}
use Rattle.restr_codec.specs.Restr.{Restr}
use Rattle.restr_codec.specs.declared.reading.BadRestriction.{BadRestriction}
use Rattle.search_obj.specs.declared.flags.SearchFlags.{SearchFlags}
use Rattle.search_obj.specs.declared.criteria.Version.TheVariants.{Second}
use Rattle.search_obj.specs.Changing.{builds_after, builds_before, changed, given_or_kept}
use Rattle.search_obj.specs.Crits.{Crit, CritSet}
use Rattle.search_obj.specs.Flags.{flags_of, state_of}
use Rattle.search_obj.specs.Found.{set_with}
use Rattle.search_obj.specs.Writing.{written}
use Rattle.command_text.specs.declared.reply.CommandRefusal.{CommandRefusal}
use Rattle.command_text.specs.declared.reply.CommandRefusal.TheVariants as refusals
use Rattle.command_text.specs.declared.reply.LastLine.TheVariants.{Done}
use Rattle.command_text.specs.declared.reply.Reply.{Reply}
use Rattle.mail_objects.specs.Forms.{Ctx, Tbl}
use Rattle.mail_objects.specs.declared.object.Object.TheVariants.{Context, Table}
use Rattle.mail_tree.specs.Changing.{Answer, Changed, ◌>>=◌, as_message, beside, found, nothing, now_at, refused_if, with_object, with_rows}
use Rattle.mail_tree.specs.Folders.{Outcome, replied, replying, unless}
use Rattle.mail_tree.specs.Places.{find_place}
use Rattle.mail_tree.specs.Settling.{mirrored, with_context}
use Rattle.mail_tree.specs.Step as tree
use Rattle.mail_tree.specs.Tree.{Tree, object_at}
use Rattle.mail_tree.specs.Whole.{Fine, IsWhole}
use Rattle.mail_tree.proofs.AfterTree.{after_now, now_nothing, puts_object}
use Rattle.mail_tree.proofs.FineLaws.{after_context, after_found, after_table, after_test, fine_then}
use Rattle.mail_tree.proofs.KeyedFinds.{find-put_other, find-put_same}
use Rattle.mail_tree.proofs.KindsOfPuts.{beside_kind, same_table}
use Rattle.mail_tree.proofs.Nearly.{Puts}
use Rattle.mail_laws.proofs.Keeping.{KeepsAt, both}
use Rattle.mail_searches.specs.Building.{built, built_rows}
use Rattle.mail_searches.specs.Criteria.{Coming, built_unless, can_hold, criteria_in, given_criteria, given_restriction, given_scope, if_readable, overfills, repeats, setting_criteria, unless_other, with_criteria}
use Rattle.mail_searches.specs.Relisting.{counted_search, with_results}
use Rattle.mail_searches.specs.Searches.{IsFresh, Search, ShowsCriteria, criteria_node, find_search, is_listed, is_plain_at, lists, results, row_ids, runs, search_id, search_of}
use Rattle.mail_searches.specs.Searching.{AllFresh, AreSearches, Each, IsOfSearch, Searching, is_own}
use Rattle.mail_searches.specs.Step.{after}
use Rattle.search_lists.proofs.CountLaws.{results-tell}
use Rattle.search_lists.proofs.ListLaws.{are-rows, rows-are}
use Rattle.search_lists.proofs.SettleLaws.{ends-keep}
use Rattle.search_lists.proofs.ShowLaws.{after-shows, tells-same, tree-shows}
use Rattle.search_lists.specs.Keeps.{IsThere, KeepsOrder, ResultsKeepOrder}
use Rattle.search_lists.specs.Laws.{AllShow, MirrorsMessage, ShowsList, TellsList}
use Rattle.search_lists.specs.Order.{InOrder}
use Rattle.search_laws.specs.Laws.{SetsInOrder}
use Rattle.search_laws.proofs.Attachments.{attachments_still}
use Rattle.search_laws.proofs.Marked.{marks_still}
use Rattle.search_laws.proofs.SettingLists.{AreBuilt, each-found, rows_built}
use Rattle.search_laws.proofs.SettingObject.{counts_after_object, found_after_object, messages_after_object, mirrors_after_object, object_puts, put_so, whole_after_object}
use Rattle.search_laws.proofs.SettingSays.{held_parts, says_written}
use Rattle.mail_tree.proofs.StoodLaws.{AreStood, IsNew, none_stood, values_stood, fine_stood, after_limits}
use Rattle.search_lists.proofs.StoodLists.{built_stood}

-- ---- elements of lists

each-two : {X : Type 0} (P Q R : X → Type 0) (xs : List X) → Each P xs → Each Q xs → ((x : X) → P x → Q x → R x) → Each R xs
each-two P Q R [] p q next = tt
each-two P Q R (x ∷ xs) p q next = (next x p.0 q.0, each-two P Q R xs p.1 q.1 next)

-- what holds of each element but that with a key holds of all where the keys are greater
each-above : {X : Type 0} (key : X → ℕ) (P : X → Type 0) (n low : ℕ) (xs : List X) → n < low → keys_ascend key low xs ≡ true → Each (λ x. (key x ≡ n → ⊥) → P x) xs → Each P xs
each-above key P n low [] less a each = tt
each-above key P n low (x ∷ xs) less a each =
    let p = and_parts (nat_le low (key x)) (keys_ascend key (suc (key x)) xs) a in
    let least : low ≤ key x = leb-true low (key x) p.0 in
    (each.0 (λ e. omega arith), each-above key P n (suc (key x)) xs (omega arith) p.1 each.1)

-- what holds of an element that is put and of each with another key holds of each after it
each-put : {X : Type 0} (key : X → ℕ) (P : X → Type 0) (y : X) (low : ℕ) (xs : List X) → keys_ascend key low xs ≡ true → P y → Each (λ x. (key x ≡ key y → ⊥) → P x) xs → Each P (put_key key y xs)
each-put key P y low [] a here each = (here, tt)
each-put key P y low (x ∷ xs) a here each =
    let p = and_parts (nat_le low (key x)) (keys_ascend key (suc (key x)) xs) a in
    elim (cases_Bool (nat_lt (key x) (key y))) [
      | inl t ↦ let less : key x < key y = ltb-true (key x) (key y) t in rw t (each.0 (λ e. omega arith), each-put key P y (suc (key x)) xs p.1 here each.1)
      | inr f ↦ rw f (elim (cases_Bool (key x == key y)) [
        | inl t ↦ let same : key x ≡ key y = eqb-true (key x) (key y) t in rw t (here, each-above key P (key y) (suc (key x)) xs (omega arith) p.1 each.1)
        | inr n ↦
            let apart : key x ≡ key y → ⊥ = differ (key x) (key y) n in
            let more : key y < key x = above (key x) (key y) f n in
            rw n (here, (each.0 apart, each-above key P (key y) (suc (key x)) xs (omega arith) p.1 each.1))
      ])
    ]
  where
    differ : (m n : ℕ) → (m == n) ≡ false → m ≡ n → ⊥
    differ m n f e = false≢true (sym f ∙ grind arith)

    above : (m n : ℕ) → nat_lt m n ≡ false → (m == n) ≡ false → n < m
    above m n f g = elim (cases_Bool (nat_le m n)) [ inl t ↦ absurd (differ m n g (let le : m ≤ n = leb-true m n t in let ge : n ≤ m = grind arith in omega arith)) | inr h ↦ grind arith ]

-- ---- answers

-- an answer is fine, and has a fact besides
fine-with : {A : Type 0} (P Q R : A → Type 0) (a : Answer A) → Fine a P → IfOk a Q → ((x : A) → P x → Q x → R x) → Fine a R
fine-with P Q R (Ok x) p q next = next x p q
fine-with P Q R (Err None) p q next = p
fine-with P Q R (Err (Some refusal)) p q next = tt

unless-fine : {B : Type 0} (Q : B → Type 0) (reason : Option CommandRefusal) (x : B) → Q x → Fine (unless reason >>= λ v. Ok x) Q
unless-fine Q None x q = q
unless-fine Q (Some refusal) x q = tt

replying-fine : (P : Outcome → Type 0) (T : Tree) (reason : Option CommandRefusal) (reply : Reply) (D : Changed) → AreStood T (IsNew None) D → P (put_so T reply D) → Fine (replying T reason reply D) P
replying-fine P T reason reply D stood p = after_limits P T None D (λ u. unless reason >>= λ v. Ok (put_so T reply D)) stood (unless-fine P reason (put_so T reply D) p)

not-false : (b : Bool) → not b ≡ false → b ≡ true
not-false true e = refl
not-false false e = cc

owned : (X : Searching) (s : ℕ) → Fine (unless_other X s) (λ u. is_own X.own s ≡ true)
owned X s = after_found (λ u. is_own X.own s ≡ true) refusals.Object (find_place s X.tree.places) (λ p. refused_if (not (is_own X.own s)) refusals.Reserved) (λ p e. by-test (is_own X.own s))
  where
    by-test : (b : Bool) → Fine (refused_if (not b) refusals.Reserved) (λ u. b ≡ true)
    by-test true = refl
    by-test false = tt

restriction-fine : (bytes : Option (List ℕ)) → Fine (given_restriction bytes) (λ r. Unit {0})
restriction-fine None = tt
restriction-fine (Some bytes) = by-reading (reading bytes)
  where
    by-reading : (r : Result Restr BadRestriction) → Fine (if_readable r) (λ r. Unit {0})
    by-reading (Ok r) = tt
    by-reading (Err bad) = tt

scope-fine : (T : Tree) (scope : Option (List ℕ)) → Fine (given_scope T scope) (λ ids. Unit {0})
scope-fine T None = tt
scope-fine T (Some ids) = by-test (repeats ids || not (list_all (is_plain_at T.places) ids))
  where
    by-test : (b : Bool) → Fine (refused_if b refusals.Scope >>= λ u. Ok (Some ids)) (λ ids. Unit {0})
    by-test true = tt
    by-test false = tt

-- what a line makes of criteria, with this scope and this restriction
abbrev changed_to : Crit → SearchFlags → List ℕ → Restr → Crit
changed_to c flags ids r = record { version = Second; set = Some (set_with flags ids r (builds_after flags (builds_before c.set))) }

-- it has the second version, and was set
changed-set : (c : Crit) (flags : SearchFlags) (ids : Option (List ℕ)) (r : Option Restr) (k : Crit) → changed c flags ids r ≡ Some k → (set : CritSet) × (record { version = Second; set = Some set } ≡ k)
unfolding changed
changed-set c flags ids r k e = by-scope (given_or_kept (λ s. s.scope) c.set ids) e
  where
    by-restriction : (ids : List ℕ) (o : Option Restr) → option_map (changed_to c flags ids) o ≡ Some k → (set : CritSet) × (record { version = Second; set = Some set } ≡ k)
    by-restriction ids None e = cc
    by-restriction ids (Some r) e = (set_with flags ids r (builds_after flags (builds_before c.set)), same_Some (changed_to c flags ids r) k e)

    by-scope : (o : Option (List ℕ)) → option_and_then (λ ids. option_map (changed_to c flags ids) (given_or_kept (λ s. s.restriction) c.set r)) o ≡ Some k → (set : CritSet) × (record { version = Second; set = Some set } ≡ k)
    by-scope None e = cc
    by-scope (Some ids) e = by-restriction ids (given_or_kept (λ s. s.restriction) c.set r) e

-- a search that runs isn't stopped
runs-on : (s : ℕ) (set : CritSet) → runs (search_of s set) ≡ true → set.flags.stop ≡ false
unfolding state_of
runs-on s set e = elim (cases_Bool set.flags.stop) [ inl t ↦ absurd (false≢true (rw t at e)) | inr f ↦ f ]

-- the nodes of one kind beside two searches are two
apart-nodes : (f g kind : ℕ) → f % 32 ≡ 3 → g % 32 ≡ 3 → kind < 32 → (f ≡ g → ⊥) → beside f kind ≡ beside g kind → ⊥
apart-nodes f g kind a b less other e = other (omega arith)

-- ---- the list of a search gets rows

module _ (T : Tree) (s : ℕ) (kind : s % 32 ≡ 3) (rows : List (ℕ × List Val)) (t : Tbl) (D : Changed) where
  -- neither the list of the search, nor its values, nor a table of folders
  abbrev pub Others : ℕ → Type 0
  Others q = (q ≡ results s → ⊥) × ((q ≡ s → ⊥) × (q % 32 ≡ 13 → ⊥))

  abbrev Mine : ℕ → Type 0
  Mine q = q ≡ results s

  at-results : results s % 32 ≡ 16
  at-results = beside_kind s 16 (omega arith)

  -- all else stays, the list has these rows, and the values tell their counts
  pub record Listed (D' : Changed) : Type 0 where
    pub others : (q : ℕ) → Others q → now_at T D' q ≡ now_at T D q
    pub here : now_at T D' (results s) ≡ Some (with_rows rows t)
    pub tells : TellsList T D' s

  abbrev D1 : Changed
  D1 = with_object (results s) (Some (with_rows rows t)) D

  pub results-listed : IfOk (with_results T s rows t D) Listed
  unfolding with_results
  results-listed =
      let puts = puts_object T D (results s) (Some (with_rows rows t)) in
      let a = counted_search T s rows D1 >>= mirrored T s in
      both (λ D'. KeepsAt Others T D1 D' × KeepsAt Mine T D1 D') (λ D'. TellsList T D' s) Listed a
      (both (KeepsAt Others T D1) (KeepsAt Mine T D1) (λ D'. KeepsAt Others T D1 D' × KeepsAt Mine T D1 D') a
      (ends-keep T Others (λ g e. e.1.1 (beside_kind g 13 (omega arith))) s rows D1 (λ e. e.1.0 refl))
      (ends-keep T Mine (λ g e. omega (arith, e, at-results, beside_kind g 13 (omega arith))) s rows D1 (λ e. omega (arith, e, at-results)))
      (λ D' others mine. (others, mine)))
      (results-tell T s kind rows t D)
      (λ D' kept tells. record {
        others = λ q other. kept.0 q other ∙ puts.others q other.0;
        here = kept.1 (results s) refl ∙ puts.here;
        tells = tells;
      })

-- ---- the criteria that are set

-- the same messages in the same folders are listed
same-lists : (T T' : Tree) (z : Search) (rows : List (ℕ × List Val)) → T'.places ≡ T.places → ((m : ℕ) → as_message (object_at T' m) ≡ as_message (object_at T m)) → row_ids rows ≡ lists T z → row_ids rows ≡ lists T' z
same-lists T T' z rows places messages e =
    let old = are-rows T z rows e in
    rows-are T' z rows old.0 (λ m. old.1 m ∙ sym (ap (λ ps. is_listed ps z (as_message (object_at T' m))) places ∙ ap (is_listed T.places z) (messages m)))

-- what is listed is there
listed-there : (T : Tree) (z : Search) (o : Option Mes) → is_listed T.places z o ≡ true → IsSome o
listed-there T z None e = e
listed-there T z (Some M) e = refl

-- What was changed: the object of criteria, and the list, which is as it was where the search is stopped.
record Sets (T : Tree) (s : ℕ) (search : Search) (D1 D : Changed) : Type 0 where
  keeps : KeepsOrder T (put_so T (replied Done) D1) D
  others : (q : ℕ) → (q ≡ results s → ⊥) × ((q ≡ s → ⊥) × (q % 32 ≡ 13 → ⊥)) → now_at T D q ≡ now_at T D1 q
  shows : runs search ≡ true → ShowsList T D s
  fresh : runs search ≡ true → (t : Tbl) × (now_at T D (results s) ≡ Some (Table t)) × (row_ids t.table.rows ≡ lists T search)

module _ (results_keep : ResultsKeepOrder) (tidy : Bool) (X : Searching) (s : ℕ) (c : Ctx) (set : CritSet) (order : InOrder tidy X) (own : is_own X.own s ≡ true) (at : object_at X.tree (criteria_node s) ≡ Some (Context c)) (holds : can_hold set ≡ true) where
  abbrev T : Tree
  T = X.tree

  abbrev search : Search
  search = search_of s set

  abbrev props : List Val
  props = written (record { version = Second; set = Some set }) c.props

  -- the object of criteria says these
  abbrev first : Changed
  first = with_context (criteria_node s) c props nothing

  abbrev said : Outcome
  said = put_so T (replied Done) first

  kind : s % 32 ≡ 3
  kind = order.searches.kinds s own

  first-stood : AreStood T (IsNew None) first
  first-stood = values_stood T (IsNew None) (criteria_node s) c (record c { props = props }) nothing (none_stood T (IsNew None)) (ap (λ g. g (criteria_node s)) (now_nothing T) ∙ at)

  node : criteria_node s % 32 ≡ 7
  node = beside_kind s 7 (omega arith)

  puts : Puts (object_at T) (now_at T first) (criteria_node s) (Some (Context (record c { props = props })))
  puts = object_puts T (criteria_node s) c props (replied Done) node at

  first-whole : IsWhole (tree.after T said)
  first-whole = whole_after_object T (criteria_node s) c props (replied Done) node at order.whole

  first-messages : (m : ℕ) → as_message (now_at T first m) ≡ as_message (object_at T m)
  first-messages = messages_after_object T (criteria_node s) c props (replied Done) node at

  -- lists are as they were
  first-lists : (q : ℕ) → q % 32 ≡ 16 → now_at T first q ≡ object_at T q
  first-lists q is = puts.others q (λ e. omega (arith, ap (λ x. x % 32) e, is, node))

  first-listed : (f : ℕ) → now_at T first (results f) ≡ object_at T (results f)
  first-listed f = first-lists (results f) (beside_kind f 16 (omega arith))

  table : (t : Tbl) × (now_at T first (results s) ≡ Some (Table t))
  table = let w = order.searches.tables s own in (w.0, first-listed s ∙ w.1)

  there : IsThere T said s
  there = record { kind = kind; placed = order.searches.placed s own; table = table }

  -- the list is built, or the search is stopped
  by-stop : (b : Bool) → set.flags.stop ≡ b → Fine (built_unless b T search first) (Sets T s search first)
  unfolding built
  by-stop true e = record {
    keeps = record { whole = λ w. w; found = λ own f. f; mirrors = λ w m. m; counts = λ w k. k; criteria = λ q is. refl; messages = λ q. refl; tables = λ q t is e. (t, e) };
    others = λ q other. refl;
    shows = λ run. absurd (false≢true (sym (runs-on s set run) ∙ e));
    fresh = λ run. absurd (false≢true (sym (runs-on s set run) ∙ e));
  }
  by-stop false e =
      let t = table.0 in
      let Built : List (ℕ × List Val) → Type 0 = AreBuilt T search t.table.columns in
      after_table (Sets T s search first) T first (results s) t (λ t. built_rows T search t.table.columns >>= λ rows. with_results T s rows t first) table.1
      (fine_then Built (Sets T s search first) (built_rows T search t.table.columns) (λ rows. with_results T s rows t first) (rows_built T search t.table.columns order.whole) (λ rows b.
      fine-with (KeepsOrder T said) (Listed T s kind rows t first) (Sets T s search first) (with_results T s rows t first)
      (results_keep T said s rows t order.whole first-whole there table.1 b.ascend)
      (results-listed T s kind rows t first)
      (λ D keeps listed.
      let u : Tbl = record { parent = t.parent; table = record t.table { rows = rows } } in
      record {
        keeps = keeps;
        others = listed.others;
        shows = λ run. record {
          mirrors = λ v is m.
              let message : as_message (now_at T D m) ≡ as_message (object_at T m) = keeps.messages m ∙ first-messages m in
              subst (λ (x : Tbl). MirrorsMessage x.table.columns x.table.rows m (as_message (now_at T D m))) (same_table u v (sym listed.here ∙ is)) (subst (MirrorsMessage t.table.columns rows m) (sym message) (b.show_all m));
          counts = listed.tells;
        };
        fresh = λ run. (u, listed.here, b.lists_all);
      })))

  module _ (D : Changed) (sets : Sets T s search first D) where
    abbrev now : Outcome
    now = put_so T (replied Done) D

    abbrev searches : List Search
    searches = put_key search_id search X.searches

    abbrev X' : Searching
    X' = after X (record { outcome = now; own = X.own; searches = searches })

    at-now : (q : ℕ) → object_at X'.tree q ≡ now_at T D q
    at-now q = ap (λ g. g q) (sym (after_now T now))

    messages-now : (m : ℕ) → as_message (object_at X'.tree m) ≡ as_message (object_at T m)
    messages-now m = ap as_message (at-now m) ∙ sets.keeps.messages m ∙ first-messages m

    -- the list of another search is as it was
    list-now : (f : ℕ) → is_own X.own f ≡ true → (f ≡ s → ⊥) → object_at X'.tree (results f) ≡ object_at T (results f)
    list-now f is other =
        let sixteen = beside_kind f 16 (omega arith) in
        at-now (results f) ∙ sets.others (results f) (apart-nodes f s 16 (order.searches.kinds f is) kind (omega arith) other, ((λ e. omega (arith, e, sixteen, kind)), (λ e. omega (arith, e, sixteen)))) ∙ first-listed f

    -- so are its values
    values-now : (f : ℕ) → is_own X.own f ≡ true → (f ≡ s → ⊥) → object_at X'.tree f ≡ object_at T f
    values-now f is other =
        let three = order.searches.kinds f is in
        at-now f ∙ sets.others f ((λ e. omega (arith, e, three, beside_kind s 16 (omega arith))), (other, (λ e. omega (arith, e, three)))) ∙ puts.others f (λ e. omega (arith, e, three, node))

    found-now : (f : ℕ) → (f ≡ s → ⊥) → find_search f searches ≡ find_search f X.searches
    found-now f other = find-put_other search_id f search X.searches other

    criteria-now : (f : ℕ) → is_own X.own f ≡ true → (c' : Ctx) × (object_at X'.tree (criteria_node f) ≡ Some (Context c')) × ShowsCriteria searches f c'.props
    criteria-now f is =
        let stands = at-now (criteria_node f) ∙ sets.keeps.criteria (criteria_node f) (beside_kind f 7 (omega arith)) in
        elim (cases_eq f s) [
          | inl same ↦ subst (λ x. (c' : Ctx) × (object_at X'.tree (criteria_node x) ≡ Some (Context c')) × ShowsCriteria searches x c'.props) (sym same) (
            record c { props = props },
            at-now (criteria_node s) ∙ sets.keeps.criteria (criteria_node s) node ∙ puts.here,
            (record { version = Second; set = Some set }, says_written set (held_parts set holds) c.props, find-put_same search_id search X.searches),
          )
          | inr other ↦
              let old = order.searches.criteria f is in
              let shows = old.2 in
              let elsewhere = puts.others (criteria_node f) (apart-nodes f s 7 (order.searches.kinds f is) kind (omega arith) other) in
              (old.0, stands ∙ elsewhere ∙ old.1, (shows.0, shows.1, found-now f other ∙ shows.2))
        ]

    searches-now : AreSearches X'
    searches-now = record {
      own_ascend = order.searches.own_ascend;
      ascend = put-ascends search_id 0 search X.searches (omega arith) order.searches.ascend;
      among = λ f z e. elim (cases_eq f s) [
        | inl same ↦ subst (λ x. is_own X.own x ≡ true) (sym same) own
        | inr other ↦ order.searches.among f z (sym (found-now f other) ∙ e)
      ];
      kinds = order.searches.kinds;
      placed = order.searches.placed;
      criteria = criteria-now;
      tables = λ f is.
          let w = order.searches.tables f is in
          let u = sets.keeps.tables (results f) w.0 (beside_kind f 16 (omega arith)) (first-listed f ∙ w.1) in
          (u.0, at-now (results f) ∙ u.1);
    }

    fresh-now : AllFresh X'.tree searches
    fresh-now = each-put search_id (λ z. runs z ≡ true → IsFresh X'.tree z) search 0 X.searches order.searches.ascend
        (λ run. let f = sets.fresh run in (f.0, at-now (results s) ∙ f.1, same-lists T X'.tree search f.0.table.rows refl messages-now f.2))
        (each-two (λ z. find_search (search_id z) X.searches ≡ Some z) (λ z. runs z ≡ true → IsFresh T z) (λ z. (search_id z ≡ s → ⊥) → runs z ≡ true → IsFresh X'.tree z) X.searches
        (each-found search_id 0 X.searches order.searches.ascend) order.fresh
        (λ z stands fresh other run. let f = fresh run in (f.0, list-now z.nid (order.searches.among z.nid z stands) other ∙ f.1, same-lists T X'.tree z f.0.table.rows refl messages-now f.2)))

    shows-now : AllShow T X.searches → AllShow X'.tree searches
    shows-now shows = each-put search_id (λ z. runs z ≡ true → ShowsList X'.tree nothing z.nid) search 0 X.searches order.searches.ascend (λ run. after-shows T X'.tree D s at-now (sets.shows run))
        (each-two (λ z. find_search (search_id z) X.searches ≡ Some z) (λ z. runs z ≡ true → ShowsList T nothing z.nid) (λ z. (search_id z ≡ s → ⊥) → runs z ≡ true → ShowsList X'.tree nothing z.nid) X.searches
        (each-found search_id 0 X.searches order.searches.ascend) shows (λ z stands was other run.
        let is = order.searches.among z.nid z stands in
        tree-shows T X'.tree z.nid messages-now (list-now z.nid is other) (λ c at. tells-same (object_at T z.nid) c (sym (values-now z.nid is other) ∙ at)) (was run)))

    order-now : InOrder tidy X'
    order-now = record {
      whole = sets.keeps.whole first-whole;
      found = sets.keeps.found X.own (found_after_object T (criteria_node s) c props (replied Done) node at (IsOfSearch X.own) (s, own, inr (inl refl)) order.found);
      mirrors = λ t. sets.keeps.mirrors first-whole (mirrors_after_object T (criteria_node s) c props (replied Done) node at order.whole (order.mirrors t));
      counts = λ t. sets.keeps.counts first-whole (counts_after_object T (criteria_node s) c props (replied Done) node at order.whole (order.counts t));
      attachments = λ t. attachments_still T X'.tree messages-now (order.attachments t);
      lists = λ t. shows-now (order.lists t);
      searches = searches-now;
      fresh = fresh-now;
      marked = marks_still X now searches order.marked (λ f three other. refl);
    }

  abbrev reason : Option CommandRefusal
  reason = overfills X.searches (put_key search_id search X.searches)

  abbrev coming : Outcome → Coming
  coming o = record { outcome = o; own = X.own; searches = put_key search_id search X.searches }

  -- the search gets the criteria
  criteria-set : Fine (built_unless set.flags.stop T search first >>= replying T reason (replied Done) >>= λ o. Ok (coming o)) (λ o. InOrder tidy (after X o))
  criteria-set =
      fine_then (λ o. InOrder tidy (after X (coming o))) (λ o. InOrder tidy (after X o)) (built_unless set.flags.stop T search first >>= replying T reason (replied Done)) (λ o. Ok (coming o))
      (fine_then (λ D. Sets T s search first D × AreStood T (IsNew None) D) (λ o. InOrder tidy (after X (coming o))) (built_unless set.flags.stop T search first) (replying T reason (replied Done))
      (fine_stood (Sets T s search first) (AreStood T (IsNew None)) (built_unless set.flags.stop T search first) (by-stop set.flags.stop refl) (built_stood T (IsNew None) set.flags.stop search first first-stood))
      (λ D sets. replying-fine (λ o. InOrder tidy (after X (coming o))) T reason (replied Done) D sets.1 (order-now D sets.0)))
      (λ o p. p)

-- the criteria that a line makes of those that the object says
in-criteria : ResultsKeepOrder → (tidy : Bool) (X : Searching) (s : ℕ) (c : Ctx) (flags : SearchFlags) (ids : Option (List ℕ)) (restriction : Option Restr) → InOrder tidy X → is_own X.own s ≡ true → object_at X.tree (criteria_node s) ≡ Some (Context c) → ShowsCriteria X.searches s c.props
    → Fine (criteria_in c >>= λ old. found refusals.Criteria (changed old flags ids restriction) >>= with_criteria X s c) (λ o. InOrder tidy (after X o))
unfolding with_criteria setting_criteria
in-criteria results_keep tidy X s c flags ids restriction order own at shows =
    rw shows.1 (after_found (λ o. InOrder tidy (after X o)) refusals.Criteria (changed shows.0 flags ids restriction) (with_criteria X s c) (λ k e.
    let made = changed-set shows.0 flags ids restriction k e in
    subst (λ x. Fine (with_criteria X s c x) (λ o. InOrder tidy (after X o))) made.1 (held made.0)))
  where
    held : (set : CritSet) → Fine (setting_criteria X s c (record { version = Second; set = Some set }) set) (λ o. InOrder tidy (after X o))
    held set = after_test (λ o. InOrder tidy (after X o)) (not (can_hold set)) refusals.Criteria _ (λ e. criteria-set results_keep tidy X s c set order own at (not-false (can_hold set) e))

-- criteria that a search gets leave all in order
pub sets_keeping : ResultsKeepOrder → SetsInOrder
unfolding given_criteria with_criteria
sets_keeping results_keep tidy X s number scope bytes order =
    fine_then (λ u. is_own X.own s ≡ true) (λ o. InOrder tidy (after X o)) _ _ (owned X s) (λ u own.
    after_found (λ o. InOrder tidy (after X o)) refusals.Flags (flags_of number) _ (λ flags is_flags.
    fine_then (λ r. Unit {0}) (λ o. InOrder tidy (after X o)) (given_restriction bytes) _ (restriction-fine bytes) (λ restriction u.
    fine_then (λ ids. Unit {0}) (λ o. InOrder tidy (after X o)) (given_scope X.tree scope) _ (scope-fine X.tree scope) (λ ids u.
    let object = order.searches.criteria s own in
    let now : now_at X.tree nothing (criteria_node s) ≡ Some (Context object.0) = ap (λ g. g (criteria_node s)) (now_nothing X.tree) ∙ object.1 in
    after_context (λ o. InOrder tidy (after X o)) X.tree nothing (criteria_node s) object.0 _ now
    (in-criteria results_keep tidy X s object.0 flags ids restriction order own object.1 object.2)))))
